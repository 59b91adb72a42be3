-- The first file of another length, the first home of another page, and the first mini-transaction of another store.
use Rattle.std.proofs.Common.{◌≡◌, ℕ, zero, suc, ◌*◌, List, [], ◌∷◌, ◌++◌, drop, length, sym, subst, ◌∙◌}
use Rattle.disk_model.specs.Image.{Image}
use Rattle.disk_model.specs.declared.names.FileName.TheVariants.{Space}
use Rattle.redo_text.specs.declared.change.Change.{Change}
use Rattle.store_image.specs.View.{Logged}
use Rattle.store_files.specs.Header.{HeldSpace}
use Rattle.crash_image.specs.Recovers.{SpacesLong, AreOfStore, RunIsOfStore}
use Rattle.image_reader.proofs.Takes.{none_item, same_item, drop_nil}
use Rattle.image_reader.specs.Files.{ImageFiles, space_bytes}
use Rattle.image_reader.specs.Homes.{AreHomesRight, AreRightBelow}

pub long_more : (image : Image) (xs : List HeldSpace) (h : HeldSpace) → SpacesLong image xs → length (image.bytes (Space h.space)) ≡ h.pages * 16384 → SpacesLong image (xs ++ h ∷ [])
long_more image [] h long is = (is, tt)
long_more image (x ∷ xs) h (first, rest) is = (first, long_more image xs h rest is)

-- the file of a space that the header names is as long as its pages
pub long_named : (image : Image) (hs : List HeldSpace) (i : ℕ) (h : HeldSpace) (rest : List HeldSpace) → SpacesLong image hs → drop i hs ≡ h ∷ rest → length (image.bytes (Space h.space)) ≡ h.pages * 16384
long_named image [] i h rest long at = absurd (none_item h rest (sym (drop_nil i) ∙ at))
long_named image (g ∷ gs) zero h rest (first, more) at = subst (λ (x : HeldSpace). length (image.bytes (Space x.space)) ≡ x.pages * 16384) (same_item g h gs rest at) first
long_named image (g ∷ gs) (suc i) h rest (first, more) at = long_named image gs i h rest more at

pub right_more : (files : ImageFiles) (xs : List HeldSpace) (h : HeldSpace) → AreHomesRight files xs → AreRightBelow (space_bytes files.spaces h.space) h.pages → AreHomesRight files (xs ++ h ∷ [])
right_more files [] h are is = (is, tt)
right_more files (x ∷ xs) h (first, rest) is = (first, right_more files xs h rest is)

pub run_more : (spaces : List HeldSpace) (es : List (Logged (List Change))) (e : Logged (List Change)) → RunIsOfStore spaces es → AreOfStore spaces e.mtr → RunIsOfStore spaces (es ++ e ∷ [])
run_more spaces [] e are is = (is, tt)
run_more spaces (x ∷ xs) e (first, rest) is = (first, run_more spaces xs e rest is)

pub run_at : (spaces : List HeldSpace) (es : List (Logged (List Change))) (i : ℕ) (e : Logged (List Change)) (rest : List (Logged (List Change))) → RunIsOfStore spaces es → drop i es ≡ e ∷ rest → AreOfStore spaces e.mtr
run_at spaces [] i e rest are at = absurd (none_item e rest (sym (drop_nil i) ∙ at))
run_at spaces (x ∷ xs) zero e rest (first, more) at = subst (λ (y : Logged (List Change)). AreOfStore spaces y.mtr) (same_item x e xs rest at) first
run_at spaces (x ∷ xs) (suc i) e rest (first, more) at = run_at spaces xs i e rest more at
