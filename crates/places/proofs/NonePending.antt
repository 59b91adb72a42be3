-- A file in whole places is in each image as it reads exactly where none of its places is pending.
use Rattle.std.proofs.Common.{◌≡◌, ℕ, zero, suc, ◌+◌, ◌*◌, ◌<◌, ◌≤◌, inl, inr, ⊎_elim, Bool, true, false, if◌then◌else◌, List, [], ◌∷◌, ◌++◌, length, take, drop, replicate, true≢false, append_assoc, Option, Some, None, refl, sym, ap, ap₂, ◌∙◌, arith}
use Rattle.std.specs.Prelude.{MatchBool}
use Rattle.std.proofs.lemmas.Bool.{cond-false}
use Rattle.std.proofs.lemmas.List.{drop_all, length-replicate}
use Rattle.std.proofs.Math.Seq.{drop-append_seam}
use Rattle.std.proofs.lemmas.Option.{same_Some, none-some}
use Rattle.byte_list.specs.Bytes.{range, put}
use Rattle.byte_list.proofs.RangeLaws.{split_off}
use Rattle.disk_model.specs.Event.{Event, Open, Make, Write, Sync, Tell, same_file, zeros, file_in, reads}
use Rattle.disk_model.specs.Image.{Leaves, Outcome, Lost, Kept, Torn, uncovered}
use Rattle.disk_model.specs.declared.names.FileName.{FileName}
use Rattle.disk_model.proofs.CrashImage.{to_true, to_false}
use Rattle.places.specs.Places.{place, shown, May, IsWritten, Layout, IsPlace, AreWhole, IsUnwritten, HaveBytes}
use Rattle.places.specs.Batches.{IsFileSettled}
use Rattle.places.proofs.Apart.{place-put_same}
use Rattle.places.proofs.Left.{in_image, left_size}

-- two lists of one length whose places are the same are one
module _ (n : ℕ) (some : 0 < n) (a b : List ℕ) (long : length a ≡ length b) (same : (i : ℕ) → place n i a ≡ place n i b) where
  from_place : (k i at : ℕ) → at ≡ i * n → length a ≤ at + k → drop at a ≡ drop at b
  unfolding place
  from_place zero i at is few = drop_all at a (omega (arith, few)) ∙ sym (drop_all at b (omega (arith, few, long)))
  from_place (suc k) i at is few =
      let here : range at n a ≡ range at n b = ap (λ (m : ℕ). range m n a) is ∙ same i ∙ ap (λ (m : ℕ). range m n b) (sym is) in
      split_off at n a ∙ ap₂ (λ (x y : List ℕ). x ++ y) here (from_place k (i + 1) (at + n) (omega (arith, is)) (omega (arith, few, some))) ∙ sym (split_off at n b)

  pub same_places : a ≡ b
  same_places = from_place (length a) 0 0 (omega arith) (omega arith)

-- Each image has the file as it reads.
pub image_as_read : (f : FileName) (layout : Layout) (es : List Event) → 0 < layout.size → AreWhole f layout es → IsFileSettled f layout.size es → (file : List ℕ) (torn : List (ℕ × ℕ)) → Leaves f es file torn → file ≡ reads f es
image_as_read f layout es some whole settled file torn left = same_places layout.size some file (reads f es) (left_size f layout es some whole file torn left) each
  where
    each : (i : ℕ) → place layout.size i file ≡ place layout.size i (reads f es)
    each i = ⊎_elim
        (λ (m : May f layout.size i es (Some (place layout.size i file))). same_Some _ _ (settled i (Some (place layout.size i file)) m))
        (λ t. absurd (none-some _ (settled i None t.0)))
        (in_image f layout es some whole file torn left i)

-- ---- from images back to places

-- these bytes are what may be there, or, where it is torn, any as long
abbrev IsAsLeft : ℕ → Option (List ℕ) → List ℕ → Type 0
IsAsLeft n None bytes = length bytes ≡ n
IsAsLeft n (Some there) bytes = there ≡ bytes

-- one of the file's images has these bytes at place i
record IsLeftAt (f : FileName) (n i : ℕ) (es : List Event) (bytes : List ℕ) : Type 0 where
  file : List ℕ
  torn : List (ℕ × ℕ)
  left : Leaves f es file torn
  here : place n i file ≡ bytes

-- and one is that in which every pending write is lost
pub lost_all : (f : FileName) (es : List Event) → (file : List ℕ) × (torn : List (ℕ × ℕ)) × Leaves f es file torn
lost_all f [] = ([], [], (refl, refl))
lost_all f (Open files ms ws ∷ es) = (file_in f files, [], (refl, refl))
lost_all f (Tell m ∷ es) = lost_all f es
lost_all f (Make g m ∷ es) = by (lost_all f es) (same_file f g)
  where
    by : (file : List ℕ) × (torn : List (ℕ × ℕ)) × Leaves f es file torn → (b : Bool) → (file : List ℕ) × (torn : List (ℕ × ℕ)) × MatchBool b ((file ≡ zeros m) × (torn ≡ [])) (Leaves f es file torn)
    by rest true = (zeros m, [], (refl, refl))
    by rest false = rest
lost_all f (Sync g ∷ es) = by (lost_all f es) (same_file f g)
  where
    by : (file : List ℕ) × (torn : List (ℕ × ℕ)) × Leaves f es file torn → (b : Bool) → (file : List ℕ) × (torn : List (ℕ × ℕ)) × MatchBool b ((file ≡ reads f es) × (torn ≡ [])) (Leaves f es file torn)
    by rest true = (reads f es, [], (refl, refl))
    by rest false = rest
lost_all f (Write g at bytes shows ∷ es) = by (lost_all f es) (same_file f g)
  where
    by : (file : List ℕ) × (torn : List (ℕ × ℕ)) × Leaves f es file torn → (b : Bool) → (file : List ℕ) × (torn : List (ℕ × ℕ)) × MatchBool b (Outcome at bytes (Leaves f es) file torn) (Leaves f es file torn)
    by (file, torn, left) true = (file, torn, Lost left)
    by rest false = rest

module _ (f : FileName) (layout : Layout) (some : 0 < layout.size) (i : ℕ) where
  abbrev n : ℕ
  n = layout.size

  -- of a write of place i: kept, or torn
  module _ (g : FileName) (at : ℕ) (bytes shows : List ℕ) (es : List Event) (whole : AreWhole f layout es) (is : same_file f g ≡ true) (p : IsPlace layout at bytes shows (reads f es)) (at_is : at ≡ i * n) where
    left_by : (file : List ℕ) (torn : List (ℕ × ℕ)) → Outcome at bytes (Leaves f es) file torn → (any : List ℕ) → place n i file ≡ any → IsLeftAt f n i (Write g at bytes shows ∷ es) any
    left_by file torn out any here = record { file = file; torn = torn; left = to_true (same_file f g) _ _ is out; here = here }

    put_here : (any old : List ℕ) (rest : List (ℕ × ℕ)) → length any ≡ n → Leaves f es old rest → place n i (put at any old) ≡ any
    put_here any old rest long left = ap (λ (k : ℕ). place n i (put k any old)) at_is
        ∙ place-put_same n i any old long (omega (arith, left_size f layout es some whole old rest left, p.within, at_is))

    written_at : (x : Option (List ℕ)) → IsWritten bytes x → (any : List ℕ) → IsAsLeft n x any → IsLeftAt f n i (Write g at bytes shows ∷ es) any
    written_at None w any alike =
        let (old, rest, left) = lost_all f es in
        left_by (put at any old) ((at, length bytes) ∷ rest) (Torn any old rest (alike ∙ sym p.long) left refl refl) any (put_here any old rest alike left)
    written_at (Some there) (inl same) any alike =
        let (old, rest, left) = lost_all f es in
        let one : bytes ≡ any = sym (same_Some _ _ same) ∙ alike in
        left_by (put at bytes old) (uncovered at (length bytes) rest) (Kept old rest left refl refl) any (put_here bytes old rest p.long left ∙ one)
    written_at (Some there) (inr none) any alike = absurd (none-some _ (sym none))

  -- What may be left of a place is left of it in an image.
  left_at : (es : List Event) → AreWhole f layout es → (x : Option (List ℕ)) → May f n i es x → (any : List ℕ) → IsAsLeft n x any → IsLeftAt f n i es any
  left_at [] whole None may any alike = absurd (none-some _ may)
  left_at [] whole (Some there) may any alike = record { file = []; torn = []; left = (refl, refl); here = sym (same_Some _ _ may) ∙ alike }
  left_at (Open files ms ws ∷ es) whole None may any alike = absurd (none-some _ may)
  left_at (Open files ms ws ∷ es) whole (Some there) may any alike = record { file = file_in f files; torn = []; left = (refl, refl); here = sym (same_Some _ _ may) ∙ alike }
  left_at (Tell m ∷ es) whole x may any alike = let l = left_at es whole x may any alike in record { file = l.file; torn = l.torn; left = l.left; here = l.here }
  left_at (Make g m ∷ es) whole x may any alike = by (λ w y. left_at es w x y any alike) (same_file f g) refl whole may
    where
      by : (AreWhole f layout es → May f n i es x → IsLeftAt f n i es any) → (b : Bool) → same_file f g ≡ b → MatchBool b (Unit {0}) (AreWhole f layout es) → MatchBool b (x ≡ Some (place n i (zeros m))) (May f n i es x)
          → IsLeftAt f n i (Make g m ∷ es) any
      by earlier true is w y = record { file = zeros m; torn = []; left = to_true (same_file f g) _ _ is (refl, refl); here = known x y alike }
        where
          known : (x : Option (List ℕ)) → x ≡ Some (place n i (zeros m)) → IsAsLeft n x any → place n i (zeros m) ≡ any
          known None y alike = absurd (none-some _ y)
          known (Some there) y alike = sym (same_Some _ _ y) ∙ alike
      by earlier false is w y = let l = earlier w y in record { file = l.file; torn = l.torn; left = to_false (same_file f g) _ _ is l.left; here = l.here }
  left_at (Sync g ∷ es) whole x may any alike = by (λ w y. left_at es w x y any alike) (same_file f g) refl whole may
    where
      by : (AreWhole f layout es → May f n i es x → IsLeftAt f n i es any) → (b : Bool) → same_file f g ≡ b → MatchBool b (Unit {0}) (AreWhole f layout es) → MatchBool b (x ≡ Some (place n i (reads f es))) (May f n i es x)
          → IsLeftAt f n i (Sync g ∷ es) any
      by earlier true is w y = record { file = reads f es; torn = []; left = to_true (same_file f g) _ _ is (refl, refl); here = known x y alike }
        where
          known : (x : Option (List ℕ)) → x ≡ Some (place n i (reads f es)) → IsAsLeft n x any → place n i (reads f es) ≡ any
          known None y alike = absurd (none-some _ y)
          known (Some there) y alike = sym (same_Some _ _ y) ∙ alike
      by earlier false is w y = let l = earlier w y in record { file = l.file; torn = l.torn; left = to_false (same_file f g) _ _ is l.left; here = l.here }
  left_at (Write g at bytes shows ∷ es) whole x (inl may) any alike = by (left_at es whole.1 x may any alike) (same_file f g) refl
    where
      by : IsLeftAt f n i es any → (b : Bool) → same_file f g ≡ b → IsLeftAt f n i (Write g at bytes shows ∷ es) any
      by l true is = record { file = l.file; torn = l.torn; left = to_true (same_file f g) _ _ is (Lost l.left); here = l.here }
      by l false is = record { file = l.file; torn = l.torn; left = to_false (same_file f g) _ _ is l.left; here = l.here }
  left_at (Write g at bytes shows ∷ es) whole x (inr w) any alike = written_at g at bytes shows es whole.1 w.0 (whole.0 w.0) w.1 x w.2 any alike

abbrev head_of : List ℕ → ℕ
head_of [] = 0
head_of (x ∷ xs) = x

heads_differ : (k : ℕ) → 0 < k → (front x y : List ℕ) → front ++ replicate k 0 ++ x ≡ front ++ replicate k 1 ++ y → ⊥
heads_differ zero lt front x y same = absurd (omega (arith, lt))
heads_differ (suc k) lt front x y same =
    let zeros_on : List ℕ = replicate (suc k) 0 ++ x in
    let ones_on : List ℕ = replicate (suc k) 1 ++ y in
    let heads : 0 ≡ 1 = ap head_of (sym (drop-append_seam front zeros_on) ∙ ap (drop (length front)) (sym (append_assoc front (replicate (suc k) 0) x) ∙ same ∙ append_assoc front (replicate (suc k) 1) y) ∙ drop-append_seam front ones_on) in
    absurd (omega (arith, heads))

-- Where each image has the file as it reads, each place is what it reads as.
pub settled_by_images : (f : FileName) (layout : Layout) (es : List Event) → 0 < layout.size → AreWhole f layout es → ((file : List ℕ) (torn : List (ℕ × ℕ)) → Leaves f es file torn → file ≡ reads f es) → IsFileSettled f layout.size es
settled_by_images f layout es some whole same i x may = by x may
  where
    shows : (any : List ℕ) → IsLeftAt f layout.size i es any → any ≡ shown f layout.size i es
    shows any l = sym l.here ∙ ap (place layout.size i) (same l.file l.torn l.left)

    by : (x : Option (List ℕ)) → May f layout.size i es x → x ≡ Some (shown f layout.size i es)
    by (Some there) may = ap (λ (l : List ℕ). Some l) (shows there (left_at f layout some i es whole (Some there) may there refl))
    -- a torn place may be read alike zeros and alike ones
    by None may =
        let zero_here = shows (replicate layout.size 0) (left_at f layout some i es whole None may (replicate layout.size 0) (length-replicate layout.size 0)) in
        let one_here = shows (replicate layout.size 1) (left_at f layout some i es whole None may (replicate layout.size 1) (length-replicate layout.size 1)) in
        absurd (heads_differ layout.size some [] [] [] (ap (λ (l : List ℕ). l ++ []) (zero_here ∙ sym one_here)))

-- ---- a file that no write came to since its last sync

pub unwritten_whole : (f : FileName) (layout : Layout) (es : List Event) → IsUnwritten f es → AreWhole f layout es
unwritten_whole f layout [] none = tt
unwritten_whole f layout (Open files ms ws ∷ es) none = tt
unwritten_whole f layout (Tell m ∷ es) none = unwritten_whole f layout es none
unwritten_whole f layout (Write g at bytes shows ∷ es) none = (λ is. absurd (true≢false (sym is ∙ none.0)), unwritten_whole f layout es none.1)
unwritten_whole f layout (Make g m ∷ es) none = by (unwritten_whole f layout es) (same_file f g) none
  where
    by : (IsUnwritten f es → AreWhole f layout es) → (b : Bool) → MatchBool b (Unit {0}) (IsUnwritten f es) → MatchBool b (Unit {0}) (AreWhole f layout es)
    by earlier true none = tt
    by earlier false none = earlier none
unwritten_whole f layout (Sync g ∷ es) none = by (unwritten_whole f layout es) (same_file f g) none
  where
    by : (IsUnwritten f es → AreWhole f layout es) → (b : Bool) → MatchBool b (Unit {0}) (IsUnwritten f es) → MatchBool b (Unit {0}) (AreWhole f layout es)
    by earlier true none = tt
    by earlier false none = earlier none

pub unwritten_settled : (f : FileName) (n : ℕ) (es : List Event) → IsUnwritten f es → IsFileSettled f n es
unwritten_settled f n [] none i x may = may
unwritten_settled f n (Open files ms ws ∷ es) none i x may = may
unwritten_settled f n (Tell m ∷ es) none i x may = unwritten_settled f n es none i x may
unwritten_settled f n (Write g at bytes shows ∷ es) none i x (inl may) = unwritten_settled f n es none.1 i x may ∙ ap (λ (l : List ℕ). Some (place n i l)) (sym (cond-false (same_file f g) _ _ none.0))
unwritten_settled f n (Write g at bytes shows ∷ es) none i x (inr w) = absurd (true≢false (sym w.0 ∙ none.0))
unwritten_settled f n (Make g m ∷ es) none i x may = by (λ u y. unwritten_settled f n es u i x y) (same_file f g) none may
  where
    by : (IsUnwritten f es → May f n i es x → x ≡ Some (shown f n i es)) → (b : Bool) → MatchBool b (Unit {0}) (IsUnwritten f es) → MatchBool b (x ≡ Some (place n i (zeros m))) (May f n i es x)
        → x ≡ Some (place n i (if b then zeros m else reads f es))
    by earlier true none may = may
    by earlier false none may = earlier none may
unwritten_settled f n (Sync g ∷ es) none i x may = by (λ u y. unwritten_settled f n es u i x y) (same_file f g) none may
  where
    by : (IsUnwritten f es → May f n i es x → x ≡ Some (shown f n i es)) → (b : Bool) → MatchBool b (Unit {0}) (IsUnwritten f es) → MatchBool b (x ≡ Some (place n i (reads f es))) (May f n i es x)
        → x ≡ Some (shown f n i es)
    by earlier true none may = may
    by earlier false none may = earlier none may

-- Where all images have the file alike, none of its pending writes has bytes: such a one torn may be read as zeros and as ones.
pub unwritten_by_images : (f : FileName) (base : List ℕ) (es : List Event) → HaveBytes f es → ((file : List ℕ) (torn : List (ℕ × ℕ)) → Leaves f es file torn → file ≡ base) → IsUnwritten f es
unwritten_by_images f base [] some same = tt
unwritten_by_images f base (Open files ms ws ∷ es) some same = tt
unwritten_by_images f base (Tell m ∷ es) some same = unwritten_by_images f base es some same
unwritten_by_images f base (Make g m ∷ es) some same = by (unwritten_by_images f base es) (same_file f g) refl some
  where
    by : (HaveBytes f es → ((file : List ℕ) (torn : List (ℕ × ℕ)) → Leaves f es file torn → file ≡ base) → IsUnwritten f es) → (b : Bool) → same_file f g ≡ b → MatchBool b (Unit {0}) (HaveBytes f es) → MatchBool b (Unit {0}) (IsUnwritten f es)
    by earlier true is some = tt
    by earlier false is some = earlier some (λ file torn left. same file torn (to_false (same_file f g) _ _ is left))
unwritten_by_images f base (Sync g ∷ es) some same = by (unwritten_by_images f base es) (same_file f g) refl some
  where
    by : (HaveBytes f es → ((file : List ℕ) (torn : List (ℕ × ℕ)) → Leaves f es file torn → file ≡ base) → IsUnwritten f es) → (b : Bool) → same_file f g ≡ b → MatchBool b (Unit {0}) (HaveBytes f es) → MatchBool b (Unit {0}) (IsUnwritten f es)
    by earlier true is some = tt
    by earlier false is some = earlier some (λ file torn left. same file torn (to_false (same_file f g) _ _ is left))
unwritten_by_images f base (Write g at bytes shows ∷ es) some same = by (unwritten_by_images f base es some.1) (same_file f g) refl
  where
    torn_as : same_file f g ≡ true → (any : List ℕ) → length any ≡ length bytes → put at any (lost_all f es).0 ≡ base
    torn_as is any long = let (old, rest, left) = lost_all f es in same (put at any old) ((at, length bytes) ∷ rest) (to_true (same_file f g) _ _ is (Torn any old rest long left refl refl))

    by : (((file : List ℕ) (torn : List (ℕ × ℕ)) → Leaves f es file torn → file ≡ base) → IsUnwritten f es) → (b : Bool) → same_file f g ≡ b → (same_file f g ≡ false) × IsUnwritten f es
    by earlier true is =
        let k = length bytes in
        let both : put at (replicate k 0) (lost_all f es).0 ≡ put at (replicate k 1) (lost_all f es).0 = torn_as is (replicate k 0) (length-replicate k 0) ∙ sym (torn_as is (replicate k 1) (length-replicate k 1)) in
        absurd (heads_differ k (some.0 is) (take at (lost_all f es).0) _ _ both)
    by earlier false is = (is, earlier (λ file torn left. same file torn (to_false (same_file f g) _ _ is left)))
