-- Files that read as what every crash leaves of them.
use Rattle.std.proofs.Common.{◌≡◌, ◌+◌, ◌*◌, ◌≤◌, ℕ, Bool, true, false, List, [], ◌∷◌, ◌++◌, length, refl, sym, ap, ◌∙◌, subst, inl, inr, if◌then◌else◌, arith}
use Rattle.std.specs.Prelude.{MatchBool}
use Rattle.std.proofs.lemmas.Bool.{MatchBool-at_true, MatchBool-at_false, cond-true, cond-false}
use Rattle.disk_model.specs.Event.{Event, Open, Make, Write, Sync, Tell, same_file, put, zeros, is_there, reads}
use Rattle.disk_model.specs.Image.{Leaves, Outcome}
use Rattle.disk_model.specs.Does.{AllAre}
use Rattle.disk_model.specs.declared.names.FileName.{FileName}
use Rattle.disk_model.proofs.FilesLemmas.{same_file-itself}
use Rattle.disk_model.proofs.ByName.{leaves_sync_same, reads_write_same}
use Rattle.places.specs.Beside.{LeavesFile}
use Rattle.store_form.specs.Creation.{events_after}
use Rattle.store_form.proofs.CreationSteps.{AtAttempt, AtEach}

-- the file is there, and reads as these bytes, which every crash leaves of it
pub record IsSettledAs (f : FileName) (file : List ℕ) (m : List Event) : Type 0 where
  pub there : is_there f m ≡ true
  pub reads_as : reads f m ≡ file
  pub leaves : (x : List ℕ) (torn : List (ℕ × ℕ)) → Leaves f m x torn → (x ≡ file) × (torn ≡ [])

module _ (f : FileName) (m : List Event) where
  pub settled_make : (n : ℕ) → IsSettledAs f (zeros n) (Make f n ∷ m)
  settled_make n = record {
    there = cond-true (same_file f f) true (is_there f m) (same_file-itself f);
    reads_as = cond-true (same_file f f) (zeros n) (reads f m) (same_file-itself f);
    leaves = λ x torn left. MatchBool-at_true ((x ≡ zeros n) × (torn ≡ [])) (Leaves f m x torn) (same_file-itself f) left;
  }

  pub settled_sync : (file : List ℕ) (at : ℕ) (bytes : List ℕ) → IsSettledAs f file m → IsSettledAs f (put at bytes file) (Sync f ∷ Write f at bytes bytes ∷ m)
  settled_sync file at bytes was =
      let shown : reads f (Write f at bytes bytes ∷ m) ≡ put at bytes file = reads_write_same f at bytes bytes m ∙ ap (λ (x : List ℕ). put at bytes x) was.reads_as in
      record {
        there = was.there;
        reads_as = shown;
        leaves = λ x torn left. let is = leaves_sync_same f (Write f at bytes bytes ∷ m) x torn left in (is.0 ∙ shown, is.1);
      }

-- ---- an event that leaves the file

module _ (f : FileName) (file : List ℕ) (m : List Event) where
  pub left_leaves : (e : Event) → LeavesFile f e → (x : List ℕ) (torn : List (ℕ × ℕ)) → Leaves f (e ∷ m) x torn → Leaves f m x torn
  left_leaves (Open files ms ws) beside x torn left = absurd beside
  left_leaves (Make g n) beside x torn left = MatchBool-at_false ((x ≡ zeros n) × (torn ≡ [])) (Leaves f m x torn) beside left
  left_leaves (Write g at bytes shows) beside x torn left = MatchBool-at_false (Outcome at bytes (Leaves f m) x torn) (Leaves f m x torn) beside left
  left_leaves (Sync g) beside x torn left = MatchBool-at_false ((x ≡ reads f m) × (torn ≡ [])) (Leaves f m x torn) beside left
  left_leaves (Tell told) beside x torn left = left

  pub left_reads : (e : Event) → LeavesFile f e → reads f (e ∷ m) ≡ reads f m
  left_reads (Open files ms ws) beside = absurd beside
  left_reads (Make g n) beside = cond-false (same_file f g) (zeros n) (reads f m) beside
  left_reads (Write g at bytes shows) beside = cond-false (same_file f g) (put at shows (reads f m)) (reads f m) beside
  left_reads (Sync g) beside = refl
  left_reads (Tell told) beside = refl

  pub left_there : (e : Event) → LeavesFile f e → is_there f (e ∷ m) ≡ is_there f m
  left_there (Open files ms ws) beside = absurd beside
  left_there (Make g n) beside = cond-false (same_file f g) true (is_there f m) beside
  left_there (Write g at bytes shows) beside = refl
  left_there (Sync g) beside = refl
  left_there (Tell told) beside = refl

  pub settled_beside : (e : Event) → LeavesFile f e → IsSettledAs f file m → IsSettledAs f file (e ∷ m)
  settled_beside e beside was = record {
    there = left_there e beside ∙ was.there;
    reads_as = left_reads e beside ∙ was.reads_as;
    leaves = λ x torn left. was.leaves x torn (left_leaves e beside x torn left);
  }

-- ---- events that leave it

pub settled_after : (f : FileName) (file : List ℕ) (steps m : List Event) → AllAre (LeavesFile f) steps → IsSettledAs f file m → IsSettledAs f file (events_after steps m)
settled_after f file [] m all was = was
settled_after f file (e ∷ steps) m all was = settled_after f file steps (e ∷ m) all.1 (settled_beside f file m e all.0 was)

pub absent_after : (f : FileName) (steps m : List Event) → AllAre (LeavesFile f) steps → is_there f m ≡ false → is_there f (events_after steps m) ≡ false
absent_after f [] m all was = was
absent_after f (e ∷ steps) m all was = absent_after f steps (e ∷ m) all.1 (left_there f [] m e all.0 ∙ was)

pub beside_append : (f : FileName) (a b : List Event) → AllAre (LeavesFile f) a → AllAre (LeavesFile f) b → AllAre (LeavesFile f) (a ++ b)
beside_append f [] b first second = second
beside_append f (e ∷ a) b first second = (first.0, beside_append f a b first.1 second)

-- a fact that hangs on such a file alone
module _ (f : FileName) (file : List ℕ) (P : List Event → Type 0) (holds : (m : List Event) → IsSettledAs f file m → P m) where
  attempt : (e : Event) (m : List Event) → LeavesFile f e → IsSettledAs f file m → AtAttempt P e m
  attempt (Open files ms ws) m beside was = tt
  attempt (Make g n) m beside was = tt
  attempt (Write g at bytes shows) m beside was = λ other long. holds (Write g at bytes other ∷ m) (settled_beside f file m (Write g at bytes other) beside was)
  attempt (Sync g) m beside was = tt
  attempt (Tell told) m beside was = tt

  pub each_beside : (steps m : List Event) → AllAre (LeavesFile f) steps → IsSettledAs f file m → AtEach P steps m
  each_beside [] m all was = holds m was
  each_beside (e ∷ steps) m all was = (holds m was, attempt e m all.0 was, each_beside steps (e ∷ m) all.1 (settled_beside f file m e all.0 was))
