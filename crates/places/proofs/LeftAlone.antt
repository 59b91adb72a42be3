-- What events that leave a file as it is leave of its places, and what writes and syncs leave of the marks.
use Rattle.std.proofs.Common.{◌≡◌, inl, inr, ℕ, false, true≢false, List, [], ◌∷◌, ◌++◌, length, Option, refl, sym, ap, subst, ◌∙◌}
use Rattle.std.proofs.lemmas.Bool.{cond-false, MatchBool-at_false}
use Rattle.disk_model.specs.Event.{Event, Open, Make, Write, Sync, Tell, same_file, reads, is_there, marks}
use Rattle.disk_model.specs.Does.{AllAre, Since, IsOn}
use Rattle.disk_model.specs.declared.names.FileName.{FileName}
use Rattle.disk_model.proofs.CrashImage.{to_false}
use Rattle.disk_model.proofs.FilesLemmas.{same_file-≡}
use Rattle.disk_model.proofs.Frame.{since_marks}
use Rattle.places.specs.Beside.{LeavesFile}
use Rattle.places.specs.Places.{place, shown, May, Layout, AreWhole, HasPlaces}

module _ (g : FileName) where
  may_all : (n i : ℕ) (news es : List Event) (x : Option (List ℕ)) → AllAre (LeavesFile g) news → May g n i (news ++ es) x → May g n i es x
  may_all n i [] es x all may = may
  may_all n i (Open files ms ws ∷ news) es x all may = absurd all.0
  may_all n i (Make f m ∷ news) es x all may = may_all n i news es x all.1 (MatchBool-at_false _ _ all.0 may)
  may_all n i (Tell m ∷ news) es x all may = may_all n i news es x all.1 may
  may_all n i (Write f at bytes shows ∷ news) es x all (inl may) = may_all n i news es x all.1 may
  may_all n i (Write f at bytes shows ∷ news) es x all (inr w) = absurd (true≢false (sym w.0 ∙ all.0))
  may_all n i (Sync f ∷ news) es x all may = may_all n i news es x all.1 (MatchBool-at_false _ _ all.0 may)

  whole_all : (layout : Layout) (news es : List Event) → AllAre (LeavesFile g) news → AreWhole g layout es → AreWhole g layout (news ++ es)
  whole_all layout [] es all whole = whole
  whole_all layout (Open files ms ws ∷ news) es all whole = absurd all.0
  whole_all layout (Make f m ∷ news) es all whole = to_false (same_file g f) _ _ all.0 (whole_all layout news es all.1 whole)
  whole_all layout (Tell m ∷ news) es all whole = whole_all layout news es all.1 whole
  whole_all layout (Write f at bytes shows ∷ news) es all whole = (λ is. absurd (true≢false (sym is ∙ all.0)), whole_all layout news es all.1 whole)
  whole_all layout (Sync f ∷ news) es all whole = to_false (same_file g f) _ _ all.0 (whole_all layout news es all.1 whole)

  reads_all : (news es : List Event) → AllAre (LeavesFile g) news → reads g (news ++ es) ≡ reads g es
  reads_all [] es all = refl
  reads_all (Open files ms ws ∷ news) es all = absurd all.0
  reads_all (Make f m ∷ news) es all = cond-false (same_file g f) _ _ all.0 ∙ reads_all news es all.1
  reads_all (Tell m ∷ news) es all = reads_all news es all.1
  reads_all (Write f at bytes shows ∷ news) es all = cond-false (same_file g f) _ _ all.0 ∙ reads_all news es all.1
  reads_all (Sync f ∷ news) es all = reads_all news es all.1

  there_all : (news es : List Event) → AllAre (LeavesFile g) news → is_there g (news ++ es) ≡ is_there g es
  there_all [] es all = refl
  there_all (Open files ms ws ∷ news) es all = absurd all.0
  there_all (Make f m ∷ news) es all = cond-false (same_file g f) _ _ all.0 ∙ there_all news es all.1
  there_all (Tell m ∷ news) es all = there_all news es all.1
  there_all (Write f at bytes shows ∷ news) es all = there_all news es all.1
  there_all (Sync f ∷ news) es all = there_all news es all.1

  -- no image has more of a place
  pub may_left_alone : (n i : ℕ) (a b : List Event) (x : Option (List ℕ)) → Since (LeavesFile g) a b → May g n i b x → May g n i a x
  may_left_alone n i a b x s may = may_all n i s.news a x s.all (subst (λ (es : List Event). May g n i es x) s.is may)

  -- it reads as it did
  pub reads_left_alone : (a b : List Event) → Since (LeavesFile g) a b → reads g b ≡ reads g a
  reads_left_alone a b s = ap (reads g) s.is ∙ reads_all s.news a s.all

  pub shown_left_alone : (n i : ℕ) (a b : List Event) → Since (LeavesFile g) a b → shown g n i b ≡ shown g n i a
  shown_left_alone n i a b s = ap (λ (l : List ℕ). place n i l) (reads_left_alone a b s)

  -- it is there where it was
  pub there_left_alone : (a b : List Event) → Since (LeavesFile g) a b → is_there g b ≡ is_there g a
  there_left_alone a b s = ap (is_there g) s.is ∙ there_all s.news a s.all

  -- the writes that no sync covers are as they were
  pub whole_left_alone : (layout : Layout) (a b : List Event) → Since (LeavesFile g) a b → AreWhole g layout a → AreWhole g layout b
  whole_left_alone layout a b s whole = subst (λ (es : List Event). AreWhole g layout es) (sym s.is) (whole_all layout s.news a s.all whole)

  -- and it has its places
  pub places_left_alone : (layout : Layout) (a b : List Event) → Since (LeavesFile g) a b → HasPlaces g layout a → HasPlaces g layout b
  places_left_alone layout a b s h = record {
    some = h.some;
    there = there_left_alone a b s ∙ h.there;
    size = ap length (reads_left_alone a b s) ∙ h.size;
    whole = whole_left_alone layout a b s h.whole;
  }

-- a write or a sync of another file leaves it as it is
pub leaves_file : (f g : FileName) → same_file g f ≡ false → (e : Event) → IsOn f e → LeavesFile g e
leaves_file f g apart (Open files ms ws) on = absurd on
leaves_file f g apart (Make h m) on = absurd on
leaves_file f g apart (Write h at bytes shows) on = ap (λ (k : FileName). same_file g k) (same_file-≡ h f on) ∙ apart
leaves_file f g apart (Sync h) on = ap (λ (k : FileName). same_file g k) (same_file-≡ h f on) ∙ apart
leaves_file f g apart (Tell m) on = absurd on

module _ (E : Event → Type 0) (on_file : (e : Event) → E e → (f : FileName) × IsOn f e) where
  marks_all : (news es : List Event) → AllAre E news → marks (news ++ es) ≡ marks es
  marks_all [] es all = refl
  marks_all (e ∷ news) es all =
      let (f, on) = on_file e all.0 in
      since_marks f (news ++ es) (e ∷ (news ++ es)) (record { news = e ∷ []; is = refl; all = (on, tt) }) ∙ marks_all news es all.1

  -- writes and syncs, of whichever files, tell no mark
  pub marks_left_alone : (a b : List Event) → Since E a b → marks b ≡ marks a
  marks_left_alone a b s = ap marks s.is ∙ marks_all s.news a s.all
