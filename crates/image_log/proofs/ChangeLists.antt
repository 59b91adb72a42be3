-- The changes of a text, one after another.
use Rattle.std.proofs.Common.{◌≡◌, ◌≢◌, ℕ, ◌+◌, List, [], ◌∷◌, ◌++◌, refl, sym, ap, length, subst, ◌∙◌, append_assoc, length-append}
use Rattle.std.proofs.lemmas.List.{append-nil}
use Rattle.redo_text.specs.declared.change.Change.{Change}
use Rattle.redo_text.specs.Changes.{Begins, BeginsWithNone}
use Rattle.redo_text.specs.Text.{change_text, text_of, IsAllowed, AreAllowed}
use Rattle.redo_text.proofs.ChangeLaws.{one_rest, change_some}
use Rattle.store_files.specs.RingBlock.{IsMtrText}
use Rattle.image_log.specs.Logs.{HasNoChangeAt}

texts_joined : (cs : List Change) (c : Change) → text_of (cs ++ c ∷ []) ≡ text_of cs ++ change_text c
texts_joined [] c = append-nil (change_text c)
texts_joined (d ∷ ds) c = ap (λ (l : List ℕ). change_text d ++ l) (texts_joined ds c) ∙ sym (append_assoc (change_text d) (text_of ds) (change_text c))

all_allowed : (cs : List Change) (c : Change) → AreAllowed cs → IsAllowed c → AreAllowed (cs ++ c ∷ [])
all_allowed [] c are is = (is, tt)
all_allowed (d ∷ ds) c (first, rest) is = (first, all_allowed ds c rest is)

-- These changes were read, and the rest is left: a text of changes has such a rest.
pub record ReadsUpTo (text : List ℕ) (changes : List Change) (rest : List ℕ) : Type 0 where
  pub is : text ≡ text_of changes ++ rest
  pub allowed : AreAllowed changes
  pub back : (cs : List Change) → IsMtrText text cs → (ds : List Change) × IsMtrText rest ds

pub reads_first : (text : List ℕ) → ReadsUpTo text [] text
reads_first text = record { is = refl; allowed = tt; back = λ cs is. (cs, is) }

behind : (rest : List ℕ) (c : Change) (new : List ℕ) (ds : List Change) → Begins rest c new → IsMtrText rest ds → (es : List Change) × IsMtrText new es
behind rest c new [] begins is = absurd (change_some c new (sym begins.is ∙ is.is))
behind rest c new (d ∷ ds) begins is =
    let other : Begins rest d (text_of ds) = record { allowed = is.allowed.0; is = is.is } in
    (ds, record { is = one_rest rest c d new (text_of ds) begins other; allowed = is.allowed.1 })

pub reads_next : (text : List ℕ) (changes : List Change) (rest : List ℕ) (c : Change) (new : List ℕ) → ReadsUpTo text changes rest → Begins rest c new → ReadsUpTo text (changes ++ c ∷ []) new
reads_next text changes rest c new reads begins = record {
  is = reads.is ∙ ap (λ (l : List ℕ). text_of changes ++ l) begins.is ∙ sym (append_assoc (text_of changes) (change_text c) new) ∙ ap (λ (l : List ℕ). l ++ new) (sym (texts_joined changes c));
  allowed = all_allowed changes c reads.allowed begins.allowed;
  back = λ cs is. let r = reads.back cs is in behind rest c new r.0 begins r.1;
}

pub reads_end : (text : List ℕ) (changes : List Change) (rest : List ℕ) → ReadsUpTo text changes rest → rest ≡ [] → IsMtrText text changes
reads_end text changes rest reads none = record { is = reads.is ∙ ap (λ (l : List ℕ). text_of changes ++ l) none ∙ append-nil (text_of changes); allowed = reads.allowed }

stuck : (rest : List ℕ) (ds : List Change) → rest ≢ [] → BeginsWithNone rest → IsMtrText rest ds → ⊥
stuck rest [] some none is = some is.is
stuck rest (d ∷ ds) some none is = none d (text_of ds) (record { allowed = is.allowed.0; is = is.is })

-- ---- a place where no change begins

pub reads_stuck : (text : List ℕ) (changes : List Change) (rest : List ℕ) (at : ℕ) → ReadsUpTo text changes rest → at ≡ length (text_of changes) → rest ≢ [] → BeginsWithNone rest → HasNoChangeAt text at
reads_stuck text changes rest at reads place some none = record { before = changes; rest = rest; is = reads.is; allowed = reads.allowed; at_is = place; some = some; none = none }

pub length_joined : (cs : List Change) (c : Change) → length (text_of (cs ++ c ∷ [])) ≡ length (text_of cs) + length (change_text c)
length_joined cs c = ap length (texts_joined cs c) ∙ length-append (text_of cs) (change_text c)

-- such a text is that of no changes
pub no_changes_of : (text : List ℕ) (at : ℕ) → HasNoChangeAt text at → (cs : List Change) → IsMtrText text cs → ⊥
no_changes_of text at has cs is = walk has.before cs text has.is has.allowed is
  where
    walk : (bs cs : List Change) (text : List ℕ) → text ≡ text_of bs ++ has.rest → AreAllowed bs → IsMtrText text cs → ⊥
    walk [] cs text same allowed is = stuck has.rest cs has.some has.none (subst (λ (t : List ℕ). IsMtrText t cs) same is)
    walk (b ∷ bs) cs text same (first, allowed) is =
        let e : text ≡ change_text b ++ (text_of bs ++ has.rest) = same ∙ append_assoc (change_text b) (text_of bs) has.rest in
        let r = behind text b (text_of bs ++ has.rest) cs (record { allowed = first; is = e }) is in
        walk bs r.0 (text_of bs ++ has.rest) refl allowed r.1
