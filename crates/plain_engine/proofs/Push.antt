-- The facts of the log where the journal grows.
use Rattle.std.proofs.Common.{◌≡◌, ℕ, ◌+◌, ◌<◌, ◌≤◌, List, [], ◌∷◌, ◌++◌, length, get_or, sym, ◌∙◌, arith, subst, ⊎_elim, length-append}
use Rattle.std.proofs.lemmas.List.{get_or_append_left, get_or_push}
use Rattle.std.proofs.lemmas.Bool.{cases_lt}
use Rattle.disk_model.specs.Event.{Event}
use Rattle.plain_engine.specs.Block.{IsLogBlock}
use Rattle.plain_engine.specs.Layer.{entry, PlainPlace, Written, NoBlock, IsTorn, Spaced, IsLogFile, AreNumbered, LogReady}

module _ (blocks : List (List ℕ)) (block : List ℕ) where
  abbrev longer : List (List ℕ)
  longer = blocks ++ block ∷ []

  one_more : length longer ≡ length blocks + 1
  one_more = length-append blocks (block ∷ [])

  same_entry : (i : ℕ) → i < length blocks → entry blocks i ≡ entry longer i
  same_entry i below = sym (get_or_append_left blocks (block ∷ []) [] i below)

  filled_push : (written : ℕ) (file : List ℕ) → written ≤ length blocks → IsLogFile blocks written file → IsLogFile longer written file
  filled_push written file le f = record { size = f.size; framed = f.framed; whole = λ i below. f.whole i below ∙ same_entry i (omega arith); fresh = f.fresh }

  same_place : (written : ℕ) (file : List ℕ) (torn : List (ℕ × ℕ)) (i : ℕ) → written ≤ length blocks → PlainPlace blocks written i file torn → PlainPlace longer written i file torn
  same_place written file torn i le (Written below same) = Written below (same ∙ same_entry i (omega arith))
  same_place written file torn i le (NoBlock none) = NoBlock none
  same_place written file torn i le (IsTorn listed) = IsTorn listed

  same_spaced : (settled written : ℕ) (file : List ℕ) (torn : List (ℕ × ℕ)) → settled ≤ written → written ≤ length blocks → Spaced blocks settled written file torn → Spaced longer settled written file torn
  same_spaced settled written file torn order le s = record {
    size = s.size;
    framed = s.framed;
    front = λ i below. s.front i below ∙ same_entry i (omega arith);
    rest = λ i after lt. same_place written file torn i le (s.rest i after lt);
  }

  module _ (text : List ℕ) (is : IsLogBlock (length blocks + 2) text block) (room : length blocks < 256) where
    numbered_push : AreNumbered blocks → AreNumbered longer
    numbered_push are i below = ⊎_elim
        (λ (lt : i < length blocks). let old = are i lt in (old.0, subst (IsLogBlock (i + 2) old.0) (same_entry i lt) old.1))
        (λ (ge : length blocks ≤ i).
        let last : i ≡ length blocks = omega (arith, one_more) in
        let here : get_or longer i [] ≡ block = get_or_push blocks block [] i (sym last) in
        (text, subst (λ (k : ℕ). IsLogBlock (k + 2) text (get_or longer i [])) (sym last) (subst (IsLogBlock (length blocks + 2) text) (sym here) is)))
        (cases_lt i (length blocks))

    pub ready_push : (settled written acked : ℕ) (es : List Event) → LogReady blocks settled written acked es → LogReady longer settled written acked es
    ready_push settled written acked es r = record {
      holds = record {
        images = λ file torn left. same_spaced settled written file torn r.holds.order r.holds.within (r.holds.images file torn left);
        synced = filled_push settled _ (omega (arith, r.holds.order, r.holds.within)) r.holds.synced;
        pending = r.holds.pending;
        acked = r.holds.acked;
        order = r.holds.order;
        within = omega (arith, r.holds.within, one_more);
        room = omega (arith, one_more);
        numbered = numbered_push r.holds.numbered;
      };
      least = r.least;
      there = r.there;
      shows = filled_push written _ r.holds.within r.shows;
    }
