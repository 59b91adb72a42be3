-- The pages of a round are loaded one after another.
use Rattle.std.proofs.Common.{◌≡◌, ◌≢◌, ℕ, ◌+◌, ◌-◌, ◌<◌, ◌≤◌, Bool, true, false, MatchBool, nat_eq, ◌||◌, if◌then◌else◌, List, [], ◌∷◌, length, slice_index_or, Option, Some, refl, sym, ap, subst, ◌∙◌, arith}
use Rattle.std.proofs.lemmas.Bool.Decides.{nat_tests}
use Rattle.aes_core.specs.declared.algorithm.Algorithm.{Algorithm}
use Rattle.disk_model.specs.Event.{Event}
use Rattle.disk_model.specs.Past.{Past}
use Rattle.key_ring.specs.Ring.{RingEntry}
use Rattle.space_head.specs.declared.space.SpaceInfo.{SpaceInfo}
use Rattle.store_model.specs.Fold.{used}
use Rattle.store_model.specs.declared.contents.PlainPage.{PlainPage}
use Rattle.page_pool.specs.declared.names.PageName.{PageName}
use Rattle.page_pool.specs.Pages.{PoolState, held_page, is_dirty, is_name}
use Rattle.recovery.specs.Loading.{AreDirty, HoldsHome, HoldsHomes, HoldsMore, HoldsRange, IsHomePage, IsPageLoaded, MayHaveType, name_in}
use Rattle.recovery.specs.Notes.{no_note}
use Rattle.recovery.specs.Rounds.{count_in}
use Rattle.recovery.specs.declared.notes.PageNote.{PageNote}
use Rattle.recovery.proofs.PoolSteps.{name_itself}
use Rattle.recovery.proofs.RoundSteps.{count_less, count_none, count_with, count_without}

abbrev pub no_pool : PoolState
no_pool = record { dirty = record { entries = []; pages = [] }; clean = [] }

other_page : (s page p : ℕ) → is_name (name_in s page) (name_in s p) ≡ false → p ≢ page
other_page s page p apart same = grind (arith, nat_tests)

same_page : (s page p : ℕ) → is_name (name_in s page) (name_in s p) ≡ true → p ≡ page
same_page s page p is = grind (arith, nat_tests)

page_behind : (s page p : ℕ) → page + 1 ≤ p → is_name (name_in s page) (name_in s p) ≡ false
page_behind s page p above = grind (arith, nat_tests)

-- one page more, and there is room
pub room : (has : ℕ → Bool) (from page end : ℕ) → from ≤ page → page < end → has page ≡ true → count_in has from (end - from) ≤ 256 → count_in has from (page - from) < 256
room has from page end low high is few =
    let more = count_with has from page low is in
    let less = count_less has from (page + 1 - from) (end - from) (omega (arith, low, high)) in
    omega (arith, more, less, few)

module _ (has : ℕ → Bool) (s from : ℕ) where
  pub holds_none : (pool : PoolState) → pool ≡ no_pool → HoldsRange has s from from pool
  holds_none pool is = subst (HoldsRange has s from from) (sym is) (record {
    clean = refl;
    count = sym (count_none has from);
    most = omega arith;
    pages = record { dirty = λ p low high later. absurd (omega (arith, low, high)); typed = λ p low high later. absurd (omega (arith, low, high)) };
    behind = λ p above. refl;
  })

  module _ (page : ℕ) (old : PoolState) (low : from ≤ page) (holds : HoldsRange has s from page old) where
    pub holds_same : has page ≡ false → HoldsRange has s from (page + 1) old
    holds_same isnt = record {
      clean = holds.clean;
      count = holds.count ∙ sym (count_without has from page low isnt);
      most = holds.most;
      pages = record {
        dirty = λ p above below later. holds.pages.dirty p above (before p below later) later;
        typed = λ p above below later. holds.pages.typed p above (before p below later) later;
      };
      behind = λ p above. holds.behind p (omega (arith, above));
    }
      where
        before : (p : ℕ) → p < page + 1 → has p ≡ true → p < page
        before p below later = by (nat_eq p page) refl
          where
            by : (b : Bool) → nat_eq p page ≡ b → p < page
            by true same = let is : p ≡ page = grind (arith, nat_tests) in let here : has page ≡ true = subst (λ (q : ℕ). has q ≡ true) is later in absurd cc
            by false apart = grind (arith, nat_tests)

    pub is_fresh : is_dirty (name_in s page) old.dirty ≡ false
    is_fresh = holds.behind page (omega arith)

    module _ (plain : PlainPage) (new : PoolState) (more : HoldsMore (name_in s page) plain old new) where
      before : (p : ℕ) → p < page + 1 → is_name (name_in s page) (name_in s p) ≡ false → p < page
      before p below apart = let differs = other_page s page p apart in omega (arith, below, differs)

      pub holds_more : MayHaveType page plain.kind → has page ≡ true → count_in has from (page + 1 - from) ≤ 256 → HoldsRange has s from (page + 1) new
      holds_more may is few = record {
        clean = more.clean;
        count = count;
        most = subst (λ (n : ℕ). n ≤ 256) (sym count) few;
        pages = record {
          dirty = λ p above below later. more.dirty (name_in s p) ∙ dirty p above below later (is_name (name_in s page) (name_in s p)) refl;
          typed = λ p above below later. subst (λ (o : Option PlainPage). MayHaveType p (used o).kind) (sym (more.held (name_in s p))) (typed p above below later (is_name (name_in s page) (name_in s p)) refl);
        };
        behind = λ p above.
            more.dirty (name_in s p) ∙ ap (λ (b : Bool). b || is_dirty (name_in s p) old.dirty) (page_behind s page p above) ∙ holds.behind p (omega (arith, above));
      }
        where
          count : length new.dirty.entries ≡ count_in has from (page + 1 - from)
          count = more.count ∙ ap (λ (n : ℕ). n + 1) holds.count ∙ sym (count_with has from page low is)

          dirty : (p : ℕ) → from ≤ p → p < page + 1 → has p ≡ true → (b : Bool) → is_name (name_in s page) (name_in s p) ≡ b → (b || is_dirty (name_in s p) old.dirty) ≡ true
          dirty p above below later true named = refl
          dirty p above below later false apart = holds.pages.dirty p above (before p below apart) later

          typed : (p : ℕ) → from ≤ p → p < page + 1 → has p ≡ true → (b : Bool) → is_name (name_in s page) (name_in s p) ≡ b → MayHaveType p (used (if b then Some plain else held_page (name_in s p) old)).kind
          typed p above below later true named = subst (λ (q : ℕ). MayHaveType q plain.kind) (sym (same_page s page p named)) may
          typed p above below later false apart = holds.pages.typed p above (before p below apart) later

    -- whether it was loaded or not
    pub holds_next : (ring : List RingEntry) (algorithm : Algorithm) (info : SpaceInfo) (note : PageNote) (new : PoolState) (past : Past) → info.space ≡ s → MatchBool (has page) (IsPageLoaded ring algorithm info note page old new past) (new ≡ old)
        → (end : ℕ) → page < end → count_in has from (end - from) ≤ 256 → HoldsRange has s from (page + 1) new
    holds_next ring algorithm info note new past same loaded end high few = by (has page) refl loaded
      where
        by : (b : Bool) → has page ≡ b → MatchBool b (IsPageLoaded ring algorithm info note page old new past) (new ≡ old) → HoldsRange has s from (page + 1) new
        by false isnt is = subst (HoldsRange has s from (page + 1)) (sym is) (holds_same isnt)
        by true is (plain, more, may, home) =
            let less = count_less has from (page + 1 - from) (end - from) (omega (arith, low, high)) in
            holds_more plain new (subst (λ (z : ℕ). HoldsMore (name_in z page) plain old new) same more) may is (omega (arith, less, few))

-- ---- by their homes

module _ (ring : List RingEntry) (algorithm : Algorithm) (info : SpaceInfo) (notes : List PageNote) (has : ℕ → Bool) (from : ℕ) (es : List Event) where
  pub homes_none : (pool : PoolState) → HoldsHomes ring algorithm info notes has from from pool es
  homes_none pool = record { each = λ p low high later. absurd (omega (arith, low, high)) }

  module _ (page : ℕ) (old : PoolState) (homes : HoldsHomes ring algorithm info notes has from page old es) where
    pub homes_same : has page ≡ false → HoldsHomes ring algorithm info notes has from (page + 1) old es
    homes_same isnt = record { each = λ p low high later. by p low high later (nat_eq p page) refl }
      where
        by : (p : ℕ) → from ≤ p → p < page + 1 → has p ≡ true → (b : Bool) → nat_eq p page ≡ b → HoldsHome ring algorithm info (slice_index_or notes p no_note) p old es
        by p low high later true same = let is : p ≡ page = grind (arith, nat_tests) in let here : has page ≡ true = subst (λ (q : ℕ). has q ≡ true) is later in absurd cc
        by p low high later false apart = homes.each p low (grind (arith, nat_tests)) later

    pub homes_more : (plain : PlainPage) (new : PoolState) → HoldsMore (name_in info.space page) plain old new → IsHomePage ring algorithm info (slice_index_or notes page no_note) page plain es → HoldsHomes ring algorithm info notes has from (page + 1) new es
    homes_more plain new more is = record { each = λ p low high later. by p low high later (is_name (name_in info.space page) (name_in info.space p)) refl }
      where
        by : (p : ℕ) → from ≤ p → p < page + 1 → has p ≡ true → (b : Bool) → is_name (name_in info.space page) (name_in info.space p) ≡ b → HoldsHome ring algorithm info (slice_index_or notes p no_note) p new es
        by p low high later true named =
            let same : p ≡ page = same_page info.space page p named in (
              plain,
              subst (λ (q : ℕ). IsHomePage ring algorithm info (slice_index_or notes q no_note) q plain es) (sym same) is,
              more.held (name_in info.space p) ∙ ap (λ (b : Bool). if b then Some plain else held_page (name_in info.space p) old) named,
            )
        by p low high later false apart =
            let differs = other_page info.space page p apart in
            let (q, home, held) = homes.each p low (omega (arith, high, differs)) later in
            (q, home, more.held (name_in info.space p) ∙ ap (λ (b : Bool). if b then Some plain else held_page (name_in info.space p) old) apart ∙ held)

    pub homes_next : (note_is : PageNote) (new : PoolState) (past : Past) → slice_index_or notes page no_note ≡ note_is → past ≡ Some es → MatchBool (has page) (IsPageLoaded ring algorithm info note_is page old new past) (new ≡ old)
        → HoldsHomes ring algorithm info notes has from (page + 1) new es
    homes_next note_is new past noted now loaded = by (has page) refl loaded
      where
        by : (b : Bool) → has page ≡ b → MatchBool b (IsPageLoaded ring algorithm info note_is page old new past) (new ≡ old) → HoldsHomes ring algorithm info notes has from (page + 1) new es
        by false isnt is = subst (λ (q : PoolState). HoldsHomes ring algorithm info notes has from (page + 1) q es) (sym is) (homes_same isnt)
        by true is (plain, more, may, home) = homes_more plain new more (subst (λ (n : PageNote). IsHomePage ring algorithm info n page plain es) (sym noted) (home.here es now))
