-- Changes are made in the pages of a round, one after another.
use Rattle.std.proofs.Common.{◌≡◌, ◌≢◌, ℕ, ◌+◌, ◌<◌, ◌≤◌, Bool, true, false, nat_eq, nat_le, nat_lt, ◌&&◌, ◌||◌, is_some, if◌then◌else◌, List, [], ◌∷◌, ◌++◌, length, slice_index_or, Option, Some, None, refl, sym, ap, subst, ◌∙◌, inl, inr, arith}
use Rattle.std.proofs.lemmas.Bool.Decides.{nat_tests}
use Rattle.std.specs.Map.{lookup, remove_entry}
use Rattle.redo_text.specs.Text.{IsAllowed}
use Rattle.redo_text.specs.declared.change.Change.{Change}
use Rattle.redo_text.specs.declared.change.Change.TheVariants.{Put, Kind, Touch, Floor, Encrypt}
use Rattle.store_model.specs.Fold.{used}
use Rattle.store_model.specs.declared.contents.PlainPage.{PlainPage}
use Rattle.page_pool.specs.declared.names.PageName.{PageName}
use Rattle.page_pool.specs.Changes.{HasNamed, changed_again, fresh_pages, held_after, made_dirty, page_changed_by, page_of_change, pool_after, unused_pages}
use Rattle.page_pool.specs.Pages.{PoolState, held_page, is_dirty, is_held, is_name}
use Rattle.page_pool.proofs.Cleans.{same_name}
use Rattle.page_pool.proofs.Named.{dirty_still, named_again}
use Rattle.recovery.specs.Changing.{ChangesRange, is_wanted}
use Rattle.recovery.specs.Loading.{HoldsRange, MayHaveType, name_in}
use Rattle.recovery.specs.Notes.{no_note}
use Rattle.recovery.specs.Rounds.{has_later}
use Rattle.recovery.specs.declared.notes.PageNote.{PageNote}

-- a page that may have its type may have it behind a change
typed_change : (c : Change) (name : PageName) (x : PlainPage) → IsAllowed c → is_name (page_of_change c) name ≡ true → MayHaveType name.page x.kind → MayHaveType name.page (page_changed_by c x).kind
typed_change (Put s page at bytes) name x allowed is typed = typed
typed_change (Kind s page kind) name x allowed is typed =
    let same : page ≡ name.page = grind (arith, nat_tests) in
    let (fits, some, small, kind_fits, not_head, not_other) = allowed in
    inr ((λ none. omega (arith, none, same, some)), not_head, not_other)
typed_change (Touch s page) name x allowed is typed = typed
typed_change (Floor s v) name x allowed is typed = typed
typed_change (Encrypt s) name x allowed is typed = typed

pub held_more : (cs : List Change) (c : Change) (name : PageName) (o : Option PlainPage) → held_after (cs ++ c ∷ []) name o ≡ held_after (c ∷ []) name (held_after cs name o)
held_more [] c name o = refl
held_more (d ∷ ds) c name o = held_more ds c name (if is_name (page_of_change d) name then Some (page_changed_by d (used o)) else o)

module _ (notes : List PageNote) (last : List ℕ) (s from end lsn : ℕ) where
  text_lsn : ℕ → ℕ
  text_lsn p = (slice_index_or notes p no_note).lsn

  pub made_none : (pool : PoolState) → ChangesRange notes last s from end lsn [] pool pool
  made_none pool = record { each = λ p low high later. by (nat_le lsn (slice_index_or notes p no_note).lsn) (held_page (name_in s p) pool) }
    where
      by : (b : Bool) (o : Option PlainPage) → o ≡ (if b then o else o)
      by true o = refl
      by false o = refl

  pub made_more : (cs : List Change) (c : Change) (old mid new : PoolState) → ChangesRange notes last s from end lsn cs old mid → ChangesRange notes last s from end lsn (c ∷ []) mid new → ChangesRange notes last s from end lsn (cs ++ c ∷ []) old new
  made_more cs c old mid new first next = record {
    each = λ p low high later.
        by (name_in s p) (nat_le lsn (slice_index_or notes p no_note).lsn) (held_page (name_in s p) old) (held_page (name_in s p) mid) (held_page (name_in s p) new) (first.each p low high later) (next.each p low high later);
  }
    where
      by : (name : PageName) (b : Bool) (o m n : Option PlainPage) → m ≡ (if b then o else held_after cs name o) → n ≡ (if b then m else held_after (c ∷ []) name m) → n ≡ (if b then o else held_after (cs ++ c ∷ []) name o)
      by name true o m n one two = two ∙ one
      by name false o m n one two = two ∙ ap (held_after (c ∷ []) name) one ∙ sym (held_more cs c name o)

  -- a change that isn't wanted is of no page of the range, or older than its page's text
  pub made_unwanted : (c : Change) (pool : PoolState) → is_wanted notes last s from end (page_of_change c) lsn ≡ false → ChangesRange notes last s from end lsn (c ∷ []) pool pool
  made_unwanted c pool unwanted = record {
    each = λ p low high later.
        by p low high later (nat_le lsn (slice_index_or notes p no_note).lsn) refl (is_name (page_of_change c) (name_in s p)) refl;
  }
    where
      is_one : (p l : ℕ) (h : Bool) → from ≤ p → p < end → h ≡ true → nat_le lsn l ≡ false → (nat_eq s s && (nat_le from p && (nat_lt p end && (h && nat_lt l lsn)))) ≡ true
      is_one p l h low high later above = grind (arith, nat_tests)

      by : (p : ℕ) → from ≤ p → p < end → has_later notes last p ≡ true → (b : Bool) → nat_le lsn (slice_index_or notes p no_note).lsn ≡ b → (n : Bool) → is_name (page_of_change c) (name_in s p) ≡ n
          → held_page (name_in s p) pool ≡ (if b then held_page (name_in s p) pool else (if n then Some (page_changed_by c (used (held_page (name_in s p) pool))) else held_page (name_in s p) pool))
      by p low high later true is n named = refl
      by p low high later false above false named = refl
      by p low high later false above true named =
          let wanted : is_wanted notes last s from end (name_in s p) lsn ≡ false = subst (λ (n : PageName). is_wanted notes last s from end n lsn ≡ false) (same_name (page_of_change c) (name_in s p) named) unwanted in
          let one = is_one p (slice_index_or notes p no_note).lsn (has_later notes last p) low high later above in
          absurd cc

  pub record WantedPage (name : PageName) : Type 0 where
    pub named : name ≡ name_in s name.page
    pub low : from ≤ name.page
    pub high : name.page < end
    pub later : has_later notes last name.page ≡ true
    pub above : (slice_index_or notes name.page no_note).lsn < lsn

  five : (space page l : ℕ) (h : Bool) → (nat_eq space s && (nat_le from page && (nat_lt page end && (h && nat_lt l lsn)))) ≡ true → (space ≡ s) × (from ≤ page) × (page < end) × (h ≡ true) × (l < lsn)
  five space page l h is = (grind (arith, nat_tests), grind (arith, nat_tests), grind (arith, nat_tests), grind (arith, nat_tests), grind (arith, nat_tests))

  wanted_page : (name : PageName) → is_wanted notes last s from end name lsn ≡ true → WantedPage name
  wanted_page name is =
      let (space, low, high, later, above) = five name.space name.page (slice_index_or notes name.page no_note).lsn (has_later notes last name.page) is in
      record { named = λ i. record { space = space i; page = name.page }; low = low; high = high; later = later; above = above }

  -- a change that is wanted is made
  module _ (c : Change) (old : PoolState) (allowed : IsAllowed c) (wanted : is_wanted notes last s from end (page_of_change c) lsn ≡ true) (holds : HoldsRange (has_later notes last) s from end old) where
    page : WantedPage (page_of_change c)
    page = wanted_page (page_of_change c) wanted

    pub is_there : is_dirty (page_of_change c) old.dirty ≡ true
    is_there = subst (λ (n : PageName). is_dirty n old.dirty ≡ true) (sym page.named) (holds.pages.dirty (page_of_change c).page page.low page.high page.later)

    -- so it needs no room and no memory
    pub no_fresh : fresh_pages (c ∷ []) old.dirty ≡ 0
    no_fresh = ap (λ (b : Bool). (if b || false then 0 else 1) + 0) is_there

    pub no_unused : unused_pages (c ∷ []) old ≡ 0
    no_unused = ap (λ (b : Bool). (if (b || is_some (lookup (is_name (page_of_change c)) old.clean)) || false then 0 else 1) + 0) is_there

    module _ (new : PoolState) (changed : new ≡ pool_after lsn 0 (c ∷ []) old) (held : (name : PageName) → held_page name new ≡ held_after (c ∷ []) name (held_page name old)) where
      abbrev again : PoolState
      again = record { dirty = changed_again (page_of_change c) lsn c old.dirty; clean = old.clean }

      abbrev fresh_state : PoolState
      fresh_state = record { dirty = made_dirty (page_of_change c) lsn 0 (page_changed_by c (used (lookup (is_name (page_of_change c)) old.clean))) old.dirty; clean = remove_entry (is_name (page_of_change c)) old.clean }

      is : new ≡ again
      is = changed ∙ ap (λ (b : Bool). if b then again else fresh_state) is_there

      still : (other : PageName) → is_dirty other new.dirty ≡ is_dirty other old.dirty
      still other = ap (λ (t : PoolState). is_dirty other t.dirty) is ∙ dirty_still (page_of_change c) other lsn c old.dirty

      same_count : length new.dirty.entries ≡ length old.dirty.entries
      same_count =
          ap (λ (t : PoolState). length t.dirty.entries) is ∙ (named_again (page_of_change c) lsn c old is_there).count
          ∙ ap (λ (b : Bool). length old.dirty.entries + (if b then 0 else 1)) is_there ∙ (let n = length old.dirty.entries in omega arith)

      typed : (p : ℕ) (n : Bool) → is_name (page_of_change c) (name_in s p) ≡ n → MayHaveType p (used (held_page (name_in s p) old)).kind
          → MayHaveType p (used (if n then Some (page_changed_by c (used (held_page (name_in s p) old))) else held_page (name_in s p) old)).kind
      typed p true named may = typed_change c (name_in s p) (used (held_page (name_in s p) old)) allowed named may
      typed p false named may = may

      pub holds_still : HoldsRange (has_later notes last) s from end new
      holds_still = record {
        clean = ap (λ (t : PoolState). t.clean) is ∙ holds.clean;
        count = same_count ∙ holds.count;
        most = subst (λ (n : ℕ). n ≤ 256) (sym same_count) holds.most;
        pages = record {
          dirty = λ p low high later. still (name_in s p) ∙ holds.pages.dirty p low high later;
          typed = λ p low high later.
              subst (λ (o : Option PlainPage). MayHaveType p (used o).kind) (sym (held (name_in s p))) (typed p (is_name (page_of_change c) (name_in s p)) refl (holds.pages.typed p low high later));
        };
        behind = λ p high. still (name_in s p) ∙ holds.behind p high;
      }

      pub made_wanted : ChangesRange notes last s from end lsn (c ∷ []) old new
      made_wanted = record {
        each = λ p low high later. held (name_in s p) ∙ by p (nat_le lsn (slice_index_or notes p no_note).lsn) refl (is_name (page_of_change c) (name_in s p)) refl;
      }
        where
          by : (p : ℕ) (b : Bool) → nat_le lsn (slice_index_or notes p no_note).lsn ≡ b → (n : Bool) → is_name (page_of_change c) (name_in s p) ≡ n
              → (if n then Some (page_changed_by c (used (held_page (name_in s p) old))) else held_page (name_in s p) old)
              ≡ (if b then held_page (name_in s p) old else (if n then Some (page_changed_by c (used (held_page (name_in s p) old))) else held_page (name_in s p) old))
          by p false below n named = refl
          by p true below false named = refl
          by p true below true named =
              let above : (slice_index_or notes p no_note).lsn < lsn = subst (λ (n : PageName). (slice_index_or notes n.page no_note).lsn < lsn) (same_name (page_of_change c) (name_in s p) named) page.above in
              absurd (both (slice_index_or notes p no_note).lsn above below)
            where
              both : (l : ℕ) → l < lsn → nat_le lsn l ≡ true → ⊥
              both l lt le = grind (arith, nat_tests)
