-- What a page is read from, by the bytes of its home and the copies that are listed.
use Rattle.std.proofs.Common.{◌≡◌, ◌≢◌, ◌⊎◌, ℕ, zero, suc, ◌+◌, ◌*◌, ◌<◌, ◌≤◌, ◌&&◌, Bool, true, false, true≢false, nat_eq, if◌then◌else◌, List, [], ◌∷◌, ◌++◌, length, take, Option, Some, None, refl, sym, ap, subst, ◌∙◌, inl, inr, ⊎_elim, arith, slice_index_or, length-append}
use Rattle.std.specs.Int.{from_be_bytes, w32}
use Rattle.std.proofs.lemmas.Bool.{cases_lt}
use Rattle.std.proofs.lemmas.Bool.Decides.{nat_tests}
use Rattle.std.proofs.lemmas.List.{get_or_append_left}
use Rattle.std.proofs.Math.Seq.{get_or-append_seam}
use Rattle.std.proofs.lemmas.Option.{same_Some, none-some}
use Rattle.bytes_core.specs.Crc.{crc32c}
use Rattle.byte_list.specs.Bytes.{range, zeros}
use Rattle.byte_list.specs.Fields.{be32_at, be64_at}
use Rattle.byte_list.proofs.RangeLaws.{range-zeros}
use Rattle.disk_model.specs.Event.{Event}
use Rattle.disk_model.specs.declared.names.FileName.TheVariants.{Double, Space}
use Rattle.doublewrite.specs.Copies.{copies_to}
use Rattle.doublewrite.specs.Restore.{newest}
use Rattle.doublewrite.specs.declared.listing.Copied.{Copied}
use Rattle.doublewrite.proofs.NewestCopy.{Best, IsBest, newest_is}
use Rattle.page_places.specs.Placed.{IsPlaced, OwnText, ZeroBytes, Unmatched}
use Rattle.page_places.specs.Texts.{page_bytes, are_zero, ends_in_sum, held, is_page_text, slot_held, text_in}
use Rattle.page_places.proofs.Texts.{held-text, held_is, lsn_in, slot_is, text_in-is, text_read}
use Rattle.places.specs.Places.{shown}
use Rattle.store_image.specs.View.{Text, Held, Zero, Holds, Bad, HasNoHome, IsCopy, IsChosen, Home, Copy, Unused}
use Rattle.recovery.specs.Notes.{AreNotesOf, IsUnreadable, HasOtherNumber, IsNoteOf, disk_view, no_note}
use Rattle.recovery.specs.declared.notes.PageNote.{PageNote}
use Rattle.recovery.specs.declared.notes.NoteSource.{NoteSource}
use Rattle.recovery.specs.declared.notes.NoteSource.TheVariants as source

held_by : (p : ℕ) (x : List ℕ) (zeros : Bool) → is_page_text p x ≡ false → are_zero x ≡ zeros → held p x ≡ (if zeros then Zero else Bad)
unfolding held
held_by p x zeros none is = ap (λ (b : Bool). if b then Holds (text_in x) else (if are_zero x then Zero else Bad)) none ∙ ap (λ (b : Bool). if b then Zero else Bad) is

bad_zero : ◌≡◌ {A = Held} Bad Zero → ⊥
bad_zero e = cc

placed_own : (p : ℕ) (x : List ℕ) → is_page_text p x ≡ true → IsPlaced p x
placed_own p x is = OwnText (text_in x) (held-text p x is)

misplaced : (p : ℕ) (x : List ℕ) → is_page_text p x ≡ false → are_zero x ≡ false → ends_in_sum x ≡ true → IsPlaced p x → ⊥
misplaced p x none some ends (OwnText t is) = true≢false (sym (held_is p x t is).0 ∙ none)
misplaced p x none some ends (ZeroBytes is) = bad_zero (sym (held_by p x false none some) ∙ is)
misplaced p x none some ends (Unmatched isnt) = true≢false (sym ends ∙ isnt)

zeros_are : (x : List ℕ) → are_zero x ≡ true → x ≡ zeros (length x)
unfolding are_zero zeros
zeros_are [] is = refl
zeros_are (b ∷ bs) is = by (nat_eq b 0) refl is (zeros_are bs)
  where
    by : (t : Bool) → nat_eq b 0 ≡ t → (t && are_zero bs) ≡ true → (are_zero bs ≡ true → bs ≡ zeros (length bs)) → b ∷ bs ≡ 0 ∷ zeros (length bs)
    by true same rest later = let e : b ≡ 0 = grind (arith, nat_tests) in ap (λ (n : ℕ). n ∷ bs) e ∙ ap (λ (l : List ℕ). 0 ∷ l) (later rest)
    by false same rest later = absurd (true≢false (sym rest))

no_number : from_be_bytes w32 (zeros 4) ≡ 0
unfolding zeros
no_number = refl

-- a zero page has the number 0
zero_number : (x : List ℕ) → length x ≡ page_bytes → are_zero x ≡ true → be32_at x 4 ≡ 0
unfolding be32_at
zero_number x long is =
    ap (λ (l : List ℕ). from_be_bytes w32 (range 4 4 l)) (zeros_are x is) ∙ ap (from_be_bytes w32) (range-zeros 4 4 (length x) (omega (arith, long))) ∙ no_number

-- a zero page that is no text of page 0 doesn't end in its checksum
pub zero_unmatched : (p : ℕ) (x : List ℕ) → length x ≡ page_bytes → are_zero x ≡ true → p ≡ 0 → is_page_text p x ≡ false → ends_in_sum x ≡ false
zero_unmatched p x long is first none = by (ends_in_sum x) refl
  where
    by : (b : Bool) → ends_in_sum x ≡ b → b ≡ false
    by true ends = let number = zero_number x long is in let same : nat_eq (be32_at x 4) p ≡ true = grind (arith, nat_tests) in absurd (true≢false (sym same ∙ text_read p x ends ∙ none))
    by false ends = refl

module _ (es : List Event) (s p : ℕ) (x : List ℕ) (is : x ≡ shown (Space s) page_bytes p es) where
  abbrev home : List ℕ
  home = shown (Space s) page_bytes p es

  pub home_note : (version lsn : ℕ) → is_page_text p x ≡ true → version ≡ be32_at x 0 → lsn ≡ be64_at x 16 → IsNoteOf s p (record { source = source.Home version; lsn = lsn }) es
  home_note version lsn text version_is lsn_is =
      let valid : is_page_text p home ≡ true = ap (is_page_text p) (sym is) ∙ text in
      let there = held-text p home valid in
      record {
        placed = placed_own p home valid;
        source = (
          text_in home,
          there,
          Home (text_in home) there refl,
          lsn_in home ∙ ap (λ (l : List ℕ). be64_at l 16) (sym is) ∙ sym lsn_is,
          ap (λ (t : Text). t.version) (text_in-is home) ∙ ap (λ (l : List ℕ). be32_at l 0) (sym is) ∙ sym version_is,
        );
        head = λ first same. absurd (cc);
      }

  pub other_number : (at wanted found : ℕ) → is_page_text p x ≡ false → are_zero x ≡ false → ends_in_sum x ≡ true → at ≡ p * page_bytes + 4 → wanted ≡ p → found ≡ be32_at x 4 → HasOtherNumber s p at wanted found es
  other_number at wanted found none some ends at_is wanted_is found_is = record {
    at_is = at_is;
    wanted_is = wanted_is;
    found_is = found_is ∙ ap (λ (l : List ℕ). be32_at l 4) is;
    other = λ placed. misplaced p x none some ends (subst (IsPlaced p) (sym is) placed);
  }

  module _ (none : is_page_text p x ≡ false) where
    no_home : (t : Text) → held p home ≢ Holds t
    no_home t there = true≢false (sym (held_is p home t there).0 ∙ ap (is_page_text p) (sym is) ∙ none)

    -- a home that isn't taken for another page's
    pub placed_by : (are_zero x ≡ true) ⊎ (ends_in_sum x ≡ false) → IsPlaced p home
    placed_by (inl empty) = ZeroBytes (held_by p home true (ap (is_page_text p) (sym is) ∙ none) (ap are_zero (sym is) ∙ empty))
    placed_by (inr torn) = Unmatched (ap ends_in_sum (sym is) ∙ torn)

    -- the newest copy of those that are listed
    best : (copies : List Copied) → copies ≡ copies_to 64 es → (o : Option Copied) → newest copies s p ≡ o → Best es s p 64 o
    best copies listed o same = subst (Best es s p 64) (ap (λ (cs : List Copied). newest cs s p) (sym listed) ∙ same) (newest_is es s p 64)

    copy_chosen : (c : Copied) (b : IsBest es s p 64 c) → IsChosen (disk_view es) s p (Some b.text)
    copy_chosen c b = Copy c.index b.text no_home (record { within = b.below; is = b.is }) (λ j u copy. b.most j u copy.within copy.is) (λ j u copy same. b.first j u copy.within copy.is same) refl

    pub copy_note : (copies : List Copied) (c : Copied) (version : ℕ) → (are_zero x ≡ true) ⊎ (ends_in_sum x ≡ false) → copies ≡ copies_to 64 es → newest copies s p ≡ Some c → version ≡ be32_at c.text 0 → IsNoteOf s p (record { source = source.Copy version; lsn = c.lsn }) es
    copy_note copies c version placed listed same version_is =
        let b : IsBest es s p 64 c = best copies listed (Some c) same in
        let valid = slot_is (shown Double 16896 c.index es) (record { space = s; page = p; text = b.text }) b.is in
        record {
          placed = placed_by placed;
          source = (
            b.text,
            no_home,
            copy_chosen c b,
            sym b.lsn,
            ap (λ (t : Text). t.version) (sym valid.1 ∙ text_in-is b.text.bytes) ∙ ap (λ (l : List ℕ). be32_at l 0) (sym b.bytes) ∙ sym version_is,
          );
          head = λ first equal. absurd (cc);
        }

    module _ (copies : List Copied) (listed : copies ≡ copies_to 64 es) (no_copy : newest copies s p ≡ None) where
      uncopied : (i : ℕ) (t : Text) → IsCopy (disk_view es) s p i t → ⊥
      uncopied i t copy = best copies listed None no_copy i t copy.within copy.is

      pub unused_note : are_zero x ≡ true → p ≢ 0 → IsNoteOf s p (record { source = source.Unused; lsn = 0 }) es
      unused_note empty later = record {
        placed = placed_by (inl empty);
        source = (Unused (held_by p home true (ap (is_page_text p) (sym is) ∙ none) (ap are_zero (sym is) ∙ empty)) uncopied refl, refl);
        head = λ first. absurd (later first);
      }

      pub no_source : (at stored computed : ℕ) → (p ≡ 0) ⊎ (are_zero x ≡ false) → ends_in_sum x ≡ false → at ≡ p * page_bytes → stored ≡ be32_at x 16380 → computed ≡ crc32c (take 16380 x) → IsUnreadable s p at stored computed es
      no_source at stored computed why torn at_is stored_is computed_is = record {
        at_is = at_is;
        stored_is = stored_is ∙ ap (λ (l : List ℕ). be32_at l 16380) is;
        computed_is = computed_is ∙ ap (λ (l : List ℕ). crc32c (take 16380 l)) is;
        unmatched = ap ends_in_sum (sym is) ∙ torn;
        none = by;
      }
        where
          first_of : (p ≡ 0) ⊎ (are_zero x ≡ false) → held p home ≡ Zero → p ≡ 0
          first_of (inl first) empty = first
          first_of (inr some) empty = absurd (bad_zero (sym (held_by p home false (ap (is_page_text p) (sym is) ∙ none) (ap are_zero (sym is) ∙ some)) ∙ empty))

          by : (o : Option Text) → IsChosen (disk_view es) s p o → (p ≡ 0) × (o ≡ None)
          by o (Home t there same) = absurd (no_home t there)
          by o (Copy i t torn copy most least same) = absurd (uncopied i t copy)
          by o (Unused empty no_copies same) = (first_of why empty, same)

-- ---- a space's notes, one by one

pub notes_none : (s : ℕ) (es : List Event) → AreNotesOf s [] es
notes_none s es = record { each = λ p lt. absurd (omega (arith, lt)) }

pub notes_more : (s : ℕ) (notes : List PageNote) (note : PageNote) (es : List Event) → AreNotesOf s notes es → IsNoteOf s (length notes) note es → AreNotesOf s (notes ++ note ∷ []) es
notes_more s notes note es are is = record {
  each = λ p lt. ⊎_elim
      (λ (l : p < length notes). subst (λ (n : PageNote). IsNoteOf s p n es) (sym (get_or_append_left notes (note ∷ []) no_note p l)) (are.each p l))
      (λ (ge : length notes ≤ p).
      let e : length notes ≡ p = omega (arith, lt, ge, length-append notes (note ∷ [])) in
      subst (λ (q : ℕ). IsNoteOf s q (slice_index_or (notes ++ note ∷ []) q no_note) es) e (subst (λ (n : PageNote). IsNoteOf s (length notes) n es) (sym (get_or-append_seam notes note [] no_note)) is))
      (cases_lt p (length notes));
}

-- ---- the copy that a page is read from

no_page_text : (es : List Event) (s p : ℕ) → HasNoHome (disk_view es) s p → is_page_text p (shown (Space s) page_bytes p es) ≡ false
no_page_text es s p none = by (is_page_text p (shown (Space s) page_bytes p es)) refl
  where
    by : (b : Bool) → is_page_text p (shown (Space s) page_bytes p es) ≡ b → b ≡ false
    by true is = absurd (none (text_in (shown (Space s) page_bytes p es)) (held-text p (shown (Space s) page_bytes p es) is))
    by false is = refl

pub copy_read : (es : List Event) (s p : ℕ) → HasNoHome (disk_view es) s p → (copies : List Copied) (c : Copied) → copies ≡ copies_to 64 es → newest copies s p ≡ Some c → (t : Text) × IsChosen (disk_view es) s p (Some t) × (c.text ≡ t.bytes)
copy_read es s p none copies c listed same =
    let x = shown (Space s) page_bytes p es in
    let b : IsBest es s p 64 c = best es s p x refl (no_page_text es s p none) copies listed (Some c) same in
    (b.text, copy_chosen es s p x refl (no_page_text es s p none) c b, b.bytes)

pub no_copy_read : (es : List Event) (s p : ℕ) → HasNoHome (disk_view es) s p → (copies : List Copied) → copies ≡ copies_to 64 es → newest copies s p ≡ None → (t : Text) → IsChosen (disk_view es) s p (Some t) → ⊥
no_copy_read es s p none copies listed same t (Home u home is) = none u home
no_copy_read es s p none copies listed same t (Copy i u torn copy most first is) = uncopied es s p (shown (Space s) page_bytes p es) refl (no_page_text es s p none) copies listed same i u copy
no_copy_read es s p none copies listed same t (Unused home no_copies is) = none-some t (sym is)
