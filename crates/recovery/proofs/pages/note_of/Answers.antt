use Rattle.std.proofs.Common.{rules, ◌≡◌, ◌≢◌, ◌⊎◌, ◌∙◌, ◌*◌, ◌+◌, ℕ, Bool, true, false, true≢false, List, Option, Some, None, refl, sym, ap, subst, inl, inr, arith, take, length}
use Rattle.std.specs.Option.{option_map}
use Rattle.std.specs.Prelude.{◌↔◌, IsTrue}
use Rattle.byte_list.specs.Fields.{be32_at}
use Rattle.bytes_core.specs.LastByte.{EndsInCrc32c}
use Rattle.page_places.proofs.Sums.{ends_in_sum-ends, ends-ends_in_sum, not_true}
use Rattle.page_places.specs.Texts.{are_zero, ends_in_sum, is_page_text}
use Rattle.store_form.proofs.Zeros.{zero_test}
use Rattle.doublewrite.specs.Restore.{newest}
use Rattle.recovery.specs.Notes.{IsHomeRefusal}
use Rattle.recovery.proofs.NoteSteps.{home_note, other_number, copy_note, unused_note, no_source, zero_unmatched}
use Rattle.recovery.proofs.pages.note_of.Goals as goal
use Rattle.recovery.proofs.pages.note_of.Goals.{else-not-zero-via-then-not-zero+else-ends_in_crc32c, else-not-zero-via-else-not-zero, else-zero-via-then-zero+else-page-ne0, else-zero-via-else-zero}

torn_of : (r : Bool) (x : List ℕ) → (IsTrue r ↔ EndsInCrc32c x) → r ≡ false → ends_in_sum x ≡ false
torn_of r x iff isnt = not_true (ends_in_sum x) (λ is. let none : EndsInCrc32c x → ⊥ = search rules in none (ends_in_sum-ends x is))

pub returns-then-is_page_text-clause-note : goal.returns-then-is_page_text-clause-note
returns-then-is_page_text-clause-note c =
    λ es is listed. home_note es c.args.space c.args.page c.args.home.now is c.be32_at.result c.be64_at.result (sym c.is_page_text.ensures ∙ c.if-is_page_text.true) c.be32_at.ensures c.be64_at.ensures

pub returns-then-ends_in_crc32c-clause-refused : goal.returns-then-ends_in_crc32c-clause-refused
returns-then-ends_in_crc32c-clause-refused c =
    λ es is listed.
    let x = c.args.home.now in
    let ends : EndsInCrc32c x = search rules in (
      refl,
      other_number es c.args.space c.args.page x is _ _ _ (sym c.is_page_text.ensures ∙ c.if-is_page_text.false)
          (zero_test x c.are_zero-zero.result c.are_zero-zero.ensures.yes c.are_zero-zero.ensures.no ∙ c.if-not-zero.true) (ends-ends_in_sum x ends)
          (ap (λ (n : ℕ). n * 16384 + 4) c.from.ensures) c.from-then-ends_in_crc32c.ensures (c.from-then-ends_in_crc32c-2.ensures ∙ c.be32_at-then-ends_in_crc32c.ensures),
    )

pub returns-in-Some-clause-note : goal.returns-in-Some-clause-note
returns-in-Some-clause-note c =
    λ es is listed.
    let x = c.args.home.now in
    let zero = zero_test x c.are_zero-zero.result c.are_zero-zero.ensures.yes c.are_zero-zero.ensures.no in
    let placed : (are_zero x ≡ true) ⊎ (ends_in_sum x ≡ false) = elim c.else-not-zero.branch [
      | else-not-zero-via-then-not-zero+else-ends_in_crc32c w ↦ inr (torn_of w.ends_in_crc32c.result x w.ends_in_crc32c.ensures.ends w.if-ends_in_crc32c.false)
      | else-not-zero-via-else-not-zero w ↦ inl (zero ∙ w.if-not-zero.false)
    ] in
    copy_note es c.args.space c.args.page x is (sym c.is_page_text.ensures ∙ c.if-is_page_text.false) c.args.copies.now c.in-Some.copied.now c.be32_at-in-Some.result placed listed
    (sym c.newest_copy.ensures ∙ ap (option_map (λ o. o.now)) c.in-Some.is)
    (c.be32_at-in-Some.ensures ∙ ap (λ (l : List ℕ). be32_at l 0) c.bytes.ensures.bytes)

pub returns-then-page-ne0-clause-note : goal.returns-then-page-ne0-clause-note
returns-then-page-ne0-clause-note c =
    λ es is listed.
    let x = c.args.home.now in
    let zero = zero_test x c.are_zero-zero.result c.are_zero-zero.ensures.yes c.are_zero-zero.ensures.no in
    unused_note es c.args.space c.args.page x is (sym c.is_page_text.ensures ∙ c.if-is_page_text.false) c.args.copies.now listed
    (sym c.newest_copy.ensures ∙ ap (option_map (λ o. o.now)) c.in_default.is) (zero ∙ c.if-zero.true) c.if-page-ne0.true

pub returns-clause-refused : goal.returns-clause-refused
returns-clause-refused c =
    λ es is listed.
    let x = c.args.home.now in
    let p = c.args.page in
    let none = sym c.is_page_text.ensures ∙ c.if-is_page_text.false in
    let zero = zero_test x c.are_zero-zero.result c.are_zero-zero.ensures.yes c.are_zero-zero.ensures.no in
    let torn : are_zero x ≡ false → ends_in_sum x ≡ false = λ some. elim c.else-not-zero.branch [
      | else-not-zero-via-then-not-zero+else-ends_in_crc32c w ↦ torn_of w.ends_in_crc32c.result x w.ends_in_crc32c.ensures.ends w.if-ends_in_crc32c.false
      | else-not-zero-via-else-not-zero w ↦ absurd (true≢false (sym (zero ∙ w.if-not-zero.false) ∙ some))
    ] in
    let both : ((p ≡ 0) ⊎ (are_zero x ≡ false)) × (ends_in_sum x ≡ false) = elim c.else-zero.branch [
      | else-zero-via-then-zero+else-page-ne0 w ↦ (inl w.if-page-ne0.false, zero_unmatched p x c.requires.long (zero ∙ w.if-zero.true) w.if-page-ne0.false none)
      | else-zero-via-else-zero w ↦ (inr (zero ∙ w.if-zero.false), torn (zero ∙ w.if-zero.false))
    ] in
    subst (λ why. IsHomeRefusal c.args.space p why es) (sym c.damaged.ensures)
    (refl, no_source es c.args.space p x is none c.args.copies.now listed (sym c.newest_copy.ensures ∙ ap (option_map (λ o. o.now)) c.in_default.is) _ _ _ both.0 both.1 refl refl refl)
