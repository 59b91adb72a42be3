-- The states of a page and the tests on pages.
use Rattle.std.proofs.Common.{◌≡◌, ◌≢◌, ℕ, Bool, true, false, not, eqb, List, [], cond, refl, sym, ap, ap₂, ◌∙◌}
use Rattle.std.specs.List.{list_all}
use Rattle.std.proofs.lemmas.Bool.{eq-eqb, eqb-true, ne_eqb}
use Rattle.std.proofs.lemmas.List.Sums.{AllPass-from_list_all, list_all-from_AllPass}
use Rattle.page_text.specs.State.{IsState, IsZero, computed_sum, stored_sum}
use Rattle.page_text.specs.declared.state.PageState.{PageState}
use Rattle.page_text.specs.declared.state.PageState.TheVariants.{Bad, Valid, Zero}
use Rattle.innochecksum_cli.specs.Pages.{FilePage, is_mismatch, is_zero}
use Rattle.innochecksum_cli.specs.Lines.{line_of_page, mismatch_line}
use Rattle.innochecksum_cli.specs.States.{is_bad_state, is_zero_state}

false_where : (b : Bool) → (b ≡ true → ⊥) → false ≡ b
false_where true h = absurd (h refl)
false_where false h = refl

not_zero : (bytes : List ℕ) → (IsZero bytes → ⊥) → false ≡ list_all (λ b. eqb b 0) bytes
not_zero bytes h = false_where _ (λ e. h (λ k d below. eqb-true _ _ (AllPass-from_list_all (λ b. eqb b 0) bytes e k d below)))

pub zero_is : (bytes : List ℕ) (number : ℕ) (state : PageState) → IsState bytes state → is_zero_state state ≡ is_zero (record { number = number; bytes = bytes })
unfolding is_zero
zero_is bytes number Zero h = sym (list_all-from_AllPass (λ b. eqb b 0) bytes (λ k d below. eq-eqb _ _ (h k d below)))
zero_is bytes number Valid h = not_zero bytes h.0
zero_is bytes number (Bad stored computed) h = not_zero bytes h.0

both : (zero same : Bool) → zero ≡ false → same ≡ false → true ≡ cond (not zero) (not same) false
both zero same z s = rw (z, s) refl

pub bad_is : (bytes : List ℕ) (number : ℕ) (state : PageState) → IsState bytes state → is_bad_state state ≡ is_mismatch (record { number = number; bytes = bytes })
unfolding is_mismatch
bad_is bytes number Zero h = rw (← zero_is bytes number Zero h) refl
bad_is bytes number Valid h = rw (← zero_is bytes number Valid h, eq-eqb _ _ h.1) refl
bad_is bytes number (Bad stored computed) h =
    let differ : stored_sum bytes ≢ computed_sum bytes = λ e. h.3 (h.1 ∙ e ∙ sym h.2) in
    rw (← zero_is bytes number (Bad stored computed) h, ne_eqb _ _ differ) refl

-- the line of a bad page, and none of another
pub bad_line : (bytes : List ℕ) (number stored computed : ℕ) → IsState bytes (Bad stored computed)
    → mismatch_line number stored computed ≡ line_of_page (record { number = number; bytes = bytes })
bad_line bytes number stored computed h =
    let page : FilePage = record { number = number; bytes = bytes } in
    ap₂ (mismatch_line number) h.1 h.2
    ∙ ap (λ (b : Bool). cond b (mismatch_line number (stored_sum bytes) (computed_sum bytes)) []) (bad_is bytes number (Bad stored computed) h)

pub no_line : (bytes : List ℕ) (number : ℕ) (state : PageState) → IsState bytes state → ((stored computed : ℕ) → state ≡ Bad stored computed → ⊥)
    → [] ≡ line_of_page (record { number = number; bytes = bytes })
no_line bytes number Zero h other =
    ap (λ (b : Bool). cond b (mismatch_line number (stored_sum bytes) (computed_sum bytes)) []) (bad_is bytes number Zero h)
no_line bytes number Valid h other =
    ap (λ (b : Bool). cond b (mismatch_line number (stored_sum bytes) (computed_sum bytes)) []) (bad_is bytes number Valid h)
no_line bytes number (Bad stored computed) h other = absurd (other stored computed refl)
