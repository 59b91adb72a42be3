use Rattle.std.proofs.Common.{◌≡◌, ◌∙◌, sym, subst, true, ℕ, List, rules, Option, None}
use Rattle.page_places.specs.Texts.{are_zero}
use Rattle.page_places.proofs.Sums.{not_true}
use Rattle.image_pages.specs.Choosing.{Best}
use Rattle.image_pages.specs.declared.copies.Newest.{Newest}
use Rattle.image_pages.proofs.Choices.{home_choice, copy_choice, unused_choice, nothing_choice}
use Rattle.image_pages.proofs.choosing.chosen_text.Goals as goal
use Rattle.page_places.proofs.Texts.{zero_bytes, bytes_zero}

pub returns-then-is_page_text : goal.returns-then-is_page_text
returns-then-is_page_text c = home_choice c.args.home.now c.args.double.now c.args.space c.args.page (sym c.is_page_text.ensures ∙ c.if-is_page_text.true)

pub returns-in-Some : goal.returns-in-Some
returns-in-Some c =
    copy_choice c.args.home.now c.args.double.now c.args.space c.args.page c.in-Some.newest (sym c.is_page_text.ensures ∙ c.if-is_page_text.false)
    (subst (λ (o : Option Newest). Best c.args.double.now c.args.space c.args.page 64 o) c.in-Some.is c.newest_copy.ensures)

none_found : (double : List ℕ) (s p : ℕ) (o : Option Newest) → Best double s p 64 o → o ≡ None → Best double s p 64 None
none_found double s p o best is = subst (λ (x : Option Newest). Best double s p 64 x) is best

pub returns-then-are_zero : goal.returns-then-are_zero
returns-then-are_zero c =
    let none : c.newest_copy.result ≡ None = search rules in
    unused_choice c.args.home.now c.args.double.now c.args.space c.args.page (sym c.is_page_text.ensures ∙ c.if-is_page_text.false)
    (zero_bytes c.args.home.now (c.are_zero.ensures.yes c.if-are_zero.true))
    (none_found c.args.double.now c.args.space c.args.page c.newest_copy.result c.newest_copy.ensures none)

pub returns : goal.returns
returns c =
    let none : c.newest_copy.result ≡ None = search rules in
    let other : c.are_zero.result ≡ true → ⊥ = search rules in
    nothing_choice c.args.home.now c.args.double.now c.args.space c.args.page (sym c.is_page_text.ensures ∙ c.if-is_page_text.false)
    (not_true (are_zero c.args.home.now) (λ is. other (c.are_zero.ensures.no (bytes_zero c.args.home.now is))))
    (none_found c.args.double.now c.args.space c.args.page c.newest_copy.result c.newest_copy.ensures none)
