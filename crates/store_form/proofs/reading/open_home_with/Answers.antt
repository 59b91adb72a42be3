use Rattle.std.proofs.Common.{◌≡◌, ◌∙◌, Bool, true, false, true≢false, ℕ, List, Option, refl, sym, ap, subst, option_map}
use Rattle.std.specs.Prelude.{MatchBool, Result, Ok}
use Rattle.byte_list.specs.Fields.{be32_at}
use Rattle.page_places.specs.Texts.{are_zero}
use Rattle.page_text.specs.declared.key.PageKey.{PageKey}
use Rattle.space_head.specs.declared.space.Home.{Home}
use Rattle.space_head.specs.declared.space.Home.TheVariants.{Unused}
use Rattle.store_form.specs.PageRead.{IsHomeOpened, IsTextOpened}
use Rattle.store_form.specs.declared.fault.RestFault.{RestFault}
use Rattle.store_form.proofs.Zeros.{zero_test}
use Rattle.store_form.proofs.reading.open_home_with.Goals as goal

unused : (s p id : ℕ) (key : Option PageKey) (bytes : List ℕ) → are_zero bytes ≡ true → IsHomeOpened s p id key bytes bytes (Ok Unused)
unused s p id key bytes zero =
    let result : Result Home RestFault = Ok Unused in
    subst (λ (z : Bool). MatchBool z ((result ≡ Ok Unused) × (bytes ≡ bytes)) (IsTextOpened s p id key bytes bytes result)) (sym zero) (refl, refl)

opened : (s p id : ℕ) (key : Option PageKey) (bytes left : List ℕ) (result : Result Home RestFault) → are_zero bytes ≡ false → IsTextOpened s p id key bytes left result → IsHomeOpened s p id key bytes left result
opened s p id key bytes left result zero is =
    subst (λ (z : Bool). MatchBool z ((result ≡ Ok Unused) × (left ≡ bytes)) (IsTextOpened s p id key bytes left result)) (sym zero) is

pub returns-then-are_zero-clause-opened : goal.returns-then-are_zero-clause-opened
returns-then-are_zero-clause-opened c =
    unused c.args.info.now.space c.args.page c.args.info.now.key_id c.args.key c.args.into.now (zero_test c.args.into.now c.are_zero.result c.are_zero.ensures.yes c.are_zero.ensures.no ∙ c.if-are_zero.true)

pub returns-clause-opened : goal.returns-clause-opened
returns-clause-opened c =
    opened c.args.info.now.space c.args.page c.args.info.now.key_id _ c.args.into.now c.open_text.new.into c.open_text.result
    (zero_test c.args.into.now c.are_zero.result c.are_zero.ensures.yes c.are_zero.ensures.no ∙ c.if-are_zero.false)
    c.open_text.ensures.opened

pub returns-then-are_zero-clause-taken : goal.returns-then-are_zero-clause-taken
returns-then-are_zero-clause-taken c =
    λ zero lsn plain text. absurd (true≢false (sym (zero_test c.args.into.now c.are_zero.result c.are_zero.ensures.yes c.are_zero.ensures.no ∙ c.if-are_zero.true) ∙ zero))

pub returns-clause-taken : goal.returns-clause-taken
returns-clause-taken c = λ zero lsn plain text. c.open_text.ensures.taken lsn plain text
