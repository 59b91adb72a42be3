-- What a page ends as where a part of it is lent.
use Rattle.std.specs.Prelude.{ℕ, List}
use Rattle.std.specs.Borrow.{Lends, MutBor, Fml, Array, u8, RattleType}
use Rattle.page_text.specs.Parts.{with_part}
use Rattle.page_text.specs.declared.parts.WritablePage.{WritablePage}
use Rattle.page_text.specs.contracts.parts.WritablePage.{the_row}

-- The page ends with what is left behind the part in place of its bytes from `at` up to `to`, and with
-- all else as it was. B is the type that holds the page's bytes.
abbrev pub LendsPart : (B : RattleType) → (B.Denot → List ℕ) → (B.Denot → List ℕ → B.Denot) → MutBor (WritablePage B.Denot) → ℕ → ℕ → MutBor (List ℕ) → Fml
LendsPart B bytes with_bytes page at to part =
    Lends (the_row B) (Array u8 0) page part (λ new. record page.now { bytes = with_bytes page.now.bytes (with_part (bytes page.now.bytes) at to new) })
