-- The test of a range.
use Rattle.std.proofs.Common.{◌≡◌, ℕ, ◌+◌, true, ◌&&◌}
use Rattle.std.specs.Prelude.{nat_le}
use Rattle.std.proofs.lemmas.Bool.{and_parts, and_from, leb-true, le-leb}
use Rattle.redo_text.specs.Text.{IsRange}
use Rattle.script_core.specs.Checks.{is_range, TellsRange}

pub tells_range : (at size : ℕ) → TellsRange at size
tells_range at size = (to, from)
  where
    to : is_range at size ≡ true → IsRange at size
    to holds =
        let outer = and_parts (nat_le 1 size) (nat_le 38 at && nat_le (at + size) 16376) holds in
        let inner = and_parts (nat_le 38 at) (nat_le (at + size) 16376) outer.1 in
        record { some = leb-true 1 size outer.0; from = leb-true 38 at inner.0; to = leb-true (at + size) 16376 inner.1 }

    from : IsRange at size → is_range at size ≡ true
    from is =
        and_from (nat_le 1 size) (nat_le 38 at && nat_le (at + size) 16376) (le-leb 1 size is.some)
        (and_from (nat_le 38 at) (nat_le (at + size) 16376) (le-leb 38 at is.from) (le-leb (at + size) 16376 is.to))
