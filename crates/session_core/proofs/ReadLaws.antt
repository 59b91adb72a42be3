-- The parts of a page that are read.
use Rattle.std.proofs.Common.{◌≡◌, ℕ, ◌+◌, ◌-◌, ◌≤◌, List, length, Some, None, refl, sym, ap, ◌∙◌, arith}
use Rattle.byte_list.specs.Bytes.{range, zeros}
use Rattle.byte_list.proofs.RangeLaws.{range-range, range-zeros}
use Rattle.page_pool.specs.Pages.{plain_page}
use Rattle.redo_text.specs.Text.{IsRange}
use Rattle.session_core.specs.Reading.{part_of_page}

-- a part of a page's body stands in the page's bytes
pub part_used : (bytes : List ℕ) (at size : ℕ) → IsRange at size → range at size bytes ≡ part_of_page at size (Some (plain_page bytes))
unfolding plain_page
part_used bytes at size is =
    let from = is.from in
    let to = is.to in
    let within : (at - 38) + size ≤ 16338 = omega (arith, from, to) in
    let place : 38 + (at - 38) ≡ at = omega (arith, from) in
    ap (λ (n : ℕ). range n size bytes) (sym place) ∙ sym (range-range (at - 38) size 38 16338 bytes within)

-- and of an unused page it is zero bytes
pub part_unused : (at size : ℕ) → IsRange at size → zeros size ≡ part_of_page at size None
part_unused at size is =
    let from = is.from in
    let to = is.to in
    let within : (at - 38) + size ≤ 16338 = omega (arith, from, to) in
    sym (range-zeros (at - 38) size 16338 within)
