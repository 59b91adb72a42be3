-- The parts of a page, joined and put in place of others.
use Rattle.std.proofs.Common.{◌≡◌, ℕ, ◌+◌, ◌-◌, ◌≤◌, List, ◌++◌, length, take, sym, ap, subst, ◌∙◌, arith}
use Rattle.byte_list.proofs.PartLaws.{cut_at, length_with_part, part_rest}
use Rattle.page_text.specs.Parts.{with_part, IsPageSize, header, body, trailer}

pub longer : (n : ℕ) → IsPageSize n → 46 ≤ n
longer n size = grind arith

pub parts_joined : (page : List ℕ) → IsPageSize (length page) → header page ++ (body page ++ trailer page) ≡ page
parts_joined page size =
    let enough : 46 ≤ length page = longer (length page) size in
    ap (λ t. take 38 page ++ (body page ++ t)) (part_rest page (length page - 8)) ∙ cut_at page 38 (length page - 8) (omega arith)

-- a part that is as long as the one in whose place it is put keeps the page's size
pub stays_a_page : (page : List ℕ) (at to : ℕ) (part : List ℕ) → IsPageSize (length page) → length part + at ≡ to → to ≤ length page → IsPageSize (length (with_part page at to part))
stays_a_page page at to part size long inside = subst IsPageSize (sym (length_with_part page at to part long inside)) size
