use Rattle.std.proofs.Common.{◌≡◌, ℕ, List, [], ◌∷◌, length, take, get_or, ap, sym, ◌∙◌, arith}
use Rattle.std.specs.Int.{to_be_bytes, from_be_bytes, w16, w32}
use Rattle.bytes_core.specs.Crc.{crc32c}
use Rattle.plain_engine.specs.Block.{block_head}
use Rattle.plain_engine.proofs.BlocksRead.{block-used, block-head, block-sum, block_of_parts}
use Rattle.plain_engine.proofs.reading.read_block.Goals as goal
use Rattle.plain_engine.proofs.reading.read_block.Goals.{then-used-eq0-via-then-used-eq0, then-used-eq0-via-else-used-eq0+then-used-gt4076}

pub returns-then-used-eq0-clause-none : goal.returns-then-used-eq0-clause-none
returns-then-used-eq0-clause-none c = λ text b.
    let head : c.split_at-2.result.0.now ≡ take 16 (take 4092 c.args.block.now) = c.split_at-2.ensures.front ∙ ap (λ (l : List ℕ). take 16 l) c.split_at.ensures.front in
    let used : c.from_be_bytes-used.result ≡ length text = c.from_be_bytes-used.ensures ∙ ap (λ (l : List ℕ). from_be_bytes w16 (get_or l 12 0 ∷ get_or l 13 0 ∷ [])) head ∙ block-used b in
    elim c.then-used-eq0.branch [
      | then-used-eq0-via-then-used-eq0 w ↦ omega (arith, used, b.some, b.size)
      | then-used-eq0-via-else-used-eq0+then-used-gt4076 w ↦ omega (arith, used, b.some, b.size)
    ]

pub returns-then-not-has_head-clause-none : goal.returns-then-not-has_head-clause-none
returns-then-not-has_head-clause-none c = λ text b.
    let head : c.split_at-2.result.0.now ≡ take 16 (take 4092 c.args.block.now) = c.split_at-2.ensures.front ∙ ap (λ (l : List ℕ). take 16 l) c.split_at.ensures.front in
    let used : c.from_be_bytes-used.result ≡ length text = c.from_be_bytes-used.ensures ∙ ap (λ (l : List ℕ). from_be_bytes w16 (get_or l 12 0 ∷ get_or l 13 0 ∷ [])) head ∙ block-used b in
    c.has_head.ensures.no c.if-not-has_head.true (head ∙ block-head b ∙ ap (block_head c.args.number) (sym used))

pub returns-then-not-has_sum-clause-none : goal.returns-then-not-has_sum-clause-none
returns-then-not-has_sum-clause-none c = λ text b.
    c.has_sum.ensures.no c.if-not-has_sum.true (c.split_at.ensures.back ∙ block-sum b ∙ ap (λ (l : List ℕ). to_be_bytes w32 (crc32c l)) (sym c.split_at.ensures.front))

pub returns-clause-found : goal.returns-clause-found
returns-clause-found c =
    let head : c.split_at-2.result.0.now ≡ take 16 (take 4092 c.args.block.now) = c.split_at-2.ensures.front ∙ ap (λ (l : List ℕ). take 16 l) c.split_at.ensures.front in
    let yes = c.has_head.ensures.yes c.if-not-has_head.false in
    let sum = sym c.split_at.ensures.back ∙ c.has_sum.ensures.yes c.if-not-has_sum.false ∙ ap (λ (l : List ℕ). to_be_bytes w32 (crc32c l)) c.split_at.ensures.front in
    rw (c.split_at-3.ensures.front, c.split_at-2.ensures.back, c.split_at.ensures.front)
    (block_of_parts c.args.number c.from_be_bytes-used.result c.args.block.now c.requires (omega arith) (omega arith) c.if-used-gt4076.false (sym head ∙ yes) sum)
