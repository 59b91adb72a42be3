use Rattle.std.proofs.Common.{ℕ, List, [], ◌+◌, ◌/◌, get_or, ap, ◌∙◌, arith}
use Rattle.aes_core.specs.Cipher.{encrypted_by, schedule}
use Rattle.aes_core.specs.Planes.{AreKeyPlanes}
use Rattle.aes_core.proofs.WordKeys.{opened_count}
use Rattle.aes_core.proofs.key.BlockKey.encrypt_eight.Goals as goal

pub encrypt_eight-requires-clause-keys : goal.encrypt_eight-requires-clause-keys
encrypt_eight-requires-clause-keys c =
    let i = c.self.inside in
    let rounds = opened_count i.words i.back i.key_len c.args.self.now c.self.invariant c.self.view_is in
    λ r le. c.requires.key.planes r (omega (arith, rounds))

pub returns-clause-value : goal.returns-clause-value
returns-clause-value c b lt =
    let i = c.self.inside in
    let rounds = opened_count i.words i.back i.key_len c.args.self.now c.self.invariant c.self.view_is in
    let w : List ℕ = schedule c.args.self.now in
    let k : AreKeyPlanes c.args.planes.now w (i.key_len / 4 + 6) = rw rounds c.requires.key in
    c.encrypt_eight.ensures.value w k b lt ∙ ap (λ (n : ℕ). encrypted_by w n (get_or c.args.blocks b [])) rounds
