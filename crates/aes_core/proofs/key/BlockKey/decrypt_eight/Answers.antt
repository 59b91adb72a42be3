use Rattle.std.proofs.Common.{ℕ, List, [], ◌+◌, ◌/◌, get_or, ap, ◌∙◌, arith}
use Rattle.aes_core.specs.Cipher.{decrypted_by, schedule}
use Rattle.aes_core.specs.Planes.{AreKeyPlanes}
use Rattle.aes_core.proofs.WordKeys.{opened_count}
use Rattle.aes_core.proofs.key.BlockKey.decrypt_eight.Goals as goal

pub decrypt_eight-requires-clause-keys : goal.decrypt_eight-requires-clause-keys
decrypt_eight-requires-clause-keys c =
    let i = c.self.inside in
    let rounds = opened_count i.words i.back i.key_len c.args.self.now c.self.invariant c.self.view_is in
    λ r le. c.requires.key.planes r (omega (arith, rounds))

pub returns-clause-value : goal.returns-clause-value
returns-clause-value c b lt =
    let i = c.self.inside in
    let rounds = opened_count i.words i.back i.key_len c.args.self.now c.self.invariant c.self.view_is in
    let w : List ℕ = schedule c.args.self.now in
    let k : AreKeyPlanes c.args.planes.now w (i.key_len / 4 + 6) = rw rounds c.requires.key in
    c.decrypt_eight.ensures.value w k b lt ∙ ap (λ (n : ℕ). decrypted_by w n (get_or c.args.blocks b [])) rounds
