use Rattle.std.proofs.Common.{[], ap, refl, ◌∙◌}
use Rattle.std.proofs.lemmas.Simd.{Each1-replicate, get_or-replicate}
use Rattle.aes_core.specs.Cipher.{IsCipherBlock, state_of}
use Rattle.aes_core.proofs.PlaneLists.{are_planes, state_is}
use Rattle.aes_core.proofs.WordsAt.{key_words}
use Rattle.aes_core.proofs.planes.key_planes_at.Goals as goal

pub transpose-requires : goal.transpose-requires
transpose-requires c =
    let k = c.store-key.result in
    let is : IsCipherBlock k = rw c.store-key.ensures (state_is c.words_at.result) in
    are_planes _ refl (Each1-replicate IsCipherBlock 8 k is)

pub returns-clause-key : goal.returns-clause-key
returns-clause-key c b h =
    c.transpose.ensures.packs b h ∙ get_or-replicate 8 b c.store-key.result [] h
    ∙ c.store-key.ensures ∙ ap state_of c.words_at.ensures ∙ key_words c.args.keys.now c.args.r c.requires
