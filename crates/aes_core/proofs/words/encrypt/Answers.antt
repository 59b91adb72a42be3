use Rattle.std.proofs.Common.{List, ℕ, ap, ◌∙◌, arith}
use Rattle.std.proofs.lemmas.List.{take_all}
use Rattle.aes_core.specs.Cipher.{bytes_of, encrypted_by}
use Rattle.aes_core.proofs.words.encrypt.Goals as goal

pub returns : goal.returns
returns c =
    c.store-block.ensures ∙ c.encrypt_words-end.ensures
    ∙ ap (λ (s : List ℕ). encrypted_by (bytes_of c.args.keys.now) c.args.rounds s) (c.four_words-first.ensures ∙ take_all 16 c.args.s.now (omega arith))
