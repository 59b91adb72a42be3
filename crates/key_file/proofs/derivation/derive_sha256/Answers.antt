use Rattle.std.proofs.Common.{◌∙◌, rules}
use Rattle.key_file.proofs.Streams.{sha256_iv, sha256_key}
use Rattle.key_file.proofs.derivation.derive_sha256.Goals as goal

pub returns-clause-key : goal.returns-clause-key
returns-clause-key c =
    sha256_key c.args.password.now c.args.salt.now c.next_sha256-key.result c.next_sha256-second.result
    c.next_sha256-key.ensures c.next_sha256-second.ensures (search rules) (search rules)

pub returns-clause-iv : goal.returns-clause-iv
returns-clause-iv c =
    c.copy_from_slice.ensures.after ∙ sha256_iv c.args.password.now c.args.salt.now c.next_sha256-key.result c.next_sha256-second.result
    c.next_sha256-key.ensures c.next_sha256-second.ensures (search rules) (search rules)
