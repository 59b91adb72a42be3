use Rattle.std.proofs.Common.{◌∙◌, rules}
use Rattle.key_file.proofs.Streams.{sha1_iv, sha1_key}
use Rattle.key_file.proofs.derivation.derive_sha1.Goals as goal

pub returns-clause-key : goal.returns-clause-key
returns-clause-key c =
    c.fill.ensures ∙ sha1_key c.args.password.now c.args.salt.now c.next_sha1-first.result c.next_sha1-second.result c.next_sha1-third.result
    c.next_sha1-first.ensures c.next_sha1-second.ensures c.next_sha1-third.ensures (search rules) (search rules) (search rules)

pub returns-clause-iv : goal.returns-clause-iv
returns-clause-iv c =
    c.fill-2.ensures ∙ sha1_iv c.args.password.now c.args.salt.now c.next_sha1-first.result c.next_sha1-second.result c.next_sha1-third.result
    c.next_sha1-first.ensures c.next_sha1-second.ensures c.next_sha1-third.ensures (search rules) (search rules) (search rules)
