use Rattle.std.proofs.Common.{inl}
use Rattle.std.proofs.lemmas.Result.{MatchResult-weaker}
use Rattle.key_file.proofs.KeyFiles.{gathered_reads, reads_key_one, reads_keys}
use Rattle.key_file.proofs.plain.parse_plain.Goals as goal

pub returns-clause-reads : goal.returns-clause-reads
returns-clause-reads c = MatchResult-weaker c.listed.result c.listed.ensures
    (λ items e. gathered_reads c.args.bytes.now c.in_ok-keys.keys c.in_ok-keys.ensures c.len.ensures.ordered c.if-not-contains_key.ensures items e)
    (λ fault e. inl e)

pub returns-clause-key_one : goal.returns-clause-key_one
returns-clause-key_one c = MatchResult-weaker c.listed.result c.listed.ensures
    (λ items e. reads_key_one c.args.bytes.now items (gathered_reads c.args.bytes.now c.in_ok-keys.keys c.in_ok-keys.ensures c.len.ensures.ordered c.if-not-contains_key.ensures items e))
    (λ fault e. tt)

pub returns-clause-ids : goal.returns-clause-ids
returns-clause-ids c = MatchResult-weaker c.listed.result c.listed.ensures
    (λ items e id key h.
    (reads_keys c.args.bytes.now items (gathered_reads c.args.bytes.now c.in_ok-keys.keys c.in_ok-keys.ensures c.len.ensures.ordered c.if-not-contains_key.ensures items e) id key h).0)
    (λ fault e. tt)

pub returns-clause-key_lengths : goal.returns-clause-key_lengths
returns-clause-key_lengths c = MatchResult-weaker c.listed.result c.listed.ensures
    (λ items e id key h.
    (reads_keys c.args.bytes.now items (gathered_reads c.args.bytes.now c.in_ok-keys.keys c.in_ok-keys.ensures c.len.ensures.ordered c.if-not-contains_key.ensures items e) id key h).1)
    (λ fault e. tt)
