use Rattle.recovery.proofs.SpacesFound.{seal_in_clear, seal_lacks, seal_with}
use Rattle.recovery.proofs.spaces.seal_key_of.Goals as goal

pub returns-then-version-eq0-clause-some : goal.returns-then-version-eq0-clause-some
returns-then-version-eq0-clause-some c = seal_in_clear c.args.ring.now c.args.algorithm c.args.active c.args.info.now c.len-count.ensures.ring.versions c.seal_version-version.result c.seal_version-version.ensures c.if-version-eq0.true

pub returns-in-Some-clause-some : goal.returns-in-Some-clause-some
returns-in-Some-clause-some c = seal_with c.args.ring.now c.args.algorithm c.args.active c.args.info.now c.len-count.ensures.ring.versions c.seal_version-version.result c.seal_version-version.ensures c.in-Some.key c.in-Some.ensures.value c.in-Some.ensures.known

pub returns-in-None-clause-none : goal.returns-in-None-clause-none
returns-in-None-clause-none c = seal_lacks c.args.ring.now c.args.algorithm c.args.active c.args.info.now c.len-count.ensures.ring.versions c.seal_version-version.result c.seal_version-version.ensures c.if-version-eq0.false c.in-None.ensures.value
