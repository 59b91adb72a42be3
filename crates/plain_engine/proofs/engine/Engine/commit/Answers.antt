use Rattle.std.proofs.Common.{◌≡◌, ◌+◌, ◌<◌, length, subst, arith, rules}
use Rattle.plain_engine.specs.Text.{mtr_text}
use Rattle.plain_engine.specs.Block.{IsLogBlock}
use Rattle.plain_engine.proofs.Keeping.{sound_push}
use Rattle.plain_engine.proofs.engine.Engine.commit.Goals as goal

pub append-requires-clause-room : goal.append-requires-clause-room
append-requires-clause-room g c = omega (arith, c.self.invariant.count, c.self.invariant.room)

pub invariant_of-self-in-Ok-push : goal.invariant_of-self-in-Ok-push
invariant_of-self-in-Ok-push g c =
    let journal = c.self.inside.journal.items in
    let long : c.len.result ≡ length journal = search rules in
    let room : length journal < 256 = search rules in
    let appended = c.in-Ok.ensures.ok in
    let number : IsLogBlock (length journal + 2) (mtr_text c.args.mtr) appended.0 = subst (λ k. IsLogBlock (k + 2) (mtr_text c.args.mtr) appended.0) c.self.invariant.count appended.2 in
    rw (c.in-Ok-push.ensures.items, appended.1, c.in-Ok.ensures.settled, c.in-Ok.ensures.acked)
    (sound_push g.D.Disk.past g.D.Disk.may_fail_to_tell _ _ _ appended.0 c.self.invariant number c.requires.small (omega (arith, long)) room)

pub returns-clause-stands : goal.returns-clause-stands
returns-clause-stands g c = (invariant_of-self-in-Ok-push g c).since

pub returns-clause-exact : goal.returns-clause-exact
returns-clause-exact g c = (invariant_of-self-in-Ok-push g c).exact
