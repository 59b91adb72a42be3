use Rattle.std.proofs.Common.{◌≡◌, ◌++◌, [], ◌∷◌, sym, ◌∙◌, ap, subst, arith}
use Rattle.std.specs.Vec.Iter.{into_iter_items}
use mathlib.Core.List.{append_assoc}
use Rattle.keyd_cli.specs.Session.{AreAckedWithin}
use Rattle.keyd_cli.proofs.Sessions.{entries_more, replies_more, next_runnable, next_room, acked_more}
use Rattle.keyd_cli.proofs.session.run_statements.Goals as goal

pub answer-requires-clause-small : goal.answer-requires-clause-small
answer-requires-clause-small g c =
    let i = c.loop-statement.invariant in
    let split = i.left ∙ ap (λ ss. c.loop-statement.yielded ++ ss) c.in-Some.ensures.steps.0 in
    next_runnable c.args.statements.items c.loop-statement.yielded c.in-Some.statement (into_iter_items c.next.new.self) split c.requires.small

pub answer-requires-clause-room : goal.answer-requires-clause-room
answer-requires-clause-room g c =
    let i = c.loop-statement.invariant in
    let split = i.left ∙ ap (λ ss. c.loop-statement.yielded ++ ss) c.in-Some.ensures.steps.0 in
    next_room c.args.statements.items c.loop-statement.yielded c.in-Some.statement (into_iter_items c.next.new.self) c.loop-statement.engine.journal 0 0 split i.entries c.requires.room

pub loop-statement-preserved : goal.loop-statement-preserved
loop-statement-preserved g c =
    let i = c.loop-statement.invariant in
    let done = rw c.in-Some-2.is at c.in_ok-reply.ensures.done in
    let after = rw c.in-Some-2.is at c.in_ok-reply.ensures.acked in
    let acked = acked_more c.in-Some.statement.line c.in-Some.statement.act c.loop-statement.engine.journal c.answer.new.engine.journal c.loop-statement.engine.acked c.answer.new.engine.acked
    c.loop-statement.replies.items c.push.new.self.items c.in-Some-2.reply done.0 (ap (λ r. r.answer) done.1) c.in_ok-push.ensures.items after i.within i.low in
    record {
      next = tt;
      finite = tt;
      left = i.left ∙ ap (λ ss. c.loop-statement.yielded ++ ss) c.in-Some.ensures.steps.0 ∙ sym (append_assoc c.loop-statement.yielded (c.in-Some.statement ∷ []) (into_iter_items c.next.new.self));
      entries = entries_more c.loop-statement.yielded c.in-Some.statement c.loop-statement.engine.journal c.answer.new.engine.journal i.entries done.0;
      replied = replies_more c.loop-statement.yielded c.in-Some.statement c.loop-statement.engine.journal c.loop-statement.replies.items c.push.new.self.items i.entries i.replied
          (c.in_ok-push.ensures.items ∙ ap (λ r. c.loop-statement.replies.items ++ (r ∷ [])) done.1);
      up = done.2;
      within = acked.0;
      low = acked.1;
      later = g.met.D.Disk.is_later_transitive c.args.engine.now.disk c.loop-statement.engine.disk c.answer.new.engine.disk i.later c.answer.ensures.later;
    }

pub loop-statement-init : goal.loop-statement-init
loop-statement-init g c = record {
  next = tt;
  finite = tt;
  left = sym c.into_iter-statement-iterator.ensures.into_iter_gives.0;
  entries = c.requires.empty;
  replied = c.new-replies.ensures.items;
  up = c.requires.up;
  within = subst (AreAckedWithin c.args.engine.now.acked) (sym c.new-replies.ensures.items) tt;
  low = omega (arith, c.requires.unacked);
  later = g.met.D.Disk.is_later_reflexive c.args.engine.now.disk;
}

pub returns-in_default-clause-acked : goal.returns-in_default-clause-acked
returns-in_default-clause-acked g c =
    let same : c.answer.new.engine.acked ≡ c.loop-statement.engine.acked = rw c.in_default.is at c.in_ok-reply.ensures.acked in
    subst (λ n. AreAckedWithin n c.loop-statement.replies.items) (sym same) c.loop-statement.invariant.within

pub returns-in_default-clause-later : goal.returns-in_default-clause-later
returns-in_default-clause-later g c =
    g.met.D.Disk.is_later_transitive c.args.engine.now.disk c.loop-statement.engine.disk c.answer.new.engine.disk c.loop-statement.invariant.later c.answer.ensures.later
