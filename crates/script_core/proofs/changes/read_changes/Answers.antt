use Rattle.std.proofs.Common.{◌≡◌, ◌+◌, ◌<◌, rules, ◌∷◌, codes, length, arith, refl, sym, subst}
use Rattle.std.proofs.lemmas.Bool.Decides.{when_true, when_false}
use Rattle.std.proofs.lemmas.List.{length_push}
use Rattle.script_core.specs.Fields.{ForFault}
use Rattle.script_core.specs.Statements.{ChangeFault, ChangesFault, IsChange, InChange, NoSemicolon, Full}
use Rattle.script_core.specs.declared.fault.LineError.TheVariants.{Fault}
use Rattle.script_core.specs.declared.fault.LineFault.TheVariants as fault
use Rattle.script_core.proofs.FieldLemmas.{fault_more}
use Rattle.script_core.proofs.ChangeLemmas.{gives_more, gives_last, faults_more, change_shorter}
use Rattle.script_core.proofs.changes.read_changes.Goals as goal
use Rattle.cause_core.proofs.Causes.{handed}

pub returns-in_err-change-clause-err : goal.returns-in_err-change-clause-err
returns-in_err-change-clause-err c =
    let loop = c.loop-changes in
    handed (λ e. ForFault e (ChangesFault 0 c.args.words.now)) c.from_residual.result c.in_err-change.field-0.0 (search rules)
    (fault_more (ChangeFault loop.words) (ChangesFault 0 c.args.words.now) c.in_err-change.field-0.0 c.in_err-change.ensures.err
    (λ kind is. loop.invariant.fault kind (InChange (length loop.changes.items) loop.words kind is)))

pub returns-in_err-take_semicolon-clause-err : goal.returns-in_err-take_semicolon-clause-err
returns-in_err-take_semicolon-clause-err c =
    let loop = c.loop-changes in
    let kind = c.in_err-take_semicolon.field-0.0 in
    let found = c.in_err-take_semicolon.ensures.err in
    let other = found.1 in
    let is : IsChange c.in_ok-change.change loop.words (other.0 ∷ other.1) = subst (IsChange c.in_ok-change.change loop.words) other.2 c.in_ok-change.ensures.ok in
    handed (λ e. ForFault e (ChangesFault 0 c.args.words.now)) c.from_residual-in_err-take_semicolon.result (Fault kind) (search rules)
    (loop.invariant.fault kind (subst (ChangesFault (length loop.changes.items) loop.words) (sym found.0) (NoSemicolon (length loop.changes.items) loop.words other.1 c.in_ok-change.change other.0 is other.3)))

pub returns-then-not-branch-clause-ok : goal.returns-then-not-branch-clause-ok
returns-then-not-branch-clause-ok c =
    let loop = c.loop-changes in
    let ends = when_false _ _ c.if-not-branch.true c.in_ok-take_semicolon.ensures.ok in
    let are = gives_last loop.changes.items c.push.new.self.items c.in_ok-change.change loop.words c.read_change.new.words c.args.words.now c.in_ok-push.ensures.items c.in_ok-change.ensures.ok ends loop.invariant.whole in
    let size = length_push loop.changes.items c.in_ok-change.change in
    (subst (λ cs. cs) refl (search (rules, are, c.of.ensures)), search (rules, size, c.of.ensures, c.in_ok-push.ensures.items))

pub returns-then-len-eq-MOST_CHANGES-clause-err : goal.returns-then-len-eq-MOST_CHANGES-clause-err
returns-then-len-eq-MOST_CHANGES-clause-err c =
    let loop = c.loop-changes in
    let follows = when_true _ _ c.if-not-branch.false c.in_ok-take_semicolon.ensures.ok in
    let size = length_push loop.changes.items c.in_ok-change.change in
    let grown : length c.push.new.self.items ≡ length loop.changes.items + 1 = grind (arith, size) in
    let is : IsChange c.in_ok-change.change loop.words (codes ";" ∷ c.take_semicolon.new.words) = subst (IsChange c.in_ok-change.change loop.words) follows c.in_ok-change.ensures.ok in
    loop.invariant.fault fault.TooMany (Full (length loop.changes.items) loop.words c.take_semicolon.new.words c.in_ok-change.change is (omega (arith, grown, c.len.ensures, c.if-len-eq-MOST_CHANGES.true)))

pub loop-changes-smaller : goal.loop-changes-smaller
loop-changes-smaller c =
    let follows = when_true _ _ c.if-not-branch.false c.in_ok-take_semicolon.ensures.ok in
    change_shorter c.in_ok-change.change c.loop-changes.words c.take_semicolon.new.words c.read_change.new.words c.in_ok-change.ensures.ok follows

pub loop-changes-preserved : goal.loop-changes-preserved
loop-changes-preserved c =
    let loop = c.loop-changes in
    let follows = when_true _ _ c.if-not-branch.false c.in_ok-take_semicolon.ensures.ok in
    let size = length_push loop.changes.items c.in_ok-change.change in
    let grown : length c.push.new.self.items ≡ length loop.changes.items + 1 = grind (arith, size) in
    let room : length c.push.new.self.items < 64 = omega (arith, grown, c.len.ensures, c.if-len-eq-MOST_CHANGES.false, loop.invariant.room) in
    record {
      room = room;
      whole = gives_more loop.changes.items c.push.new.self.items c.in_ok-change.change loop.words c.take_semicolon.new.words c.read_change.new.words c.args.words.now c.in_ok-push.ensures.items c.in_ok-change.ensures.ok follows loop.invariant.whole;
      fault = faults_more (length loop.changes.items) c.in_ok-change.change loop.words c.take_semicolon.new.words c.read_change.new.words c.args.words.now (length c.push.new.self.items) grown room c.in_ok-change.ensures.ok follows loop.invariant.fault;
    }
