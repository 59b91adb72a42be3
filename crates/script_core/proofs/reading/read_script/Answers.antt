use Rattle.std.proofs.Common.{◌+◌, rules, arith, subst, ap, length, [], ◌∷◌}
use Rattle.script_core.specs.Words.{script_lines, words_of}
use Rattle.script_core.specs.Scripts.{IsSkipped, IsScript, IsScriptRefusal, Excludes, IsLine}
use Rattle.script_core.proofs.ReadingLemmas.{few_lines, gives_all, gives_skipped, gives_said, gives_end, whole_script, has_batch, refused, numbered}
use Rattle.script_core.proofs.ScriptsOnce.{only_script, no_bad_line, excludes}
use Rattle.script_core.proofs.PrintsBack.{prints_back}
use Rattle.script_core.specs.declared.fault.ScriptFault.TheVariants.{TooMany}
use Rattle.script_core.proofs.reading.read_script.Goals as goal
use Rattle.cause_core.proofs.Causes.{handed}

pub loop-line-init : goal.loop-line-init
loop-line-init c =
    let items = c.new-statements.ensures.items in
    record {
      count = omega (arith, ap length c.new-lines.ensures);
      goes = record {
        before = [];
        tells = c.none-batches.ensures;
        gives = rw (c.new-lines.ensures, items) (gives_all (script_lines c.args.bytes.now));
      };
    }

pub overflow_add-number : goal.overflow_add-number
overflow_add-number c =
    let size = ap length c.in-Some.ensures in
    let few = few_lines c.args.bytes.now in
    omega (arith, few, size, c.loop-line.invariant.count, c.requires.size)

pub returns-in_err-statement-clause-err : goal.returns-in_err-statement-clause-err
returns-in_err-statement-clause-err c =
    let goes = c.loop-line.invariant.goes in
    handed (IsScriptRefusal c.args.bytes.now) c.from_residual.result c.in_err-statement.field-0.0 (search rules)
    (refused (c.loop-line.number + 1) goes.before c.in-Some.line.now c.next.new.self c.loop-line.lines c.args.bytes.now c.loop-line.statements.items c.in_err-statement.field-0.0 c.in-Some.ensures
    (c.in_err-statement.ensures.err goes.before goes.tells) goes.gives)

pub returns-in_err-statement-clause-excludes : goal.returns-in_err-statement-clause-excludes
returns-in_err-statement-clause-excludes c =
    let goes = c.loop-line.invariant.goes in
    let text = c.args.bytes.now in
    let error = c.in_err-statement.field-0.0 in
    handed (Excludes text) c.from_residual.result error (search rules)
    (excludes text error
    (refused (c.loop-line.number + 1) goes.before c.in-Some.line.now c.next.new.self c.loop-line.lines text c.loop-line.statements.items error c.in-Some.ensures
    (c.in_err-statement.ensures.err goes.before goes.tells) goes.gives))

pub loop-line-preserved-in_default-2 : goal.loop-line-preserved-in_default-2
loop-line-preserved-in_default-2 c =
    let goes = c.loop-line.invariant.goes in
    let size = ap length c.in-Some.ensures in
    let number = c.loop-line.number + 1 in
    let skipped : IsSkipped c.in-Some.line.now = subst (IsLine goes.before number c.in-Some.line.now) c.in_default-2.is (c.in_ok-statement.ensures.ok goes.before goes.tells) in
    record {
      count = omega (arith, size, c.loop-line.invariant.count);
      goes = record {
        before = goes.before;
        tells = goes.tells;
        gives = gives_skipped number goes.before c.in-Some.line.now c.next.new.self c.loop-line.lines (script_lines c.args.bytes.now) c.loop-line.statements.items c.in-Some.ensures skipped goes.gives;
      };
    }

pub note-requires : goal.note-requires
note-requires c =
    let goes = c.loop-line.invariant.goes in
    let is = subst (IsLine goes.before (c.loop-line.number + 1) c.in-Some.line.now) c.in-Some-2.is (c.in_ok-statement.ensures.ok goes.before goes.tells) in
    has_batch goes.before (words_of c.in-Some.line.now) c.in-Some-2.statement.act is.2

pub loop-line-preserved : goal.loop-line-preserved
loop-line-preserved c =
    let goes = c.loop-line.invariant.goes in
    let size = ap length c.in-Some.ensures in
    let number = c.loop-line.number + 1 in
    let act = c.in-Some-2.statement.act in
    let is = subst (IsLine goes.before number c.in-Some.line.now) c.in-Some-2.is (c.in_ok-statement.ensures.ok goes.before goes.tells) in
    record {
      count = omega (arith, size, c.loop-line.invariant.count);
      goes = record {
        before = act ∷ goes.before;
        tells = c.note.ensures goes.before goes.tells;
        gives = gives_said number goes.before c.in-Some.line.now act c.next.new.self c.loop-line.lines (script_lines c.args.bytes.now) c.loop-line.statements.items c.push.new.self.items c.in-Some.ensures is.1 is.2
            (numbered c.in-Some-2.statement number c.loop-line.statements.items c.push.new.self.items is.0 c.in-Ok.ensures.items) goes.gives;
      };
    }

pub returns-then-len-gt-MOST_STATEMENTS-clause-err : goal.returns-then-len-gt-MOST_STATEMENTS-clause-err
returns-then-len-gt-MOST_STATEMENTS-clause-err c =
    let goes = c.loop-line.invariant.goes in
    let reads = gives_end (c.loop-line.number + 1) goes.before c.loop-line.lines (script_lines c.args.bytes.now) c.loop-line.statements.items c.in_default.ensures.0 goes.gives in
    record { statements = c.loop-line.statements.items; reads = reads; many = search (rules, c.len.ensures, c.if-len-gt-MOST_STATEMENTS.true) }

pub returns-then-len-gt-MOST_STATEMENTS-clause-excludes : goal.returns-then-len-gt-MOST_STATEMENTS-clause-excludes
returns-then-len-gt-MOST_STATEMENTS-clause-excludes c =
    let goes = c.loop-line.invariant.goes in
    let text = c.args.bytes.now in
    let reads = gives_end (c.loop-line.number + 1) goes.before c.loop-line.lines (script_lines text) c.loop-line.statements.items c.in_default.ensures.0 goes.gives in
    excludes text TooMany (record { statements = c.loop-line.statements.items; reads = reads; many = search (rules, c.len.ensures, c.if-len-gt-MOST_STATEMENTS.true) })

pub returns-clause-ok : goal.returns-clause-ok
returns-clause-ok c =
    let goes = c.loop-line.invariant.goes in
    let is : IsScript c.args.bytes.now c.loop-line.statements.items =
    whole_script (c.loop-line.number + 1) goes.before c.loop-line.lines c.args.bytes.now c.loop-line.statements.items c.in_default.ensures.0 goes.gives (search (rules, c.len.ensures, c.if-len-gt-MOST_STATEMENTS.false)) in
    rw c.of.ensures is

pub returns-clause-only : goal.returns-clause-only
returns-clause-only c =
    let goes = c.loop-line.invariant.goes in
    let is : IsScript c.args.bytes.now c.loop-line.statements.items =
    whole_script (c.loop-line.number + 1) goes.before c.loop-line.lines c.args.bytes.now c.loop-line.statements.items c.in_default.ensures.0 goes.gives (search (rules, c.len.ensures, c.if-len-gt-MOST_STATEMENTS.false)) in
    rw c.of.ensures (only_script c.args.bytes.now c.loop-line.statements.items is)

pub returns-clause-none_bad : goal.returns-clause-none_bad
returns-clause-none_bad c =
    let goes = c.loop-line.invariant.goes in
    let is : IsScript c.args.bytes.now c.loop-line.statements.items =
    whole_script (c.loop-line.number + 1) goes.before c.loop-line.lines c.args.bytes.now c.loop-line.statements.items c.in_default.ensures.0 goes.gives (search (rules, c.len.ensures, c.if-len-gt-MOST_STATEMENTS.false)) in
    no_bad_line c.args.bytes.now c.loop-line.statements.items is

pub returns-clause-prints : goal.returns-clause-prints
returns-clause-prints c =
    let goes = c.loop-line.invariant.goes in
    let is : IsScript c.args.bytes.now c.loop-line.statements.items =
    whole_script (c.loop-line.number + 1) goes.before c.loop-line.lines c.args.bytes.now c.loop-line.statements.items c.in_default.ensures.0 goes.gives (search (rules, c.len.ensures, c.if-len-gt-MOST_STATEMENTS.false)) in
    rw c.of.ensures (prints_back c.args.bytes.now c.loop-line.statements.items is)
