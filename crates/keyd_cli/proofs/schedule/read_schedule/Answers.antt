use Rattle.std.proofs.Common.{◌≡◌, ℕ, ◌+◌, sym, ◌∙◌, ap, subst, arith, true, Result, Err, List, [], if◌then◌else◌}
use Rattle.keyd_cli.specs.declared.act.DrillAct.{DrillAct}
use Rattle.keyd_cli.specs.declared.schedule.ScheduleFault.{ScheduleFault}
use Rattle.keyd_cli.specs.declared.schedule.ScheduleFault.TheVariants.{NotBuilt}
use Rattle.keyd_cli.specs.declared.schedule.LineKind.{LineKind}
use Rattle.keyd_cli.specs.declared.schedule.LineKind.TheVariants.{Skipped, Other}
use Rattle.keyd_cli.specs.declared.schedule.LineKind.TheVariants as line_kind
use Rattle.keyd_cli.specs.Lines.{IsDrillLine}
use Rattle.keyd_cli.specs.Schedule.{schedule_lines, IsAct, IsNoStatement}
use Rattle.keyd_cli.specs.Reads.{ReadsLines, ReadNone, mtr_count, is_mtr, HasRoom, IsNotBuilt}
use Rattle.keyd_cli.proofs.ReadsLemmas.{at_line, all_read, few_lines, skipped_more, act_more, count_more, refused_at, one_act}
use Rattle.keyd_cli.proofs.schedule.read_schedule.Goals as goal

pub loop-line-init : goal.loop-line-init
loop-line-init c = record {
  left = c.new-lines.ensures;
  low = omega arith;
  reads = subst (λ ss. ReadsLines c.args.plan.now.space c.args.plan.now.pages [] ss) (sym c.new-statements.ensures.items) ReadNone;
  count = ap mtr_count (sym c.new-statements.ensures.items);
  room = omega arith;
}

pub overflow_add-number : goal.overflow_add-number
overflow_add-number c = let few = few_lines c.args.text.now in omega (arith, few, c.loop-line.invariant.low, c.requires.size)

-- what the line is, by the variant that was found
as_found : (space pages : ℕ) (line : List ℕ) (found is : LineKind) → found ≡ is → IsDrillLine space pages line found → IsDrillLine space pages line is
as_found space pages line found is same read = subst (IsDrillLine space pages line) same read

same_number : {V : Type 0} (m n : ℕ) → ◌≡◌ {A = Result V ScheduleFault} (Err (NotBuilt m)) (Err (NotBuilt n)) → m ≡ n
same_number {V} m n same = ap (number_of {V = V}) same
  where
    number_of : {V : Type 0} → Result V ScheduleFault → ℕ
    number_of (Err (NotBuilt k)) = k
    number_of _ = 0

pub loop-line-preserved-in-Skipped : goal.loop-line-preserved-in-Skipped
loop-line-preserved-in-Skipped c =
    let i = c.loop-line.invariant in
    let plan = c.args.plan.now in
    let all = schedule_lines c.args.text.now in
    let at = at_line all c.loop-line.number c.in-Some.line.now c.next.new.self c.loop-line.lines i.left c.in-Some.ensures i.low in
    let skipped : IsNoStatement c.in-Some.line.now = as_found plan.space plan.pages c.in-Some.line.now c.in-Ok.line Skipped c.in-Skipped.is c.in-Ok.ensures in
    record {
      left = sym at.left;
      low = omega (arith, at.low);
      reads = skipped_more plan.space plan.pages all c.loop-line.number c.in-Some.line.now c.next.new.self c.loop-line.statements.items at i.reads skipped;
      count = i.count;
      room = i.room;
    }

pub returns-in_default-counted-clause-not_built : goal.returns-in_default-counted-clause-not_built
returns-in_default-counted-clause-not_built c line same =
    let i = c.loop-line.invariant in
    let plan = c.args.plan.now in
    let text = c.args.text.now in
    let at = at_line (schedule_lines text) c.loop-line.number c.in-Some.line.now c.next.new.self c.loop-line.lines i.left c.in-Some.ensures i.low in
    let read = as_found plan.space plan.pages c.in-Some.line.now c.in-Ok.line (line_kind.Act c.in-Act.act) c.in-Act.is c.in-Ok.ensures in
    let none = c.in_default-counted.ensures.none in
    let refused : (act : DrillAct) → IsAct plan.space plan.pages c.in-Some.line.now act → HasRoom (mtr_count c.loop-line.statements.items) act → ⊥ =
    λ act is room.
    let mtr : is_mtr act ≡ true = one_act plan.space plan.pages c.in-Some.line.now act c.in-Act.act is read.0 ∙ none.0 in
    omega (arith, room mtr, none.1, i.count) in
    subst (λ n. IsNotBuilt plan.space plan.pages text n) (same_number (c.loop-line.number + 1) line same)
    (refused_at plan.space plan.pages text c.loop-line.number c.in-Some.line.now c.next.new.self c.loop-line.statements.items at i.reads read.1 refused)

pub loop-line-preserved : goal.loop-line-preserved
loop-line-preserved c =
    let i = c.loop-line.invariant in
    let plan = c.args.plan.now in
    let all = schedule_lines c.args.text.now in
    let at = at_line all c.loop-line.number c.in-Some.line.now c.next.new.self c.loop-line.lines i.left c.in-Some.ensures i.low in
    let read = as_found plan.space plan.pages c.in-Some.line.now c.in-Ok.line (line_kind.Act c.in-Act.act) c.in-Act.is c.in-Ok.ensures in
    let some = c.in-Some-counted.ensures.some in
    let statements = c.loop-line.statements.items in
    let more = c.push.new.self.items in
    let room : HasRoom (mtr_count statements) c.in-Act.act = subst (λ n. HasRoom n c.in-Act.act) i.count some.1 in
    record {
      left = sym at.left;
      low = omega (arith, at.low);
      reads = act_more plan.space plan.pages all c.loop-line.number c.in-Some.line.now c.next.new.self statements more c.in-Act.act at i.reads read.0 room c.in-Ok-push.ensures.items;
      count = some.0 ∙ ap (λ n. n + (if is_mtr c.in-Act.act then 1 else 0)) i.count ∙ sym (count_more statements more (c.loop-line.number + 1) c.in-Act.act c.in-Ok-push.ensures.items);
      room = some.2;
    }

pub returns-in-Other-clause-not_built : goal.returns-in-Other-clause-not_built
returns-in-Other-clause-not_built c line same =
    let i = c.loop-line.invariant in
    let plan = c.args.plan.now in
    let text = c.args.text.now in
    let at = at_line (schedule_lines text) c.loop-line.number c.in-Some.line.now c.next.new.self c.loop-line.lines i.left c.in-Some.ensures i.low in
    let read = as_found plan.space plan.pages c.in-Some.line.now c.in-Ok.line Other c.in-Other.is c.in-Ok.ensures in
    subst (λ n. IsNotBuilt plan.space plan.pages text n) (same_number (c.loop-line.number + 1) line same)
    (refused_at plan.space plan.pages text c.loop-line.number c.in-Some.line.now c.next.new.self c.loop-line.statements.items at i.reads read.0 (λ act is room. read.1 act is))

pub returns-clause-ok : goal.returns-clause-ok
returns-clause-ok c =
    let i = c.loop-line.invariant in
    let plan = c.args.plan.now in
    let all = schedule_lines c.args.text.now in
    subst (λ ls. ReadsLines plan.space plan.pages ls c.loop-line.statements.items) (all_read all c.loop-line.number c.loop-line.lines i.left c.in_default.ensures.0 i.low) i.reads
