use Rattle.std.proofs.Common.{◌≡◌, ℕ, List, drop, map, string_bytes, IsErrAnd, rules, ◌∙◌, ap, subst}
use Rattle.keyd_cli.specs.declared.status.Status.TheVariants as status
use Rattle.keyd_cli.specs.Words.{CommandWord}
use Rattle.keyd_cli.specs.PlanOf.{IsPlan}
use Rattle.keyd_cli.specs.Ends.{IsKeyed, IsEnd, IsCommandDrilled, OutsideCounts}
use Rattle.io_core.specs.Stream.{extended}
use Rattle.keyd_cli.proofs.Endings.{handed, memory-end, input-end, print-end}
use Rattle.keyd_cli.proofs.command.run_command.Goals as goal

pub returns-in_err-plan-clause-err : goal.returns-in_err-plan-clause-err
returns-in_err-plan-clause-err g c =
    let words = map string_bytes c.args.words.now in
    let before : OutsideCounts = record { library = g.L.Library.faults c.args.files.now; absences = g.L.Library.absences c.args.files.now; input = g.S.Source.faults c.args.input.now; output = g.K.Sink.faults c.args.out.now } in
    let now : OutsideCounts = record { library = g.L.Library.faults c.check_keys.new.files; absences = g.L.Library.absences c.check_keys.new.files; input = g.S.Source.faults c.args.input.now; output = g.K.Sink.faults c.args.out.now } in
    let is : IsErrAnd c.from_residual-in_err-plan.result (λ e. e ≡ status.OutOfMemory) = search rules in
    handed (IsEnd words (g.L.Library.files c.args.files.now) (g.S.Source.left c.args.input.now) (g.K.Sink.given c.args.out.now) (g.K.Sink.given c.args.out.now) before now) c.from_residual-in_err-plan.result status.OutOfMemory is
    (memory-end words (g.L.Library.files c.args.files.now) (g.S.Source.left c.args.input.now) (g.K.Sink.given c.args.out.now) before now)

pub returns-in_err-drilled-clause-err : goal.returns-in_err-drilled-clause-err
returns-in_err-drilled-clause-err g c =
    let words = map string_bytes c.args.words.now in
    let before : OutsideCounts = record { library = g.L.Library.faults c.args.files.now; absences = g.L.Library.absences c.args.files.now; input = g.S.Source.faults c.args.input.now; output = g.K.Sink.faults c.args.out.now } in
    let now : OutsideCounts = record { library = g.L.Library.faults c.check_keys.new.files; absences = g.L.Library.absences c.check_keys.new.files; input = g.S.Source.faults c.drill_input.new.input; output = g.K.Sink.faults c.args.out.now } in
    let is : IsErrAnd c.from_residual-in_err-drilled.result (λ e. e ≡ c.in_err-drilled.field-0.0) = search rules in
    let options : map string_bytes c.options_of-options.result.now ≡ drop 1 words = c.options_of-options.ensures in
    handed (IsEnd words (g.L.Library.files c.args.files.now) (g.S.Source.left c.args.input.now) (g.K.Sink.given c.args.out.now) (g.K.Sink.given c.args.out.now) before now) c.from_residual-in_err-drilled.result c.in_err-drilled.field-0.0 is
    (input-end words (g.L.Library.files c.args.files.now) (g.S.Source.left c.args.input.now) (g.K.Sink.given c.args.out.now) before now c.in_ok-plan.plan c.in_err-drilled.field-0.0 c.in_default.ensures.ok
    (subst (λ (o : List CommandWord). IsKeyed o (g.L.Library.files c.args.files.now)) options c.in_ok-check_keys.ensures.ok)
    (subst (λ (o : List CommandWord). IsPlan o c.in_ok-plan.plan) options c.in_ok-plan.ensures.plan) c.in_err-drilled.ensures.err)

pub returns-in_err-text-clause-err : goal.returns-in_err-text-clause-err
returns-in_err-text-clause-err g c =
    let words = map string_bytes c.args.words.now in
    let before : OutsideCounts = record { library = g.L.Library.faults c.args.files.now; absences = g.L.Library.absences c.args.files.now; input = g.S.Source.faults c.args.input.now; output = g.K.Sink.faults c.args.out.now } in
    let now : OutsideCounts = record { library = g.L.Library.faults c.check_keys.new.files; absences = g.L.Library.absences c.check_keys.new.files; input = g.S.Source.faults c.drill_input.new.input; output = g.K.Sink.faults c.args.out.now } in
    let is : IsErrAnd c.from_residual-in_err-text.result (λ e. e ≡ status.OutOfMemory) = search rules in
    handed (IsEnd words (g.L.Library.files c.args.files.now) (g.S.Source.left c.args.input.now) (g.K.Sink.given c.args.out.now) (g.K.Sink.given c.args.out.now) before now) c.from_residual-in_err-text.result status.OutOfMemory is
    (memory-end words (g.L.Library.files c.args.files.now) (g.S.Source.left c.args.input.now) (g.K.Sink.given c.args.out.now) before now)

pub returns-in_err-finished-clause-err : goal.returns-in_err-finished-clause-err
returns-in_err-finished-clause-err g c =
    let words = map string_bytes c.args.words.now in
    let before : OutsideCounts = record { library = g.L.Library.faults c.args.files.now; absences = g.L.Library.absences c.args.files.now; input = g.S.Source.faults c.args.input.now; output = g.K.Sink.faults c.args.out.now } in
    let now : OutsideCounts = record { library = g.L.Library.faults c.check_keys.new.files; absences = g.L.Library.absences c.check_keys.new.files; input = g.S.Source.faults c.drill_input.new.input; output = g.K.Sink.faults c.args.out.now } in
    let is : IsErrAnd c.from_residual-in_err-finished.result (λ e. e ≡ status.OutOfMemory) = search rules in
    handed (IsEnd words (g.L.Library.files c.args.files.now) (g.S.Source.left c.args.input.now) (g.K.Sink.given c.args.out.now) (g.K.Sink.given c.args.out.now) before now) c.from_residual-in_err-finished.result status.OutOfMemory is
    (memory-end words (g.L.Library.files c.args.files.now) (g.S.Source.left c.args.input.now) (g.K.Sink.given c.args.out.now) before now)

pub returns-in_err-print-clause-err : goal.returns-in_err-print-clause-err
returns-in_err-print-clause-err g c =
    let words = map string_bytes c.args.words.now in
    let files = g.L.Library.files c.args.files.now in
    let left = g.S.Source.left c.args.input.now in
    let before : OutsideCounts = record { library = g.L.Library.faults c.args.files.now; absences = g.L.Library.absences c.args.files.now; input = g.S.Source.faults c.args.input.now; output = g.K.Sink.faults c.args.out.now } in
    let now : OutsideCounts = record { library = g.L.Library.faults c.check_keys.new.files; absences = g.L.Library.absences c.check_keys.new.files; input = g.S.Source.faults c.drill_input.new.input; output = g.K.Sink.faults c.print.new.out } in
    let is : IsErrAnd c.from_residual-in_err-print.result (λ e. e ≡ c.in_err-print.field-0.0) = search rules in
    let options : map string_bytes c.options_of-options.result.now ≡ drop 1 words = c.options_of-options.ensures in
    let ready : IsCommandDrilled words files left c.in_ok-plan.plan c.in_ok-drilled.drilled =
    record { words_are = c.in_default.ensures.ok; asked = subst (λ (o : List CommandWord). IsPlan o c.in_ok-plan.plan) options c.in_ok-plan.ensures.plan; keyed = subst (λ (o : List CommandWord). IsKeyed o files) options c.in_ok-check_keys.ensures.ok; drilled = c.in_ok-drilled.ensures.ok } in
    handed (IsEnd words files left (g.K.Sink.given c.args.out.now) (g.K.Sink.given c.print.new.out) before now) c.from_residual-in_err-print.result c.in_err-print.field-0.0 is
    (print-end words files left (g.K.Sink.given c.args.out.now) before now c.in_ok-plan.plan c.in_ok-drilled.drilled c.deref.result.now (g.K.Sink.given c.print.new.out) c.in_err-print.field-0.0 ready (c.deref.ensures.value ∙ c.in_ok-text.ensures) c.in_err-print.ensures.err)

pub returns-clause-ok : goal.returns-clause-ok
returns-clause-ok g c =
    let words = map string_bytes c.args.words.now in
    let files = g.L.Library.files c.args.files.now in
    let left = g.S.Source.left c.args.input.now in
    let options : map string_bytes c.options_of-options.result.now ≡ drop 1 words = c.options_of-options.ensures in
    let ready : IsCommandDrilled words files left c.in_ok-plan.plan c.in_ok-drilled.drilled =
    record { words_are = c.in_default.ensures.ok; asked = subst (λ (o : List CommandWord). IsPlan o c.in_ok-plan.plan) options c.in_ok-plan.ensures.plan; keyed = subst (λ (o : List CommandWord). IsKeyed o files) options c.in_ok-check_keys.ensures.ok; drilled = c.in_ok-drilled.ensures.ok } in
    record {
      plan = c.in_ok-plan.plan;
      drilled = c.in_ok-drilled.drilled;
      ready = ready;
      printed = c.in_ok-print.ensures.ok ∙ ap (λ (text : List ℕ). extended text (g.K.Sink.given c.args.out.now)) (c.deref.ensures.value ∙ c.in_ok-text.ensures);
      journal_is = c.in_ok-finished.ensures.journal;
      replies_are = c.in_ok-finished.ensures.replies;
      drill_is = c.in_ok-finished.ensures.drill;
    }
