use Rattle.std.proofs.Common.{rules, ◌≡◌, ◌∙◌, ◌+◌, ◌-◌, ◌≤◌, ℕ, List, sym, subst, IsErrAnd, arith}
use Rattle.cause_core.proofs.Causes.{handed}
use Rattle.disk_model.specs.Past.{At}
use Rattle.disk_model.proofs.Moments.{at_both, at_each, at_is}
use Rattle.doublewrite.specs.declared.refuse.OpenRefuse.{OpenRefuse}
use Rattle.redo_log.specs.Blocks.{Keys}
use Rattle.store_files.proofs.HeaderBounds.{limits}
use Rattle.store_form.specs.Said.{header_said}
use Rattle.recovery.specs.Looking.{FoundChanges, FoundKeys, IsOpenRefusal}
use Rattle.recovery.specs.Stages.{AreFloorsBelow, IsFloorRefusal, checkpoint_said}
use Rattle.recovery.proofs.OpenRefusals.{blocks_keyed, floor_refused, number_refused, record_refused}
use Rattle.recovery.proofs.looking.find_later.Goals as goal

pub find_changes-requires-clause-log : goal.find_changes-requires-clause-log
find_changes-requires-clause-log g c = at_each (λ es f. f.of_heads.pages.run.files.have.0) c.requires.found

pub find_changes-requires-clause-run : goal.find_changes-requires-clause-run
find_changes-requires-clause-run g c = at_each (λ es f. f.of_heads.pages.run.run) c.requires.found

pub find_changes-requires-clause-keyed : goal.find_changes-requires-clause-keyed
find_changes-requires-clause-keyed g c =
    at_each (λ es f. blocks_keyed c.args.ring.now c.args.active (header_said c.args.log.now.header) (checkpoint_said c.args.log.now.checkpoint) c.args.log.now.run.last c.args.pages.now.notes c.args.pages.now.heads es f) c.requires.found

pub check_numbers-requires : goal.check_numbers-requires
check_numbers-requires g c = (limits (header_said c.args.log.now.header) c.requires.allowed).most

pub returns-in_err-changes-clause-refused : goal.returns-in_err-changes-clause-refused
returns-in_err-changes-clause-refused g c =
    let keys = c.args.ring.now in
    let active = c.args.active in
    let past = g.D.Disk.past c.args.disk.now in
    let why = c.in_err-changes.field-0.0 in
    let is : IsErrAnd c.from_residual.result (λ e. e ≡ why) = search rules in
    handed (IsOpenRefusal keys active past) c.from_residual.result why is
    (record_refused keys active past (header_said c.args.log.now.header) (checkpoint_said c.args.log.now.checkpoint) c.args.log.now.run.last c.args.pages.now.notes c.args.pages.now.heads c.requires.found why c.in_err-changes.ensures.refused)

pub returns-in_err-check_floors-clause-refused : goal.returns-in_err-check_floors-clause-refused
returns-in_err-check_floors-clause-refused g c =
    let keys = c.args.ring.now in
    let active = c.args.active in
    let past = g.D.Disk.past c.args.disk.now in
    let h = header_said c.args.log.now.header in
    let check = checkpoint_said c.args.log.now.checkpoint in
    let last = c.args.log.now.run.last in
    let changes = c.in_ok-changes.changes in
    let found : At (FoundChanges keys active h check last c.args.pages.now.notes c.args.pages.now.heads changes) past = at_both (λ es keyed noted. record { keyed = keyed; fit = c.in_ok-changes.ensures.infos; changes_of = noted }) c.requires.found c.in_ok-changes.ensures.changes in
    let why = c.in_err-check_floors.field-0.0 in
    let is : IsErrAnd c.from_residual-in_err-check_floors.result (λ e. e ≡ why) = search rules in
    handed (IsOpenRefusal keys active past) c.from_residual-in_err-check_floors.result why is
    (floor_refused keys active past h check last c.args.pages.now.notes c.args.pages.now.heads changes found why (subst (λ spaces. IsFloorRefusal active spaces why) c.as_slice.ensures c.in_err-check_floors.ensures.refused))

pub returns-in_err-check_numbers-clause-refused : goal.returns-in_err-check_numbers-clause-refused
returns-in_err-check_numbers-clause-refused g c =
    let keys = c.args.ring.now in
    let active = c.args.active in
    let past = g.D.Disk.past c.args.disk.now in
    let h = header_said c.args.log.now.header in
    let check = checkpoint_said c.args.log.now.checkpoint in
    let last = c.args.log.now.run.last in
    let changes = c.in_ok-changes.changes in
    let found : At (FoundChanges keys active h check last c.args.pages.now.notes c.args.pages.now.heads changes) past = at_both (λ es keyed noted. record { keyed = keyed; fit = c.in_ok-changes.ensures.infos; changes_of = noted }) c.requires.found c.in_ok-changes.ensures.changes in
    let why = c.in_err-check_numbers.field-0.0 in
    let is : IsErrAnd c.from_residual-in_err-check_numbers.result (λ e. e ≡ why) = search rules in
    handed (IsOpenRefusal keys active past) c.from_residual-in_err-check_numbers.result why is
    (number_refused keys active past h check last c.args.pages.now.notes c.args.pages.now.heads changes found (subst (λ spaces. AreFloorsBelow active spaces) c.as_slice.ensures c.in_ok-check_floors.ensures.ok) why c.in_err-check_numbers.ensures.refused)

pub returns-clause-found : goal.returns-clause-found
returns-clause-found g c = at_both (λ es keyed noted. record { keyed = keyed; fit = c.in_ok-changes.ensures.infos; changes_of = noted }) c.requires.found c.in_ok-changes.ensures.changes

pub returns-in_err-changes-clause-calls : goal.returns-in_err-changes-clause-calls
returns-in_err-changes-clause-calls g c =
    at_each (λ es f.
    let few = (f.of_heads.pages.run.run (record { header = header_said c.args.log.now.header; ring = c.args.ring.now })).few in
    let calls = c.in_err-changes.ensures.calls in
    omega (arith, few, calls)) c.requires.found

pub returns-in_err-check_floors-clause-calls : goal.returns-in_err-check_floors-clause-calls
returns-in_err-check_floors-clause-calls g c =
    at_each (λ es f.
    let few = (f.of_heads.pages.run.run (record { header = header_said c.args.log.now.header; ring = c.args.ring.now })).few in
    let calls = c.in_ok-changes.ensures.calls in
    omega (arith, few, calls)) c.requires.found

pub returns-in_err-check_numbers-clause-calls : goal.returns-in_err-check_numbers-clause-calls
returns-in_err-check_numbers-clause-calls g c =
    at_each (λ es f.
    let few = (f.of_heads.pages.run.run (record { header = header_said c.args.log.now.header; ring = c.args.ring.now })).few in
    let calls = c.in_ok-changes.ensures.calls in
    omega (arith, few, calls)) c.requires.found

pub returns-clause-calls : goal.returns-clause-calls
returns-clause-calls g c =
    at_each (λ es f.
    let few = (f.of_heads.pages.run.run (record { header = header_said c.args.log.now.header; ring = c.args.ring.now })).few in
    let calls = c.in_ok-changes.ensures.calls in
    omega (arith, few, calls)) c.requires.found
