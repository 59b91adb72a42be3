use Rattle.std.proofs.Common.{◌≡◌, ◌+◌, ◌≤◌, length, refl, rules, subst, sym}
use Rattle.std.specs.Prelude.{IsErrAnd}
use Rattle.cause_core.proofs.Causes.{handed}
use Rattle.counted_disk.specs.Counting.{IsCounted, count_of}
use Rattle.counted_disk.specs.declared.counted.Counted.{Counted}
use Rattle.session_core.specs.Entering.{HasEntryRoom, HasNoEntryRoom, NoRoom, NotHeld}
use Rattle.session_core.specs.Files.{calls_of}
use Rattle.session_core.specs.Session.{Running}
use Rattle.session_core.proofs.EnterLaws.{entered_then, of_store_then, receipt_then, refused_then, room_then}
use Rattle.session_core.proofs.session.SessionCore.enter.Goals as goal

pub returns-in_err-check_room-clause-refused : goal.returns-in_err-check_room-clause-refused
returns-in_err-check_room-clause-refused g c =
    let is : IsErrAnd c.from_residual.result (λ e. e ≡ c.in_err-check_room.field-0.0) = search rules in
    let refused = subst (λ (r : Running _). HasNoEntryRoom r.log r.pool c.args.mtr c.in_err-check_room.field-0.0) c.self.view_is c.in_err-check_room.ensures.refused in
    handed _ c.from_residual.result c.in_err-check_room.field-0.0 is (NoRoom c.in_err-check_room.field-0.0 refused refl)

pub returns-in_err-hold-clause-refused : goal.returns-in_err-hold-clause-refused
returns-in_err-hold-clause-refused g c =
    let is : IsErrAnd c.from_residual-in_err-hold.result (λ e. e ≡ c.in_err-hold.field-0.0) = search rules in
    let room = subst (λ (r : Running _). HasEntryRoom r.log r.pool c.args.mtr) c.self.view_is c.in_ok-check_room.ensures.room in
    handed _ c.from_residual-in_err-hold.result c.in_err-hold.field-0.0 is (NotHeld c.in_err-hold.field-0.0 room c.in_err-hold.ensures.refused c.in_err-hold.ensures.looks)

pub enter_held-requires-clause-room : goal.enter_held-requires-clause-room
enter_held-requires-clause-room g c =
    let room = subst (λ (r : Running _). HasEntryRoom r.log r.pool c.args.mtr) c.self.view_is c.in_ok-check_room.ensures.room in
    room_then g.D.Disk.past c.args.by c.args.mtr c.args.self.now c.hold.new.self c.hold.new.self c.hold.ensures.looks room

pub enter_held-requires-clause-of_store : goal.enter_held-requires-clause-of_store
enter_held-requires-clause-of_store g c = of_store_then g.D.Disk.past c.args.by c.args.mtr c.args.self.now c.hold.new.self c.hold.new.self c.hold.ensures.looks c.requires.of_store

pub returns-clause-entered : goal.returns-clause-entered
returns-clause-entered g c =
    let room = subst (λ (r : Running _). HasEntryRoom r.log r.pool c.args.mtr) c.self.view_is c.in_ok-check_room.ensures.room in
    entered_then g.D.Disk.past c.args.by c.args.mtr c.args.self.now c.hold.new.self c.enter_held.new.self c.hold.ensures.looks c.enter_held.result room c.in_ok-hold.ensures.held c.enter_held.ensures.entered

pub returns-clause-receipt : goal.returns-clause-receipt
returns-clause-receipt g c = receipt_then g.D.Disk.past c.args.by c.args.mtr c.args.self.now c.hold.new.self c.enter_held.new.self c.hold.ensures.looks c.enter_held.result c.enter_held.ensures.receipt

pub returns-clause-refused : goal.returns-clause-refused
returns-clause-refused g c =
    let room = subst (λ (r : Running _). HasEntryRoom r.log r.pool c.args.mtr) c.self.view_is c.in_ok-check_room.ensures.room in
    refused_then g.D.Disk.past c.args.by c.args.mtr c.args.self.now c.hold.new.self c.enter_held.new.self c.hold.ensures.looks c.enter_held.result room c.in_ok-hold.ensures.up c.enter_held.ensures.refused c.enter_held.ensures.unchanged

pub returns-clause-later : goal.returns-clause-later
returns-clause-later g c =
    subst (λ (d : Counted _). g.D.Disk.is_later c.args.self.now.disk.disk d.disk × IsCounted (count_of g.D.Disk.past g.D.Disk.faults g.D.Disk.memory_refusals c.args.self.now.disk) (count_of g.D.Disk.past g.D.Disk.faults g.D.Disk.memory_refusals d))
    (sym c.enter_held.ensures.disk) c.hold.ensures.later

pub returns-clause-calls : goal.returns-clause-calls
returns-clause-calls g c = subst (λ (d : Counted _). calls_of g.D.Disk.clock d ≤ calls_of g.D.Disk.clock c.args.self.now.disk + length c.args.mtr) (sym c.enter_held.ensures.disk) c.hold.ensures.calls
