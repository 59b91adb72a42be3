use Rattle.std.proofs.Common.{◌≡◌, ◌+◌, ◌≤◌, List, drop}
use Rattle.disk_model.specs.Event.{Event}
use Rattle.store_form.specs.Plan.{first_space_there, spaces_asked}
use Rattle.disk_model.specs.Past.{At}
use Rattle.store_form.proofs.checks.first_space_made.Given as goal

abbrev pub invariant-loop-i : goal.invariant-loop-i
invariant-loop-i g l = record {
  rest : At (λ es. first_space_there (drop l.i l.plans) es ≡ first_space_there l.plans es) (g.D.Disk.past l.fn.disk);
  same : g.D.Disk.past l.disk ≡ g.D.Disk.past l.fn.disk;
  later : g.D.Disk.is_later l.fn.disk l.disk;
  calls : g.D.Disk.clock l.disk ≤ g.D.Disk.clock l.fn.disk + l.i;
  asked : At (λ es. g.D.Disk.clock l.disk + spaces_asked (drop l.i l.plans) es ≤ g.D.Disk.clock l.fn.disk + spaces_asked l.plans es) (g.D.Disk.past l.fn.disk);
  faults : g.D.Disk.faults l.disk ≡ g.D.Disk.faults l.fn.disk;
  refusals : g.D.Disk.memory_refusals l.disk ≡ g.D.Disk.memory_refusals l.fn.disk;
}
