use Rattle.std.proofs.Common.{sym}
use Rattle.disk_model.proofs.Moments.{at_both}
use Rattle.store_form.specs.Said.{space_said}
use Rattle.recovery.proofs.HeadSteps.{head_info, head_refused}
use Rattle.recovery.proofs.heads.find_head.Goals as goal

pub returns-clause-info : goal.returns-clause-info
returns-clause-info g c =
    head_info (space_said c.args.space.now) c.read_chosen.new.text (g.D.Disk.past c.args.disk.now) (at_both (λ es reads noted. reads noted) c.in_ok-read_chosen.ensures.chosen c.requires.noted) c.read_head.result c.read_head.ensures.info c.read_head.ensures.right

pub returns-clause-refused : goal.returns-clause-refused
returns-clause-refused g c =
    head_refused (space_said c.args.space.now) c.read_chosen.new.text (g.D.Disk.past c.args.disk.now) (at_both (λ es reads noted. reads noted) c.in_ok-read_chosen.ensures.chosen c.requires.noted) c.read_head.result c.read_head.ensures.refused
