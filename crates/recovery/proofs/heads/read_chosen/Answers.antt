use Rattle.std.proofs.Common.{◌≡◌, ℕ, List, Option, refl, sym, ap, ◌∙◌}
use Rattle.disk_model.proofs.Moments.{at_each, at_both}
use Rattle.disk_model.proofs.Replay.{on_ok}
use Rattle.recovery.proofs.HeadSteps.{home_read, other_read}
use Rattle.recovery.proofs.heads.read_chosen.Goals as goal

pub returns-in-Home-clause-chosen : goal.returns-in-Home-clause-chosen
returns-in-Home-clause-chosen g c =
    on_ok c.read_home.result (λ at. at_each (λ es bytes is. home_read es c.args.space c.args.note.now is _ c.read_home.new.home (sym c.in-Home.is) bytes) at) c.read_home.ensures.bytes

pub returns-clause-chosen : goal.returns-clause-chosen
returns-clause-chosen g c =
    at_each (λ es listed is. other_read es c.args.space c.args.note.now is c.args.copies.now c.copy_newest.new.text c.in_default.not-Home listed c.copy_newest.ensures.copied) c.requires.copies
