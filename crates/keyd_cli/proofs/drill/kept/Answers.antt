use Rattle.std.proofs.Common.{List, refl, sym, ◌∙◌, subst, Option, MatchOption}
use Rattle.disk_model.specs.Event.{Event}
use Rattle.disk_model.specs.Image.{InFile}
use Rattle.disk_model.specs.Contents.{events}
use Rattle.disk_model.specs.Crash.{crash_image}
use Rattle.disk_model.specs.declared.names.FileName.TheVariants.{Log}
use Rattle.plain_engine.specs.Stands.{LogKeeps, passes}
use Rattle.plain_engine.proofs.Crashes.{crash-keeps, crash-settled}
use Rattle.disk_model.proofs.Lucky.{crash_is_lucky}
use Rattle.keyd_cli.proofs.CrashOf.{crash-inside, crash-lost}
use Rattle.keyd_cli.proofs.drill.kept.Goals as goal

pub scan-requires : goal.scan-requires
scan-requires c =
    let inside = crash-inside c.args.halted.now.journal c.args.choices.now (events c.args.halted.now.disk.contents) c.in_ok-image.image.contents c.requires.refusable c.in_ok-image.ensures.crash c.in_ok-image.ensures.none c.requires.stands in
    record { inside = record { here = λ es is. subst (λ (o : Option (List Event)). MatchOption o ⊥ (InFile Log 0 1060864)) is inside } }

pub returns-in-Ok-clause-keeps : goal.returns-in-Ok-clause-keeps
returns-in-Ok-clause-keeps c =
    subst (LogKeeps c.args.halted.now.journal (crash_image c.args.choices.now (events c.args.halted.now.disk.contents))) (sym (c.len.ensures ∙ c.in-Ok.texts.ok.0))
    (crash-keeps c.args.halted.now.journal c.args.choices.now (events c.args.halted.now.disk.contents) (events c.in_ok-image.image.contents) c.requires.refusable c.in_ok-image.ensures.crash c.requires.stands c.in-Ok.texts.items (c.in-Ok.ensures.run.here _ refl))

pub returns-in-Ok-clause-lucky : goal.returns-in-Ok-clause-lucky
returns-in-Ok-clause-lucky c = crash_is_lucky passes c.args.choices.now (events c.args.halted.now.disk.contents) c.requires.refusable

pub returns-in-Ok-clause-settled : goal.returns-in-Ok-clause-settled
returns-in-Ok-clause-settled c = λ settled le all.
    c.len.ensures ∙ c.in-Ok.texts.ok.0
    ∙ crash-settled c.args.halted.now.journal c.args.choices.now (events c.args.halted.now.disk.contents) (events c.in_ok-image.image.contents) c.requires.refusable c.in_ok-image.ensures.crash settled le all c.in-Ok.texts.items (c.in-Ok.ensures.run.here _ refl)

pub returns-in-Ok-clause-lost : goal.returns-in-Ok-clause-lost
returns-in-Ok-clause-lost c = λ settled acked le lost exact.
    c.len.ensures ∙ c.in-Ok.texts.ok.0
    ∙ crash-lost c.args.halted.now.journal c.args.choices.now (events c.args.halted.now.disk.contents) c.in_ok-image.image.contents c.requires.refusable c.in_ok-image.ensures.crash settled acked le c.requires.choices lost exact c.in-Ok.texts.items (c.in-Ok.ensures.run.here _ refl)
