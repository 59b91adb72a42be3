use Rattle.std.proofs.Common.{◌≡◌, ◌⊎◌, ℕ, ◌<◌, ◌≤◌, length, Ok, Err, arith}
use Rattle.disk_model.proofs.Layers.{does_more, does_nothing}
use Rattle.disk_model.proofs.Moments.{at_each, weaker}
use Rattle.doublewrite.specs.declared.refuse.OpenRefuse.TheVariants.{DiskFault, OutOfMemory}
use Rattle.doublewrite.specs.declared.texts.Texts.{Texts}
use Rattle.recovery.specs.Rounds.{has_later}
use Rattle.recovery.proofs.GroupSteps.{apply_event, between_may, done_by, failed_as, group_does}
use Rattle.recovery.proofs.OtherHomes.{group_leaves}
use Rattle.recovery.proofs.PutGroups.{groups_recover}
use Rattle.recovery.proofs.RecordSteps.{keeps_between}
use Rattle.recovery.proofs.SealSteps.{numbers_apart, numbers_in, numbers_within}
use Rattle.recovery.proofs.SealedPages.{are_sealed}
use Rattle.recovery.proofs.groups.write_group.Goals as goal

pub put_group-requires-clause-distinct : goal.put_group-requires-clause-distinct
put_group-requires-clause-distinct g c = λ i j less lt. numbers_apart c.in-Ok.pages c.in-Ok.ensures.texts.ascending i j less lt

pub put_group-requires-clause-inside : goal.put_group-requires-clause-inside
put_group-requires-clause-inside g c =
    let group = c.args.group.now in
    at_each (λ es has. (
      length c.args.notes.now,
      record {
        file = has;
        within = numbers_within (has_later c.args.notes.now c.args.last.now) group.info.space c.args.last.now c.args.under.now.version c.args.under.now.key c.args.pool.now group.from group.end c.in-Ok.pages c.in-Ok.ensures.texts (length c.args.notes.now) c.requires.noted;
      },
    )) c.requires.file

pub returns-in_default-clause-applies : goal.returns-in_default-clause-applies
returns-in_default-clause-applies g c = λ o s between under due. does_nothing OutOfMemory (at_each (λ m b. between_may o s m b) between)

pub returns-in_default-clause-recovers : goal.returns-in_default-clause-recovers
returns-in_default-clause-recovers g c = λ o end s opened between under due. weaker (λ m may. groups_recover o end s opened m may) (returns-in_default-clause-applies g c o s between under due).moments

pub returns-in-Ok-put_group-clause-applies : goal.returns-in-Ok-put_group-clause-applies
returns-in-Ok-put_group-clause-applies g c = λ o s between under due.
    let group = c.args.group.now in
    let has = has_later c.args.notes.now c.args.last.now in
    let last = c.args.last.now in
    let version = c.args.under.now.version in
    let key = c.args.under.now.key in
    let texts = c.in-Ok.ensures.texts in
    let batch : Texts = record { space = group.info.space; batch = c.args.batch; pages = c.in-Ok.pages } in
    done_by c.put_group.result c.in-Ok-put_group.is
    (group_does o s has last version key c.args.pool.now group.from group.end batch texts c.put_group.result (g.D.Disk.past c.args.disk.now) (g.D.Disk.past c.put_group.new.disk)
    (c.put_group.ensures.applies o s between (are_sealed o has group.info.space last version key c.args.pool.now group.from group.end under due c.in-Ok.pages texts.each)))

pub returns-in-Ok-put_group-clause-recovers : goal.returns-in-Ok-put_group-clause-recovers
returns-in-Ok-put_group-clause-recovers g c = λ o end s opened between under due. weaker (λ m may. groups_recover o end s opened m may) (returns-in-Ok-put_group-clause-applies g c o s between under due).moments

pub returns-in-Err-Failed-clause-applies : goal.returns-in-Err-Failed-clause-applies
returns-in-Err-Failed-clause-applies g c = λ o s between under due.
    let group = c.args.group.now in
    let has = has_later c.args.notes.now c.args.last.now in
    let last = c.args.last.now in
    let version = c.args.under.now.version in
    let key = c.args.under.now.key in
    let texts = c.in-Ok.ensures.texts in
    let batch : Texts = record { space = group.info.space; batch = c.args.batch; pages = c.in-Ok.pages } in
    failed_as c.put_group.result DiskFault
    (group_does o s has last version key c.args.pool.now group.from group.end batch texts c.put_group.result (g.D.Disk.past c.args.disk.now) (g.D.Disk.past c.put_group.new.disk)
    (c.put_group.ensures.applies o s between (are_sealed o has group.info.space last version key c.args.pool.now group.from group.end under due c.in-Ok.pages texts.each)))

pub returns-in-Err-Failed-clause-recovers : goal.returns-in-Err-Failed-clause-recovers
returns-in-Err-Failed-clause-recovers g c = λ o end s opened between under due. weaker (λ m may. groups_recover o end s opened m may) (returns-in-Err-Failed-clause-applies g c o s between under due).moments

pub returns-clause-applies : goal.returns-clause-applies
returns-clause-applies g c = λ o s between under due.
    let group = c.args.group.now in
    let has = has_later c.args.notes.now c.args.last.now in
    let last = c.args.last.now in
    let version = c.args.under.now.version in
    let key = c.args.under.now.key in
    let texts = c.in-Ok.ensures.texts in
    let batch : Texts = record { space = group.info.space; batch = c.args.batch; pages = c.in-Ok.pages } in
    failed_as c.put_group.result OutOfMemory
    (group_does o s has last version key c.args.pool.now group.from group.end batch texts c.put_group.result (g.D.Disk.past c.args.disk.now) (g.D.Disk.past c.put_group.new.disk)
    (c.put_group.ensures.applies o s between (are_sealed o has group.info.space last version key c.args.pool.now group.from group.end under due c.in-Ok.pages texts.each)))

pub returns-clause-recovers : goal.returns-clause-recovers
returns-clause-recovers g c = λ o end s opened between under due. weaker (λ m may. groups_recover o end s opened m may) (returns-clause-applies g c o s between under due).moments

pub returns-in-Ok-put_group-clause-beside : goal.returns-in-Ok-put_group-clause-beside
returns-in-Ok-put_group-clause-beside g c =
    let group = c.args.group.now in
    let texts = c.in-Ok.ensures.texts in
    let batch : Texts = record { space = group.info.space; batch = c.args.batch; pages = c.in-Ok.pages } in
    let has = has_later c.args.notes.now c.args.last.now in
    let few : length c.in-Ok.pages ≤ 64 = let count = texts.count in let most = c.requires.few in omega (arith, count, most) in
    group_leaves batch c.are_texts.ensures few (length c.args.notes.now) group.from group.end
    (numbers_in has group.info.space c.args.last.now c.args.under.now.version c.args.under.now.key c.args.pool.now group.from group.end c.in-Ok.pages texts) (g.D.Disk.past c.args.disk.now) (g.D.Disk.past c.put_group.new.disk)
    (at_each (λ es has_file. record { file = has_file; within = numbers_within has group.info.space c.args.last.now c.args.under.now.version c.args.under.now.key c.args.pool.now group.from group.end c.in-Ok.pages texts (length c.args.notes.now) c.requires.noted }) c.requires.file)
    c.in-Ok-put_group.ensures.exact

pub returns-in_default-clause-recorded : goal.returns-in_default-clause-recorded
returns-in_default-clause-recorded g c = λ o end s opened between kept under due. does_nothing OutOfMemory (keeps_between o end s opened (g.D.Disk.past c.args.disk.now) between kept)

pub returns-in-Ok-put_group-clause-recorded : goal.returns-in-Ok-put_group-clause-recorded
returns-in-Ok-put_group-clause-recorded g c = λ o end s opened between kept under due.
    let group = c.args.group.now in
    let has = has_later c.args.notes.now c.args.last.now in
    let texts = c.in-Ok.ensures.texts in
    let batch : Texts = record { space = group.info.space; batch = c.args.batch; pages = c.in-Ok.pages } in
    let sealed = are_sealed o has group.info.space c.args.last.now c.args.under.now.version c.args.under.now.key c.args.pool.now group.from group.end under due c.in-Ok.pages texts.each in
    done_by c.put_group.result c.in-Ok-put_group.is (does_more (apply_event batch) (c.put_group.ensures.recorded o end s opened between kept sealed))

pub returns-in-Err-Failed-clause-recorded : goal.returns-in-Err-Failed-clause-recorded
returns-in-Err-Failed-clause-recorded g c = λ o end s opened between kept under due.
    let group = c.args.group.now in
    let has = has_later c.args.notes.now c.args.last.now in
    let texts = c.in-Ok.ensures.texts in
    let batch : Texts = record { space = group.info.space; batch = c.args.batch; pages = c.in-Ok.pages } in
    let sealed = are_sealed o has group.info.space c.args.last.now c.args.under.now.version c.args.under.now.key c.args.pool.now group.from group.end under due c.in-Ok.pages texts.each in
    failed_as c.put_group.result DiskFault (does_more (apply_event batch) (c.put_group.ensures.recorded o end s opened between kept sealed))

pub returns-clause-recorded : goal.returns-clause-recorded
returns-clause-recorded g c = λ o end s opened between kept under due.
    let group = c.args.group.now in
    let has = has_later c.args.notes.now c.args.last.now in
    let texts = c.in-Ok.ensures.texts in
    let batch : Texts = record { space = group.info.space; batch = c.args.batch; pages = c.in-Ok.pages } in
    let sealed = are_sealed o has group.info.space c.args.last.now c.args.under.now.version c.args.under.now.key c.args.pool.now group.from group.end under due c.in-Ok.pages texts.each in
    failed_as c.put_group.result OutOfMemory (does_more (apply_event batch) (c.put_group.ensures.recorded o end s opened between kept sealed))
