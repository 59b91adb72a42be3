use Rattle.std.proofs.Common.{◌≡◌, ℕ, ◌<◌, ◌^◌, ◌∙◌, Some, length, refl, ap, subst, inl, inr, rules}
use Rattle.std.proofs.lemmas.Result.{on_ok_weaker, on_err_weaker}
use Rattle.disk_model.specs.Past.{Past, At}
use Rattle.disk_model.specs.declared.names.FileName.TheVariants.{Double, Log, Space}
use Rattle.disk_model.proofs.Layers.{does_err, does_then}
use Rattle.disk_model.proofs.Moments.{and_then, at_both, at_each, weaker}
use Rattle.places.specs.Batches.{From}
use Rattle.places.specs.Places.{HasFile}
use Rattle.places.specs.Writes.{IsPart, grows}
use Rattle.places.proofs.Batches.{lift_from}
use Rattle.page_places.specs.Texts.{pages, slots}
use Rattle.crash_image.specs.LogForm.{log_places}
use Rattle.doublewrite.specs.Layer.{FitsSpace, IsInside}
use Rattle.doublewrite.specs.Batch.{home_batch, home_events, slot_events}
use Rattle.doublewrite.proofs.EventSteps.{at_error}
use Rattle.recovery.specs.Putting.{BetweenGroups, StillDone, InSlots, InHomes}
use Rattle.recovery.specs.Recorded.{HasRecord, IsRecordMoment}
use Rattle.recovery.proofs.GroupRecords.{homes_recorded, store_recorded, stores_recorded, storing_recorded}
use Rattle.recovery.proofs.OpeningRecords.{applying_recorded, none_at_error}
use Rattle.recovery.proofs.PutGroups.{IsGroupStored, at_grown, done_stored, double_homed, double_places, double_stored, fits_stored, from_start, group_applied, group_homed, group_homing, group_inside, group_stored, group_storing, groups_recover, left_homed, left_stored, space_homed, space_stored}
use Rattle.recovery.proofs.putting.put_group.Goals as goal

pub home-requires-clause-inside : goal.home-requires-clause-inside
home-requires-clause-inside g c = at_grown (slot_events c.args.batch.now) (fits_stored c.args.batch.now c.are_texts.ensures c.requires.most) _ _ c.in_ok-store.ensures.exact c.requires.inside

pub returns-in_err-store-clause-applies : goal.returns-in_err-store-clause-applies
returns-in_err-store-clause-applies g c = λ o s between sealed.
    let batch = c.args.batch.now in
    let small : batch.space < 2 ^ 32 = search rules in
    let old = g.D.Disk.past c.args.disk.now in
    let known : At (λ b. BetweenGroups o s b × HasFile Double slots b) old = at_both (λ es x y. (x, y)) between c.requires.places in
    does_err _ _ c.from_residual.ensures.1
    (lift_from {Q' = IsGroupStored o s batch c.are_texts.ensures small c.requires.most sealed} known
    (λ b m k since w. group_storing o s batch c.are_texts.ensures small c.requires.most sealed b m k.0 k.1 since w)
    (λ b m k since q. group_stored o s batch c.are_texts.ensures small c.requires.most sealed b m k.0 k.1 since q) (λ e k. inl k)
    (c.in_err-store.ensures.does (at_each (λ es k. double_places o s es k.0 k.1) known)))

pub returns-in_err-store-clause-part : goal.returns-in_err-store-clause-part
returns-in_err-store-clause-part g c = at_error c.from_residual.result (InSlots c.in_err-store.ensures.part)

pub returns-clause-applies : goal.returns-clause-applies
returns-clause-applies g c = λ o s between sealed.
    let batch = c.args.batch.now in
    let texts = c.are_texts.ensures in
    let most = c.requires.most in
    let small : batch.space < 2 ^ 32 = search rules in
    let old = g.D.Disk.past c.args.disk.now in
    let mid = g.D.Disk.past c.store.new.disk in
    let known : At (λ b. BetweenGroups o s b × HasFile Double slots b × (old ≡ Some b)) old = record { here = λ es is. (between.here es is, c.requires.places.here es is, is) } in
    let stored = lift_from {Q' = λ t. IsGroupStored o s batch texts small most sealed t × From (λ x y. StillDone o x y) old t} known
    (λ b m k since w. group_storing o s batch texts small most sealed b m k.0 k.1 since w)
    (λ b m k since q. (group_stored o s batch texts small most sealed b m k.0 k.1 since q, from_start (λ x y. StillDone o x y) b m k.2 (done_stored o s batch texts small most sealed b m k.0 k.1 since q))) (λ e k. inl k)
    (c.in_ok-store.ensures.does (at_each (λ es k. double_places o s es k.0 k.1) known)) in
    let fits = at_grown (slot_events batch) (fits_stored batch texts most) old mid c.in_ok-store.ensures.exact c.requires.inside in
    let behind : At (λ t. (IsGroupStored o s batch texts small most sealed t × From (λ x y. StillDone o x y) old t) × ((count : ℕ) × FitsSpace batch count t)) mid = at_both (λ t u f. (u, f)) stored.next fits in
    does_then stored
    (lift_from behind
    (λ t m u since w. group_homing o s batch texts small most sealed t m u.0.0 u.1.0 u.1.1 since w)
    (λ t m u since q.
    let rest = group_homed o s batch texts small most sealed t m u.0.0 u.1.0 u.1.1 since c.requires.distinct q in
    at_each (λ b still. (rest, group_applied o s batch texts small most sealed t m u.0.0 u.1.0 u.1.1 since c.requires.distinct q b still)) u.0.1)
    (λ e k. inr k) c.home.ensures.does)

pub returns-clause-exact : goal.returns-clause-exact
returns-clause-exact g c = on_ok_weaker c.home.result (λ e. e ∙ ap (grows (home_events c.args.batch.now)) c.in_ok-store.ensures.exact) c.home.ensures.exact

pub returns-clause-part : goal.returns-clause-part
returns-clause-part g c =
    let batch = c.args.batch.now in
    on_err_weaker c.home.result (λ p. InHomes (subst (λ (h : Past). IsPart (Space batch.space) 16384 (home_batch batch) (length batch.pages) h (g.D.Disk.past c.home.new.disk)) c.in_ok-store.ensures.exact p)) c.home.ensures.part

pub returns-clause-double : goal.returns-clause-double
returns-clause-double g c =
    let batch = c.args.batch.now in
    let texts = c.are_texts.ensures in
    let most = c.requires.most in
    let mid = g.D.Disk.past c.store.new.disk in
    let stored = at_grown (slot_events batch) (double_stored batch texts most) (g.D.Disk.past c.args.disk.now) mid c.in_ok-store.ensures.exact c.requires.places in
    on_ok_weaker c.home.result (λ e. at_grown (home_events batch) (double_homed batch texts most) mid _ e stored) c.home.ensures.exact

pub returns-clause-spaces : goal.returns-clause-spaces
returns-clause-spaces g c =
    let batch = c.args.batch.now in
    let texts = c.are_texts.ensures in
    let most = c.requires.most in
    let old = g.D.Disk.past c.args.disk.now in
    let mid = g.D.Disk.past c.store.new.disk in
    let fits = at_grown (slot_events batch) (fits_stored batch texts most) old mid c.in_ok-store.ensures.exact c.requires.inside in
    on_ok_weaker c.home.result (λ e. λ y count has.
    at_grown {P = λ es. ((n : ℕ) × FitsSpace batch n es) × HasFile (Space y) (pages count) es} (home_events batch) (λ es k. space_homed batch texts most y count es k.0 k.1) mid _ e (at_both (λ es f h. (f, h)) fits (at_grown (slot_events batch) (space_stored batch texts most y count) old mid c.in_ok-store.ensures.exact has))) c.home.ensures.exact

pub returns-clause-log : goal.returns-clause-log
returns-clause-log g c =
    let batch = c.args.batch.now in
    let texts = c.are_texts.ensures in
    let most = c.requires.most in
    let old = g.D.Disk.past c.args.disk.now in
    let mid = g.D.Disk.past c.store.new.disk in
    on_ok_weaker c.home.result (λ e. λ n has.
    at_grown (home_events batch) (left_homed batch texts most Log refl (log_places n)) mid _ e (at_grown (slot_events batch) (left_stored batch texts most Log refl (log_places n)) old mid c.in_ok-store.ensures.exact has)) c.home.ensures.exact

pub returns-in_err-store-clause-recovers : goal.returns-in_err-store-clause-recovers
returns-in_err-store-clause-recovers g c = λ o last s opened between sealed. weaker (λ m may. groups_recover o last s opened m may) (returns-in_err-store-clause-applies g c o s between sealed).moments

pub returns-clause-recovers : goal.returns-clause-recovers
returns-clause-recovers g c = λ o last s opened between sealed. weaker (λ m may. groups_recover o last s opened m may) (returns-clause-applies g c o s between sealed).moments

pub returns-in_err-store-clause-recorded : goal.returns-in_err-store-clause-recorded
returns-in_err-store-clause-recorded g c = λ o last s opened between kept sealed.
    let batch = c.args.batch.now in
    let small : batch.space < 2 ^ 32 = search rules in
    applying_recorded o last s opened c.from_residual.result (returns-in_err-store-clause-applies g c o s between sealed)
    (storing_recorded o last s opened batch c.are_texts.ensures small sealed (g.D.Disk.past c.args.disk.now) (g.D.Disk.past c.store.new.disk) kept c.in_err-store.ensures.part) (none_at_error _ c.from_residual.result _ c.from_residual.ensures.1)

pub returns-clause-recorded : goal.returns-clause-recorded
returns-clause-recorded g c = λ o last s opened between kept sealed.
    let batch = c.args.batch.now in
    let texts = c.are_texts.ensures in
    let most = c.requires.most in
    let small : batch.space < 2 ^ 32 = search rules in
    let old = g.D.Disk.past c.args.disk.now in
    let mid = g.D.Disk.past c.store.new.disk in
    let new = g.D.Disk.past c.home.new.disk in
    let known : At (λ b. BetweenGroups o s b × HasFile Double slots b) old = at_both (λ es x y. (x, y)) between c.requires.places in
    let does = c.in_ok-store.ensures.does (at_each (λ es k. double_places o s es k.0 k.1) known) in
    let stored = lift_from {Q' = IsGroupStored o s batch texts small most sealed} known
    (λ b m k since w. group_storing o s batch texts small most sealed b m k.0 k.1 since w)
    (λ b m k since q. group_stored o s batch texts small most sealed b m k.0 k.1 since q) (λ e k. k) does in
    let fits : At (λ t. (count : ℕ) × FitsSpace batch count t) mid = at_grown (slot_events batch) (fits_stored batch texts most) old mid c.in_ok-store.ensures.exact c.requires.inside in
    let stored_record : At (HasRecord o) mid = store_recorded o last s opened batch texts small sealed old mid kept c.in_ok-store.ensures.exact does.adds does.next in
    let behind : At (λ t. HasRecord o t × ((count : ℕ) × IsInside batch count t)) mid =
    record { here = λ t is. (stored_record.here t is, let k = fits.here t is in (k.0, group_inside o s batch texts small most sealed t (stored.next.here t is) k.0 k.1)) } in
    let homes = homes_recorded o last s opened batch texts small sealed c.home.result mid new behind c.requires.distinct c.home.ensures.does c.home.ensures.exact c.home.ensures.part in
    applying_recorded o last s opened c.home.result (returns-clause-applies g c o s between sealed)
    (and_then (IsRecordMoment o) old mid new (stores_recorded o last s opened batch texts small sealed old mid kept c.in_ok-store.ensures.exact stored_record) homes.0) homes.1
