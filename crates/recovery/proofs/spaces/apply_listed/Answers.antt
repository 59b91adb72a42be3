use Rattle.std.proofs.Common.{◌≡◌, ℕ, ◌<◌, ◌∙◌, length, Some, sym, ap, subst, arith}
use Rattle.std.specs.Prelude.{IfErr}
use Rattle.disk_model.specs.Does.{Does}
use Rattle.disk_model.proofs.Layers.{does_nothing}
use Rattle.disk_model.proofs.Moments.{at_each}
use Rattle.disk_model.specs.declared.names.FileName.TheVariants.{Space}
use Rattle.doublewrite.specs.Restore.{space_at}
use Rattle.doublewrite.specs.declared.refuse.OpenRefuse.TheVariants.{MissingKey}
use Rattle.page_places.specs.Texts.{pages}
use Rattle.places.specs.Batches.{From}
use Rattle.places.specs.Places.{HasFile}
use Rattle.store_form.specs.Said.{header_said}
use Rattle.space_head.specs.declared.space.SpaceInfo.{SpaceInfo}
use Rattle.recovery.specs.Due.{HasRefusedPage, IsByPage, IsRoundDue, IsSpaceOf}
use Rattle.recovery.specs.Groups.{IsApplyEvent, IsRangeApplied, IsSealedUnder}
use Rattle.recovery.specs.Keys.{notes_at}
use Rattle.recovery.specs.Putting.{MayApplyGroups}
use Rattle.recovery.specs.Rounds.{has_later}
use Rattle.recovery.specs.Spaces.{IsSealKeyOf, IsSpaceFault, last_in, later_in}
use Rattle.recovery.proofs.GroupSteps.{between_may}
use Rattle.recovery.proofs.RoundPages.{at_moment}
use Rattle.recovery.proofs.SpacesApplied.{by_page_space, by_parts, if_err}
use Rattle.recovery.proofs.SpacesFound.{listed, long, noted, sealed_under, space_of, spaces_noted}
use Rattle.recovery.proofs.spaces.apply_listed.Goals as goal

pub get-notes-requires : goal.get-notes-requires
get-notes-requires g c =
    let found = c.args.found.now in
    let spaces = long c.args.active found c.requires.fits in
    let notes = spaces_noted c.args.active found c.requires.fits in
    omega (arith, c.requires.within, spaces, notes)

pub get-requires : goal.get-requires
get-requires g c =
    let spaces = long c.args.active c.args.found.now c.requires.fits in
    omega (arith, c.requires.within, spaces, c.requires.fits.last.long)

pub returns-in_default-clause-applies : goal.returns-in_default-clause-applies
returns-in_default-clause-applies g c = λ o number s b now own is due. does_nothing (MissingKey c.info_at-info.result.key_id c.args.active) (at_moment b now (between_may o s b due.between))

pub apply_space-requires-clause-count : goal.apply_space-requires-clause-count
apply_space-requires-clause-count g c =
    let found = c.args.found.now in
    let spaces = long c.args.active found c.requires.fits in
    let within : c.args.i < length (header_said found.header).spaces = omega (arith, c.requires.within, spaces) in
    ap (λ (x : SpaceInfo). x.pages) c.info_at-info.ensures ∙ sym (noted c.args.active found c.requires.fits c.args.i within) ∙ ap length (sym c.get-notes.ensures)

pub apply_space-requires-clause-listed : goal.apply_space-requires-clause-listed
apply_space-requires-clause-listed g c =
    let found = c.args.found.now in
    let spaces = long c.args.active found c.requires.fits in
    let within : c.args.i < length (header_said found.header).spaces = omega (arith, c.requires.within, spaces) in
    let same : c.info_at-info.result.pages ≡ length c.as_slice-last.result.now =
    ap (λ (x : SpaceInfo). x.pages) c.info_at-info.ensures ∙ sym (listed c.args.active found c.requires.fits c.args.i within) ∙ ap length (sym (c.as_slice-last.ensures ∙ c.get.ensures)) in
    omega (arith, same)

pub apply_space-requires-clause-file : goal.apply_space-requires-clause-file
apply_space-requires-clause-file g c =
    let found = c.args.found.now in
    let i = c.args.i in
    let spaces = long c.args.active found c.requires.fits in
    let within : i < length (header_said found.header).spaces = omega (arith, c.requires.within, spaces) in
    let size : (space_at found.changes.spaces i).pages ≡ length c.get-notes.result.now = sym (noted c.args.active found c.requires.fits i within) ∙ ap length (sym c.get-notes.ensures) in
    let name : (space_at found.changes.spaces i).space ≡ c.info_at-info.result.space = ap (λ (x : SpaceInfo). x.space) (sym c.info_at-info.ensures) in
    at_each (λ es files. subst (λ (z : ℕ). HasFile (Space z) (pages (length c.get-notes.result.now)) es) name (subst (λ (n : ℕ). HasFile (Space (space_at found.changes.spaces i).space) (pages n) es) size (files i c.requires.within))) c.requires.files

pub returns-clause-applies : goal.returns-clause-applies
returns-clause-applies g c = λ o number s b now own is due.
    let found = c.args.found.now in
    let i = c.args.i in
    let old = g.D.Disk.past c.args.disk.now in
    let new = g.D.Disk.past c.apply_space.new.disk in
    let a = c.info_at-info.result in
    let m = c.get-notes.result.now in
    let k = c.as_slice-last.result.now in
    let spaces = long c.args.active found c.requires.fits in
    let within : i < length (header_said found.header).spaces = omega (arith, c.requires.within, spaces) in
    let e : a ≡ space_at found.changes.spaces i = c.info_at-info.ensures in
    let en : m ≡ notes_at found.notes i = c.get-notes.ensures in
    let el : k ≡ last_in found i = c.as_slice-last.ensures ∙ c.get.ensures in
    let key : IsSealKeyOf c.args.ring.now found.header.algorithm c.args.active (space_at found.changes.spaces i) c.in-Some.under = subst (λ (x : SpaceInfo). IsSealKeyOf c.args.ring.now found.header.algorithm c.args.active x c.in-Some.under) e c.in-Some.ensures.some in
    let under : IsSealedUnder o a.space c.in-Some.under.version c.in-Some.under.key = subst (λ (x : SpaceInfo). IsSealedUnder o x.space c.in-Some.under.version c.in-Some.under.key) (sym e) (sealed_under c.args.active found c.requires.fits o s c.args.ring.now own is i within c.in-Some.under key) in
    let space : IsSpaceOf o s a m k = by_parts (λ x n l. IsSpaceOf o s x n l) (space_at found.changes.spaces i) a (notes_at found.notes i) m (last_in found i) k (sym e) (sym en) (sym el) (space_of c.args.active found c.requires.fits o s c.args.ring.now own is i within) in
    let round : IsRoundDue o number s (has_later m k) a.space 0 a.pages b = by_parts (λ x n l. IsRoundDue o number s (has_later n l) x.space 0 x.pages b) (space_at found.changes.spaces i) a (notes_at found.notes i) m (last_in found i) k (sym e) (sym en) (sym el) due in
    by_parts (λ x n l. Does (MayApplyGroups o s) (IsApplyEvent x.space) (From (IsRangeApplied o s (has_later n l) x.space 0 x.pages) old) old new c.apply_space.result) a (space_at found.changes.spaces i) m (notes_at found.notes i) k (last_in found i) e en el
    (c.apply_space.ensures.applies o number s b now own space under round)

pub returns-clause-refused : goal.returns-clause-refused
returns-clause-refused g c =
    let found = c.args.found.now in
    let i = c.args.i in
    let ring = c.args.ring.now in
    let algorithm = found.header.algorithm in
    let old = g.D.Disk.past c.args.disk.now in
    let e : c.info_at-info.result ≡ space_at found.changes.spaces i = c.info_at-info.ensures in
    let en : c.get-notes.result.now ≡ notes_at found.notes i = c.get-notes.ensures in
    let el : c.as_slice-last.result.now ≡ last_in found i = c.as_slice-last.ensures ∙ c.get.ensures in
    if_err (λ why. IsByPage (HasRefusedPage ring algorithm (space_at found.changes.spaces i) (notes_at found.notes i) (later_in found i) 0 (space_at found.changes.spaces i).pages) old why) (IsByPage (IsSpaceFault ring c.args.active found i) old) c.apply_space.result (by_page_space ring c.args.active found i old)
    (by_parts (λ x n l. IfErr c.apply_space.result (IsByPage (HasRefusedPage ring algorithm x n (has_later n l) 0 x.pages) old)) c.info_at-info.result (space_at found.changes.spaces i) c.get-notes.result.now (notes_at found.notes i) c.as_slice-last.result.now (last_in found i) e en el c.apply_space.ensures.refused)
