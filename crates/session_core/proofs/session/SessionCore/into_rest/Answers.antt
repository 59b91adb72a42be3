use Rattle.std.proofs.Common.{◌≡◌, [], None, sym, subst}
use Rattle.store_form.specs.Said.{header_said}
use Rattle.session_core.specs.Session.{Running}
use Rattle.session_core.proofs.CloseLaws.{parts_form, parts_read}
use Rattle.session_core.proofs.session.SessionCore.into_rest.Goals as goal

pub new-rest-requires-clause-form : goal.new-rest-requires-clause-form
new-rest-requires-clause-form g c =
    let clean = subst (λ (r : Running _). r.pool.dirty.entries ≡ []) (sym c.self.view_is) c.requires.clean in
    let checked = subst (λ (r : Running _). r.log.from ≡ r.log.next) (sym c.self.view_is) c.requires.checked in
    let parts = c.into_parts-spaces.ensures in
    parts_form g.D.Disk.past _ c.self.invariant clean checked (header_said c.into_parts-spaces.result.header) c.into_parts-spaces.result.spaces c.into_parts-spaces.result.homes c.next-next.result c.sequence-sequence.result
    parts.header parts.spaces parts.homes c.next-next.ensures.next c.sequence-sequence.ensures

pub new-rest-requires-clause-reads : goal.new-rest-requires-clause-reads
new-rest-requires-clause-reads g c =
    let clean = subst (λ (r : Running _). r.pool.dirty.entries ≡ []) (sym c.self.view_is) c.requires.clean in
    let checked = subst (λ (r : Running _). r.log.from ≡ r.log.next) (sym c.self.view_is) c.requires.checked in
    let up = subst (λ (r : Running _). r.disk.stop ≡ None) (sym c.self.view_is) c.requires.up in
    let parts = c.into_parts-spaces.ensures in
    parts_read g.D.Disk.past _ c.self.invariant clean checked (header_said c.into_parts-spaces.result.header) c.into_parts-spaces.result.spaces c.into_parts-spaces.result.homes c.next-next.result c.sequence-sequence.result
    parts.header parts.spaces parts.homes c.next-next.ensures.next c.sequence-sequence.ensures c.into_disk.result c.into_disk.ensures up
