use Rattle.std.proofs.Common.{◌≡◌, ◌∙◌, List, [], ◌∷◌, ◌++◌, ap, subst, sym}
use Rattle.crash_image.specs.Recovers.{AreOfStore}
use Rattle.redo_text.specs.declared.change.Change.{Change}
use Rattle.session_core.specs.Session.{Running}
use Rattle.session_core.specs.SpaceChanges.{spaces_after}
use Rattle.session_core.specs.declared.journal.Entry.{Entry}
use Rattle.session_core.proofs.EnterLaws.{session_entered}
use Rattle.session_core.proofs.session.SessionCore.enter_held.Goals as goal

pub invariant_of-self-2 : goal.invariant_of-self-2
invariant_of-self-2 g c =
    let at = c.in-Ok-append_and_change.ensures in
    let own = c.self.view_is ∙ c.active_key-key.ensures.same in
    let of_store = subst (λ (r : Running _). AreOfStore r.store.header.spaces c.args.mtr) (sym own) c.requires.of_store in
    let store : c.change_all.new.self ≡ spaces_after c.args.mtr c.self.inside.store = c.change_all.ensures ∙ ap (λ (l : List Change). spaces_after l c.self.inside.store) c.changes.ensures in
    let journal : c.push.new.self.items ≡ c.self.inside.journal.items ++ (record { by = c.args.by; lsn = c.in-Ok-append_and_change.lsn; mtr = c.args.mtr }) ∷ [] =
    c.in-Ok-push.ensures.items ∙ ap (λ (l : List Entry). l ++ (record { by = c.args.by; lsn = c.in-Ok-append_and_change.lsn; mtr = c.args.mtr }) ∷ []) c.try_reserve.ensures.items in
    session_entered g.D.Disk.past _ c.args.by c.args.mtr c.active_key-key.result c.change_all.new.self c.push.new.self.items c.append_and_change.new.log c.append_and_change.new.pool c.in-Ok-append_and_change.lsn c.self.invariant c.requires.some c.requires.from c.requires.allowed of_store
    c.requires.room.few store at.lsn journal at.appended.added at.open at.some at.pending at.changed at.holds
