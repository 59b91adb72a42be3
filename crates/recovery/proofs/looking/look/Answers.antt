use Rattle.std.proofs.Common.{rules, ◌≡◌, ◌∙◌, ◌+◌, ◌≤◌, ℕ, List, sym, ap, subst, IsErrAnd, arith}
use Rattle.std.proofs.lemmas.Option.{same_Some}
use Rattle.cause_core.proofs.Causes.{handed}
use Rattle.disk_model.specs.Event.{Event}
use Rattle.disk_model.specs.Past.{At}
use Rattle.disk_model.proofs.Moments.{at_each, at_is}
use Rattle.doublewrite.specs.Refuse.{IsDiskRefuse}
use Rattle.doublewrite.specs.declared.refuse.OpenRefuse.{OpenRefuse}
use Rattle.store_files.specs.Header.{HeldHeader}
use Rattle.store_form.specs.Said.{header_said}
use Rattle.store_model.specs.declared.contents.SpaceContents.{SpaceContents}
use Rattle.recovery.specs.Entry.{MayOpen}
use Rattle.recovery.specs.Files.{IsFormatted}
use Rattle.recovery.specs.Looking.{IsOpenRefusal, page_calls}
use Rattle.recovery.proofs.EntryOpened.{begins_of}
use Rattle.recovery.proofs.EntryRefusals.{clear_of}
use Rattle.recovery.proofs.looking.look.Goals as goal

-- a log has one header
one_header : (es : List Event) (h g : HeldHeader) → IsFormatted h es → IsFormatted g es → h ≡ g
one_header es h g a b = same_Some h g (sym a.is_header ∙ b.is_header)

pub find_contents-requires-clause-found : goal.find_contents-requires-clause-found
find_contents-requires-clause-found g c = at_is c.in_ok-log.ensures.same c.in_ok-log.ensures.found

pub find_contents-requires-clause-versions : goal.find_contents-requires-clause-versions
find_contents-requires-clause-versions g c = at_is c.in_ok-log.ensures.same c.in_ok-log.ensures.versions

pub find_later-requires-clause-found : goal.find_later-requires-clause-found
find_later-requires-clause-found g c = at_is c.in_ok-pages.ensures.same c.in_ok-pages.ensures.found

pub returns-in_err-log-clause-refused : goal.returns-in_err-log-clause-refused
returns-in_err-log-clause-refused g c =
    let why = c.in_err-log.field-0.0 in
    let is : IsErrAnd c.from_residual.result (λ e. e ≡ why) = search rules in
    handed (IsOpenRefusal c.args.ring.now c.args.active (g.D.Disk.past c.args.disk.now)) c.from_residual.result why is (c.in_err-log.ensures.refused c.args.ring.now c.args.active)

pub returns-in_err-pages-clause-refused : goal.returns-in_err-pages-clause-refused
returns-in_err-pages-clause-refused g c =
    let why = c.in_err-pages.field-0.0 in
    let is : IsErrAnd c.from_residual-in_err-pages.result (λ e. e ≡ why) = search rules in
    handed (IsOpenRefusal c.args.ring.now c.args.active (g.D.Disk.past c.args.disk.now)) c.from_residual-in_err-pages.result why is
    (subst (λ p. IsOpenRefusal c.args.ring.now c.args.active p why) c.in_ok-log.ensures.same c.in_err-pages.ensures.refused)

pub returns-in_err-changes-clause-refused : goal.returns-in_err-changes-clause-refused
returns-in_err-changes-clause-refused g c =
    let why = c.in_err-changes.field-0.0 in
    let is : IsErrAnd c.from_residual-in_err-changes.result (λ e. e ≡ why) = search rules in
    handed (IsOpenRefusal c.args.ring.now c.args.active (g.D.Disk.past c.args.disk.now)) c.from_residual-in_err-changes.result why is
    (subst (λ p. IsOpenRefusal c.args.ring.now c.args.active p why) (c.in_ok-pages.ensures.same ∙ c.in_ok-log.ensures.same) c.in_err-changes.ensures.refused)

pub returns-in_err-log-clause-calls : goal.returns-in_err-log-clause-calls
returns-in_err-log-clause-calls g c = at_each (λ es few h is. let first = few h is in omega (arith, first)) c.in_err-log.ensures.calls

pub returns-in_err-pages-clause-calls : goal.returns-in_err-pages-clause-calls
returns-in_err-pages-clause-calls g c = record {
  here = λ es now h is.
      let first = c.in_ok-log.ensures.calls.here es now h is in
      let second = c.in_err-pages.ensures.calls in
      let own : page_calls (header_said c.in_ok-log.log.header) ≡ page_calls h = ap page_calls (one_header es (header_said c.in_ok-log.log.header) h (c.in_ok-log.ensures.found.here es now).files.formatted is) in
      omega (arith, first, second, own);
}

pub returns-in_err-changes-clause-calls : goal.returns-in_err-changes-clause-calls
returns-in_err-changes-clause-calls g c = record {
  here = λ es now h is.
      let first = c.in_ok-log.ensures.calls.here es now h is in
      let second = c.in_ok-pages.ensures.calls in
      let third = (at_is (sym (c.in_ok-pages.ensures.same ∙ c.in_ok-log.ensures.same)) c.in_err-changes.ensures.calls).here es now in
      let one = one_header es (header_said c.in_ok-log.log.header) h (c.in_ok-log.ensures.found.here es now).files.formatted is in
      let own : page_calls (header_said c.in_ok-log.log.header) ≡ page_calls h = ap page_calls one in
      let blocks : c.in_ok-log.log.header.blocks ≡ h.blocks = ap (λ (x : HeldHeader). x.blocks) one in
      omega (arith, first, second, third, own, blocks);
}

pub returns-clause-calls : goal.returns-clause-calls
returns-clause-calls g c = record {
  here = λ es now h is.
      let first = c.in_ok-log.ensures.calls.here es now h is in
      let second = c.in_ok-pages.ensures.calls in
      let third = (at_is (sym (c.in_ok-pages.ensures.same ∙ c.in_ok-log.ensures.same)) c.in_ok-changes.ensures.calls).here es now in
      let one = one_header es (header_said c.in_ok-log.log.header) h (c.in_ok-log.ensures.found.here es now).files.formatted is in
      let own : page_calls (header_said c.in_ok-log.log.header) ≡ page_calls h = ap page_calls one in
      let blocks : c.in_ok-log.log.header.blocks ≡ h.blocks = ap (λ (x : HeldHeader). x.blocks) one in
      omega (arith, first, second, third, own, blocks);
}

pub returns-clause-found : goal.returns-clause-found
returns-clause-found g c =
    let changes = at_is (sym (c.in_ok-pages.ensures.same ∙ c.in_ok-log.ensures.same)) c.in_ok-changes.ensures.found in
    record { here = λ es now. record { heads = c.in_ok-pages.pages.heads; changes = changes.here es now; versions = c.in_ok-log.ensures.versions.here es now } }

pub returns-clause-fits : goal.returns-clause-fits
returns-clause-fits g c = record {
  allowed = c.in_ok-log.ensures.allowed;
  format = c.in_ok-log.ensures.format;
  count = c.in_ok-log.ensures.count;
  checkpoint = c.in_ok-log.ensures.numbers;
  order = c.in_ok-log.ensures.low;
  noted = c.in_ok-pages.ensures.fit;
  last = c.in_ok-changes.ensures.last;
  infos = c.in_ok-changes.ensures.infos;
  floors = c.in_ok-changes.ensures.floors;
  numbers = c.in_ok-changes.ensures.numbers;
}

pub returns-in_err-log-clause-clear : goal.returns-in_err-log-clause-clear
returns-in_err-log-clause-clear g c =
    let past = g.D.Disk.past c.args.disk.now in
    let why = c.in_err-log.field-0.0 in
    let is : IsErrAnd c.from_residual.result (λ e. e ≡ why) = search rules in
    handed (λ (e : OpenRefuse). At (λ es. (contents : List SpaceContents) (last : ℕ) → MayOpen c.args.ring.now c.args.active contents last es → IsDiskRefuse e) past) c.from_residual.result why is
    (clear_of c.args.ring.now c.args.active past why (c.in_err-log.ensures.refused c.args.ring.now c.args.active))

pub returns-in_err-pages-clause-clear : goal.returns-in_err-pages-clause-clear
returns-in_err-pages-clause-clear g c =
    let past = g.D.Disk.past c.args.disk.now in
    let why = c.in_err-pages.field-0.0 in
    let is : IsErrAnd c.from_residual-in_err-pages.result (λ e. e ≡ why) = search rules in
    handed (λ (e : OpenRefuse). At (λ es. (contents : List SpaceContents) (last : ℕ) → MayOpen c.args.ring.now c.args.active contents last es → IsDiskRefuse e) past) c.from_residual-in_err-pages.result why is
    (clear_of c.args.ring.now c.args.active past why (subst (λ p. IsOpenRefusal c.args.ring.now c.args.active p why) c.in_ok-log.ensures.same c.in_err-pages.ensures.refused))

pub returns-in_err-changes-clause-clear : goal.returns-in_err-changes-clause-clear
returns-in_err-changes-clause-clear g c =
    let past = g.D.Disk.past c.args.disk.now in
    let why = c.in_err-changes.field-0.0 in
    let is : IsErrAnd c.from_residual-in_err-changes.result (λ e. e ≡ why) = search rules in
    handed (λ (e : OpenRefuse). At (λ es. (contents : List SpaceContents) (last : ℕ) → MayOpen c.args.ring.now c.args.active contents last es → IsDiskRefuse e) past) c.from_residual-in_err-changes.result why is
    (clear_of c.args.ring.now c.args.active past why (subst (λ p. IsOpenRefusal c.args.ring.now c.args.active p why) (c.in_ok-pages.ensures.same ∙ c.in_ok-log.ensures.same) c.in_err-changes.ensures.refused))

pub returns-clause-begins : goal.returns-clause-begins
returns-clause-begins g c = begins_of c.args.ring.now c.args.active (g.D.Disk.past c.args.disk.now) _ (returns-clause-found g c) (returns-clause-fits g c)

pub returns-in_err-log-clause-unformatted : goal.returns-in_err-log-clause-unformatted
returns-in_err-log-clause-unformatted g c = c.in_err-log.ensures.unformatted

pub returns-in_err-pages-clause-unformatted : goal.returns-in_err-pages-clause-unformatted
returns-in_err-pages-clause-unformatted g c = at_each (λ es found none. absurd (none (header_said c.in_ok-log.log.header) found.files.formatted)) c.in_ok-log.ensures.found

pub returns-in_err-changes-clause-unformatted : goal.returns-in_err-changes-clause-unformatted
returns-in_err-changes-clause-unformatted g c = at_each (λ es found none. absurd (none (header_said c.in_ok-log.log.header) found.files.formatted)) c.in_ok-log.ensures.found

pub returns-clause-unformatted : goal.returns-clause-unformatted
returns-clause-unformatted g c = at_each (λ es found none. absurd (none (header_said c.in_ok-log.log.header) found.files.formatted)) c.in_ok-log.ensures.found
