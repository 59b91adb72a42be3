use Rattle.std.proofs.Common.{◌≡◌, ◌∙◌, ap, sym, subst, ℕ, ◌<◌, length, List, slice_index_or, true, refl}
use Rattle.std.specs.Prelude.{IfOk}
use Rattle.disk_model.specs.Past.{At}
use Rattle.disk_model.proofs.Moments.{at_each}
use Rattle.space_head.specs.declared.space.SpaceInfo.{SpaceInfo}
use Rattle.store_files.specs.Pages.{has_page, pages_of}
use Rattle.store_form.specs.PageRead.{ReadsPage}
use Rattle.store_form.specs.Rest.{StoreAtRest, homes_of, place_in, salt_in}
use Rattle.store_form.specs.Said.{header_said}
use Rattle.byte_list.specs.Fields.{be32_at}
use Rattle.space_head.specs.declared.space.Home.TheVariants.{Unused}
use Rattle.crash_image.specs.Rest.{IsAtRest}
use Rattle.store_model.specs.declared.contents.SpaceContents.{SpaceContents}
use Rattle.store_form.specs.Contents.{IsReadOfPage}
use Rattle.store_form.proofs.PageContents.{page_given, takes_found}
use Rattle.store_form.proofs.PageReads.{page_read, home_known, key_found, opened_found}
use Rattle.store_form.proofs.RestLaws.{IsInfo, space_found, info_found, space_reads, page_inside, page_known}
use Rattle.store_form.proofs.rest.AtRest.read_page.Goals as goal

pub get-requires : goal.get-requires
get-requires g c =
    let has = subst (λ (r : StoreAtRest _). has_page r.header.spaces c.args.space c.args.page ≡ true) (sym c.self.view_is) c.requires.page in
    let place : place_in c.self.inside.spaces c.args.space ≡ c.place_of-place.result = sym (c.place_of-place.ensures ∙ ap (λ (l : List SpaceInfo). place_in l c.args.space) c.as_slice.ensures) in
    subst (λ (n : ℕ). n < length c.self.inside.spaces) place (space_found _ c.self.inside.spaces c.self.inside.homes c.args.space c.args.page c.self.invariant.form.have has).there

pub read_home-requires-clause-inside : goal.read_home-requires-clause-inside
read_home-requires-clause-inside g c =
    let has = subst (λ (r : StoreAtRest _). has_page r.header.spaces c.args.space c.args.page ≡ true) (sym c.self.view_is) c.requires.page in
    let found = space_found _ c.self.inside.spaces c.self.inside.homes c.args.space c.args.page c.self.invariant.form.have has in
    at_each (λ es reads. page_inside (slice_index_or c.self.inside.spaces (place_in c.self.inside.spaces c.args.space) c.get.result.now) _ es c.args.space c.args.page
    (space_reads c.self.inside.spaces c.self.inside.homes es (place_in c.self.inside.spaces c.args.space) c.get.result.now reads.spaces_read found.there found.listed)
    (found.space c.get.result.now) (found.pages c.get.result.now)) c.self.invariant.reads

pub returns-clause-page : goal.returns-clause-page
returns-clause-page g c =
    let has = subst (λ (r : StoreAtRest _). has_page r.header.spaces c.args.space c.args.page ≡ true) (sym c.self.view_is) c.requires.page in
    let place : c.place_of-place.result ≡ place_in c.self.inside.spaces c.args.space = c.place_of-place.ensures ∙ ap (λ (l : List SpaceInfo). place_in l c.args.space) c.as_slice.ensures in
    let found = space_found _ c.self.inside.spaces c.self.inside.homes c.args.space c.args.page c.self.invariant.form.have has in
    let at : c.get.result.now ≡ slice_index_or c.self.inside.spaces (place_in c.self.inside.spaces c.args.space) c.get.result.now = c.get.ensures ∙ ap (λ (n : ℕ). slice_index_or c.self.inside.spaces n c.get.result.now) place in
    let info : IsInfo _ c.self.inside.spaces c.args.space c.args.page c.get.result.now = info_found _ c.self.inside.spaces c.self.inside.homes c.args.space c.args.page _ c.get.result.now found at in
    subst (λ (r : StoreAtRest _). ReadsPage r.header c.args.ring.now (salt_in r.spaces) c.args.space c.args.page (g.D.Disk.past r.disk) c.open_home.new.into c.open_home.result) c.self.view_is
    (page_read _ c.args.ring.now (salt_in c.self.inside.spaces) c.args.space c.args.page (g.D.Disk.past c.self.inside.disk) c.read_home.new.into c.open_home.new.into c.open_home.result c.in_ok-read_home.ensures.bytes
    (opened_found c.args.space c.args.page _ _ c.args.page _ _ _ c.read_home.new.into c.open_home.new.into c.open_home.result info.space refl info.key_id
    (key_found (header_said c.self.inside.header) c.args.ring.now c.self.inside.spaces c.args.space c.args.page (be32_at c.read_home.new.into 0) c.get.result.now c.self.inside.header.algorithm info refl) c.open_home.ensures.opened))

pub returns-clause-home : goal.returns-clause-home
returns-clause-home g c =
    let has = subst (λ (r : StoreAtRest _). has_page r.header.spaces c.args.space c.args.page ≡ true) (sym c.self.view_is) c.requires.page in
    let place : c.place_of-place.result ≡ place_in c.self.inside.spaces c.args.space = c.place_of-place.ensures ∙ ap (λ (l : List SpaceInfo). place_in l c.args.space) c.as_slice.ensures in
    let found = space_found _ c.self.inside.spaces c.self.inside.homes c.args.space c.args.page c.self.invariant.form.have has in
    let at : c.get.result.now ≡ slice_index_or c.self.inside.spaces (place_in c.self.inside.spaces c.args.space) c.get.result.now = c.get.ensures ∙ ap (λ (n : ℕ). slice_index_or c.self.inside.spaces n c.get.result.now) place in
    let info : IsInfo _ c.self.inside.spaces c.args.space c.args.page c.get.result.now = info_found _ c.self.inside.spaces c.self.inside.homes c.args.space c.args.page _ c.get.result.now found at in
    let known = at_each (λ es reads. page_known (slice_index_or c.self.inside.spaces (place_in c.self.inside.spaces c.args.space) c.get.result.now) _ (homes_of c.self.inside.spaces c.self.inside.homes c.args.space) es c.args.space c.args.page
    (space_reads c.self.inside.spaces c.self.inside.homes es (place_in c.self.inside.spaces c.args.space) c.get.result.now reads.spaces_read found.there found.listed)
    (found.space c.get.result.now) (found.pages c.get.result.now) found.homes) c.self.invariant.reads in
    subst (λ (r : StoreAtRest _). IfOk c.open_home.result (λ home. At (λ es. home ≡ slice_index_or (homes_of r.spaces r.homes c.args.space) c.args.page Unused) (g.D.Disk.past r.disk))) c.self.view_is
    (home_known c.args.space c.args.page _ _ c.read_home.new.into c.open_home.new.into (g.D.Disk.past c.self.inside.disk) _ c.open_home.result c.in_ok-read_home.ensures.bytes known
    (opened_found c.args.space c.args.page _ _ c.args.page _ _ _ c.read_home.new.into c.open_home.new.into c.open_home.result info.space refl info.key_id
    (key_found (header_said c.self.inside.header) c.args.ring.now c.self.inside.spaces c.args.space c.args.page (be32_at c.read_home.new.into 0) c.get.result.now c.self.inside.header.algorithm info refl) c.open_home.ensures.opened))

pub returns-clause-contents : goal.returns-clause-contents
returns-clause-contents g c =
    let header = header_said c.self.inside.header in
    let has = subst (λ (r : StoreAtRest _). has_page r.header.spaces c.args.space c.args.page ≡ true) (sym c.self.view_is) c.requires.page in
    let place : c.place_of-place.result ≡ place_in c.self.inside.spaces c.args.space = c.place_of-place.ensures ∙ ap (λ (l : List SpaceInfo). place_in l c.args.space) c.as_slice.ensures in
    let found = space_found _ c.self.inside.spaces c.self.inside.homes c.args.space c.args.page c.self.invariant.form.have has in
    let at : c.get.result.now ≡ slice_index_or c.self.inside.spaces (place_in c.self.inside.spaces c.args.space) c.get.result.now = c.get.ensures ∙ ap (λ (n : ℕ). slice_index_or c.self.inside.spaces n c.get.result.now) place in
    let info : IsInfo _ c.self.inside.spaces c.args.space c.args.page c.get.result.now = info_found _ c.self.inside.spaces c.self.inside.homes c.args.space c.args.page _ c.get.result.now found at in
    let key = key_found (header_said c.self.inside.header) c.args.ring.now c.self.inside.spaces c.args.space c.args.page (be32_at c.read_home.new.into 0) c.get.result.now c.self.inside.header.algorithm info refl in
    let opened = opened_found c.args.space c.args.page _ _ c.args.page _ _ _ c.read_home.new.into c.open_home.new.into c.open_home.result info.space refl info.key_id key c.open_home.ensures.opened in
    let takes = takes_found c.args.space c.args.page _ c.args.page _ _ c.read_home.new.into c.open_home.new.into c.open_home.result info.space refl key c.open_home.ensures.taken in
    subst (λ (r : StoreAtRest _). At (λ es. (contents : List SpaceContents) (next : ℕ) → IsAtRest es c.args.ring.now contents next → IsReadOfPage (pages_of contents c.args.space c.args.page) c.open_home.new.into c.open_home.result) (g.D.Disk.past r.disk)) c.self.view_is
    (record {
      here = λ es is contents next at_rest.
          page_given (header_said c.self.inside.header) c.args.ring.now c.self.inside.spaces c.self.inside.homes c.self.inside.next c.self.inside.sequence es c.args.space c.args.page c.get.result.now
          c.self.invariant.form.have (c.self.invariant.reads.here es is) has contents next at_rest c.read_home.new.into c.open_home.new.into c.open_home.result c.read_home.ensures.long (c.in_ok-read_home.ensures.bytes.here es is) opened takes;
    })
