-- What page 0 of each space says of a store that recovers as it reads.
use Rattle.std.proofs.Common.{◌≡◌, ℕ, zero, suc, ◌<◌, Bool, true, false, nat_eq, nat_le, if◌then◌else◌, List, [], ◌∷◌, length, Option, Some, None, refl, sym, ap, ◌∙◌, arith}
use Rattle.std.proofs.lemmas.Bool.Decides.{nat_tests}
use Rattle.disk_model.specs.Event.{Event, reads}
use Rattle.disk_model.specs.declared.names.FileName.TheVariants.{Log}
use Rattle.key_ring.specs.Ring.{RingEntry}
use Rattle.places.specs.Places.{place}
use Rattle.page_places.specs.Views.{view}
use Rattle.redo_text.specs.declared.change.Change.{Change}
use Rattle.space_head.specs.declared.space.SpaceInfo.{SpaceInfo}
use Rattle.store_image.specs.Recovers as pages
use Rattle.store_image.specs.Recovers.{later_by}
use Rattle.store_image.specs.View.{Logged, Text, View, IsChosen}
use Rattle.store_model.specs.Fold.{space_of}
use Rattle.store_model.specs.declared.contents.SpaceContents.{SpaceContents}
use Rattle.store_files.specs.Header.{HeldSpace, are_in_order}
use Rattle.store_files.specs.Pages.{HaveSpaces, Head, MeansPage, Page, Unused, Used, change_names, mtr_acts, page_after, page_in, pages_of, salts_of}
use Rattle.store_files.proofs.ContentsOnce.{header_order, one_head}
use Rattle.store_files.proofs.SpacesInOrder.{other_space, ordered}
use Rattle.crash_image.specs.Recovers.{Recovers}
use Rattle.crash_image.specs.Rest.{read_image}
use Rattle.crash_image.specs.StoreTheory.{store_theory}
use Rattle.recovery.specs.Changes.{info_after}
use Rattle.recovery.specs.Heads.{AreRight, IsInfoFor, head_fields, info_in}
use Rattle.recovery.specs.SpaceList.{held_at}
use Rattle.recovery.proofs.HeadSaid.{page_0_says}
use Rattle.recovery.proofs.NotedChanges.{head_after, info_stays}
use Rattle.recovery.proofs.PlaceSteps.{place_has, place_some}

-- ---- a run keeps id, pages and key id of a space

-- the page is the head of a space with these of another
pub record IsHeadLike (info : SpaceInfo) (x : Page) : Type 0 where
  pub now : SpaceInfo
  pub is : x ≡ Head now
  pub space : now.space ≡ info.space
  pub pages_are : now.pages ≡ info.pages
  pub key_id : now.key_id ≡ info.key_id

like_after : (info : SpaceInfo) (c : Change) (s : ℕ) (x : Page) → IsHeadLike info x → IsHeadLike info (if change_names c s 0 then page_after c x else x)
like_after info c s x like = record {
  now = if nat_eq (space_of c) s then info_after c like.now else like.now;
  is = ap (λ (y : Page). if change_names c s 0 then page_after c y else y) like.is ∙ head_after c s like.now;
  space = (by (nat_eq (space_of c) s)).0 ∙ like.space;
  pages_are = (by (nat_eq (space_of c) s)).1 ∙ like.pages_are;
  key_id = (by (nat_eq (space_of c) s)).2 ∙ like.key_id;
}
  where
    by : (b : Bool) → ((if b then info_after c like.now else like.now).space ≡ like.now.space) × ((if b then info_after c like.now else like.now).pages ≡ like.now.pages) × ((if b then info_after c like.now else like.now).key_id ≡ like.now.key_id)
    by true = info_stays c like.now
    by false = (refl, refl, refl)

like_acts : (info : SpaceInfo) (cs : List Change) (s : ℕ) (x : Page) → IsHeadLike info x → IsHeadLike info (mtr_acts cs s 0 x)
like_acts info [] s x like = like
like_acts info (c ∷ cs) s x like = like_acts info cs s (if change_names c s 0 then page_after c x else x) (like_after info c s x like)

like_later : (info : SpaceInfo) (lsn : ℕ) (run : List (Logged (List Change))) (s : ℕ) (x : Page) → IsHeadLike info x → IsHeadLike info (later_by mtr_acts lsn run s 0 x)
like_later info lsn [] s x like = like
like_later info lsn (e ∷ es) s x like = like_later info lsn es s (if nat_le e.lsn lsn then x else mtr_acts e.mtr s 0 x) (by (nat_le e.lsn lsn))
  where
    by : (b : Bool) → IsHeadLike info (if b then x else mtr_acts e.mtr s 0 x)
    by true = like
    by false = like_acts info e.mtr s x like

-- ---- the heads of contents

-- a page is the head of this space of a header
pub record IsHeadFor (h : HeldSpace) (x : Page) : Type 0 where
  pub info : SpaceInfo
  pub is : x ≡ Head info
  pub for_space : IsInfoFor h info

pub contents_head : (id : ℕ) (hs : List HeldSpace) (c : List SpaceContents) (i : ℕ) → are_in_order id hs ≡ true → HaveSpaces hs c → i < length hs → IsHeadFor (held_at hs i) (pages_of c (held_at hs i).space 0)
contents_head id [] c i order have lt = absurd (omega (arith, lt))
contents_head id (h ∷ hs) [] i order have lt = absurd have
contents_head id (h ∷ hs) (x ∷ xs) zero order have lt =
    let same = have.0 in
    let test : nat_eq x.info.space h.space ≡ true = grind (arith, nat_tests) in
    record { info = x.info; is = ap (λ (b : Bool). if b then page_in x 0 else pages_of xs h.space 0) test; for_space = record { space = have.0; pages = have.1; key_id = have.2 } }
contents_head id (h ∷ hs) (x ∷ xs) (suc i) order have lt =
    let o = ordered id h hs order in
    let s = (held_at hs i).space in
    let below : i < length hs = omega (arith, lt) in
    let at = place_has h.space hs i 0 o.rest below (place_some h.space hs i o.rest below) in
    let apart : nat_eq h.space s ≡ false = other_space h hs s 0 o.rest at.has in
    let same = have.0 in
    let test : nat_eq x.info.space s ≡ false = ap (λ (n : ℕ). nat_eq n s) same ∙ apart in
    let rest = contents_head h.space hs xs i o.rest have.4 below in
    record { info = rest.info; is = ap (λ (b : Bool). if b then page_in x 0 else pages_of xs s 0) test ∙ rest.is; for_space = rest.for_space }

-- ---- a disk that recovers

module _ (es : List Event) (keys : List RingEntry) (c : List SpaceContents) (last : ℕ) (r : Recovers (read_image es) keys c last) where
  abbrev hs : List HeldSpace
  hs = r.header.spaces

  abbrev v : View (List Change)
  v = view r.log (read_image es)

  pub order : are_in_order 0 hs ≡ true
  order = header_order (place 4096 0 (reads Log es)) r.header r.is_header

  -- The text that page 0 of a space is read from: all of its fields are right, and the contents have what the run makes of what it says.
  pub record HasHeadText (h : HeldSpace) : Type 0 where
    pub text : Text
    pub chosen : IsChosen v h.space 0 (Some text)
    pub right : AreRight (head_fields h) text.bytes
    pub is : pages_of c h.space 0 ≡ later_by mtr_acts text.lsn r.log.run h.space 0 (Head (info_in h text.bytes))

  -- by what its text holds
  head_of_text : (h : HeldSpace) → IsHeadFor h (pages_of c h.space 0) → (t : Text) → IsChosen v h.space 0 (Some t) → (x : Page) → MeansPage r.header keys (salts_of c) h.space 0 t x → pages_of c h.space 0 ≡ later_by mtr_acts t.lsn r.log.run h.space 0 x → HasHeadText h
  head_of_text h for t chosen (Head info) (first, space, typed, text) is =
      let like = like_later info t.lsn r.log.run h.space (Head info) (record { now = info; is = refl; space = refl; pages_are = refl; key_id = refl }) in
      let one : like.now ≡ for.info = one_head like.now for.info (sym like.is ∙ sym is ∙ for.is) in
      let pages_are : info.pages ≡ h.pages = sym like.pages_are ∙ ap (λ (i : SpaceInfo). i.pages) one ∙ for.for_space.pages in
      let key_id : info.key_id ≡ h.key_id = sym like.key_id ∙ ap (λ (i : SpaceInfo). i.key_id) one ∙ for.for_space.key_id in
      let says = page_0_says h.space t.lsn t.version info t.bytes typed text h space pages_are key_id in
      record { text = t; chosen = chosen; right = says.0; is = is ∙ ap (λ (i : SpaceInfo). later_by mtr_acts t.lsn r.log.run h.space 0 (Head i)) (sym says.1) }
  head_of_text h for t chosen Unused means is = elim means [ ]
  head_of_text h for t chosen (Used page) means is = absurd (means.0 refl)

  head_by : (h : HeldSpace) → IsHeadFor h (pages_of c h.space 0) → (o : Option Text) → IsChosen v h.space 0 o → pages.Gives (store_theory r.header keys (salts_of c)) v (pages_of c) h.space 0 o → HasHeadText h
  head_by h for (Some t) chosen (x, means, within, is) = head_of_text h for t chosen x means is
  head_by h for None chosen (some, is) = absurd (some refl)

  pub head_text : (i : ℕ) → i < length hs → HasHeadText (held_at hs i)
  head_text i lt =
      let at = place_has 0 hs i 0 order lt (place_some 0 hs i order lt) in
      let page = r.by.pages.pages (held_at hs i).space 0 at.has in
      head_by (held_at hs i) (contents_head 0 hs c i order r.by.reading.spaces lt) page.chosen page.is page.gives
