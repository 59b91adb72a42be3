-- What was found of the spaces of a store that is opened.
use Rattle.std.proofs.Common.{◌≡◌, ◌≢◌, ℕ, suc, ◌+◌, ◌<◌, ◌≤◌, Bool, true, false, nat_eq, nat_lt, ◌&&◌, ◌==◌, if◌then◌else◌, List, [], ◌∷◌, ◌++◌, length, slice_index_or, Option, Some, None, IsSome, refl, sym, ap, subst, ◌∙◌, arith}
use Rattle.std.specs.List.{All}
use Rattle.std.specs.Option.{option_map}
use Rattle.std.proofs.lemmas.Bool.{and_parts}
use Rattle.std.proofs.lemmas.Bool.Decides.{nat_tests}
use Rattle.std.proofs.lemmas.Option.{none-some}
use Rattle.aes_core.specs.Cipher.{encrypted}
use Rattle.aes_core.specs.declared.algorithm.Algorithm.{Algorithm}
use Rattle.disk_model.specs.Event.{Event, reads}
use Rattle.disk_model.specs.declared.names.FileName.TheVariants.{Log}
use Rattle.doublewrite.specs.Restore.{AreSpacesApart, no_space, space_at}
use Rattle.key_ring.specs.Local.{local_key}
use Rattle.key_ring.specs.Ring.{RingEntry, pairs_of, ring_key}
use Rattle.page_text.specs.declared.key.PageKey.{PageKey}
use Rattle.redo_text.specs.declared.change.Change.{Change}
use Rattle.space_head.specs.declared.space.SpaceInfo.{SpaceInfo}
use Rattle.store_files.specs.Header.{HeldHeader, HeldSpace, are_in_order}
use Rattle.store_files.specs.Pages.{HasKeyBytes, Head, Page, has_page, is_ciphered, key_at, key_id_of, page_in, pages_of, salts_of}
use Rattle.store_files.proofs.HeaderBounds.{limits}
use Rattle.store_form.specs.Said.{header_said}
use Rattle.store_image.specs.Opening.{HasLater}
use Rattle.store_image.specs.View.{IsChosen, Logged, Text}
use Rattle.store_model.specs.declared.contents.SpaceContents.{SpaceContents}
use Rattle.crash_image.specs.Opened.{IsOpenedAt, StoreOpened, opened_theory}
use Rattle.recovery.specs.Changes.{IsLastChange, Last, Never}
use Rattle.recovery.specs.Due.{IsOpenedWith, IsSpaceOf}
use Rattle.recovery.specs.Groups.{IsSealedUnder}
use Rattle.recovery.specs.Heads.{IsInfoFor}
use Rattle.recovery.specs.Keys.{notes_at}
use Rattle.recovery.specs.Loading.{page_key_in}
use Rattle.recovery.specs.Looking.{FitsTogether}
use Rattle.recovery.specs.Notes.{AreNotesOf, AreSpaceNotes, IsNoteOf}
use Rattle.recovery.specs.SpaceList.{held_at, no_held}
use Rattle.recovery.specs.Spaces.{IsFoundOf, IsSealKeyOf, LacksSealKey, last_in, seal_version}
use Rattle.recovery.specs.Walks.{AllHave}
use Rattle.recovery.specs.declared.looking.Analysis.{Analysis}
use Rattle.recovery.specs.declared.notes.PageNote.{PageNote}
use Rattle.recovery.specs.declared.sealing.SealKey.{SealKey}
use Rattle.recovery.proofs.DuePages.{lsn_noted}
use Rattle.recovery.proofs.KeySteps.{pairs_long, pairs_nth}
use Rattle.recovery.proofs.PlaceSteps.{one_place, place_has, place_some}
use Rattle.recovery.proofs.RunSteps.{entries_above}

-- ---- keys

same_number : (a b : ℕ) → (a == b) ≡ true → a ≡ b
same_number a b is = grind (arith, nat_tests)

-- a ring has no version 0
pub none_at_0 : (ring : List RingEntry) (id : ℕ) → All (λ p. 1 ≤ p.1) (pairs_of ring) → ring_key ring id 0 ≡ None
none_at_0 [] id all = refl
none_at_0 (e ∷ es) id all = by (e.0.0 == id && e.0.1 == 0) refl (none_at_0 es id (λ k d lt. all (suc k) d (omega arith)))
  where
    by : (b : Bool) → (e.0.0 == id && e.0.1 == 0) ≡ b → ring_key es id 0 ≡ None → (if b then Some e.1 else ring_key es id 0) ≡ None
    by true test rest =
        let same : e.0.1 ≡ 0 = same_number e.0.1 0 (and_parts _ _ test).1 in
        let least : 1 ≤ e.0.1 = all 0 e.0 (omega arith) in
        absurd (omega (arith, same, least))
    by false test rest = rest

pub no_key_at_0 : (ring : List RingEntry) (algorithm : Algorithm) (info : SpaceInfo) (version : ℕ) → All (λ p. 1 ≤ p.1) (pairs_of ring) → version ≡ 0 → page_key_in ring algorithm info version ≡ None
no_key_at_0 ring algorithm info version all none =
    ap (λ (v : ℕ). page_key_in ring algorithm info v) none
    ∙ ap (λ (o : Option (List ℕ)). option_map (λ local. record { local = local; algorithm = algorithm }) (option_map (λ key. encrypted key info.salt) o)) (none_at_0 ring info.key_id all)

module _ (ring : List RingEntry) (algorithm : Algorithm) (active : ℕ) (info : SpaceInfo) (all : All (λ p. 1 ≤ p.1) (pairs_of ring)) (version : ℕ) (version_is : version ≡ seal_version active info) where
  value_is : page_key_in ring algorithm info version ≡ page_key_in ring algorithm info (seal_version active info)
  value_is = ap (λ (v : ℕ). page_key_in ring algorithm info v) version_is

  pub seal_in_clear : version ≡ 0 → IsSealKeyOf ring algorithm active info (record { version = version; key = None })
  seal_in_clear none = record {
    version_is = version_is;
    key_is = sym (no_key_at_0 ring algorithm info version all none) ∙ value_is;
    keyed = (λ is. absurd (by None refl is), λ differ. absurd (differ none));
    known = tt;
  }
    where
      by : (key : Option PageKey) → key ≡ None → IsSome key → ⊥
      by None same is = cc
      by (Some key) same is = none-some key (sym same)

  pub seal_with : (key : PageKey) → Some key ≡ page_key_in ring algorithm info version → HasKeyBytes key → IsSealKeyOf ring algorithm active info (record { version = version; key = Some key })
  seal_with key is known = record {
    version_is = version_is;
    key_is = is ∙ value_is;
    keyed = (λ some. λ none. none-some key (sym (no_key_at_0 ring algorithm info version all none) ∙ sym is), λ differ. refl);
    known = known;
  }

  pub seal_lacks : version ≢ 0 → None ≡ page_key_in ring algorithm info version → LacksSealKey ring algorithm active info
  seal_lacks some is = record { some = λ none. some (version_is ∙ none); none = sym value_is ∙ sym is }

-- ---- contents

-- the salt of a space is that of its head
salt_of_head : (c : List SpaceContents) (s : ℕ) (info : SpaceInfo) → pages_of c s 0 ≡ Head info → info.salt ≡ salts_of c s
salt_of_head [] s info is = absurd cc
salt_of_head (x ∷ xs) s info is = by (salt_of_head xs s info) (nat_eq x.info.space s) is
  where
    by : (pages_of xs s 0 ≡ Head info → info.salt ≡ salts_of xs s) → (b : Bool) → (if b then page_in x 0 else pages_of xs s 0) ≡ Head info → info.salt ≡ (if b then x.info.salt else salts_of xs s)
    by rest true e = let one : x.info ≡ info = cc in sym (ap (λ (i : SpaceInfo). i.salt) one)
    by rest false e = rest e

-- ---- what was found fits together

module _ (active : ℕ) (found : Analysis) (fits : FitsTogether active found) where
  abbrev hs : List HeldSpace
  hs = (header_said found.header).spaces

  abbrev info : ℕ → SpaceInfo
  info i = space_at found.changes.spaces i

  pub order : are_in_order 0 hs ≡ true
  order = (limits (header_said found.header) fits.allowed).order

  pub long : length found.changes.spaces ≡ length hs
  long = pairs_long IsInfoFor hs found.changes.spaces fits.infos

  pub for_space : (i : ℕ) → i < length hs → IsInfoFor (held_at hs i) (info i)
  for_space i lt = pairs_nth IsInfoFor hs found.changes.spaces i no_held no_space fits.infos lt

  pub noted : (i : ℕ) → i < length hs → length (notes_at found.notes i) ≡ (info i).pages
  noted i lt = pairs_nth (λ h n. length n ≡ h.pages) hs found.notes i no_held [] fits.noted lt ∙ sym (for_space i lt).pages

  pub spaces_noted : length found.notes ≡ length hs
  spaces_noted = pairs_long (λ h n. length n ≡ h.pages) hs found.notes fits.noted

  pub listed : (i : ℕ) → i < length hs → length (last_in found i) ≡ (info i).pages
  listed i lt = fits.last.pages i lt ∙ sym (for_space i lt).pages

  -- its spaces have ids of their own
  pub apart : (i j : ℕ) → i < length hs → j < length hs → (info i).space ≡ (info j).space → i ≡ j
  apart i j li lj same = one_place 0 hs i j order li lj (sym (for_space i li).space ∙ same ∙ (for_space j lj).space)

  pub spaces_apart : AreSpacesApart found.changes.spaces
  spaces_apart i j lt below same = let size = long in let one = apart i j (omega (arith, lt, below, size)) (omega (arith, below, size)) same in omega (arith, lt, one)

  module _ (o : StoreOpened) (entry : List Event) (keys : List RingEntry) (own : IsOpenedWith o (header_said found.header) keys found.checkpoint.from (found.run.last + 1)) (is : IsFoundOf o active entry found) where
    module _ (i : ℕ) (lt : i < length hs) where
      abbrev z : ℕ
      z = (info i).space

      head : pages_of o.contents z 0 ≡ Head (info i)
      head = ap (λ (s : ℕ). pages_of o.contents s 0) (for_space i lt).space ∙ sym (is.heads_of i lt)

      pub has_pages : (p : ℕ) → p < (info i).pages → has_page o.header.spaces z p ≡ true
      has_pages p below =
          let page : p < (held_at hs i).pages = (let size = (for_space i lt).pages in omega (arith, below, size)) in
          ap (λ (h : HeldHeader). has_page h.spaces z p) own.header_is ∙ ap (λ (s : ℕ). has_page hs s p) (for_space i lt).space ∙ (place_has 0 hs i p order lt page).has

      key_id_is : (info i).key_id ≡ key_id_of o.header.spaces z
      key_id_is =
          (for_space i lt).key_id ∙ sym (place_has 0 hs i 0 order lt (place_some 0 hs i order lt)).key_id ∙ ap (λ (s : ℕ). key_id_of hs s) (sym (for_space i lt).space)
          ∙ ap (λ (h : HeldHeader). key_id_of h.spaces z) (sym own.header_is)

      salt_is : (info i).salt ≡ salts_of o.contents z
      salt_is = salt_of_head o.contents z (info i) head

      own_notes : AreSpaceNotes entry (held_at hs i) (notes_at found.notes i)
      own_notes = pairs_nth (AreSpaceNotes entry) hs found.notes i no_held [] is.notes_of lt

      pub space_of : IsSpaceOf o entry (info i) (notes_at found.notes i) (last_in found i)
      space_of = record {
        has = λ p below. let size = noted i lt in has_pages p (omega (arith, below, size));
        notes_of = subst (λ (s : ℕ). AreNotesOf s (notes_at found.notes i) entry) (sym (for_space i lt).space) own_notes.notes_of;
        last_of = λ p below.
            let size = noted i lt in
            let same = (for_space i lt).pages in
            subst (λ (s : ℕ). IsLastChange o.view.run s p (slice_index_or (last_in found i) p 0)) (sym (for_space i lt).space) (is.last_of.each i p lt (omega (arith, below, size, same)));
        key_id = key_id_is;
        salt = salt_is;
      }

      key_as : (version : ℕ) → page_key_in keys found.header.algorithm (info i) version ≡ key_at o.header o.keys (salts_of o.contents) z version
      key_as version =
          ap (λ (id : ℕ). option_map (λ local. record { local = local; algorithm = found.header.algorithm }) (local_key keys id version (info i).salt)) key_id_is
          ∙ ap (λ (l : List ℕ). option_map (λ local. record { local = local; algorithm = found.header.algorithm }) (local_key keys (key_id_of o.header.spaces z) version l)) salt_is
          ∙ ap (λ (k : List RingEntry). option_map (λ local. record { local = local; algorithm = found.header.algorithm }) (local_key k (key_id_of o.header.spaces z) version (salts_of o.contents z))) (sym own.keys_are)
          ∙ ap (λ (h : HeldHeader). option_map (λ local. record { local = local; algorithm = h.algorithm }) (local_key o.keys (key_id_of o.header.spaces z) version (salts_of o.contents z))) (sym own.header_is)

      pub sealed_under : (under : SealKey) → IsSealKeyOf keys found.header.algorithm active (info i) under → IsSealedUnder o z under.version under.key
      sealed_under under key = record {
        version_is = key.version_is ∙ ap (λ (x : Page). if is_ciphered x then active else 0) (sym head) ∙ ap (λ (a : ℕ). if is_ciphered (pages_of o.contents z 0) then a else 0) (sym is.active_is);
        key_is = key.key_is ∙ ap (λ (v : ℕ). page_key_in keys found.header.algorithm (info i) v) (sym key.version_is) ∙ key_as under.version;
        known = key.known;
      }

-- ---- pages with later changes

-- what all entries of a run have, the one that names a page has
named_has : (P : ℕ → Type 0) (run before : List (Logged (List Change))) (entry : Logged (List Change)) (behind : List (Logged (List Change))) → run ≡ before ++ entry ∷ behind → AllHave (λ e. P e.lsn) run → P entry.lsn
named_has P run before entry behind is all = walk before (subst (λ (r : List (Logged (List Change))). AllHave (λ e. P e.lsn) r) is all)
  where
    walk : (bs : List (Logged (List Change))) → AllHave (λ e. P e.lsn) (bs ++ entry ∷ behind) → P entry.lsn
    walk [] all = all.0
    walk (b ∷ bs) all = walk bs all.1

module _ (o : StoreOpened) (number : ℕ) (entry : List Event) (opened : IsOpenedAt o number entry) (s p : ℕ) (note : PageNote) (noted_so : IsNoteOf s p note entry) (last : ℕ) (last_so : IsLastChange o.view.run s p last)
    (here : has_page o.header.spaces s p ≡ true) (later : HasLater (opened_theory o) o.view (pages_of o.contents) o.active s p) where
  below_last : later.lsn ≤ last
  below_last = by last_so
    where
      by : IsLastChange o.view.run s p last → later.lsn ≤ last
      by (Never zero_is none) = absurd (none later.lsn later.named)
      by (Last named most) = most later.lsn later.named

  some_lsn : 0 < later.lsn
  some_lsn =
      let n = later.named in
      let all = entries_above o.header o.keys (reads Log entry) o.view.from o.view.run o.view.end opened.reading.run.entries in
      subst (λ (k : ℕ). 0 < k) n.lsn_is (named_has (λ k. 0 < k) o.view.run n.before n.entry n.behind n.is all)

  above_note : note.lsn < later.lsn
  above_note = let page = opened.recovers.pages s p here in by page.chosen page.is
    where
      by : (a : Option Text) → IsChosen o.view s p a → note.lsn < later.lsn
      by (Some t) chosen = let same = lsn_noted o number entry opened s p note noted_so (Some t) chosen in let above = later.above t chosen in omega (arith, same, above)
      by None chosen = let same = lsn_noted o number entry opened s p note noted_so None chosen in let some = some_lsn in omega (arith, same, some)

  pub later_noted : nat_lt note.lsn last ≡ true
  later_noted = let above = above_note in let below = below_last in let lt : note.lsn < last = omega (arith, above, below) in grind (arith, nat_tests)
