-- What is known of the disk as a session begins.
use Rattle.std.proofs.Common.{◌≡◌, ℕ, ◌<◌, Bool, true, false, nat_eq, nat_lt, if◌then◌else◌, List, [], ◌∷◌, length, Option, Some, None, refl, sym, ap, subst, ◌∙◌, arith}
use Rattle.std.specs.Prelude.{Result, Ok}
use Rattle.std.proofs.lemmas.Bool.Decides.{nat_tests}
use Rattle.std.proofs.lemmas.Option.{none-some, same_Some}
use Rattle.counted_disk.specs.declared.counted.Counted.{Counted}
use Rattle.disk_model.specs.Event.{Event, marks}
use Rattle.disk_model.specs.Marks.{acked}
use Rattle.disk_model.specs.declared.names.FileName.TheVariants.{Space}
use Rattle.key_ring.specs.Ring.{RingEntry}
use Rattle.page_places.specs.Texts.{page_bytes, pages}
use Rattle.places.specs.Places.{shown}
use Rattle.places.proofs.Steps.{length-shown}
use Rattle.redo_log.proofs.FitSteps.{empty_fits}
use Rattle.session_core.specs.Session.{Running}
use Rattle.session_core.specs.Spaces.{space_with_id}
use Rattle.session_core.specs.Start.{session_begun}
use Rattle.session_core.specs.Told.{ReadsAsTold}
use Rattle.session_core.specs.declared.options.SessionOptions.{SessionOptions}
use Rattle.session_core.proofs.SpaceLaws.{space_id}
use Rattle.session_image.specs.Kept.{SessionReady, SessionStore, begun, begun_ring, page_count}
use Rattle.session_image.proofs.Starts.{record_starts, session_starts}
use Rattle.space_head.specs.Head.{head_of}
use Rattle.space_head.specs.declared.fault.HeadFault.{HeadFault}
use Rattle.space_head.specs.declared.head.SpaceHead.{SpaceHead}
use Rattle.space_head.specs.declared.record.CryptRecord.{CryptRecord}
use Rattle.space_head.specs.declared.space.SpaceInfo.{SpaceInfo}
use Rattle.store_files.specs.Header.{HeldHeader, HeldSpace}
use Rattle.store_files.specs.Pages.{Head, Page, has_page, head_of_space, pages_of, salts_of}
use Rattle.store_form.specs.Rest.{StoreAtRest, head_in_mode}
use Rattle.store_form.proofs.RestPages.{Blank, HomeTells, Means, head_told, home_tells, rest_by, salt_told}
use Rattle.engine_core.specs.Engine.{IsStarted}
use Rattle.engine_core.specs.Kept.{BeginsAt, BeginsRecordAt, IsReadySession}

-- ---- page 0

same_read : (h g : SpaceHead) → ◌≡◌ {A = Result SpaceHead HeadFault} (Ok h) (Ok g) → h ≡ g
same_read h g e = cc

-- the heads of two spaces are equal only where the spaces are
same_info : (a b : SpaceInfo) (mode : ℕ) → ◌≡◌ {A = Result SpaceHead HeadFault} (Ok (head_of_space a)) (Ok (head_in_mode mode b)) → a ≡ b
same_info a b mode e =
    let heads : head_of_space a ≡ head_in_mode mode b = same_read _ _ e in
    let crypts : record { ciphered = a.ciphered; salt = a.salt; minimum = a.floor; key_id = a.key_id; mode = if a.ciphered then 1 else 2 } ≡ record { ciphered = b.ciphered; salt = b.salt; minimum = b.floor; key_id = b.key_id; mode = mode } =
    same_Some _ _ (ap (λ (h : SpaceHead). h.crypt) heads) in
    let space : a.space ≡ b.space = ap (λ (h : SpaceHead). h.space) heads in
    let pages : a.pages ≡ b.pages = ap (λ (h : SpaceHead). h.pages) heads in
    let ciphered : a.ciphered ≡ b.ciphered = ap (λ (r : CryptRecord). r.ciphered) crypts in
    let salt : a.salt ≡ b.salt = ap (λ (r : CryptRecord). r.salt) crypts in
    let floor : a.floor ≡ b.floor = ap (λ (r : CryptRecord). r.minimum) crypts in
    let key_id : a.key_id ≡ b.key_id = ap (λ (r : CryptRecord). r.key_id) crypts in
    λ i. record { space = space i; pages = pages i; key_id = key_id i; ciphered = ciphered i; salt = salt i; floor = floor i }

-- page 0 is the head that its home says
head_is : (store : SessionStore) (s : ℕ) (bytes : List ℕ) (c : ℕ → ℕ → Page) (info : SpaceInfo) (mode : ℕ) → length bytes ≡ 16384 → HomeTells store.header store.book (salts_of store.base) c s 0 bytes → head_of bytes ≡ Ok (head_in_mode mode info) → c s 0 ≡ Head info
head_is store s bytes c info mode long (Blank zero some unused) says = absurd (some refl)
head_is store s bytes c info mode long (Means means) says =
    let (own, is, read) = head_told store.header store.book (salts_of store.base) c s bytes (c s 0) long means in
    is ∙ ap (λ (i : SpaceInfo). Head i) (same_info own info mode (sym read ∙ says))

-- how many pages a space has
pub count_above : (spaces : List HeldSpace) (s p : ℕ) → has_page spaces s p ≡ true → p < page_count spaces s
count_above [] s p there = absurd (cc)
count_above (x ∷ xs) s p there = by (nat_eq x.space s) (count_above xs s p) there
  where
    by : (b : Bool) → (has_page xs s p ≡ true → p < page_count xs s) → (if b then nat_lt p x.pages else has_page xs s p) ≡ true → p < (if b then x.pages else page_count xs s)
    by true behind lt = grind (arith, nat_tests)
    by false behind later = behind later

-- ---- the first moment

module _ {D : Type 0} (store : SessionStore) (kept : Type 0) (rest : StoreAtRest D) (ring : List RingEntry) (options : SessionOptions) (disk : Counted D) where
  abbrev first : Running D
  first = session_begun rest ring options disk

  module _ (es : List Event) (b : BeginsAt store first es) (started : IsStarted es) (told : ReadsAsTold first.store first.log first.pool es) where
    none_acked : acked (marks es) ≡ 0
    none_acked = ap (λ (l : List Event). acked (marks l)) started.is

    ready : SessionReady store (begun store rest.next) (begun_ring store rest.next rest.sequence es) es
    ready = session_starts store ring options.active rest.next rest.sequence es b none_acked

    header_is : rest.header ≡ store.header
    header_is = same_Some _ _ (sym told.front.is_header ∙ b.rests.recovers.is_header) ∙ b.header_is

    -- what the bytes of page 0 are, and say
    record PageZero (s : ℕ) (info : SpaceInfo) : Type 0 where
      mode : ℕ
      long : length (shown (Space s) page_bytes 0 es) ≡ 16384
      home : HomeTells store.header store.book (salts_of store.base) (pages_of store.base) s 0 (shown (Space s) page_bytes 0 es)
      says : head_of (shown (Space s) page_bytes 0 es) ≡ Ok (head_in_mode mode info)

    page_0 : (s : ℕ) (info : SpaceInfo) → has_page store.header.spaces s 0 ≡ true → space_with_id rest.spaces s ≡ Some info → PageZero s info
    page_0 s info there is =
        let tells = told.heads s info is in
        let by = rest_by es store.book store.base rest.next store.header b.rests (b.rests.recovers.is_header ∙ ap (λ (h : HeldHeader). Some h) b.header_is) in
        record {
          mode = tells.mode;
          long = length-shown (Space s) (pages (page_count store.header.spaces s)) 0 es (count_above store.header.spaces s 0 there) (b.files.spaces s there);
          home = home_tells es store.book store.base store.header by s 0 there;
          says = subst (λ (n : ℕ). head_of (shown (Space n) page_bytes 0 es) ≡ Ok (head_in_mode tells.mode info)) (space_id rest.spaces s info is) (tells.home refl);
        }

    heads : (s : ℕ) (info : SpaceInfo) → has_page store.header.spaces s 0 ≡ true → space_with_id rest.spaces s ≡ Some info → pages_of store.base s 0 ≡ Head info
    heads s info there is = let here = page_0 s info there is in head_is store s (shown (Space s) page_bytes 0 es) (pages_of store.base) info here.mode here.long here.home here.says

    salted : (s : ℕ) (info : SpaceInfo) → has_page store.header.spaces s 0 ≡ true → space_with_id rest.spaces s ≡ Some info → salts_of store.base s ≡ info.salt
    salted s info there is =
        let here = page_0 s info there is in
        salt_told store.header store.book store.base s info here.mode (shown (Space s) page_bytes 0 es) here.long here.home here.says

    pub first_ready : (kept → BeginsRecordAt store first es) → IsReadySession store kept first es
    first_ready recorded = record {
      header = header_is;
      of_book = b.of_book;
      named = b.ring_named;
      session = begun store rest.next;
      ring = begun_ring store rest.next rest.sequence es;
      ready = ready;
      fits = empty_fits rest.header.blocks rest.next rest.sequence (begun_ring store rest.next rest.sequence es) refl refl refl;
      start = refl;
      journal = refl;
      next = refl;
      dirty = λ s p. refl;
      whole = refl;
      holds = λ s p page some there is. absurd (none-some page is);
      heads = heads;
      salts = salted;
      recorded = λ has. let r = recorded has in record_starts store ring options.active rest.next rest.sequence es r.begins r.record_is;
    }
