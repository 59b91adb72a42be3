-- What a store at rest tells of its files, where each is there and was written in whole places: what a session's start asks of them.
use Rattle.std.proofs.Common.{◌≡◌, ℕ, ◌*◌, Bool, true, false, true≢false, nat_eq, nat_lt, if◌then◌else◌, List, [], ◌∷◌, length, Some, refl, sym, ap, subst, ◌∙◌, arith}
use Rattle.std.proofs.lemmas.Bool.Decides.{nat_tests}
use Rattle.std.proofs.lemmas.Option.{same_Some}
use Rattle.disk_model.specs.Event.{Event, is_there}
use Rattle.disk_model.specs.Image.{Image}
use Rattle.disk_model.specs.declared.names.FileName.TheVariants.{Log, Double, Space}
use Rattle.places.specs.Places.{shown, AreWhole, HasPlaces}
use Rattle.page_places.specs.Placed.{IsPlaced}
use Rattle.page_places.specs.Texts.{page_bytes, slots, pages}
use Rattle.store_files.specs.Header.{HeldHeader, HeldSpace}
use Rattle.store_files.specs.Pages.{has_page}
use Rattle.crash_image.specs.LogForm.{log_places}
use Rattle.crash_image.specs.Recovers.{AreLong, SpacesLong}
use Rattle.crash_image.specs.Rest.{read_image, IsAtRest}
use Rattle.crash_image.proofs.LivesOverBytes.{none_pending_whole}
use Rattle.session_image.specs.Kept.{SessionStore, SessionFiles, page_count}

-- the length of a space, by its id
space_long : (image : Image) (hs : List HeldSpace) → SpacesLong image hs → (s : ℕ) → has_page hs s 0 ≡ true → length (image.bytes (Space s)) ≡ page_count hs s * page_bytes
space_long image [] long s there = absurd (true≢false (sym there))
space_long image (h ∷ hs) long s there = by (nat_eq h.space s) refl there (λ rest. space_long image hs long.1 s rest)
  where
    by : (b : Bool) → nat_eq h.space s ≡ b → (if b then nat_lt 0 h.pages else has_page hs s 0) ≡ true → (has_page hs s 0 ≡ true → length (image.bytes (Space s)) ≡ page_count hs s * page_bytes)
        → length (image.bytes (Space s)) ≡ (if b then h.pages else page_count hs s) * page_bytes
    by true same some rest = let id : h.space ≡ s = grind (arith, nat_tests) in ap (λ (n : ℕ). length (image.bytes (Space n))) (sym id) ∙ long.0
    by false same some rest = rest some

module _ (store : SessionStore) (next : ℕ) (es : List Event) (rests : IsAtRest es store.book store.base next) (header_is : rests.recovers.header ≡ store.header) where
  long : AreLong (read_image es) store.header
  long = subst (AreLong (read_image es)) header_is rests.recovers.by.reading.long

  -- the log
  pub rest_log : is_there Log es ≡ true → AreWhole Log (log_places store.header.blocks) es → HasPlaces Log (log_places store.header.blocks) es
  rest_log there whole = record { some = omega arith; there = there; size = long.log; whole = whole }

  placed : (s p : ℕ) → has_page store.header.spaces s p ≡ true → IsPlaced p (shown (Space s) page_bytes p es)
  placed s p there = rests.recovers.by.reading.placed s p (subst (λ (h : HeldHeader). has_page h.spaces s p ≡ true) (sym header_is) there)

  -- and the other files
  pub rest_files : is_there Double es ≡ true → AreWhole Double slots es → ((s : ℕ) → has_page store.header.spaces s 0 ≡ true → is_there (Space s) es ≡ true) → ((s : ℕ) → AreWhole (Space s) (pages (page_count store.header.spaces s)) es) → SessionFiles store es
  rest_files double double_whole spaces spaces_whole = record {
    double = record { some = omega arith; there = double; size = long.double; whole = double_whole };
    spaces = λ s there. record { some = omega arith; there = spaces s there; size = space_long (read_image es) store.header.spaces long.spaces s there; whole = spaces_whole s };
    whole = spaces_whole;
    placed = λ s p there bytes may.
        let same : bytes ≡ shown (Space s) page_bytes p es = same_Some bytes (shown (Space s) page_bytes p es) (none_pending_whole es rests.settled (Space s) (pages (page_count store.header.spaces s)) (omega arith) (spaces_whole s) p (Some bytes) may) in
        subst (IsPlaced p) (sym same) (placed s p there);
  }
