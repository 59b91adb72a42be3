-- What a store at rest of one space reads as once the home of a page behind page 0 was written.
use Rattle.std.proofs.Common.{◌≡◌, ◌≢◌, ◌⊎◌, inl, inr, ⊎_elim, ℕ, zero, suc, ◌+◌, ◌*◌, ◌<◌, ◌≤◌, Bool, true, false, if◌then◌else◌, List, [], ◌∷◌, length, slice_index_or, refl, sym, ap, subst, ◌∙◌, arith, length-set}
use Rattle.std.specs.Prelude.{slice_set, All}
use Rattle.std.proofs.lemmas.List.{get_or-set_same, get_or-set_other}
use Rattle.disk_model.specs.Event.{Event, Write, put, reads}
use Rattle.disk_model.specs.Image.{InFile}
use Rattle.disk_model.specs.declared.names.FileName.{FileName}
use Rattle.disk_model.specs.declared.names.FileName.TheVariants.{Space}
use Rattle.disk_model.proofs.Blocks.{length-put}
use Rattle.disk_model.proofs.ByName.{reads_write_same}
use Rattle.places.specs.Places.{place}
use Rattle.places.proofs.Apart.{place-put_same, place-put_other}
use Rattle.page_places.specs.Texts.{page_bytes, are_zero}
use Rattle.byte_list.specs.Fields.{be32_at}
use Rattle.space_head.specs.Head.{head_of}
use Rattle.space_head.specs.declared.space.Home.{Home}
use Rattle.space_head.specs.declared.space.Home.TheVariants.{Unused, Clean, Dirty}
use Rattle.space_head.specs.declared.space.SpaceInfo.{SpaceInfo}
use Rattle.store_files.specs.Header.{HeldHeader, HeldSpace}
use Rattle.store_form.specs.Rest.{AreNoneDirty, HaveHomes, IsRestForm, ReadsAtRest, SpaceReads, SpacesRead, home_told}

-- what is told of a home isn't that it is dirty
told_clean : (bytes : List ℕ) → home_told bytes ≢ Dirty
told_clean bytes = by (are_zero bytes)
  where
    by : (b : Bool) → (if b then Unused else Clean (be32_at bytes 0)) ≢ Dirty
    by true is = absurd (cc)
    by false is = absurd (cc)

same_or_other : (p q : ℕ) → (q ≡ p) ⊎ (q ≢ p)
same_or_other zero zero = inl refl
same_or_other zero (suc q) = inr (λ is. omega (arith, is))
same_or_other (suc p) zero = inr (λ is. omega (arith, is))
same_or_other (suc p) (suc q) = ⊎_elim (λ (is : q ≡ p). inl (ap suc is)) (λ (other : q ≢ p). inr (λ is. other (omega (arith, is)))) (same_or_other p q)

none_dirty_set : (homes : List Home) (p : ℕ) (home : Home) → AreNoneDirty homes → home ≢ Dirty → AreNoneDirty (slice_set homes p home)
none_dirty_set homes p home all clean = λ k d lt. by k d lt (same_or_other p k)
  where
    by : (k : ℕ) (d : Home) → k < length (slice_set homes p home) → (k ≡ p) ⊎ (k ≢ p) → slice_index_or (slice_set homes p home) k d ≢ Dirty
    by k d lt (inl same) = λ dirty.
        let long = length-set homes p home in
        clean (sym (ap (λ (n : ℕ). slice_index_or (slice_set homes p home) n d) same ∙ get_or-set_same homes p home d (omega (arith, lt, long, same))) ∙ dirty)
    by k d lt (inr other) = λ dirty.
        let long = length-set homes p home in
        all k d (omega (arith, lt, long)) (sym (get_or-set_other homes p k home d other) ∙ dirty)

-- a space reads as before, but for the page
module _ (info : SpaceInfo) (homes : List Home) (p : ℕ) (home : Home) (bytes : List ℕ) (es : List Event) (some : 1 ≤ p) (below : p < info.pages) (listed : length homes ≡ info.pages) (long : length bytes ≡ page_bytes) (told : home ≡ home_told bytes) (read : SpaceReads info homes es) where
  abbrev file : FileName
  file = Space info.space

  abbrev after : List Event
  after = Write file (p * page_bytes) bytes bytes ∷ es

  fits : p * 16384 + 16384 ≤ length (reads file es)
  fits = let size = read.long in omega (arith, size, below)

  is : reads file after ≡ put (p * page_bytes) bytes (reads file es)
  is = reads_write_same file (p * page_bytes) bytes bytes es

  other_page : (q : ℕ) → q ≢ p → place page_bytes q (reads file after) ≡ place page_bytes q (reads file es)
  other_page q other = ap (λ (f : List ℕ). place page_bytes q f) is ∙ place-put_other page_bytes p bytes (reads file es) long fits q other

  this_page : place page_bytes p (reads file after) ≡ bytes
  this_page = ap (λ (f : List ℕ). place page_bytes p f) is ∙ place-put_same page_bytes p bytes (reads file es) long fits

  told_of : (q : ℕ) → q < info.pages → (q ≡ p) ⊎ (q ≢ p) → slice_index_or (slice_set homes p home) q Unused ≡ home_told (place page_bytes q (reads file after))
  told_of q lt (inl same) =
      ap (λ (k : ℕ). slice_index_or (slice_set homes p home) k Unused) same
      ∙ get_or-set_same homes p home Unused (omega (arith, below, listed))
      ∙ told
      ∙ ap home_told (sym this_page)
      ∙ ap (λ (k : ℕ). home_told (place page_bytes k (reads file after))) (sym same)
  told_of q lt (inr other) = get_or-set_other homes p q home Unused other ∙ read.told q lt ∙ ap home_told (sym (other_page q other))

  pub space_written : SpaceReads info (slice_set homes p home) after
  space_written = record {
    there = read.there;
    long = ap length is ∙ length-put (p * page_bytes) bytes (reads file es) (omega (arith, long, fits)) ∙ read.long;
    head = (read.head.0, ap head_of (other_page 0 (λ zero_is. omega (arith, zero_is, some))) ∙ read.head.1);
    told = λ q lt. told_of q lt (same_or_other p q);
  }

-- A store of one space, whose home of page p becomes these bytes.
module _ (header : HeldHeader) (held : HeldSpace) (one : header.spaces ≡ held ∷ []) (next sequence p : ℕ) (some : 1 ≤ p) (below : p < held.pages) (home : Home) (bytes : List ℕ) (long : length bytes ≡ page_bytes) (told : home ≡ home_told bytes) where
  abbrev set : List (List Home) → List (List Home)
  set homes = slice_set homes 0 (slice_set (slice_index_or homes 0 []) p home)

  have_one : (ss : List SpaceInfo) (os : List (List Home)) → HaveHomes header.spaces ss os → HaveHomes (held ∷ []) ss os
  have_one ss os have = subst (λ (hs : List HeldSpace). HaveHomes hs ss os) one have

  -- it has one list of homes, with a place for the page
  lists : (ss : List SpaceInfo) (os : List (List Home)) → HaveHomes (held ∷ []) ss os → (0 < length os) × (p < length (slice_index_or os 0 []))
  lists [] os have = absurd have
  lists (s ∷ ss) [] have = absurd have
  lists (s ∷ ss) (o ∷ os) (space, pages, key_id, count, clean, rest) = (omega arith, omega (arith, below, count))

  pub homes_long : (ss : List SpaceInfo) (os : List (List Home)) → IsRestForm header ss os next sequence → (0 < length os) × (p < length (slice_index_or os 0 []))
  homes_long ss os form = lists ss os (have_one ss os form.have)

  -- the page lies within its file
  inside : (ss : List SpaceInfo) (os : List (List Home)) → HaveHomes (held ∷ []) ss os → (es : List Event) → SpacesRead ss os es → InFile (Space held.space) (p * page_bytes) page_bytes es
  inside [] os have es read = absurd have
  inside (s ∷ ss) [] have es read = absurd have
  inside (s ∷ ss) (o ∷ os) (space, pages, key_id, count, clean, rest) es read =
      let size = read.0.long in
      let within : p * 16384 + 16384 ≤ length (reads (Space s.space) es) = omega (arith, size, below, pages) in
      subst (λ (n : ℕ). InFile (Space n) (p * page_bytes) page_bytes es) space (record { there = read.0.there; within = within })

  pub home_inside : (ss : List SpaceInfo) (os : List (List Home)) → IsRestForm header ss os next sequence → (es : List Event) → ReadsAtRest header ss os next sequence es → InFile (Space held.space) (p * page_bytes) page_bytes es
  home_inside ss os form es read = inside ss os (have_one ss os form.have) es read.spaces_read

  have_set : (ss : List SpaceInfo) (os : List (List Home)) → HaveHomes (held ∷ []) ss os → HaveHomes (held ∷ []) ss (set os)
  have_set [] os have = absurd have
  have_set (s ∷ ss) [] have = absurd have
  have_set (s ∷ ss) (o ∷ os) (space, pages, key_id, count, clean, rest) =
      (space, pages, key_id, length-set o p home ∙ count, none_dirty_set o p home clean (λ dirty. told_clean bytes (sym told ∙ dirty)), rest)

  pub form_written : (ss : List SpaceInfo) (os : List (List Home)) → IsRestForm header ss os next sequence → IsRestForm header ss (set os) next sequence
  form_written ss os form = record {
    allowed = form.allowed;
    have = subst (λ (hs : List HeldSpace). HaveHomes hs ss (set os)) (sym one) (have_set ss os (have_one ss os form.have));
    least = form.least;
    most = form.most;
    some = form.some;
    below = form.below;
  }

  read_set : (ss : List SpaceInfo) (os : List (List Home)) → HaveHomes (held ∷ []) ss os → (es : List Event) → SpacesRead ss os es → SpacesRead ss (set os) (Write (Space held.space) (p * page_bytes) bytes bytes ∷ es)
  read_set [] os have es read = tt
  read_set (s ∷ ss) [] have es read = absurd have
  read_set (s ∷ []) (o ∷ os) (space, pages, key_id, count, clean, rest) es read =
      subst (λ (n : ℕ). SpaceReads s (slice_set o p home) (Write (Space n) (p * page_bytes) bytes bytes ∷ es) × Unit {0}) space
      (space_written s o p home bytes es some (omega (arith, below, pages)) (omega (arith, count, pages)) long told read.0, tt)
  read_set (s ∷ (t ∷ ts)) (o ∷ os) (space, pages, key_id, count, clean, rest) es read = absurd (no_more os rest)
    where
      no_more : (os : List (List Home)) → HaveHomes [] (t ∷ ts) os → ⊥
      no_more [] have = have
      no_more (o ∷ os) have = have

  pub reads_written : (ss : List SpaceInfo) (os : List (List Home)) → IsRestForm header ss os next sequence → (es : List Event) → ReadsAtRest header ss os next sequence es
      → ReadsAtRest header ss (set os) next sequence (Write (Space held.space) (p * page_bytes) bytes bytes ∷ es)
  reads_written ss os form es read = record {
    is_header = read.is_header;
    log_there = read.log_there;
    log = read.log;
    double_there = read.double_there;
    double = read.double;
    checkpoint = read.checkpoint;
    spaces_read = read_set ss os (have_one ss os form.have) es read.spaces_read;
  }
