-- From the theory to bytes: where the theory says that a view stands or recovers, the image does.
use Rattle.std.proofs.Common.{◌≡◌, ℕ, ◌+◌, ◌*◌, ◌≤◌, true, List, [], ◌∷◌, take, Option, Some, None, refl, sym, ap, subst, ◌∙◌}
use Rattle.std.specs.Prelude.{Contains}
use Rattle.disk_model.specs.Image.{Image}
use Rattle.disk_model.specs.Marks.{acked, minimum_of}
use Rattle.key_ring.specs.Ring.{RingEntry}
use Rattle.page_places.specs.Views.{view}
use Rattle.store_image.specs.Places.{LogView}
use Rattle.store_image.specs.Recovers as pages
use Rattle.store_image.specs.View.{Text, View, Logged}
use Rattle.store_model.specs.Fold.{fold}
use Rattle.redo_text.specs.declared.change.Change.{Change}
use Rattle.store_model.specs.declared.contents.SpaceContents.{SpaceContents}
use Rattle.store_files.specs.Header.{HeldHeader}
use Rattle.store_files.specs.Pages.{Page, has_page, pages_of, salts_of, HaveSpaces}
use Rattle.store_files.proofs.Folds.{pages_after, spaces_after, spaces_folded, salts_folded}
use Rattle.crash_image.specs.StoreTheory.{store_theory}
use Rattle.crash_image.specs.Recovers.{HasHeader, Reading}
use Rattle.crash_image.specs.Stands.{Named, Stands, mtrs_of}

-- ---- contents that are equal on the store's pages

module _ (T : pages.Theory) (v : View T.M) (c d : pages.PageContents T) (same : (s p : ℕ) → T.has s p ≡ true → c s p ≡ d s p) where
  gives_same : (s p : ℕ) (chosen : Option Text) → T.has s p ≡ true → pages.Gives T v c s p chosen → pages.Gives T v d s p chosen
  gives_same s p (Some t) there (x, m, l, e) = (x, m, l, sym (same s p there) ∙ e)
  gives_same s p None there (z, e) = (z, sym (same s p there) ∙ e)

  pub recovers_same : pages.ViewRecovers T v c → pages.ViewRecovers T v d
  recovers_same r = record {
    pages = λ s p there. let q = r.pages s p there in record { chosen = q.chosen; is = q.is; gives = gives_same s p q.chosen there q.gives };
    slots = λ s p i t there live. let q = r.slots s p i t there live in record { holds = q.holds; means = q.means; named = q.named; same = sym (same s p there) ∙ q.same };
  }

  pub rotated_same : pages.ViewRotated T v c → pages.ViewRotated T v d
  rotated_same r = record {
    floors = λ s there. subst (λ (x : T.X). minimum_of v.told s ≤ T.floor x) (same s 0 there) (r.floors s there);
    plain = λ s there clear. r.plain s there (ap T.is_ciphered (same s 0 there) ∙ clear);
    homes = λ s p t there page used chosen. r.homes s p t there page (ap T.is_used (same s p there) ∙ used) chosen;
    slots = λ s p i t there page used live. r.slots s p i t there page (ap T.is_used (same s p there) ∙ used) live;
  }

-- ---- journals

module _ (header : HeldHeader) (keys : List RingEntry) (salts : ℕ → List ℕ) where
  abbrev T : pages.Theory
  T = store_theory header keys salts

  -- the fold of a journal over contents is its fold of each page
  pub folded : (es : List (Logged (List Change))) (base : List SpaceContents) → HaveSpaces header.spaces base → (c : ℕ → ℕ → Page) → ((s p : ℕ) → has_page header.spaces s p ≡ true → c s p ≡ pages_of base s p)
      → (s p : ℕ) → has_page header.spaces s p ≡ true → pages.fold_pages T es c s p ≡ pages_of (fold (mtrs_of es) base) s p
  folded [] base have c same s p there = same s p there
  folded (e ∷ es) base have c same s p there =
      ap (λ (x : Page). pages.fold_page T es s p (T.acts e.mtr s p x)) (same s p there)
      ∙ ap (λ (x : Page). pages.fold_page T es s p x) (sym (pages_after e.mtr header.spaces base have s p there))
      ∙ folded es (fold (e.mtr ∷ []) base) (spaces_after e.mtr header.spaces base have) (pages_of (fold (e.mtr ∷ []) base)) (λ r q is. refl) s p there

module _ (image : Image) (keys : List RingEntry) (header : HeldHeader) (log : LogView (List Change)) where
  -- An image whose view stands for a beginning of a journal, as the theory says it, stands for it.
  pub stands_by : (base : List SpaceContents) (journal : List (Logged (List Change))) (named : List (ℕ × ℕ)) (active last : ℕ) → last + 1 ≡ log.end → HasHeader image header → Reading image keys header log base
      → pages.ViewStands (store_theory header keys (salts_of base)) (pages_of base) journal (view log image)
      → ((id version : ℕ) → Named image header log active id version → Contains named (id, version)) → Stands base journal image keys named active
  stands_by base journal named active last ends is_header reading stands keyed =
      let T = store_theory header keys (salts_of base) in
      let k : ℕ = pages.count_to ((last + 1) * 4096) journal in
      let front : List (Logged (List Change)) = take k journal in
      let count : pages.count_to (log.end * 4096) journal ≡ k = ap (λ (n : ℕ). pages.count_to (n * 4096) journal) (sym ends) in
      let contents : List SpaceContents = fold (mtrs_of front) base in
      let same : (s p : ℕ) → has_page header.spaces s p ≡ true → pages.fold_pages T (take (pages.count_to (log.end * 4096) journal) journal) (pages_of base) s p ≡ pages_of contents s p =
      λ s p there. ap (λ (n : ℕ). pages.fold_pages T (take n journal) (pages_of base) s p) count ∙ folded header keys (salts_of base) front base reading.spaces (pages_of base) (λ r q is. refl) s p there in
      let salts : salts_of base ≡ salts_of contents = λ i s. sym (salts_folded (mtrs_of front) base s) i in
      let recovers : pages.ViewRecovers T (view log image) (pages_of contents) = recovers_same T (view log image) _ (pages_of contents) same stands.recovers in
      let rotated : pages.ViewRotated T (view log image) (pages_of contents) = rotated_same T (view log image) _ (pages_of contents) same stands.rotated in
      record {
        last = last;
        recovers = record {
          header = header;
          is_header = is_header;
          log = log;
          is_last = ends;
          by = record {
            reading = record {
              long = reading.long;
              run = reading.run;
              of_store = reading.of_store;
              placed = reading.placed;
              spaces = spaces_folded (mtrs_of front) header.spaces base reading.spaces;
              clear = reading.clear;
            };
            pages = subst (λ (f : ℕ → List ℕ). pages.ViewRecovers (store_theory header keys f) (view log image) (pages_of contents)) salts recovers;
          };
        };
        acknowledged = subst (λ (n : ℕ). acked image.told ≤ n) count stands.acknowledged;
        rotated = subst (λ (f : ℕ → List ℕ). pages.ViewRotated (store_theory header keys f) (view log image) (pages_of contents)) salts rotated;
        keyed = keyed;
      }
