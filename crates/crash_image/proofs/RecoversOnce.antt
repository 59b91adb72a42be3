-- What an image recovers to is one thing: its bytes and the keys determine the contents and the run's last block.
use Rattle.std.proofs.Common.{◌≡◌, ℕ, true, List, Option, Some, None, refl, sym, ap, subst, ◌∙◌, arith}
use Rattle.disk_model.specs.Image.{Image}
use Rattle.disk_model.specs.declared.names.FileName.TheVariants.{Log}
use Rattle.key_ring.specs.Ring.{RingEntry}
use Rattle.places.specs.Places.{place}
use Rattle.page_places.specs.Views.{view}
use Rattle.store_image.specs.Places.{LogView}
use Rattle.store_image.specs.Recovers as pages
use Rattle.store_image.specs.View.{Text, View}
use Rattle.store_image.proofs.ChosenTexts.{chosen_one}
use Rattle.store_image.proofs.RecoversOnce.{page_one}
use Rattle.redo_text.specs.declared.change.Change.{Change}
use Rattle.store_model.specs.declared.contents.SpaceContents.{SpaceContents}
use Rattle.store_files.specs.Header.{HeldHeader, are_in_order}
use Rattle.store_files.specs.Pages.{Page, Head, Unused, Used, MeansPage, has_page, pages_of, salts_of}
use Rattle.store_files.proofs.ContentsOnce.{header_order, contents_one, salts_one}
use Rattle.store_files.proofs.PageLaws.{means_one}
use Rattle.store_files.proofs.RunsOnce.{log_one}
use Rattle.crash_image.specs.StoreTheory.{store_theory}
use Rattle.crash_image.specs.Recovers.{RecoversBy, Recovers}
use Rattle.std.proofs.lemmas.Option.{same_Some}

-- the text of a page 0 says one thing, whatever the salts are
head_text_one : (header : HeldHeader) (keys : List RingEntry) (a b : ℕ → List ℕ) (s : ℕ) (t : Text) (x y : Page) → MeansPage header keys a s 0 t x → MeansPage header keys b s 0 t y → x ≡ y
head_text_one header keys a b s t (Head i) (Head j) m n = means_one header keys a s 0 t (Head i) (Head j) m n
head_text_one header keys a b s t (Head i) Unused m n = elim n [ ]
head_text_one header keys a b s t (Head i) (Used y) m n = absurd (n.0 refl)
head_text_one header keys a b s t Unused y m n = elim m [ ]
head_text_one header keys a b s t (Used x) y m n = absurd (m.0 refl)

module _ (header : HeldHeader) (keys : List RingEntry) (v : View (List Change)) where
  gives_head : (a b : ℕ → List ℕ) (c d : ℕ → ℕ → Page) (s : ℕ) (chosen : Option Text) → pages.Gives (store_theory header keys a) v c s 0 chosen → pages.Gives (store_theory header keys b) v d s 0 chosen → c s 0 ≡ d s 0
  gives_head a b c d s (Some t) (x, mx, lx, cx) (y, my, ly, dy) = cx ∙ ap (λ (z : Page). pages.later (store_theory header keys a) t.lsn v.run s 0 z) (head_text_one header keys a b s t x y mx my) ∙ sym dy
  gives_head a b c d s None (z, cx) (w, dy) = absurd (z refl)

  head_one : (a b : ℕ → List ℕ) (c d : ℕ → ℕ → Page) (s : ℕ) → pages.PageRecovers (store_theory header keys a) v c s 0 → pages.PageRecovers (store_theory header keys b) v d s 0 → c s 0 ≡ d s 0
  head_one a b c d s p q = gives_head a b c d s q.chosen (subst (pages.Gives (store_theory header keys a) v c s 0) (chosen_one v s 0 p.chosen q.chosen p.is q.is) p.gives) q.gives

module _ (image : Image) (keys : List RingEntry) where
  by_one : (header : HeldHeader) (log : LogView (List Change)) (c d : List SpaceContents) → are_in_order 0 header.spaces ≡ true → RecoversBy image keys header log c → RecoversBy image keys header log d → c ≡ d
  by_one header log c d order rc rd =
      let v = view log image in
      let heads : (s : ℕ) → has_page header.spaces s 0 ≡ true → pages_of c s 0 ≡ pages_of d s 0 = λ s is. head_one header keys v (salts_of c) (salts_of d) (pages_of c) (pages_of d) s (rc.pages.pages s 0 is) (rd.pages.pages s 0 is) in
      let salts : salts_of c ≡ salts_of d = λ i s. salts_one 0 header.spaces c d order rc.reading.spaces rd.reading.spaces heads s i in
      let as_c : pages.ViewRecovers (store_theory header keys (salts_of c)) v (pages_of d) = subst (λ (f : ℕ → List ℕ). pages.ViewRecovers (store_theory header keys f) v (pages_of d)) (sym salts) rd.pages in
      contents_one 0 header.spaces c d order rc.reading.spaces rd.reading.spaces (λ s p is. page_one (store_theory header keys (salts_of c)) v (pages_of c) (pages_of d) s p (rc.pages.pages s p is) (as_c.pages s p is))

  -- An image recovers to one contents with one last block.
  pub recovers_one : (c d : List SpaceContents) (last end : ℕ) → Recovers image keys c last → Recovers image keys d end → (c ≡ d) × (last ≡ end)
  recovers_one c d last end rc rd =
      let header : rd.header ≡ rc.header = same_Some rd.header rc.header (sym rd.is_header ∙ rc.is_header) in
      let same_header : RecoversBy image keys rc.header rd.log d = subst (λ (h : HeldHeader). RecoversBy image keys h rd.log d) header rd.by in
      let log : rd.log ≡ rc.log = log_one rc.header keys (image.bytes Log) rd.log rc.log same_header.reading.run rc.by.reading.run in
      let same_log : RecoversBy image keys rc.header rc.log d = subst (λ (l : LogView (List Change)). RecoversBy image keys rc.header l d) log same_header in
      let ends : rd.log.end ≡ rc.log.end = λ i. (log i).end in
      (by_one rc.header rc.log c d (header_order (place 4096 0 (image.bytes Log)) rc.header rc.is_header) rc.by same_log, omega (arith, rc.is_last, rd.is_last, ends))
