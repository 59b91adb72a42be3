-- What a page's chosen text, and a live slot, give.
use Rattle.std.proofs.Common.{◌≡◌, ◌≢◌, ℕ, ◌*◌, ◌<◌, ◌≤◌, nat_le, if◌then◌else◌, List, [], ◌∷◌, Option, Some, None, refl, sym, ap, subst, ◌∙◌, arith}
use Rattle.std.specs.Prelude.{IsSome, option_map}
use Rattle.std.specs.Borrow.{Bor}
use Rattle.key_ring.specs.Local.{local_key}
use Rattle.key_ring.specs.Ring.{RingEntry}
use Rattle.page_text.specs.declared.key.PageKey.{PageKey}
use Rattle.byte_list.specs.Fields.{be32_at, be64_at}
use Rattle.redo_text.specs.declared.change.Change.{Change}
use Rattle.page_places.specs.Texts.{text_in}
use Rattle.page_places.proofs.Texts.{text_in-is, lsn_in}
use Rattle.store_image.specs.Places.{LogView}
use Rattle.store_image.specs.Recovers.{PageRecovers, SlotRecovers, Gives, later, later_by}
use Rattle.store_image.specs.View.{Text, Logged, View, IsChosen, IsLive}
use Rattle.store_image.proofs.ChosenTexts.{chosen_one}
use Rattle.space_head.specs.declared.space.SpaceInfo.{SpaceInfo}
use Rattle.store_files.specs.Header.{HeldHeader}
use Rattle.store_files.specs.Pages.{Page, Head, Unused, Used, MeansPage, key_at, key_id_of, mtr_acts}
use Rattle.crash_image.specs.StoreTheory.{store_theory}
use Rattle.image_pages.specs.Choosing.{page_view, no_log}
use Rattle.image_pages.specs.Meaning.{IsHeadOf}
use Rattle.image_pages.specs.Recovering.{TextGives, IsChosenIn, IsMeaningFault, IsPageFault, IsReadFrom, IsTextFault, text_key}
use Rattle.image_pages.specs.declared.fault.PageFault.{PageFault}
use Rattle.image_pages.specs.declared.fault.PageFault.TheVariants.{NotChosen, Text as BadText, OutOfMemory}
use Rattle.image_pages.specs.declared.fault.TextFault.{TextFault}
use Rattle.image_pages.specs.declared.fault.TextFault.TheVariants.{BehindTheRun, NoKey, NotItsText, UnusedHead}
use Rattle.image_pages.proofs.Views.{chosen_over, live_over}

module _ (header : HeldHeader) (keys : List RingEntry) (log : LogView (List Change)) (home double : List ℕ) (s p : ℕ) where
  abbrev v : View (List Change)
  v = page_view log home double

  pub chosen_run : (chosen : Option Text) → IsChosen (page_view no_log home double) s p chosen → IsChosen v s p chosen
  chosen_run chosen is = chosen_over (page_view no_log home double) v s p refl (λ i. refl) chosen is

  pub live_run : (i : ℕ) (t : Text) → IsLive (page_view no_log home double) s p i t → IsLive v s p i t
  live_run i t is = live_over (page_view no_log home double) v s p refl (λ i. refl) i t is

  pub live_page : (i : ℕ) (t : Text) → IsLive v s p i t → IsLive (page_view no_log home double) s p i t
  live_page i t is = live_over v (page_view no_log home double) s p refl (λ i. refl) i t is

  module _ (salts : ℕ → List ℕ) where
    -- the chosen text means the page, with an LSN up to the run's end
    pub text_recovers : (text : List ℕ) (x y : Page) → IsChosen (page_view no_log home double) s p (Some (text_in text)) → MeansPage header keys salts s p (text_in text) x → be64_at text 16 ≤ log.end * 4096
        → y ≡ later_by mtr_acts (be64_at text 16) log.run s p x → PageRecovers (store_theory header keys salts) v (λ z q. y) s p
    text_recovers text x y is means within same = record {
      chosen = Some (text_in text);
      is = chosen_run (Some (text_in text)) is;
      gives = (x, means, (let e = lsn_in text in omega (arith, e, within)), same ∙ ap (λ (n : ℕ). later (store_theory header keys salts) n log.run s p x) (sym (lsn_in text)));
    }

    pub unused_recovers : (y : Page) → p ≢ 0 → IsChosen (page_view no_log home double) s p None → y ≡ later_by mtr_acts 0 log.run s p Unused → PageRecovers (store_theory header keys salts) v (λ z q. y) s p
    unused_recovers y some is same = record { chosen = None; is = chosen_run None is; gives = (some, same) }

    -- what is known of any contents to which the page recovers
    pub chosen_gives : (c : ℕ → ℕ → Page) (chosen : Option Text) → IsChosen (page_view no_log home double) s p chosen → PageRecovers (store_theory header keys salts) v c s p → Gives (store_theory header keys salts) v c s p chosen
    chosen_gives c chosen is r = subst (λ (o : Option Text). Gives (store_theory header keys salts) v c s p o) (chosen_one v s p r.chosen chosen r.is (chosen_run chosen is)) r.gives

    -- ---- why it recovers to nothing

    pub no_chosen : ((chosen : Option Text) → IsChosen (page_view no_log home double) s p chosen → ⊥) → IsPageFault header keys salts v s p NotChosen
    no_chosen none chosen is = none chosen (chosen_over v (page_view no_log home double) s p refl (λ i. refl) chosen is)

    pub late_text : (text : List ℕ) → IsChosen (page_view no_log home double) s p (Some (text_in text)) → log.end * 4096 < be64_at text 16 → IsPageFault header keys salts v s p (BadText BehindTheRun)
    late_text text is late = (text_in text, chosen_run (Some (text_in text)) is, let e = lsn_in text in omega (arith, late, e))

    pub no_head : p ≡ 0 → IsChosen (page_view no_log home double) s p None → IsPageFault header keys salts v s p (BadText UnusedHead)
    no_head zero is = (zero, chosen_run None is)

    read_from : (text : List ℕ) → IsChosen (page_view no_log home double) s p (Some (text_in text)) → be64_at text 16 ≤ log.end * 4096 → IsReadFrom header keys salts v s p (text_in text)
    read_from text is within = record { is = chosen_run (Some (text_in text)) is; within = let e = lsn_in text in omega (arith, e, within) }

    pub no_head_meaning : (text : List ℕ) → p ≡ 0 → IsChosen (page_view no_log home double) s p (Some (text_in text)) → be64_at text 16 ≤ log.end * 4096 → ((x : Page) → MeansPage header keys salts s p (text_in text) x → ⊥) → IsPageFault header keys salts v s p (BadText NotItsText)
    no_head_meaning text zero is within none = (text_in text, read_from text is within, (λ some. absurd (some zero)), none)

    -- of a page from page 1 on
    pub no_meaning : (text : List ℕ) (key_id : ℕ) (salt : List ℕ) (fault : TextFault) → p ≢ 0 → key_id ≡ key_id_of header.spaces s → salts s ≡ salt → IsChosen (page_view no_log home double) s p (Some (text_in text)) → be64_at text 16 ≤ log.end * 4096
        → ((x : Page) → MeansPage header keys salts s p (text_in text) x → ⊥) → IsMeaningFault (local_key keys key_id (be32_at text 0) salt) (be32_at text 0) fault → IsPageFault header keys salts v s p (BadText fault)
    no_meaning text key_id salt fault some id same is within none why = by fault why
      where
        version_is : (text_in text).version ≡ be32_at text 0
        version_is = ap (λ (t : Text). t.version) (text_in-is text)

        key_is : text_key header keys salts v s p (text_in text) ≡ local_key keys key_id (be32_at text 0) salt
        key_is = λ i. local_key keys (sym id i) (version_is i) (same i)

        by : (fault : TextFault) → IsMeaningFault (local_key keys key_id (be32_at text 0) salt) (be32_at text 0) fault → IsPageFault header keys salts v s p (BadText fault)
        by (NoKey version) (named, clear, missing) = (text_in text, read_from text is within, some, named ∙ sym version_is, (λ z. clear (sym version_is ∙ z)), key_is ∙ missing)
        by NotItsText keyed = (text_in text, read_from text is within, (λ _ clear missing. keyed (λ z. clear (version_is ∙ z)) (sym key_is ∙ missing)), none)
        by BehindTheRun why = absurd why
        by UnusedHead why = absurd why

    -- a live slot
    pub slot_recovers : (i : ℕ) (text : List ℕ) (y : Page) → TextGives header keys log s p salts text y → SlotRecovers (store_theory header keys salts) v (λ z q. y) s p (text_in text)
    slot_recovers i text y g = record {
      holds = g.holds;
      means = g.means;
      named = record { before = g.named.before; entry = g.named.entry; behind = g.named.behind; is = g.named.is; lsn_is = g.named.lsn_is ∙ sym (lsn_in text); named = g.named.named };
      same = g.same ∙ ap (λ (n : ℕ). later (store_theory header keys salts) n log.run s p g.holds) (sym (lsn_in text));
    }

    pub slot_gives : (c : ℕ → ℕ → Page) (text : List ℕ) → SlotRecovers (store_theory header keys salts) v c s p (text_in text) → TextGives header keys log s p salts text (c s p)
    slot_gives c text r = record {
      holds = r.holds;
      means = r.means;
      named = record { before = r.named.before; entry = r.named.entry; behind = r.named.behind; is = r.named.is; lsn_is = r.named.lsn_is ∙ lsn_in text; named = r.named.named };
      same = r.same ∙ ap (λ (n : ℕ). later (store_theory header keys salts) n log.run s p r.holds) (lsn_in text);
    }

-- ---- page 0

-- what a text of page 0 means
pub head_means : (header : HeldHeader) (keys : List RingEntry) (salts : ℕ → List ℕ) (s : ℕ) (text : List ℕ) (info : SpaceInfo) → IsHeadOf s text info → MeansPage header keys salts s 0 (text_in text) (Head info)
unfolding text_in
head_means header keys salts s text info is = (refl, is.space, is.typed, is.is_text)

pub no_head_means : (header : HeldHeader) (keys : List RingEntry) (salts : ℕ → List ℕ) (s : ℕ) (text : List ℕ) → ((info : SpaceInfo) → IsHeadOf s text info → ⊥) → (x : Page) → MeansPage header keys salts s 0 (text_in text) x → ⊥
unfolding text_in
no_head_means header keys salts s text none (Head info) (z, space, typed, is) = none info (record { space = space; typed = typed; is_text = is })
no_head_means header keys salts s text none Unused m = m
no_head_means header keys salts s text none (Used page) m = m.0 refl

pub chosen_some : (home double : List ℕ) (s p : ℕ) (found : Option (Option (Bor (List ℕ)))) (o : Option (Bor (List ℕ))) (text : Bor (List ℕ)) → IsChosenIn home double s p found → found ≡ Some o → o ≡ Some text → IsChosen (page_view no_log home double) s p (Some (text_in text.now))
chosen_some home double s p found o text is there some = (subst (λ (q : Option (Option (Bor (List ℕ)))). IsChosenIn home double s p q) (there ∙ ap Some some) is).1

pub chosen_none : (home double : List ℕ) (s p : ℕ) (found : Option (Option (Bor (List ℕ)))) (o : Option (Bor (List ℕ))) → IsChosenIn home double s p found → found ≡ Some o → o ≡ None → IsChosen (page_view no_log home double) s p None
chosen_none home double s p found o is there none = subst (λ (q : Option (Option (Bor (List ℕ)))). IsChosenIn home double s p q) (there ∙ ap Some none) is

no_key : (key : Option PageKey) → key ≡ None → IsSome key → ⊥
no_key None is some = absurd (cc)
no_key (Some key) is some = absurd (cc)

-- ---- a page with such a fault recovers to nothing

module _ (header : HeldHeader) (keys : List RingEntry) (salts : ℕ → List ℕ) (v : View (List Change)) (s p : ℕ) (c : ℕ → ℕ → Page) (r : PageRecovers (store_theory header keys salts) v c s p) where
  gives : (chosen : Option Text) → IsChosen v s p chosen → Gives (store_theory header keys salts) v c s p chosen
  gives chosen is = subst (λ (o : Option Text). Gives (store_theory header keys salts) v c s p o) (chosen_one v s p r.chosen chosen r.is is) r.gives

  no_text : (fault : TextFault) → IsTextFault header keys salts v s p fault → ⊥
  no_text BehindTheRun (t, is, late) = let g = gives (Some t) is in let within = g.2 in omega (arith, late, within)
  no_text (NoKey version) (t, is, some, named, clear, missing) = let g = gives (Some t) is.is in unkeyed g.0 g.1
    where
      keyless : key_at header keys salts s t.version ≡ None
      keyless = ap (λ o. option_map (λ local. record { local = local; algorithm = header.algorithm }) o) missing

      unkeyed : (x : Page) → MeansPage header keys salts s p t x → ⊥
      unkeyed (Head info) m = some m.0
      unkeyed Unused m = m
      unkeyed (Used page) m = no_key (key_at header keys salts s t.version) keyless (m.2.keyed clear)
  no_text NotItsText (t, is, keyed, none) = let g = gives (Some t) is.is in none g.0 g.1
  no_text UnusedHead (zero, is) = let g = gives None is in g.0 zero

  pub fault_refuses : (fault : PageFault) → IsPageFault header keys salts v s p fault → fault ≢ OutOfMemory → ⊥
  fault_refuses NotChosen none some = none r.chosen r.is
  fault_refuses (BadText fault) is some = no_text fault is
  fault_refuses OutOfMemory is some = some refl
