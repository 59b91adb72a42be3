-- Which copies can be read from.
use Rattle.std.proofs.Common.{◌≡◌, ◌≢◌, ℕ, ◌<◌, ◌≤◌, true, false, true≢false, List, Some, None, sym, ap, subst, ◌∙◌, arith}
use Rattle.byte_list.specs.Fields.{be64_at}
use Rattle.places.specs.Places.{place}
use Rattle.page_places.specs.Texts.{held, is_page_text, slot_page, text_in}
use Rattle.page_places.proofs.Texts.{held-text, held_is, lsn_in}
use Rattle.store_image.specs.Groups.{copy_of}
use Rattle.store_image.specs.View.{Text, Holds, IsLive}
use Rattle.image_pages.specs.Choosing.{slot_in, page_view, Best, no_log}
use Rattle.image_pages.specs.Recovering.{IsNewestLsn}
use Rattle.image_pages.specs.declared.copies.Newest.{Newest}
use Rattle.image_pages.proofs.CopyParts.{copy_text}

module _ (home double : List ℕ) (s p lsn : ℕ) where
  no_home : is_page_text p home ≡ false → (t : Text) → held p home ≢ Holds t
  no_home none t e = true≢false (sym (held_is p home t e).0 ∙ none)

  pub above_home : is_page_text p home ≡ true → be64_at home 16 < lsn → IsNewestLsn home double s p lsn
  above_home is lt = (
    λ u e. let same : u.lsn ≡ be64_at home 16 = ap (λ (t : Text). t.lsn) (sym (held_is p home u e).1) ∙ lsn_in home in omega (arith, lt, same),
    λ none. absurd (none (text_in home) (held-text p home is)),
  )

  pub below_home : is_page_text p home ≡ true → lsn ≤ be64_at home 16 → IsNewestLsn home double s p lsn → ⊥
  below_home is le newest = let lt = newest.0 (text_in home) (held-text p home is) in let e = lsn_in home in omega (arith, lt, le, e)

  pub newest_of : (c : Newest) → is_page_text p home ≡ false → Best double s p 64 (Some c) → c.lsn ≤ lsn → IsNewestLsn home double s p lsn
  newest_of c none best le = (λ u e. absurd (no_home none u e), λ no j u lt here. let most = best.most j u lt here in omega (arith, most, le))

  pub not_newest : (c : Newest) → is_page_text p home ≡ false → Best double s p 64 (Some c) → lsn < c.lsn → IsNewestLsn home double s p lsn → ⊥
  not_newest c none best lt newest = let le = newest.1 (no_home none) c.index best.text best.below best.is in let e = best.lsn in omega (arith, lt, le, e)

  pub no_copies : is_page_text p home ≡ false → Best double s p 64 None → IsNewestLsn home double s p lsn
  no_copies none best = (λ u e. absurd (no_home none u e), λ no j u lt here. absurd (best j u lt here))

  pub live_copy : (i : ℕ) (t : Text) → i < 64 → slot_in double i ≡ copy_of s p t → t.lsn ≡ lsn → IsNewestLsn home double s p lsn → IsLive (page_view no_log home double) s p i (text_in (slot_page (place 16896 i double)))
  live_copy i t lt is at newest =
      let e : t ≡ text_in (slot_page (place 16896 i double)) = copy_text (place 16896 i double) s p t is in
      subst (λ (u : Text). IsLive (page_view no_log home double) s p i u) e (record {
        copy = record { within = lt; is = is };
        above = λ u holds. let below = newest.0 u holds in omega (arith, below, at);
        newest = λ none j u c. let most = newest.1 none j u c.within c.is in omega (arith, most, at);
      })
