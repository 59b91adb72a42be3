-- The table of the batches that are outstanding.
use Rattle.std.proofs.Common.{◌≡◌, ℕ, ◌≤◌, Bool, true, false, List, [], ◌∷◌, get_or, length, replicate, set, refl, sym, ◌∙◌, ap, subst, inl, inr, arith, if◌then◌else◌, ◌==◌, rules, length-set}
use Rattle.std.proofs.lemmas.List.{get_or-set_same, get_or-set_other, get_or-replicate}
use Rattle.std.proofs.lemmas.Bool.{cases_eq}
use Rattle.std.proofs.lemmas.Bool.Decides.{Decides-eqb}
use Rattle.script_core.specs.declared.act.Act.{Act}
use Rattle.script_core.specs.declared.act.Act.TheVariants.{Mtr, Read, Sync, Flush, Check, Take, Put, Activate, Encrypt, Rotate, Report}
use Rattle.script_core.specs.Batches.{is_batch_out, out_after, Tells}

pub tells_none : (out : List Bool) → out ≡ replicate 17 false → Tells out []
unfolding is_batch_out
tells_none out is = record { size = ap length is; each = λ batch low. ap (λ o. get_or o batch false) is ∙ get_or-replicate 17 batch false false (omega (arith, low)) }

same_test : (a b : ℕ) → a ≡ b → (a == b) ≡ true
same_test a b is = search (rules, Decides-eqb a b, is)

other_test : (a b : ℕ) → (a ≡ b → ⊥) → (a == b) ≡ false
other_test a b other = search (rules, Decides-eqb a b, other)

-- one entry is set as the statement says of its batch
module _ (out : List Bool) (before : List Act) (tells : Tells out before) where
  set_one : (act : Act) (b : ℕ) (now : Bool) → b ≤ 16 → ((batch : ℕ) (was : Bool) → out_after batch act was ≡ (if batch == b then now else was)) → Tells (set out b now) (act ∷ before)
  unfolding is_batch_out
  set_one act b now small says = record {
    size = length-set out b now ∙ tells.size;
    each = λ batch low. elim (cases_eq batch b) [
      | inl same ↦
          let here : get_or (set out b now) batch false ≡ now = subst (λ k. get_or (set out b now) k false ≡ now) (sym same) (get_or-set_same out b now false (omega (arith, small, tells.size))) in
          here ∙ sym (says batch (is_batch_out batch before) ∙ ap (λ t. if t then now else is_batch_out batch before) (same_test batch b same))
      | inr other ↦
          get_or-set_other out b batch now false other ∙ tells.each batch low ∙ sym (says batch (is_batch_out batch before) ∙ ap (λ t. if t then now else is_batch_out batch before) (other_test batch b other))
    ];
  }

  pub tells_take : (act : Act) (b space count : ℕ) → act ≡ Take b space count → b ≤ 16 → Tells (set out b true) (act ∷ before)
  tells_take act b space count is small = subst (λ a. Tells (set out b true) (a ∷ before)) (sym is) (set_one (Take b space count) b true small (λ batch was. refl))

  pub tells_put : (act : Act) (b : ℕ) → act ≡ Put b → b ≤ 16 → Tells (set out b false) (act ∷ before)
  tells_put act b is small = subst (λ a. Tells (set out b false) (a ∷ before)) (sym is) (set_one (Put b) b false small (λ batch was. refl))

  pub tells_other : (act : Act) → ((b space count : ℕ) → act ≡ Take b space count → ⊥) → ((b : ℕ) → act ≡ Put b → ⊥) → Tells out (act ∷ before)
  unfolding is_batch_out
  tells_other (Mtr session changes) no_take no_put = record { size = tells.size; each = tells.each }
  tells_other (Read session space page at length) no_take no_put = record { size = tells.size; each = tells.each }
  tells_other Sync no_take no_put = record { size = tells.size; each = tells.each }
  tells_other Flush no_take no_put = record { size = tells.size; each = tells.each }
  tells_other Check no_take no_put = record { size = tells.size; each = tells.each }
  tells_other (Take b space count) no_take no_put = absurd (no_take b space count refl)
  tells_other (Put b) no_take no_put = absurd (no_put b refl)
  tells_other (Activate version) no_take no_put = record { size = tells.size; each = tells.each }
  tells_other (Encrypt space) no_take no_put = record { size = tells.size; each = tells.each }
  tells_other (Rotate space) no_take no_put = record { size = tells.size; each = tells.each }
  tells_other (Report space) no_take no_put = record { size = tells.size; each = tells.each }
