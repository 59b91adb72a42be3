-- How the stages of the command end it.
use Rattle.std.proofs.Common.{◌≡◌, ◌⊎◌, ℕ, ◌+◌, List, [], ◌∷◌, length, drop, cond, Bool, true, false, if◌then◌else◌, Option, Result, Ok, Err, IfErr, IsErrAnd, refl, sym, subst, inl, inr, arith}
use Rattle.std.specs.Str.{bytes_eq}
use Rattle.std.proofs.lemmas.List.Sums.{sum_by-cons}
use Rattle.cause_core.specs.Counts.{Rose}
use Rattle.io_core.specs.Files.{Files}
use Rattle.io_core.specs.Stream.{IsPartlyGiven}
use Rattle.keyd_cli.specs.declared.words.Flag.{Flag}
use Rattle.keyd_cli.specs.declared.plan.DrillPlan.{DrillPlan}
use Rattle.keyd_cli.specs.declared.drill.Drilled.{Drilled}
use Rattle.keyd_cli.specs.declared.status.Status.{Status}
use Rattle.keyd_cli.specs.declared.status.Status.TheVariants as status
use Rattle.keyd_cli.specs.Words.{CommandWord, flag_word, ArePairs, option_words, occurrences, IsDrill}
use Rattle.keyd_cli.specs.PlanOf.{IsPlan}
use Rattle.keyd_cli.specs.Keys.{values_of}
use Rattle.keyd_cli.specs.Ends.{IsKeyed, IsKeyEnd, IsInputEnd, IsCommandDrilled, IsCutShort, IsEnd, OutsideCounts, drill_text}

-- an option has as many values as it stands occurrences
pub values-count : (f : Flag) (ws : List CommandWord) → ArePairs ws → length (values_of f ws) ≡ occurrences f ws
unfolding ArePairs option_words values_of
values-count f [] pairs = refl
values-count f (w ∷ []) pairs = absurd pairs
values-count f (w ∷ v ∷ ws) pairs = by (values-count f ws pairs.1) (bytes_eq w (flag_word f)) (sum_by-cons (λ word. cond (bytes_eq word (flag_word f)) 1 0) w (option_words ws))
  where
    by : length (values_of f ws) ≡ occurrences f ws → (b : Bool) → occurrences f (w ∷ v ∷ ws) ≡ cond b 1 0 + occurrences f ws → length (if b then v ∷ values_of f ws else values_of f ws) ≡ occurrences f (w ∷ v ∷ ws)
    by earlier true split = omega (arith, earlier, split)
    by earlier false split = omega (arith, earlier, split)

-- a refusal that is handed on
pub handed : {T E : Type 0} (P : E → Type 0) (r : Result T E) (x : E) → IsErrAnd r (λ e. e ≡ x) → P x → IfErr r P
handed P (Ok v) x is p = absurd is
handed P (Err e) x is p = subst P (sym is) p

module _ (words : List CommandWord) (files : Option Files) (left given : Option (List ℕ)) (before now : OutsideCounts) where
  pub memory-end : IsEnd words files left given given before now status.OutOfMemory
  memory-end = inl refl

  pub key-end : (s : Status) → IsDrill words → IsKeyEnd (drop 1 words) files before.library now.library before.absences now.absences s → IsEnd words files left given given before now s
  key-end (status.KeyFile index fault) is end = (is, end, refl)
  key-end (status.Missing name) is end = (is, end, refl)
  key-end status.FileFault is end = (is, end, refl)
  key-end status.OutOfMemory is end = memory-end
  key-end status.Done is end = absurd end
  key-end (status.Usage i) is end = absurd end
  key-end status.ScriptTooLarge is end = absurd end
  key-end (status.NotBuilt line) is end = absurd end
  key-end status.InputFault is end = absurd end
  key-end status.OutFault is end = absurd end

  pub input-end : (plan : DrillPlan) (s : Status) → IsDrill words → IsKeyed (drop 1 words) files → IsPlan (drop 1 words) plan → IsInputEnd plan left before.input now.input s → IsEnd words files left given given before now s
  input-end plan status.ScriptTooLarge is keyed asked end = ((is, keyed, (plan, asked, end)), refl)
  input-end plan status.InputFault is keyed asked end = ((is, keyed, (plan, asked, end)), refl)
  input-end plan (status.NotBuilt line) is keyed asked end = ((is, keyed, (plan, asked, end)), refl)
  input-end plan status.OutOfMemory is keyed asked end = memory-end
  input-end plan status.Done is keyed asked end = absurd end
  input-end plan (status.Usage i) is keyed asked end = absurd end
  input-end plan (status.KeyFile index fault) is keyed asked end = absurd end
  input-end plan (status.Missing name) is keyed asked end = absurd end
  input-end plan status.FileFault is keyed asked end = absurd end
  input-end plan status.OutFault is keyed asked end = absurd end

  pub print-end : (plan : DrillPlan) (d : Drilled) (text : List ℕ) (given' : Option (List ℕ)) (s : Status) → IsCommandDrilled words files left plan d → text ≡ drill_text plan d
      → IsPartlyGiven text given given' × ((s ≡ status.OutOfMemory) ⊎ ((s ≡ status.OutFault) × Rose before.output now.output)) → IsEnd words files left given given' before now s
  print-end plan d text given' s ready is (partly, why) = by (record { plan = plan; drilled = d; ready = ready; partly = subst (λ t. IsPartlyGiven t given given') is partly }) why
    where
      by : IsCutShort words files left given given' → (s ≡ status.OutOfMemory) ⊎ ((s ≡ status.OutFault) × Rose before.output now.output) → IsEnd words files left given given' before now s
      by cut (inl memory) = subst (IsEnd words files left given given' before now) (sym memory) (inr cut)
      by cut (inr (fault, rose)) = subst (IsEnd words files left given given' before now) (sym fault) (cut, rose)
