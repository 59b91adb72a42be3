-- Words, key files and a schedule that are as they should be are done, or memory is refused.
use Rattle.std.proofs.Common.{◌≡◌, ℕ, List, drop, Option, refl, sym, subst, arith}
use Rattle.io_core.specs.Files.{Files}
use Rattle.keyd_cli.specs.declared.plan.DrillPlan.{DrillPlan}
use Rattle.keyd_cli.specs.declared.status.Status.{Status}
use Rattle.keyd_cli.specs.declared.status.Status.TheVariants as status
use Rattle.keyd_cli.specs.Words.{CommandWord}
use Rattle.keyd_cli.specs.PlanOf.{IsPlan}
use Rattle.keyd_cli.specs.Reads.{IsNotBuilt}
use Rattle.keyd_cli.specs.Ends.{IsEnd, OutsideCounts, NoneRose, IsComplete}
use Rattle.keyd_cli.proofs.Built.{built-not_refused}
use Rattle.keyd_cli.proofs.OnePlan.{one-space}

module _ (words : List CommandWord) (files : Option Files) (left given given' : Option (List ℕ)) (before now : OutsideCounts) (all : IsComplete words files left) (none : NoneRose before now) where
  not_refused : (p : DrillPlan) (text : List ℕ) (line : ℕ) → IsPlan (drop 1 words) p → text ≡ all.text → IsNotBuilt p.space.space p.space.pages text line → ⊥
  not_refused p text line asked same refused =
      let one = one-space (drop 1 words) p all.plan asked all.asked in
      built-not_refused all.plan.space.space all.plan.space.pages all.text all.statements line all.schedule
      (subst (λ t. IsNotBuilt all.plan.space.space all.plan.space.pages t line) same
      (subst (λ pages. IsNotBuilt all.plan.space.space pages text line) one.1 (subst (λ space. IsNotBuilt space p.space.pages text line) one.0 refused)))

  pub completes : (s : Status) → IsEnd words files left given given' before now s → s ≡ status.OutOfMemory
  completes status.OutOfMemory end = refl
  completes status.Done end = absurd end
  completes (status.Usage i) (usage, same) = absurd (usage.faulty all.words_are)
  completes (status.KeyFile index fault) (is, end, same) = absurd (all.faultless _ (end.here all.fs all.told))
  completes (status.Missing name) (is, (end, rose), same) = absurd (all.faultless _ (end.here all.fs all.told))
  completes status.FileFault (is, rose, same) = absurd (none.library rose)
  completes status.ScriptTooLarge ((is, keyed, (plan, asked, end)), same) = let more = end.here all.text all.read in absurd (omega (arith, more, all.size))
  completes status.InputFault ((is, keyed, (plan, asked, rose)), same) = absurd (none.input rose)
  completes (status.NotBuilt line) ((is, keyed, (plan, asked, (text, input, refused))), same) = absurd (not_refused plan text line asked (sym (input.read.here all.text all.read)) refused)
  completes status.OutFault (cut, rose) = absurd (none.output rose)
