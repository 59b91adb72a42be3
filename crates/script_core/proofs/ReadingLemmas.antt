-- Lines read one after another.
use Rattle.std.proofs.Common.{◌≡◌, ℕ, ◌+◌, ◌≤◌, List, [], ◌∷◌, ◌++◌, length, ap, sym, ◌∙◌, subst, arith, Bool}
use mathlib.Core.List.{append_assoc}
use Rattle.std.proofs.lemmas.List.{append-nil}
use Rattle.std.proofs.lemmas.List.Sums.{count_by-le-length}
use Rattle.std.proofs.lemmas.List.Splits.{length-slice_split}
use Rattle.std.specs.Prelude.{◌==◌}
use Rattle.script_core.specs.Words.{Word, script_lines, words_of}
use Rattle.script_core.specs.Batches.{Tells, HasBatch}
use Rattle.script_core.specs.Statements.{IsStatement, IsLineFault, AreArguments}
use Rattle.script_core.specs.Scripts.{IsSkipped, Reads, NoLine, Skipped, Said, BadAt, Bad, PastSkipped, PastSaid, IsLineRefusal, IsScriptRefusal, IsScript}
use Rattle.script_core.specs.declared.act.Act.{Act}
use Rattle.script_core.specs.declared.act.Act.TheVariants.{Mtr, Read, Sync, Flush, Check, Take, Put, Activate, Encrypt, Rotate, Report}
use Rattle.script_core.specs.declared.script.Statement.{Statement}
use Rattle.script_core.specs.declared.fault.LineFault.{LineFault}
use Rattle.script_core.specs.declared.fault.ScriptFault.{ScriptFault}
use Rattle.script_core.specs.declared.fault.ScriptFault.TheVariants.{BadLine, TooMany, OutOfMemory}

pub few_lines : (text : List ℕ) → length (script_lines text) ≤ length text + 1
few_lines text = omega (arith, length-slice_split (λ b. b == 10) text, count_by-le-length (λ b. b == 10) text)

-- what the lines that are left give, all of them give
pub record GivesOn (number : ℕ) (before : List Act) (left all : List (List ℕ)) (so_far : List Statement) : Type 0 where
  pub reads : (more : List Statement) → Reads number before left more → Reads 1 [] all (so_far ++ more)
  pub bad : (at : ℕ) (kind : LineFault) → BadAt number before left at kind → BadAt 1 [] all at kind

pub gives_all : (all : List (List ℕ)) → GivesOn 1 [] all all []
gives_all all = record { reads = λ more reads. reads; bad = λ at kind bad. bad }

pub gives_skipped : (number : ℕ) (before : List Act) (line : List ℕ) (lines left all : List (List ℕ)) (so_far : List Statement) → left ≡ line ∷ lines → IsSkipped line → GivesOn number before left all so_far → GivesOn (number + 1) before lines all so_far
gives_skipped number before line lines left all so_far begins skipped gives = record {
  reads = λ more reads. gives.reads more (subst (λ ls. Reads number before ls more) (sym begins) (Skipped number before line lines more skipped reads));
  bad = λ at kind bad. gives.bad at kind (subst (λ ls. BadAt number before ls at kind) (sym begins) (PastSkipped number before line lines at kind skipped bad));
}

pub gives_said : (number : ℕ) (before : List Act) (line : List ℕ) (act : Act) (lines left all : List (List ℕ)) (so_far now : List Statement) → left ≡ line ∷ lines → (IsSkipped line → ⊥) → IsStatement before (words_of line) act
    → now ≡ so_far ++ (record { line = number; act = act } ∷ []) → GivesOn number before left all so_far → GivesOn (number + 1) (act ∷ before) lines all now
gives_said number before line act lines left all so_far now begins kept is grown gives = record {
  reads = λ more reads.
      let one : Statement = record { line = number; act = act } in
      let whole : Reads 1 [] all (so_far ++ (one ∷ more)) = gives.reads (one ∷ more) (subst (λ ls. Reads number before ls (one ∷ more)) (sym begins) (Said number before line act lines more kept is reads)) in
      subst (λ ss. Reads 1 [] all (ss ++ more)) (sym grown) (subst (λ ss. Reads 1 [] all ss) (sym (append_assoc so_far (one ∷ []) more)) whole);
  bad = λ at kind bad. gives.bad at kind (subst (λ ls. BadAt number before ls at kind) (sym begins) (PastSaid number before line act lines at kind kept is bad));
}

pub gives_bad : (number : ℕ) (before : List Act) (line : List ℕ) (lines left all : List (List ℕ)) (so_far : List Statement) (kind : LineFault) → left ≡ line ∷ lines → (IsSkipped line → ⊥) → IsLineFault before (words_of line) kind
    → GivesOn number before left all so_far → BadAt 1 [] all number kind
gives_bad number before line lines left all so_far kind begins kept fault gives =
    gives.bad number kind (subst (λ ls. BadAt number before ls number kind) (sym begins) (Bad number before line lines kind kept fault))

pub gives_end : (number : ℕ) (before : List Act) (left all : List (List ℕ)) (so_far : List Statement) → left ≡ [] → GivesOn number before left all so_far → Reads 1 [] all so_far
gives_end number before left all so_far ends gives =
    subst (λ ss. Reads 1 [] all ss) (append-nil so_far) (gives.reads [] (subst (λ ls. Reads number before ls []) (sym ends) (NoLine number before)))

-- the statements behind the last line are the script
pub whole_script : (number : ℕ) (before : List Act) (left : List (List ℕ)) (text : List ℕ) (so_far : List Statement) → left ≡ [] → GivesOn number before left (script_lines text) so_far → length so_far ≤ 10000 → IsScript text so_far
whole_script number before left text so_far ends gives few = record { reads = gives_end number before left (script_lines text) so_far ends gives; few = few }

-- how the reading goes on behind some lines
pub record GoesOn (number : ℕ) (out : List Bool) (left all : List (List ℕ)) (so_far : List Statement) : Type 0 where
  pub before : List Act
  pub tells : Tells out before
  pub gives : GivesOn (number + 1) before left all so_far

batch_of : (before : List Act) (act : Act) (words : List Word) → AreArguments before act words → HasBatch act
unfolding AreArguments
batch_of before (Mtr session changes) words are = tt
batch_of before (Read session space page at count) words are = tt
batch_of before Sync words are = tt
batch_of before Flush words are = tt
batch_of before Check words are = tt
batch_of before (Take batch space count) words are = are.4.to
batch_of before (Put batch) words are = are.2.to
batch_of before (Activate version) words are = tt
batch_of before (Encrypt space) words are = tt
batch_of before (Rotate space) words are = tt
batch_of before (Report space) words are = tt

-- a statement's batch is one from 1 to 16
pub has_batch : (before : List Act) (words : List Word) (act : Act) → IsStatement before words act → HasBatch act
has_batch before words act is = batch_of before act is.arguments is.are

-- a line's refusal is the text's
pub refused : (number : ℕ) (before : List Act) (line : List ℕ) (lines left : List (List ℕ)) (text : List ℕ) (so_far : List Statement) (f : ScriptFault) → left ≡ line ∷ lines → IsLineRefusal before number line f
    → GivesOn number before left (script_lines text) so_far → IsScriptRefusal text f
refused number before line lines left text so_far (BadLine at kind) begins is gives =
    subst (λ n. BadAt 1 [] (script_lines text) n kind) (sym is.0) (gives_bad number before line lines left (script_lines text) so_far kind begins is.1 is.2 gives)
refused number before line lines left text so_far TooMany begins is gives = absurd is
refused number before line lines left text so_far OutOfMemory begins is gives = tt

-- a statement with its line
pub numbered : (s : Statement) (number : ℕ) (so_far now : List Statement) → s.line ≡ number → now ≡ so_far ++ (s ∷ []) → now ≡ so_far ++ (record { line = number; act = s.act } ∷ [])
numbered s number so_far now is grown = grown ∙ ap (λ (n : ℕ). let one : Statement = record { line = n; act = s.act } in so_far ++ (one ∷ [])) is
