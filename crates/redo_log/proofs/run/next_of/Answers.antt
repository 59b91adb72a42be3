use Rattle.std.proofs.Common.{◌≡◌, ℕ, List, Bool, true, false, true≢false, not, refl, sym, ap, ◌∙◌, arith}
use mathlib.Core.Bool.{beq}
use Rattle.std.specs.Result.{is_ok}
use Rattle.std.proofs.lemmas.Bool.{cond-true, cond-false}
use Rattle.redo_text.specs.Reading.{block_flags, is_first, is_last}
use Rattle.store_files.proofs.RingBlocks.{block_read, read_is_block}
use Rattle.redo_log.proofs.run.next_of.Goals as goal
use Rattle.redo_log.proofs.run.next_of.Goals.{then-last, else-last}

pub returns-in_default-clause-none : goal.returns-in_default-clause-none
returns-in_default-clause-none c = λ keys n few valid starts. true≢false (ap is_ok (sym (block_read c.args.number c.args.block.now valid) ∙ c.in_default.ensures.fault))

same_bool : (a b : Bool) → not (beq a b) ≡ false → a ≡ b
same_bool true true is = refl
same_bool true false is = absurd (true≢false is)
same_bool false true is = absurd (true≢false is)
same_bool false false is = refl

pub returns-clause-some : goal.returns-clause-some
returns-clause-some c = λ keys n.
    let same = c.in-Ok.ensures.view.0 in
    let last : is_last (block_flags c.args.block.now) ≡ c.last.result = sym (c.last.ensures ∙ ap (λ (b : List ℕ). is_last (block_flags b)) same) in
    let first : c.first.result ≡ is_first (block_flags c.args.block.now) = c.first.ensures ∙ ap (λ (b : List ℕ). is_first (block_flags b)) same in (
      c.requires.few,
      read_is_block c.args.number c.args.block.now c.requires.size (λ i. omega (arith, c.type_inv.block i)) c.in-Ok.ensures.view.1,
      sym first ∙ same_bool _ _ c.if-first-begins.false,
      elim c.if-last.branch [ then-last w ↦ w.end-is ∙ sym (cond-true _ _ _ (last ∙ w.if-last.true)) | else-last w ↦ w.end-is ∙ sym (cond-false _ _ _ (last ∙ w.if-last.false)) ],
    )
