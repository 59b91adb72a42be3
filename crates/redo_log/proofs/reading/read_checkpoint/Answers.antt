use Rattle.std.proofs.Common.{◌≡◌, ℕ, List, Some, None, true≢false, sym, ap, ◌∙◌, arith}
use Rattle.store_image.specs.Checkpoint.{HeldCheckpoint}
use Rattle.store_files.specs.Checkpoint.{is_checkpoint, checkpoint_in}
use Rattle.page_places.proofs.Sums.{not_true}
use Rattle.redo_log.proofs.CheckLaws.{IsCheck, check_is, is_check_of, checkpoint_some, checkpoint_none}
use Rattle.redo_log.proofs.reading.read_checkpoint.Goals as goal

isnt : (i : ℕ) (b : List ℕ) → (IsCheck i b → ⊥) → checkpoint_in i b ≡ None
isnt i b none = checkpoint_none i b (not_true (is_checkpoint i b) (λ is. none (check_is i b is)))

pub returns-then-not-ends_in_sum-clause-none : goal.returns-then-not-ends_in_sum-clause-none
returns-then-not-ends_in_sum-clause-none c = isnt c.args.place c.args.block.now (λ is. true≢false (sym is.sums ∙ sym c.ends_in_sum.ensures ∙ c.if-not-ends_in_sum.true))

pub returns-then-not-has_magic-clause-none : goal.returns-then-not-has_magic-clause-none
returns-then-not-has_magic-clause-none c = isnt c.args.place c.args.block.now (λ is. true≢false (sym (c.has_magic.ensures.no is.magic) ∙ c.if-not-has_magic.true))

pub returns-then-place-sequence-clause-none : goal.returns-then-place-sequence-clause-none
returns-then-place-sequence-clause-none c = isnt c.args.place c.args.block.now (λ is. let e = is.at in c.if-place-sequence.true (omega (arith, e, c.be64_at-sequence.ensures)))

pub returns-then-sequence-lt1-clause-none : goal.returns-then-sequence-lt1-clause-none
returns-then-sequence-lt1-clause-none c = isnt c.args.place c.args.block.now (λ is. let e = is.some in omega (arith, e, c.be64_at-sequence.ensures, c.if-sequence-lt1.true))

pub returns-then-sequence-from-clause-none : goal.returns-then-sequence-from-clause-none
returns-then-sequence-from-clause-none c = isnt c.args.place c.args.block.now (λ is. let e = is.order in omega (arith, e, c.be64_at-sequence.ensures, c.be64_at-from.ensures, c.if-sequence-from.true))

pub returns-then-from-clause-none : goal.returns-then-from-clause-none
returns-then-from-clause-none c = isnt c.args.place c.args.block.now (λ is. let e = is.most in omega (arith, e, c.be64_at-from.ensures, c.if-from.true))

pub returns-clause-some : goal.returns-clause-some
returns-clause-some c =
    let b = c.args.block.now in
    let s = c.be64_at-sequence.ensures in
    let f = c.be64_at-from.ensures in
    checkpoint_some c.args.place b (is_check_of c.args.place b (record {
      sums = sym c.ends_in_sum.ensures ∙ c.if-not-ends_in_sum.false;
      magic = c.has_magic.ensures.yes c.if-not-has_magic.false;
      at = omega (arith, s, c.if-place-sequence.false);
      some = omega (arith, s, c.if-sequence-lt1.false);
      order = omega (arith, s, f, c.if-sequence-from.false);
      most = omega (arith, f, c.if-from.false);
    }))
    ∙ ap (λ (x : HeldCheckpoint). Some x) (λ i. record { sequence = (sym s) i; from = (sym f) i })
