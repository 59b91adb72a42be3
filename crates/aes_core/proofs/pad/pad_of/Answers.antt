use Rattle.std.proofs.Common.{◌≡◌, ℕ, List, ◌-◌, length, drop, take, slice_index_or, replicate, sym, ap, ◌∙◌, arith, length-drop}
use Rattle.std.proofs.lemmas.List.{take_all, take-replicate}
use Rattle.std.specs.Cmp.Lexicographic.{other_text, same_text}
use Rattle.aes_core.proofs.Padding.{last_is}
use Rattle.aes_core.proofs.pad.pad_of.Goals as goal
use Rattle.aes_core.proofs.pad.pad_of.Goals.{then-k-eq0-via-then-k-eq0, then-k-eq0-via-else-k-eq0+then-k-gt16}

pub returns-then-k-eq0 : goal.returns-then-k-eq0
returns-then-k-eq0 c k e =
    let last = last_is c.args.block.now k c.requires e in
    elim c.then-k-eq0.branch [
      | then-k-eq0-via-then-k-eq0 w ↦ omega (arith, last, w.if-k-eq0, e.some)
      | then-k-eq0-via-else-k-eq0+then-k-gt16 w ↦ omega (arith, last, w.if-k-gt16, e.most)
    ]

pub returns-then-eq : goal.returns-then-eq
returns-then-eq c =
    let k : ℕ = slice_index_or c.args.block.now 15 0 in
    let at : length c.args.block.now - k ≡ 16 - k = omega arith in
    let told = same_text _ _ c.if-eq.ensures in
    record {
      some = omega arith;
      most = omega arith;
      end = ap (λ (n : ℕ). drop n c.args.block.now) at ∙ sym (take_all _ (drop (16 - k) c.args.block.now) (omega (arith, length-drop (16 - k) c.args.block.now))) ∙ told ∙ take-replicate k 16 k c.if-k-gt16.false;
    }

pub returns-else-eq : goal.returns-else-eq
returns-else-eq c k e =
    let xs : List ℕ = c.args.block.now in
    let n : ℕ = slice_index_or xs 15 0 in
    let last : n ≡ k = last_is xs k c.requires e in
    let at : 16 - n ≡ length xs - k = omega arith in
    let m : ℕ = length xs - (16 - n) in
    let same : take m (drop (16 - n) xs) ≡ take n (replicate 16 n) =
    take_all m (drop (16 - n) xs) (omega (arith, length-drop (16 - n) xs)) ∙ ap (λ (i : ℕ). drop i xs) at ∙ e.end ∙ ap (λ (i : ℕ). replicate i i) (sym last)
    ∙ sym (take-replicate n 16 n c.if-k-gt16.false) in
    absurd (other_text (take m (drop (16 - n) xs)) (take n (replicate 16 n)) c.if-eq.ensures same)
