use Rattle.std.proofs.Common.{◌≡◌, ℕ, List, length, ap, subst, ◌∙◌}
use Rattle.byte_list.specs.Bytes.{AreBytes}
use Rattle.redo_text.specs.Block.{AreOf, block_count, blocks, nth_block}
use Rattle.redo_text.specs.Text.{text_of}
use Rattle.redo_text.proofs.BlockLoop.{length-joined}
use Rattle.redo_text.proofs.ChangeLaws.{one_list}
use Rattle.redo_text.proofs.encoding.encode.Goals as goal

pub returns-in_err-text-clause-only : goal.returns-in_err-text-clause-only
returns-in_err-text-clause-only c = λ other are e. one_list other c.args.mtr.now are c.requires.allowed e

pub returns-in_err-out-clause-only : goal.returns-in_err-out-clause-only
returns-in_err-out-clause-only c = λ other are e. one_list other c.args.mtr.now are c.requires.allowed e

pub returns-clause-only : goal.returns-clause-only
returns-clause-only c = λ other are e. one_list other c.args.mtr.now are c.requires.allowed e

pub returns-clause-bytes : goal.returns-clause-bytes
returns-clause-bytes c = subst AreBytes (c.deref.ensures.value ∙ c.in_ok-text.ensures) c.known_bytes.ensures

pub returns-clause-len : goal.returns-clause-len
returns-clause-len c =
    let text : List ℕ = text_of c.args.mtr.now in
    let f : ℕ → List ℕ = nth_block c.args.key.now c.args.first text in
    let same : c.deref-2.result.now ≡ text = c.deref-2.ensures.value ∙ c.in_ok-text.ensures in
    let is : c.in_ok-out.out.items ≡ blocks c.args.key.now c.args.first text = c.in_ok-out.ensures.value ∙ ap (blocks c.args.key.now c.args.first) same in
    let each : AreOf 4096 f (block_count text) = subst (λ (t : List ℕ). AreOf 4096 (nth_block c.args.key.now c.args.first t) (block_count t)) same c.in_ok-out.ensures.each in
    ap length is ∙ length-joined 4096 f (block_count text) each
