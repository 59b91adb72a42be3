use Rattle.std.proofs.Common.{◌≡◌, ◌∙◌, ◌+◌, ◌++◌, ap, sym, subst, List, ℕ, Option, Some, None, arith}
use Rattle.key_ring.specs.Ring.{RingEntry}
use Rattle.store_files.specs.Header.{HeldHeader}
use Rattle.store_files.specs.Run.{block_at, HasText}
use Rattle.redo_text.specs.Reading.{number_of}
use Rattle.store_files.proofs.RingBlocks.{block_number}
use Rattle.image_log.specs.Logs.{IsBlockText}
use Rattle.image_log.proofs.MtrTexts.{Reads, reads_none, reads_more, reads_all}
use Rattle.image_log.proofs.text.text_of.Goals as goal

moved : (header : HeldHeader) (keys : List RingEntry) (file block : List ℕ) (n blocks : ℕ) (o p : Option (List ℕ)) → IsBlockText header keys block o → block ≡ block_at blocks file n → blocks ≡ header.blocks → o ≡ p → IsBlockText header keys (block_at header.blocks file n) p
moved header keys file block n blocks o p is at same found = subst (λ (b : List ℕ). IsBlockText header keys b p) (at ∙ ap (λ (k : ℕ). block_at k file n) same) (subst (λ (q : Option (List ℕ)). IsBlockText header keys block q) found is)

pub loop-i-init : goal.loop-i-init
loop-i-init c = subst (λ (t : List ℕ). Reads c.args.header.now c.args.keys.now c.args.log.now c.args.number c.args.count t 0) (sym c.new-text.ensures.items) (reads_none c.args.header.now c.args.keys.now c.args.log.now c.args.number c.args.count)

pub block_text-requires : goal.block_text-requires
block_text-requires c = let valid = c.in-Some.ensures.some in ap number_of valid.0 ∙ block_number (c.args.number + c.loop-i.i) c.block_at-bytes.result.now valid.1

pub loop-i-preserved : goal.loop-i-preserved
loop-i-preserved c =
    let part = c.in-Some-2.part in
    let block = c.in-Some.ensures.some.0 ∙ c.block_at-bytes.ensures.bytes in
    let is = moved c.args.header.now c.args.keys.now c.args.log.now c.in-Some.block (c.args.number + c.loop-i.i) c.blocks-in-loop-i.result c.in_ok-part.field-0 (Some part) c.in_ok-part.ensures block c.blocks-in-loop-i.ensures c.in-Some-2.is in
    let items : c.extend_from_slice.new.self.items ≡ c.loop-i.text.items ++ part = c.in_ok-extend_from_slice.ensures.items ∙ ap (λ (x : List ℕ). c.loop-i.text.items ++ x) c.bytes.ensures in
    subst (λ (t : List ℕ). Reads c.args.header.now c.args.keys.now c.args.log.now c.args.number c.args.count t (c.loop-i.i + 1)) (sym items)
    (reads_more c.args.header.now c.args.keys.now c.args.log.now c.args.number c.args.count c.loop-i.text.items part c.loop-i.i (omega arith) c.loop-i.invariant is)

pub returns-clause-ok : goal.returns-clause-ok
returns-clause-ok c =
    let e : c.loop-i.i ≡ c.args.count = omega arith in
    subst (λ (t : List ℕ). HasText c.args.header.now c.args.keys.now c.args.log.now c.args.number c.args.count t) (sym c.of.ensures)
    (reads_all c.args.header.now c.args.keys.now c.args.log.now c.args.number c.args.count c.loop-i.text.items
    (subst (λ (n : ℕ). Reads c.args.header.now c.args.keys.now c.args.log.now c.args.number c.args.count c.loop-i.text.items n) e c.loop-i.invariant))
