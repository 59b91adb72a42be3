use Rattle.std.proofs.Common.{◌≡◌, ◌++◌, ◌∙◌, ℕ, List, Some, sym, ap, take, refl}
use Rattle.aes_core.specs.Algorithm.{deciphered}
use Rattle.key_ring.specs.Local.{local_key}
use Rattle.redo_text.specs.Block.{log_iv}
use Rattle.redo_text.specs.Reading.{block_body, block_version, number_of, used_of}
use Rattle.store_files.specs.RingBlock.{block_text}
use Rattle.store_files.proofs.RingBlocks.{block_number}
use Rattle.store_form.specs.Said.{header_said}
use Rattle.recovery.proofs.run_text.add_text.Goals as goal

pub returns-in_default-clause-refused : goal.returns-in_default-clause-refused
returns-in_default-clause-refused c = c.damaged.ensures (header_said c.args.header.now) c.args.ring.now c.in_default.ensures.none

pub returns-clause-text : goal.returns-clause-text
returns-clause-text c =
    let block : List ℕ = c.args.block.now in
    let h = c.args.header.now in
    let local : List ℕ = c.in-Some-local.local in
    let number : number_of block ≡ c.args.number = block_number c.args.number block c.in-Some.ensures.valid in
    let key : local_key c.args.ring.now 1 (block_version block) h.salt ≡ Some local = ap (λ (v : ℕ). local_key c.args.ring.now 1 v h.salt) (sym c.in-Some.ensures.version) ∙ sym c.local.ensures ∙ c.in-Some-local.is in
    record {
      part = block_text h.algorithm local block;
      of_block = (local, key, refl);
      is = c.in-Ok.ensures ∙ ap (λ (x : List ℕ). c.args.text.now.items ++ x) (λ i. take (c.in-Some.ensures.used i) (deciphered h.algorithm local (log_iv (sym number i)) (block_body block)));
    }
