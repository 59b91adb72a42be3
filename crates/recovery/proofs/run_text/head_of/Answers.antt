use Rattle.page_places.proofs.Sums.{not_true}
use Rattle.store_files.proofs.RingBlocks.{block_read, read_is_block}
use Rattle.recovery.proofs.run_text.head_of.Goals as goal

pub returns-in-Ok-clause-valid : goal.returns-in-Ok-clause-valid
returns-in-Ok-clause-valid c = read_is_block c.args.number c.args.block.now c.requires c.known_bytes.ensures c.in-Ok.ensures.view.1

pub returns-in-Err-clause-none : goal.returns-in-Err-clause-none
returns-in-Err-clause-none c = not_true _ (λ is. let read = block_read c.args.number c.args.block.now is in let fault = c.in-Err.ensures.fault in absurd cc)
