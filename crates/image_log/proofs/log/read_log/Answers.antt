use Rattle.std.proofs.Common.{◌≡◌, ◌≢◌, subst, arith, rules, List, ℕ}
use Rattle.std.specs.Prelude.{IsErrAnd}
use Rattle.cause_core.proofs.Causes.{handed}
use Rattle.redo_text.specs.declared.change.Change.{Change}
use Rattle.store_image.specs.Places.{LogView}
use Rattle.store_files.specs.Run.{IsLogOf, MakeWholeMtrs, NoWholeMtr}
use Rattle.image_log.specs.declared.fault.LogTextFault.{LogTextFault}
use Rattle.image_log.specs.declared.fault.LogTextFault.TheVariants.{NoCheckpoint, OutOfMemory}
use Rattle.image_log.specs.Logs.{checkpoint_of}
use Rattle.store_files.proofs.CheckpointBounds.{from_bounds}
use Rattle.image_log.proofs.Entries.{entry_fault, fault_refuses}
use Rattle.image_log.proofs.log.read_log.Goals as goal

pub returns-in_default-clause-never : goal.returns-in_default-clause-never
returns-in_default-clause-never c = fault_refuses c.args.header.now c.args.keys.now c.args.log.now NoCheckpoint c.in_default.ensures.none

pub run_from-requires-clause-small : goal.run_from-requires-clause-small
run_from-requires-clause-small c = (from_bounds _ _ _ c.in-Some.ensures.some.is).1

pub returns-in_err-run-clause-never : goal.returns-in_err-run-clause-never
returns-in_err-run-clause-never c =
    let is : IsErrAnd c.from_residual-in_err-run.result (λ e. e ≡ c.in_err-run.field-0.0) = search rules in
    let fault = entry_fault c.args.header.now c.args.keys.now c.args.log.now (checkpoint_of c.in-Some.newest) c.in_err-run.field-0.0 c.in-Some.ensures.some c.in_err-run.ensures.fault in
    handed (λ (fault : LogTextFault). fault ≢ OutOfMemory → (text : LogView (List Change)) → IsLogOf c.args.header.now c.args.keys.now c.args.log.now text → ⊥) c.from_residual-in_err-run.result c.in_err-run.field-0.0 is
    (fault_refuses c.args.header.now c.args.keys.now c.args.log.now c.in_err-run.field-0.0 fault)

pub returns-clause-ok : goal.returns-clause-ok
returns-clause-ok c =
    let sizes = c.in_ok-sizes.sizes in
    let longest = subst (λ (n : ℕ). NoWholeMtr n c.args.log.now sizes.end) c.blocks-2.ensures c.in_ok-sizes.ensures.longest in record {
      run = record {
        sequence = c.in-Some.newest.sequence;
        newest = c.in-Some.ensures.some;
        sizes = sizes.sizes.items;
        whole = subst (λ (n : ℕ). MakeWholeMtrs n c.args.log.now c.in-Some.newest.from sizes.sizes.items sizes.end) c.blocks-2.ensures c.in_ok-sizes.ensures.run;
        longest = longest;
      };
      entries = c.in_ok-run.ensures.ok;
    }

pub invariant_of-result : goal.invariant_of-result
invariant_of-result c = let bounds = from_bounds _ _ _ c.in-Some.ensures.some.is in let least = bounds.0 in let le = c.in_ok-sizes.ensures.least in (omega (arith, least, le), c.in_ok-sizes.ensures.small, le)
