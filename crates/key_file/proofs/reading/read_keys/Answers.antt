use Rattle.std.proofs.Common.{Err, refl, sym, subst, inl, inr, ◌∙◌, ◌⊎◌}
use Rattle.std.specs.Option.{option_copied}
use Rattle.std.proofs.lemmas.Result.{err_from_is_err_and}
use Rattle.key_file.specs.Load.{IsOutside, KeysOf}
use Rattle.key_file.specs.declared.load_fault.LoadFault.{LoadFault}
use Rattle.key_file.specs.declared.load_fault.LoadFault.TheVariants.{FileFault}
use Rattle.key_file.proofs.FilesRead.{fault_handed, keys_read, keys_refused, text_refused}
use Rattle.key_file.proofs.reading.read_keys.Goals as goal

pub returns-in_err-text-clause-keys : goal.returns-in_err-text-clause-keys
returns-in_err-text-clause-keys g c =
    let p = err_from_is_err_and c.from_residual-in_err-text.result c.from_residual-in_err-text.ensures.1 in
    record {
      here = λ fs told. rw (p.1, p.2) (text_refused fs c.args.index (option_copied c.args.filekey) c.args.digest c.args.name.now c.in_ok-bytes.bytes.items
          (c.in_ok-bytes.ensures.contents.here fs told) _ (c.in_err-text.ensures.text.here fs (c.read_named.ensures.same ∙ told)));
    }

pub returns-in-Ok-clause-keys : goal.returns-in-Ok-clause-keys
returns-in-Ok-clause-keys g c = record {
  here = λ fs told.
      keys_read fs c.args.index (option_copied c.args.filekey) c.args.digest c.args.name.now c.in_ok-bytes.bytes.items (c.in_ok-bytes.ensures.contents.here fs told)
      c.deref.result.now c.in-Ok.keys (rw c.deref.ensures.value (c.in_ok-text.ensures.text.here fs (c.read_named.ensures.same ∙ told))) c.in-Ok.ensures.reads;
}

pub returns-clause-keys : goal.returns-clause-keys
returns-clause-keys g c = record {
  here = λ fs told.
      subst (λ (f : LoadFault). IsOutside f ⊎ KeysOf fs c.args.index (option_copied c.args.filekey) c.args.digest c.args.name.now (Err f)) (sym c.of_file.ensures.value)
      (keys_refused fs c.args.index (option_copied c.args.filekey) c.args.digest c.args.name.now c.in_ok-bytes.bytes.items (c.in_ok-bytes.ensures.contents.here fs told)
      c.deref.result.now c.in-Err.fault (rw c.deref.ensures.value (c.in_ok-text.ensures.text.here fs (c.read_named.ensures.same ∙ told))) c.in-Err.ensures.reads);
}

pub returns-in_err-bytes-clause-failed : goal.returns-in_err-bytes-clause-failed
returns-in_err-bytes-clause-failed g c is =
    let p = err_from_is_err_and c.from_residual.result c.from_residual.ensures.1 in
    record { here = λ fs told. (c.args.name.now, inl refl, c.in_err-bytes.ensures.failed (fault_handed c.from_residual.result p.0 _ FileFault p.1 p.2 is)) }

pub returns-in_err-text-clause-failed : goal.returns-in_err-text-clause-failed
returns-in_err-text-clause-failed g c is =
    let p = err_from_is_err_and c.from_residual-in_err-text.result c.from_residual-in_err-text.ensures.1 in
    let said = c.in_err-text.ensures.failed (fault_handed c.from_residual-in_err-text.result p.0 _ FileFault p.1 p.2 is) in
    record { here = λ fs told. (said.1.0, inr (c.in_ok-bytes.bytes.items, c.in_ok-bytes.ensures.contents.here fs told, said.0, said.1.1), said.1.2) }
