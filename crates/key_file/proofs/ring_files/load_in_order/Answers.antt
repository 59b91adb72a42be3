use Rattle.std.proofs.Common.{◌≡◌, ℕ, ◌<◌, List, length, map, get_or, Err, string_bytes, sym, ap, ◌∙◌, inl, inr, arith}
use Rattle.std.specs.Option.{option_copied}
use Rattle.std.proofs.lemmas.List.{get_or-map, length-map}
use Rattle.std.proofs.lemmas.Result.{err_from_is_err_and}
use Rattle.key_file.specs.declared.load_fault.LoadFault.TheVariants.{FileFault}
use Rattle.key_file.proofs.FilesRead.{fault_handed}
use Rattle.key_file.proofs.Loads.{due_here, due_later, loads_more, loads_stop}
use Rattle.key_file.proofs.RingKeys.{later_version}
use Rattle.key_file.proofs.ring_files.load_in_order.Goals as goal

pub returns-in_err-keys-clause-loads : goal.returns-in_err-keys-clause-loads
returns-in_err-keys-clause-loads g c =
    let p = err_from_is_err_and c.from_residual.result c.from_residual.ensures.1 in
    let names : List (List ℕ) = map string_bytes c.args.names.now in
    let name : List ℕ = c.deref.result.now in
    let at : get_or names c.loop-index.index name ≡ name =
    get_or-map string_bytes c.args.names.now c.loop-index.index c.index-names-index.result name c.loop-index-test.true ∙ ap string_bytes (sym c.index-names-index.is) ∙ sym c.deref.ensures in
    let within : c.loop-index.index < length names = omega (arith, c.loop-index-test.true, length-map c.args.names.now string_bytes) in
    record {
      here = λ fs told. rw (p.1, p.2) (elim (c.in_err-keys.ensures.keys.here fs (c.loop-index.invariant.0 ∙ told)) [
        | inl outside ↦ inl outside
        | inr keys ↦ inr (c.loop-index.invariant.5.here fs told (Err _)
            (loads_stop fs (option_copied c.args.filekey) c.args.digest names c.loop-index.index name within at c.loop-index.ring _ keys))
      ]);
    }

pub returns-in_err-keys-clause-failed : goal.returns-in_err-keys-clause-failed
returns-in_err-keys-clause-failed g c is =
    let p = err_from_is_err_and c.from_residual.result c.from_residual.ensures.1 in
    let names : List (List ℕ) = map string_bytes c.args.names.now in
    let name : List ℕ = c.deref.result.now in
    let at : get_or names c.loop-index.index name ≡ name =
    get_or-map string_bytes c.args.names.now c.loop-index.index c.index-names-index.result name c.loop-index-test.true ∙ ap string_bytes (sym c.index-names-index.is) ∙ sym c.deref.ensures in
    let within : c.loop-index.index < length names = omega (arith, c.loop-index-test.true, length-map c.args.names.now string_bytes) in
    record {
      here = λ fs told.
          let said = (c.in_err-keys.ensures.failed (fault_handed c.from_residual.result p.0 _ FileFault p.1 p.2 is)).here fs (c.loop-index.invariant.0 ∙ told) in (
            said.0,
            c.loop-index.invariant.6.here fs told said.0
                (due_here fs (option_copied c.args.filekey) c.args.digest names c.loop-index.index name within at said.0 said.1),
            said.2,
          );
    }

pub loop-index-preserved : goal.loop-index-preserved
loop-index-preserved g c =
    let names : List (List ℕ) = map string_bytes c.args.names.now in
    let name : List ℕ = c.deref.result.now in
    let at : get_or names c.loop-index.index name ≡ name =
    get_or-map string_bytes c.args.names.now c.loop-index.index c.index-names-index.result name c.loop-index-test.true ∙ ap string_bytes (sym c.index-names-index.is) ∙ sym c.deref.ensures in
    let within : c.loop-index.index < length names = omega (arith, c.loop-index-test.true, length-map c.args.names.now string_bytes) in
    let added = c.in_ok-add_keys.ensures.added in (
      c.read_keys.ensures.same ∙ c.loop-index.invariant.0,
      λ id v h. later_version c.loop-index.ring c.add_keys.new.ring c.in_ok-keys.keys _ added id v h (c.loop-index.invariant.1 id v (omega arith)),
      c.in_ok-keys.ensures.no_fault ∙ c.loop-index.invariant.2,
      c.in_ok-keys.ensures.present ∙ c.loop-index.invariant.3,
      c.in_ok-keys.ensures.no_refusal ∙ c.loop-index.invariant.4,
      record {
        here = λ fs told r h. c.loop-index.invariant.5.here fs told r
            (loads_more fs (option_copied c.args.filekey) c.args.digest names c.loop-index.index name within at c.loop-index.ring c.add_keys.new.ring c.in_ok-keys.keys
            (c.in_ok-keys.ensures.keys.here fs (c.loop-index.invariant.0 ∙ told)) added r h);
      },
      record {
        here = λ fs told due h. c.loop-index.invariant.6.here fs told due
            (due_later fs (option_copied c.args.filekey) c.args.digest names c.loop-index.index name within at c.in_ok-keys.keys
            (c.in_ok-keys.ensures.keys.here fs (c.loop-index.invariant.0 ∙ told)) due h);
      },
    )
