use Rattle.std.proofs.Common.{rules, ◌≡◌, ◌∙◌, ◌+◌, ◌*◌, ◌<◌, ℕ, List, ◌∷◌, length, drop, map, slice_index_or, refl, sym, ap, subst, arith, IsErrAnd}
use Rattle.std.proofs.lemmas.List.{drop_more}
use Rattle.cause_core.proofs.Causes.{handed}
use Rattle.disk_model.specs.Event.{Event}
use Rattle.disk_model.specs.Past.{At}
use Rattle.disk_model.proofs.Moments.{at_is, at_both, at_each}
use Rattle.store_form.specs.Said.{space_said}
use Rattle.store_form.specs.declared.header.HeaderSpace.{HeaderSpace}
use Rattle.recovery.specs.Files.{HasOtherLength, HasStoreFile, StoreFile, space_file}
use Rattle.recovery.specs.Stages.{IsLengthRefusal, IsOtherLength}
use Rattle.recovery.proofs.Misfits.{length_refused}
use Rattle.recovery.proofs.WalkSteps.{all_at, all_map, all_more, all_whole, first_at, first_map}
use Rattle.recovery.proofs.lengths.check_spaces.Goals as goal

abbrev zero_space : HeaderSpace
zero_space = record { space = 0; pages = 0; key_id = 0 }

at_index : (xs : List HeaderSpace) (i : ℕ) → i < length xs → drop i xs ≡ slice_index_or xs i zero_space ∷ drop (i + 1) xs
at_index xs i lt = drop_more xs i zero_space lt

pub check_length-requires : goal.check_length-requires
check_length-requires g c =
    let xs = c.args.spaces.now in
    let i = c.loop-i.i in
    let some : 0 < (slice_index_or xs i zero_space).pages = all_at (λ (space : HeaderSpace). 0 < space.pages) xs i _ _ c.requires (at_index xs i (omega (arith, c.loop-i-test.true))) in
    let is = c.from-wanted.ensures in
    omega (arith, some, is)

pub returns-in_err-check_length-clause-refused : goal.returns-in_err-check_length-clause-refused
returns-in_err-check_length-clause-refused g c =
    let xs = c.args.spaces.now in
    let i = c.loop-i.i in
    let x = slice_index_or xs i zero_space in
    let past = g.D.Disk.past c.args.disk.now in
    let why = c.in_err-check_length.field-0.0 in
    let f : StoreFile = space_file (space_said x) in
    let files = map space_file (map space_said xs) in
    let is : IsErrAnd c.from_residual.result (λ e. e ≡ why) = search rules in
    let first : At (λ es. (found : ℕ) → HasOtherLength f found es f → _) past = at_each (λ (es : List Event) have found other.
    first_map space_file (HasStoreFile es) (HasOtherLength f found es) (map space_said xs)
    (first_map space_said (λ h. HasStoreFile es (space_file h)) (λ h. HasOtherLength f found es (space_file h)) xs
    (first_at (λ (space : HeaderSpace). HasStoreFile es (space_file (space_said space))) (λ space. HasOtherLength f found es (space_file (space_said space))) xs i x _ have (at_index xs i (omega (arith, c.loop-i-test.true))) other))) c.loop-i.invariant.have in
    handed (IsLengthRefusal files past) c.from_residual.result why is
    (length_refused f (c.from-wanted.result * 16384) past files (ap (λ (n : ℕ). n * 16384) c.from-wanted.ensures) first why
    (subst (λ h. IsOtherLength f.name (c.from-wanted.result * 16384) h why) c.loop-i.invariant.same c.in_err-check_length.ensures.refused))

pub loop-i-preserved : goal.loop-i-preserved
loop-i-preserved g c =
    let xs = c.args.spaces.now in
    let i = c.loop-i.i in
    record {
      same = c.in_ok-check_length.ensures.same ∙ c.loop-i.invariant.same;
      have = at_both (λ (es : List Event) have has.
          all_more (λ (space : HeaderSpace). HasStoreFile es (space_file (space_said space))) xs i (slice_index_or xs i zero_space) _ have (at_index xs i (omega (arith, c.loop-i-test.true)))
          (record { there = has.0; size = has.1 ∙ ap (λ (n : ℕ). n * 16384) c.from-wanted.ensures }))
          c.loop-i.invariant.have (at_is (sym c.loop-i.invariant.same) c.in_ok-check_length.ensures.has);
      calls = omega (arith, c.loop-i.invariant.calls, c.in_ok-check_length.ensures.calls);
      faults = search rules;
      memory = c.in_ok-check_length.ensures.no_refusal ∙ c.loop-i.invariant.memory;
      later = g.met.D.Disk.is_later_transitive _ _ _ c.loop-i.invariant.later c.in_ok-check_length.ensures.later;
    }

pub returns-clause-have : goal.returns-clause-have
returns-clause-have g c =
    let xs = c.args.spaces.now in
    at_each (λ (es : List Event) have.
    all_map space_file (HasStoreFile es) (map space_said xs) (all_map space_said (λ h. HasStoreFile es (space_file h)) xs
    (all_whole (λ (space : HeaderSpace). HasStoreFile es (space_file (space_said space))) xs c.loop-i.i (omega (arith, c.loop-i.auto.i-end, c.loop-i-test.false)) have))) c.loop-i.invariant.have
