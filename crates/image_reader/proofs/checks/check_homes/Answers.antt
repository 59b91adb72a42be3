use Rattle.std.proofs.Common.{◌≡◌, ℕ, ◌+◌, ◌*◌, List, length, drop, ap, sym, subst, ◌∙◌, arith, rules}
use Rattle.std.specs.Prelude.{IsErrAnd}
use Rattle.std.proofs.lemmas.List.{take_all}
use Rattle.cause_core.proofs.Causes.{handed}
use Rattle.byte_list.proofs.RangeLaws.{drop_item}
use Rattle.page_places.specs.Texts.{page_bytes}
use Rattle.store_files.specs.Header.{HeldSpace}
use Rattle.crash_image.specs.Recovers.{SpacesLong}
use Rattle.image_reader.specs.Files.{image_of, space_bytes}
use Rattle.image_reader.specs.Homes.{AreHomesRight, AreRightBelow, HasHomeFault, IsFirstMixed}
use Rattle.image_reader.specs.declared.refusal.Refusal.{Refusal}
use Rattle.image_reader.proofs.Firsts.{long_named, right_more}
use Rattle.image_reader.proofs.Takes.{take_item}
use Rattle.image_reader.proofs.checks.check_homes.Goals as goal

pub check_space_homes-requires : goal.check_space_homes-requires
check_space_homes-requires c =
    let items = c.spaces-space-items.result.now in
    let item = c.space-item.result in
    let left = drop_item items c.loop-space.space-index item c.loop-space-test.true c.space-item.is in
    let all : SpacesLong (image_of c.args.files.now) items = subst (λ (hs : List HeldSpace). SpacesLong (image_of c.args.files.now) hs) (sym c.spaces-space-items.ensures) c.requires.spaces in
    let long = long_named (image_of c.args.files.now) items c.loop-space.space-index item (drop (c.loop-space.space-index + 1) items) all left in
    ap length c.space-in-loop-space.ensures ∙ ap (λ (n : ℕ). length (space_bytes c.args.files.now.spaces n)) c.space.ensures ∙ long ∙ ap (λ (n : ℕ). n * page_bytes) (sym c.pages.ensures)

right : (bytes other : List ℕ) (n m : ℕ) → bytes ≡ other → n ≡ m → AreRightBelow bytes n → AreRightBelow other m
right bytes other n m a b are = subst (λ (X : Type 0). X) (λ i. AreRightBelow (a i) (b i)) are

mixed : (bytes other : List ℕ) (s z n m : ℕ) (r : Refusal) → bytes ≡ other → s ≡ z → n ≡ m → IsFirstMixed bytes s n r → IsFirstMixed other z m r
mixed bytes other s z n m r a b c is = subst (λ (X : Type 0). X) (λ i. IsFirstMixed (a i) (b i) (c i) r) is

pub returns-in_err-check_space_homes-clause-fault : goal.returns-in_err-check_space_homes-clause-fault
returns-in_err-check_space_homes-clause-fault c =
    let is : IsErrAnd c.from_residual.result (λ e. e ≡ c.in_err-check_space_homes.field-0.0) = search rules in
    let items = c.spaces-space-items.result.now in
    let item = c.space-item.result in
    let left = drop_item items c.loop-space.space-index item c.loop-space-test.true c.space-item.is in
    let bytes : c.space-in-loop-space.result.now ≡ space_bytes c.args.files.now.spaces item.space = c.space-in-loop-space.ensures ∙ ap (λ (n : ℕ). space_bytes c.args.files.now.spaces n) c.space.ensures in
    let found : HasHomeFault c.args.files.now items c.in_err-check_space_homes.field-0.0 = record {
      space = item;
      named = record { index = c.loop-space.space-index; is = left };
      before = c.loop-space.invariant;
      fault = mixed _ _ _ _ _ _ _ bytes c.space-in-loop-space-2.ensures c.pages.ensures c.in_err-check_space_homes.ensures.fault;
    } in
    handed (HasHomeFault c.args.files.now c.args.header.now.spaces) c.from_residual.result c.in_err-check_space_homes.field-0.0 is
    (subst (λ (hs : List HeldSpace). HasHomeFault c.args.files.now hs c.in_err-check_space_homes.field-0.0) c.spaces-space-items.ensures found)

pub loop-space-preserved : goal.loop-space-preserved
loop-space-preserved c =
    let items = c.spaces-space-items.result.now in
    let item = c.space-item.result in
    let left = drop_item items c.loop-space.space-index item c.loop-space-test.true c.space-item.is in
    let bytes : c.space-in-loop-space.result.now ≡ space_bytes c.args.files.now.spaces item.space = c.space-in-loop-space.ensures ∙ ap (λ (n : ℕ). space_bytes c.args.files.now.spaces n) c.space.ensures in
    let here = right _ _ _ _ bytes c.pages.ensures c.in_ok-check_space_homes.ensures.ok in
    subst (λ (hs : List HeldSpace). AreHomesRight c.args.files.now hs) (sym (take_item items c.loop-space.space-index item _ left)) (right_more c.args.files.now _ item c.loop-space.invariant here)

pub returns-clause-ok : goal.returns-clause-ok
returns-clause-ok c =
    let items = c.spaces-space-items.result.now in
    subst (λ (hs : List HeldSpace). AreHomesRight c.args.files.now hs) (take_all c.loop-space.space-index items (omega arith) ∙ c.spaces-space-items.ensures) c.loop-space.invariant
