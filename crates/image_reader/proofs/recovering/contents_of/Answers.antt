use Rattle.std.proofs.Common.{◌≡◌, ℕ, ◌+◌, ◌<◌, List, [], ◌∷◌, ◌++◌, true, get_or, length, drop, take, refl, ap, sym, subst, ◌∙◌, arith, rules}
use Rattle.std.specs.Prelude.{IsErrAnd}
use Rattle.std.proofs.lemmas.List.{take_all}
use Rattle.cause_core.proofs.Causes.{handed}
use Rattle.key_ring.specs.Ring.{RingEntry}
use Rattle.redo_text.specs.declared.change.Change.{Change}
use Rattle.store_image.specs.Places.{LogView}
use Rattle.store_model.specs.declared.contents.SpaceContents.{SpaceContents}
use Rattle.store_files.specs.Header.{HeldHeader, HeldSpace, are_in_order}
use Rattle.crash_image.specs.Recovers.{SpacesLong}
use Rattle.image_reader.specs.Files.{image_of, space_bytes}
use Rattle.image_reader.specs.PageRefusals.{IsSpaceRefusal, IsSpacesRefusal, NoMemory}
use Rattle.image_reader.specs.Spaces.{AllGive, SpaceHolds}
use Rattle.image_reader.specs.declared.refusal.Refusal.{Refusal}
use Rattle.image_reader.specs.declared.refusal.Refusal.TheVariants.{OutOfMemory}
use Rattle.image_reader.proofs.Firsts.{long_named}
use Rattle.image_reader.proofs.HeaderSpaces.{some_named}
use Rattle.image_reader.proofs.PageAnswers.{give_more}
use Rattle.image_reader.proofs.Takes.{take_item}
use Rattle.image_reader.proofs.recovering.contents_of.Goals as goal
use Rattle.byte_list.proofs.RangeLaws.{drop_item}

pub space_of-requires-clause-bytes : goal.space_of-requires-clause-bytes
space_of-requires-clause-bytes c =
    let items = c.spaces-space-items.result.now in
    let item = c.space-item.result in
    let left = drop_item items c.loop-space.space-index item c.loop-space-test.true c.space-item.is in
    let all : SpacesLong (image_of c.args.files.now) items = subst (λ (hs : List HeldSpace). SpacesLong (image_of c.args.files.now) hs) (sym c.spaces-space-items.ensures) c.requires.long.spaces in
    let long = long_named (image_of c.args.files.now) items c.loop-space.space-index item (drop (c.loop-space.space-index + 1) items) all left in
    ap length c.space-bytes.ensures ∙ ap (λ (n : ℕ). length (space_bytes c.args.files.now.spaces n)) c.space.ensures ∙ long

pub space_of-requires-clause-some : goal.space_of-requires-clause-some
space_of-requires-clause-some c =
    let items = c.spaces-space-items.result.now in
    let item = c.space-item.result in
    let left = drop_item items c.loop-space.space-index item c.loop-space-test.true c.space-item.is in
    let order : are_in_order 0 items ≡ true = ap (are_in_order 0) c.spaces-space-items.ensures ∙ c.requires.order in
    some_named 0 items c.loop-space.space-index item (drop (c.loop-space.space-index + 1) items) order left

left_of : (hs items : List HeldSpace) (i : ℕ) (h : HeldSpace) → items ≡ hs → i < length items → h ≡ get_or items i h → drop i hs ≡ h ∷ drop (i + 1) hs
left_of hs items i h same lt is = subst (λ (l : List HeldSpace). drop i l ≡ h ∷ drop (i + 1) l) same (drop_item items i h lt is)

holds_over : (header : HeldHeader) (keys : List RingEntry) (log : LogView (List Change)) (bytes other double same : List ℕ) (h : HeldSpace) (x : SpaceContents) → bytes ≡ other → double ≡ same → SpaceHolds header keys log bytes double h x → SpaceHolds header keys log other same h x
holds_over header keys log bytes other double same h x a b is = subst (λ (X : Type 0). X) (λ i. SpaceHolds header keys log (a i) (b i) h x) is

refused_over : (header : HeldHeader) (keys : List RingEntry) (log : LogView (List Change)) (bytes other double same : List ℕ) (h : HeldSpace) (r : Refusal) → bytes ≡ other → double ≡ same → IsSpaceRefusal header keys log bytes double h r → IsSpaceRefusal header keys log other same h r
refused_over header keys log bytes other double same h r a b is = subst (λ (X : Type 0). X) (λ i. IsSpaceRefusal header keys log (a i) (b i) h r) is

pub returns-in_err-space_of-clause-fault : goal.returns-in_err-space_of-clause-fault
returns-in_err-space_of-clause-fault c =
    let is : IsErrAnd c.from_residual.result (λ e. e ≡ c.in_err-space_of.field-0.0) = search rules in
    let item = c.space-item.result in
    let bytes : c.space-bytes.result.now ≡ space_bytes c.args.files.now.spaces item.space = c.space-bytes.ensures ∙ ap (λ (n : ℕ). space_bytes c.args.files.now.spaces n) c.space.ensures in
    handed (IsSpacesRefusal c.args.header.now c.args.keys.now c.args.log.now c.args.files.now c.args.header.now.spaces) c.from_residual.result c.in_err-space_of.field-0.0 is
    (record {
      space = item;
      named = record { index = c.loop-space.space-index; is = left_of c.args.header.now.spaces c.spaces-space-items.result.now c.loop-space.space-index item c.spaces-space-items.ensures c.loop-space-test.true c.space-item.is };
      held = c.loop-space.list.items;
      before = c.loop-space.invariant;
      is = refused_over c.args.header.now c.args.keys.now c.args.log.now _ _ _ _ item c.in_err-space_of.field-0.0 bytes c.double.ensures c.in_err-space_of.ensures.fault;
    })

pub returns-in_err-push-clause-fault : goal.returns-in_err-push-clause-fault
returns-in_err-push-clause-fault c =
    let is : IsErrAnd c.from_residual-in_err-push.result (λ e. e ≡ OutOfMemory) = search rules in
    let item = c.space-item.result in
    handed (IsSpacesRefusal c.args.header.now c.args.keys.now c.args.log.now c.args.files.now c.args.header.now.spaces) c.from_residual-in_err-push.result OutOfMemory is
    (record {
      space = item;
      named = record { index = c.loop-space.space-index; is = left_of c.args.header.now.spaces c.spaces-space-items.result.now c.loop-space.space-index item c.spaces-space-items.ensures c.loop-space-test.true c.space-item.is };
      held = c.loop-space.list.items;
      before = c.loop-space.invariant;
      is = NoMemory refl;
    })

pub loop-space-preserved : goal.loop-space-preserved
loop-space-preserved c =
    let item = c.space-item.result in
    let i = c.loop-space.space-index in
    let spaces = c.args.header.now.spaces in
    let x = c.in_ok-space_of.field-0 in
    let left = left_of spaces c.spaces-space-items.result.now i item c.spaces-space-items.ensures c.loop-space-test.true c.space-item.is in
    let bytes : c.space-bytes.result.now ≡ space_bytes c.args.files.now.spaces item.space = c.space-bytes.ensures ∙ ap (λ (n : ℕ). space_bytes c.args.files.now.spaces n) c.space.ensures in
    let holds = holds_over c.args.header.now c.args.keys.now c.args.log.now _ _ _ _ item x bytes c.double.ensures c.in_ok-space_of.ensures.ok in
    let more = give_more c.args.header.now c.args.keys.now c.args.log.now c.args.files.now (take i spaces) c.loop-space.list.items item x c.loop-space.invariant holds in
    subst (λ (xs : List SpaceContents). AllGive c.args.header.now c.args.keys.now c.args.log.now c.args.files.now (take (i + 1) spaces) xs) (sym c.in_ok-push.ensures.items)
    (subst (λ (hs : List HeldSpace). AllGive c.args.header.now c.args.keys.now c.args.log.now c.args.files.now hs (c.loop-space.list.items ++ x ∷ [])) (sym (take_item spaces i item _ left)) more)

pub returns-clause-ok : goal.returns-clause-ok
returns-clause-ok c =
    let spaces = c.args.header.now.spaces in
    let same : length c.spaces-space-items.result.now ≡ length spaces = ap length c.spaces-space-items.ensures in
    let end = c.loop-space-test.false in
    let all : AllGive c.args.header.now c.args.keys.now c.args.log.now c.args.files.now spaces c.loop-space.list.items =
    subst (λ (hs : List HeldSpace). AllGive c.args.header.now c.args.keys.now c.args.log.now c.args.files.now hs c.loop-space.list.items) (take_all c.loop-space.space-index spaces (omega (arith, same, end))) c.loop-space.invariant in
    subst (λ (xs : List SpaceContents). AllGive c.args.header.now c.args.keys.now c.args.log.now c.args.files.now spaces xs) (sym c.of.ensures) all
