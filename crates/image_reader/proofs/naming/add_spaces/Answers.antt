use Rattle.std.proofs.Common.{◌≡◌, ◌+◌, ◌∷◌, ℕ, List, drop, length, ap, subst, arith}
use Rattle.byte_list.proofs.RangeLaws.{drop_item}
use Rattle.store_files.specs.Header.{HeldSpace}
use Rattle.image_reader.specs.Files.{image_of}
use Rattle.image_reader.specs.Naming.{AddsNames, Below, IsNameAt}
use Rattle.image_reader.proofs.Additions.{adds_none}
use Rattle.image_reader.proofs.Firsts.{long_named}
use Rattle.image_reader.proofs.NameLaws.{name_adds}
use Rattle.image_reader.proofs.naming.add_spaces.Goals as goal

left_in : (xs ys : List HeldSpace) (i : ℕ) (h : HeldSpace) → xs ≡ ys → drop i xs ≡ h ∷ drop (i + 1) xs → drop i ys ≡ h ∷ drop (i + 1) ys
left_in xs ys i h same at = subst (λ (l : List HeldSpace). drop i l ≡ h ∷ drop (i + 1) l) same at

pub loop-space-init : goal.loop-space-init
loop-space-init c = adds_none _ _

pub add_space-requires-clause-bytes : goal.add_space-requires-clause-bytes
add_space-requires-clause-bytes c =
    let items = c.spaces-space-items.result.now in
    let left = left_in items _ c.loop-space.space-index c.space-item.result c.spaces-space-items.ensures (drop_item items c.loop-space.space-index c.space-item.result c.loop-space-test.true c.space-item.is) in
    long_named (image_of c.args.files.now) c.args.header.now.spaces c.loop-space.space-index c.space-item.result _ c.requires.spaces left

pub loop-space-preserved : goal.loop-space-preserved
loop-space-preserved c =
    let items = c.spaces-space-items.result.now in
    let left = left_in items _ c.loop-space.space-index c.space-item.result c.spaces-space-items.ensures (drop_item items c.loop-space.space-index c.space-item.result c.loop-space-test.true c.space-item.is) in
    name_adds c.args.files.now c.args.active c.args.header.now.spaces c.loop-space.space-index c.space-item.result _ _ _ left c.loop-space.invariant c.in_ok-add_space.ensures

pub returns : goal.returns
returns c =
    let same = ap length c.spaces-space-items.ensures in
    let e : c.loop-space.space-index ≡ length c.args.header.now.spaces = omega (arith, same) in
    subst (λ (n : ℕ). AddsNames (Below (IsNameAt c.args.files.now c.args.active c.args.header.now.spaces) n) c.args.names.now.items c.loop-space.names.items) e c.loop-space.invariant
