use Rattle.std.proofs.Common.{◌≡◌, ◌≤◌, ◌<◌, ℕ, List, sym, subst, arith}
use Rattle.places.specs.Places.{place}
use Rattle.store_files.proofs.ContentsOnce.{header_order}
use Rattle.image_reader.specs.Naming.{AddsNames, Below, IsBlockName}
use Rattle.store_files.proofs.HeaderBounds.{header_blocks}
use Rattle.image_reader.proofs.NamedKeys.{named_of}
use Rattle.image_reader.proofs.naming.named.Goals as goal

pub add_blocks-requires-clause-some : goal.add_blocks-requires-clause-some
add_blocks-requires-clause-some c =
    let least = (header_blocks (place 4096 0 c.args.files.now.log) c.args.header.now c.requires.is_header).0 in
    let same = c.blocks-2.ensures in
    omega (arith, least, same)

pub add_blocks-requires-clause-order : goal.add_blocks-requires-clause-order
add_blocks-requires-clause-order c = let order = c.from.ensures.order in let end = c.end.ensures.value in omega (arith, order, end)

blocks_moved : (n m : ℕ) (a b : List ℕ) (f g e d : ℕ) (old new : List (ℕ × ℕ)) → n ≡ m → a ≡ b → f ≡ g → e ≡ d → AddsNames (Below (IsBlockName n a f) e) old new → AddsNames (Below (IsBlockName m b g) d) old new
blocks_moved n m a b f g e d old new nm ab fg ed adds = subst (λ (X : Type 0). X) (λ i. AddsNames (Below (IsBlockName (nm i) (ab i) (fg i)) (ed i)) old new) adds

pub returns : goal.returns
returns c =
    let order = header_order (place 4096 0 c.args.files.now.log) c.args.header.now c.requires.is_header in
    let blocks = blocks_moved _ _ _ _ _ _ _ _ _ _ c.blocks-2.ensures c.log.ensures c.from.ensures.value c.end.ensures.value c.in_ok-add_blocks.ensures in
    named_of c.args.files.now c.args.header.now c.args.log.now c.args.active order _ _ _ _ c.new-names.ensures.items blocks c.in_ok-add.ensures c.in_ok-add_spaces.ensures
