use Rattle.std.proofs.Common.{rules, ◌≡◌, ◌∙◌, ℕ, ◌<◌, List, ◌++◌, length, sym, ap, []}
use Rattle.std.proofs.lemmas.List.{append-nil as none_behind}
use Rattle.byte_list.specs.Bytes.{zeros}
use Rattle.store_files.specs.Header.{space_words}
use Rattle.store_form.proofs.HeaderWrites.{space_put}
use Rattle.store_form.proofs.header_block.fill_spaces.Goals as goal

no_words : (w : List ℕ) → w ≡ w ++ space_words []
unfolding space_words
no_words w = sym (none_behind w)

pub loop-i-init : goal.loop-i-init
loop-i-init c = (c.requires.long, λ w long is. is ∙ ap (λ (l : List ℕ). l ++ zeros 4056) (no_words w))

pub loop-i-preserved : goal.loop-i-preserved
loop-i-preserved c =
    let below : c.loop-i.i < length c.args.spaces.now = search rules in (
      c.fill_space.ensures.long,
      λ w long is. c.fill_space.ensures.part ∙ space_put w c.args.spaces.now c.loop-i.i _ c.loop-i.block long below c.requires.few (c.loop-i.invariant.1 w long is),
    )
