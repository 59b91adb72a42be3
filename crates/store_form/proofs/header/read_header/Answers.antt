use Rattle.std.proofs.Common.{◌≡◌, ℕ, ◌&&◌, nat_le, List, Some, None, true≢false, sym, ap, ap₂, ◌∙◌}
use Rattle.byte_list.specs.Fields.{be32_at}
use Rattle.store_files.specs.Header.{HeldHeader, HeldSpace, spaces_at, are_in_order, pages_together}
use Rattle.store_form.specs.Said.{algorithm_named}
use Rattle.store_form.proofs.HeaderLaws.{IsHeaderBlock, header_none, header_some, named_none, named_some, fields_are}
use Rattle.store_form.proofs.header.read_header.Goals as goal

pub returns-then-not-ends_in_sum-clause-none : goal.returns-then-not-ends_in_sum-clause-none
returns-then-not-ends_in_sum-clause-none c = header_none c.args.block.now (λ is. true≢false (sym is.sums ∙ sym c.ends_in_sum.ensures ∙ c.if-not-ends_in_sum.true))

pub returns-then-not-has_magic-clause-none : goal.returns-then-not-has_magic-clause-none
returns-then-not-has_magic-clause-none c = header_none c.args.block.now (λ is. true≢false (sym (c.has_magic.ensures.no is.magic) ∙ c.if-not-has_magic.true))

pub returns-then-not-has_form-clause-none : goal.returns-then-not-has_form-clause-none
returns-then-not-has_form-clause-none c = header_none c.args.block.now (λ is. true≢false (sym is.form ∙ sym c.has_form.ensures ∙ c.if-not-has_form.true))

pub returns-in_default-clause-none : goal.returns-in_default-clause-none
returns-in_default-clause-none c =
    let b = c.args.block.now in
    let none : algorithm_named (be32_at b 240) ≡ None = sym (ap algorithm_named c.be32_at.ensures) ∙ sym c.algorithm_of.ensures ∙ c.in_default.is in
    header_none b (λ is. true≢false (sym is.named ∙ named_none (be32_at b 240) none))

-- the counts that are tested are those of the block
counts : (x y a b : ℕ) → x ≡ a → y ≡ b → (nat_le 32 x && (nat_le x 4096 && (nat_le 1 y && nat_le y 16))) ≡ (nat_le 32 a && (nat_le a 4096 && (nat_le 1 b && nat_le b 16)))
counts x y a b p q = ap₂ (λ (m n : ℕ). nat_le 32 m && (nat_le m 4096 && (nat_le 1 n && nat_le n 16))) p q

pub returns-then-not-are_counts-clause-none : goal.returns-then-not-are_counts-clause-none
returns-then-not-are_counts-clause-none c = header_none c.args.block.now
    (λ is. true≢false (sym is.counts ∙ sym (counts _ _ _ _ c.be32_at-blocks.ensures c.be32_at-count.ensures) ∙ sym c.are_counts.ensures ∙ c.if-not-are_counts.true))

-- and so are the spaces
spaces : (l m : List HeldSpace) → l ≡ m → (are_in_order 0 l && nat_le (pages_together l) 16384) ≡ (are_in_order 0 m && nat_le (pages_together m) 16384)
spaces l m p = ap (λ (k : List HeldSpace). are_in_order 0 k && nat_le (pages_together k) 16384) p

pub returns-then-not-are_spaces-clause-none : goal.returns-then-not-are_spaces-clause-none
returns-then-not-are_spaces-clause-none c =
    let b = c.args.block.now in
    let all = c.read_spaces-spaces.ensures ∙ ap (λ (n : ℕ). spaces_at b 40 n) c.be32_at-count.ensures in
    header_none b (λ is. true≢false (sym is.spaces ∙ sym (spaces _ _ all) ∙ sym c.are_spaces.ensures ∙ c.if-not-are_spaces.true))

pub returns-clause-some : goal.returns-clause-some
returns-clause-some c =
    let b = c.args.block.now in
    let all = c.read_spaces-spaces.ensures ∙ ap (λ (n : ℕ). spaces_at b 40 n) c.be32_at-count.ensures in
    let named = named_some (be32_at b 240) c.in-Some.algorithm (sym (ap algorithm_named c.be32_at.ensures) ∙ sym c.algorithm_of.ensures ∙ c.in-Some.is) in
    let block : IsHeaderBlock b = record {
      sums = sym c.ends_in_sum.ensures ∙ c.if-not-ends_in_sum.false;
      magic = c.has_magic.ensures.yes c.if-not-has_magic.false;
      form = sym c.has_form.ensures ∙ c.if-not-has_form.false;
      named = named.0;
      counts = sym (counts _ _ _ _ c.be32_at-blocks.ensures c.be32_at-count.ensures) ∙ sym c.are_counts.ensures ∙ c.if-not-are_counts.false;
      spaces = sym (spaces _ _ all) ∙ sym c.are_spaces.ensures ∙ c.if-not-are_spaces.false;
    } in
    header_some b block
    ∙ ap (λ (h : HeldHeader). Some h) (fields_are b c.in-Some.algorithm _ _ _ named.1 (sym c.be32_at-blocks.ensures ∙ sym c.from.ensures) (sym c.salt_of.ensures) (sym all))
