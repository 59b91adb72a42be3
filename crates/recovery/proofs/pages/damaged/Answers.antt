use Rattle.std.proofs.Common.{◌≡◌, ◌∙◌, ◌-◌, ◌*◌, ℕ, ap, take, length, arith}
use Rattle.bytes_core.specs.Crc.{crc32c}
use Rattle.byte_list.specs.Fields.{be32_at}
use Rattle.disk_model.specs.declared.names.FileName.TheVariants.{Space}
use Rattle.doublewrite.specs.declared.refuse.OpenRefuse.TheVariants.{Damaged}
use Rattle.recovery.proofs.pages.damaged.Goals as goal

same : (s a b x y u v : ℕ) → a ≡ b → x ≡ y → u ≡ v → Damaged (Space s) a x u ≡ Damaged (Space s) b y v
same s a b x y u v e f h = λ i. Damaged (Space s) (e i) (f i) (h i)

pub returns : goal.returns
returns c =
    let x = c.args.home.now in
    let end : length x - 4 ≡ 16380 = let l = c.requires in omega (arith, l) in
    same c.args.space _ _ _ _ _ _ (ap (λ (n : ℕ). n * 16384) c.from.ensures) (c.be32_at.ensures ∙ ap (λ (n : ℕ). be32_at x n) end) (c.crc32c.ensures ∙ ap crc32c (c.front.ensures ∙ ap (λ (n : ℕ). take n x) end))
