use Rattle.std.proofs.Common.{◌≡◌, ℕ, List, ◌-◌, ◌/◌, ◌*◌, suc, length, drop, take, sym, ap, ap₂, ◌∙◌, arith}
use Rattle.aes_core.specs.Cipher.{decrypted, xored}
use Rattle.aes_core.specs.Modes.{text_block, block_before}
use Rattle.aes_core.proofs.ModeLaws.{last_undone}
use Rattle.aes_core.proofs.pad.last_block.Goals as goal

-- the block read at the end is block n
last_read : (xs : List ℕ) (n k : ℕ) → length xs ≡ 16 * suc n → k ≡ 16 → take k (drop (length xs - 16) xs) ≡ text_block xs n
last_read xs n k long e =
    let at : length xs - 16 ≡ 16 * n = omega arith in
    ap₂ (λ (i j : ℕ). take i (drop j xs)) e at

before_read : (iv xs : List ℕ) (n k : ℕ) → length xs ≡ 16 * suc (suc n) → k ≡ 16 → take k (drop (length xs - 16 - 16) xs) ≡ block_before iv xs (suc n)
before_read iv xs n k long e =
    let at : length xs - 16 - 16 ≡ 16 * n = omega arith in
    ap₂ (λ (i j : ℕ). take i (drop j xs)) e at

pub returns-then-at-eq0 : goal.returns-then-at-eq0
returns-then-at-eq0 c =
    let key : List ℕ = c.args.key.now in
    let iv : List ℕ = c.args.iv.now in
    let xs : List ℕ = c.args.bytes.now in
    let long : length xs ≡ 16 * suc 0 = omega arith in
    let read : c.copy_from_slice.new.self ≡ text_block xs 0 = c.copy_from_slice.ensures.after ∙ last_read xs 0 _ long (omega arith) in
    c.xor_with.ensures ∙ ap (λ (b : List ℕ). xored b iv) (c.decrypt_block.ensures.value ∙ ap (decrypted key) read)
    ∙ sym (last_undone key iv c.known.ensures (record { long = c.told-iv; bytes = c.fits-iv }) xs 0 (λ i. omega (arith, c.type_inv.bytes i)) long)

pub returns-else-at-eq0 : goal.returns-else-at-eq0
returns-else-at-eq0 c =
    let key : List ℕ = c.args.key.now in
    let iv : List ℕ = c.args.iv.now in
    let xs : List ℕ = c.args.bytes.now in
    let n : ℕ = length xs / 16 - 2 in
    let long : length xs ≡ 16 * suc (suc n) = omega arith in
    let read : c.copy_from_slice.new.self ≡ text_block xs (suc n) = c.copy_from_slice.ensures.after ∙ last_read xs (suc n) _ long (omega arith) in
    c.xor_with-else-at-eq0.ensures
    ∙ ap₂ (λ (b d : List ℕ). xored b d) (c.decrypt_block.ensures.value ∙ ap (decrypted key) read) (before_read iv xs n _ long (omega arith))
    ∙ sym (last_undone key iv c.known.ensures (record { long = c.told-iv; bytes = c.fits-iv }) xs (suc n) (λ i. omega (arith, c.type_inv.bytes i)) long)
