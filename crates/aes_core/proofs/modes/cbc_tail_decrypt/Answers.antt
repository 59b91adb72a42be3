use Rattle.std.proofs.Common.{◌≡◌, ℕ, List, length, ◌+◌, ◌-◌, ◌*◌, ◌/◌, ◌≤◌, ◌++◌, drop, length-drop, refl, sym, ap, ap₂, ◌∙◌, arith, add-one}
use borrow.Rule.Slice.PartMut.{put_mid}
use Rattle.aes_core.specs.Cipher.{AreBytes, IsCipherBlock, decrypted, encrypted, xored}
use Rattle.aes_core.specs.Modes.{text_block, block_before, cbc_tail, joined, uncbc_tail, whole_blocks}
use Rattle.aes_core.proofs.BlockLoop.{AreBlocks, Written, written_ahead, written_all, written_as, written_more, written_rest}
use Rattle.aes_core.proofs.Loops.{xored_front}
use Rattle.aes_core.proofs.ModeLaws.{cbc_redone, cbc_undone, undone_blocks}
use Rattle.aes_core.proofs.modes.cbc_tail_decrypt.Goals as goal

-- one block on
one_more : (key iv xs now text cipher before ys : List ℕ) (n m k : ℕ)
    → Written (λ j. xored (decrypted key (text_block xs j)) (block_before iv xs j)) xs now n → m ≡ n → 16 * n + 16 ≤ length xs → k ≡ 16
    → cipher ≡ text_block xs n → before ≡ block_before iv xs n → text ≡ xored (decrypted key cipher) before → ys ≡ text → length ys ≡ 16
    → Written (λ j. xored (decrypted key (text_block xs j)) (block_before iv xs j)) xs (put_mid (16 * m) k now ys) (n + 1)
one_more key iv xs now text cipher before ys n m k w em room ek ec eb made is ly =
    let h = λ (j : ℕ). xored (decrypted key (text_block xs j)) (block_before iv xs j) in
    rw em
    (written_more h xs now ys n k w room ek (is ∙ made ∙ ap₂ (λ (a b : List ℕ). xored (decrypted key a) b) ec eb) ly)

pub fours-init : goal.fours-init
fours-init c =
    let key : List ℕ = c.args.key.now in
    let iv : List ℕ = c.args.iv.now in
    let xs : List ℕ = c.args.bytes.now in
    let n : ℕ = 8 * (length xs / 128) in
    let h = λ (j : ℕ). xored (decrypted key (text_block xs j)) (block_before iv xs j) in
    let bytes : AreBytes xs = c.decrypt_eights-before.ensures.known in
    let blocks : AreBlocks h n = undone_blocks key iv c.known.ensures (record { long = c.told-iv; bytes = c.fits-iv }) xs n bytes (omega arith) in
    let same : 128 * (length xs / 128) ≡ 16 * n = omega arith in
    let made : c.decrypt_eights-before.new.bytes ≡ joined h n ++ drop (16 * n) xs =
    c.decrypt_eights-before.ensures.value ∙ ap (λ (m : ℕ). joined h n ++ drop m xs) same in
    let e : n ≡ 4 * (2 * (length xs / 128)) = omega arith in (
      bytes,
      c.decrypt_eights-before.ensures.before ∙ ap (block_before iv xs) e,
      rw (← e) (written_as h xs c.decrypt_eights-before.new.bytes n blocks (omega arith) made),
    )

pub fours-preserved : goal.fours-preserved
fours-preserved c =
    let key : List ℕ = c.args.key.now in
    let iv : List ℕ = c.args.iv.now in
    let xs : List ℕ = c.args.bytes.now in
    let i : ℕ = c.fours.i in
    let n : ℕ = 4 * i in
    let h = λ (j : ℕ). xored (decrypted key (text_block xs j)) (block_before iv xs j) in
    let w0 : Written h xs c.fours.bytes n = c.fours.invariant.2 in
    let room : 16 * n + 64 ≤ length xs = omega arith in
    let two : 4 * i + 2 ≡ n + 1 + 1 = omega arith in
    let three : 4 * i + 3 ≡ n + 1 + 1 + 1 = omega arith in
    let ea : c.block_of-a.result ≡ text_block xs n = c.block_of-a.ensures ∙ written_ahead h xs c.fours.bytes n n w0 (omega arith) in
    let eb : c.block_of-b.result ≡ text_block xs (n + 1) = c.block_of-b.ensures ∙ written_ahead h xs c.fours.bytes n (n + 1) w0 (omega arith) in
    let ec : c.block_of-c.result ≡ text_block xs (n + 1 + 1) = c.block_of-c.ensures ∙ written_ahead h xs c.fours.bytes n (4 * i + 2) w0 (omega arith) ∙ ap (text_block xs) two in
    let ed : c.block_of-d.result ≡ text_block xs (n + 1 + 1 + 1) = c.block_of-d.ensures ∙ written_ahead h xs c.fours.bytes n (4 * i + 3) w0 (omega arith) ∙ ap (text_block xs) three in
    let w1 = one_more key iv xs c.fours.bytes c.plain_block-ta.result c.block_of-a.result c.fours.before c.copy_from_slice.new.self n n (16 * n + 16 - 16 * n)
    w0 refl (omega arith) (omega arith) ea c.fours.invariant.1 c.plain_block-ta.ensures c.copy_from_slice.ensures.after (omega (arith, ap length c.copy_from_slice.ensures.after)) in
    let w2 = one_more key iv xs _ c.plain_block-tb.result c.block_of-b.result c.block_of-a.result c.copy_from_slice-in-fours.new.self (n + 1) (4 * i + 1) (16 * (4 * i + 1) + 16 - 16 * (4 * i + 1))
    w1 refl (omega arith) (omega arith) eb (ea ∙ ap (block_before iv xs) (sym (add-one n))) c.plain_block-tb.ensures c.copy_from_slice-in-fours.ensures.after (omega (arith, ap length c.copy_from_slice-in-fours.ensures.after)) in
    let w3 = one_more key iv xs _ c.plain_block-tc.result c.block_of-c.result c.block_of-b.result c.copy_from_slice-in-fours-2.new.self (n + 1 + 1) (4 * i + 2) (16 * (4 * i + 2) + 16 - 16 * (4 * i + 2))
    w2 two (omega arith) (omega arith) ec (eb ∙ ap (block_before iv xs) (sym (add-one (n + 1)))) c.plain_block-tc.ensures c.copy_from_slice-in-fours-2.ensures.after (omega (arith, ap length c.copy_from_slice-in-fours-2.ensures.after)) in
    let w4 = one_more key iv xs _ c.plain_block-td.result c.block_of-d.result c.block_of-c.result c.copy_from_slice-in-fours-3.new.self (n + 1 + 1 + 1) (4 * i + 3) (16 * (4 * i + 3) + 16 - 16 * (4 * i + 3))
    w3 three (omega arith) (omega arith) ed (ec ∙ ap (block_before iv xs) (sym (add-one (n + 1 + 1)))) c.plain_block-td.ensures c.copy_from_slice-in-fours-3.ensures.after (omega (arith, ap length c.copy_from_slice-in-fours-3.ensures.after)) in
    let e : n + 1 + 1 + 1 + 1 ≡ 4 * (i + 1) = omega arith in (
      c.fours.invariant.0,
      ed ∙ ap (block_before iv xs) (sym (add-one (n + 1 + 1 + 1)) ∙ e),
      rw (← e) w4,
    )

pub rest-preserved : goal.rest-preserved
rest-preserved c =
    let key : List ℕ = c.args.key.now in
    let iv : List ℕ = c.args.iv.now in
    let xs : List ℕ = c.args.bytes.now in
    let k : ℕ = c.rest.k in
    let h = λ (j : ℕ). xored (decrypted key (text_block xs j)) (block_before iv xs j) in
    let ea : c.block_of-cipher.result ≡ text_block xs k = c.block_of-cipher.ensures ∙ written_ahead h xs c.rest.bytes k k c.rest.invariant.2 (omega arith) in (
      c.rest.invariant.0,
      ea ∙ ap (block_before iv xs) (sym (add-one k)),
      one_more key iv xs c.rest.bytes c.plain_block-text.result c.block_of-cipher.result c.rest.before c.copy_from_slice-in-rest.new.self k k (16 * k + 16 - 16 * k)
          c.rest.invariant.2 refl (omega arith) (omega arith) ea c.rest.invariant.1 c.plain_block-text.ensures c.copy_from_slice-in-rest.ensures.after (omega (arith, ap length c.copy_from_slice-in-rest.ensures.after)),
    )

pub returns : goal.returns
returns c =
    let key : List ℕ = c.args.key.now in
    let iv : List ℕ = c.args.iv.now in
    let xs : List ℕ = c.args.bytes.now in
    let n : ℕ = whole_blocks xs in
    let h = λ (j : ℕ). xored (decrypted key (text_block xs j)) (block_before iv xs j) in
    let e : c.rest.k ≡ n = omega arith in
    let w : Written h xs c.rest.bytes n = rw e at c.rest.invariant.2 in
    let long : length c.rest.bytes ≡ length xs = w.long in
    let rest : List ℕ = drop (16 * n) xs in
    let short : length rest ≡ length xs - 16 * n = length-drop (16 * n) xs in
    let last : c.xor_with.new.to ≡ xored rest (encrypted key iv) =
    c.xor_with.ensures
    ∙ ap₂ (λ (a b : List ℕ). xored a b) (written_rest h xs c.rest.bytes n _ w (omega arith)) refl
    ∙ xored_front rest c.encrypt_block.new.block _ (omega arith) ∙ ap (xored rest) c.encrypt_block.ensures in
    let value : put_mid (16 * n) _ c.rest.bytes c.xor_with.new.to ≡ uncbc_tail key iv xs = written_all h xs c.rest.bytes c.xor_with.new.to n _ w (omega arith) ∙ ap (λ (t : List ℕ). joined h n ++ t) last in
    let v : IsCipherBlock iv = record { long = c.told-iv; bytes = c.fits-iv } in
    let b : AreBytes xs = c.rest.invariant.0 in
    record {
      value = value;
      inverse = ap (cbc_tail key iv) value ∙ cbc_redone key iv c.known.ensures v xs b;
      undoes = λ p bp was. value ∙ ap (uncbc_tail key iv) was ∙ cbc_undone key iv c.known.ensures v p bp;
    }
