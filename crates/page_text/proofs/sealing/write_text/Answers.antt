use Rattle.std.proofs.Common.{◌≡◌, ℕ, ◌+◌, ◌-◌, ◌%◌, ◌^◌, ◌≤◌, List, ◌++◌, length, take, drop, refl, sym, ap, ◌∙◌, arith, length-append, length-drop}
use Rattle.std.specs.Int.{to_be_bytes, w16, w32}
use Rattle.std.proofs.lemmas.List.{take_at}
use Rattle.bytes_core.specs.Crc.{crc32c}
use Rattle.byte_list.specs.Fields.{be16_at}
use Rattle.byte_list.specs.Bytes.{range, put}
use Rattle.byte_list.proofs.FieldLaws.{be16_bytes}
use Rattle.byte_list.proofs.RangeLaws.{length-range}
use Rattle.page_text.specs.Parts.{body, cipher_part}
use Rattle.page_text.specs.Text.{enciphered, inner, inner_start, page_key, page_iv, start}
use Rattle.page_text.proofs.Keys.{page_key-own}
use Rattle.page_text.proofs.Writes.{body_long, cut, inner_read, joined, joined_long, write_cipher, write_end, write_inner, write_low, write_start}
use Rattle.page_text.proofs.sealing.write_text.Goals as goal

pub returns : goal.returns
returns c =
    let v = c.args.seal.now in
    let o : List ℕ = c.args.page.now in
    let n : ℕ = length o in
    let room : 46 ≤ n = omega arith in
    let s : List ℕ = start v.page v.lsn v.version in
    let m : List ℕ = inner_start v.space in
    let l : List ℕ = to_be_bytes w32 (v.lsn % 2 ^ 32) in
    let s0 : List ℕ = range 0 24 o in
    let k : List ℕ = range 24 2 o in
    let m0 : List ℕ = range 26 12 o in
    let b : List ℕ = body o in
    let l0 : List ℕ = range (n - 8) 4 o in
    let z : List ℕ = drop (n - 4) o in
    let es0 : length s0 ≡ 24 = length-range 0 24 o (omega arith) in
    let ek : length k ≡ 2 = length-range 24 2 o (omega arith) in
    let em0 : length m0 ≡ 12 = length-range 26 12 o (omega arith) in
    let eb : length b + 46 ≡ n = body_long o room in
    let el0 : length l0 ≡ 4 = length-range (n - 8) 4 o (omega arith) in
    let ez : length z ≡ 4 = omega (arith, length-drop (n - 4) o) in
    let e1 : c.put.new.bytes ≡ joined s k m0 b l0 z =
    c.put.ensures ∙ (λ i. put 0 (c.start.ensures i) (cut o room i)) ∙ write_start s0 k m0 b l0 z n es0 ek em0 eb el0 ez s refl in
    let e2 : c.put-2.new.bytes ≡ joined s k m b l0 z =
    c.put-2.ensures ∙ (λ i. put 26 (c.inner_start.ensures i) (e1 i)) ∙ write_inner s k m0 b l0 z n refl ek em0 eb el0 ez m refl in
    let n2 : length c.put-2.new.bytes ≡ n = ap length e2 ∙ joined_long s k m b l0 z n refl ek refl eb el0 ez in
    let e3 : c.put-3.new.bytes ≡ joined s k m b l z =
    c.put-3.ensures ∙ (λ i. put (n2 i - 8) (c.to_be_bytes.ensures i) (e2 i)) ∙ write_low s k m b l0 z n refl ek refl eb el0 ez l refl in
    let n3 : length c.put-3.new.bytes ≡ n = ap length e3 ∙ joined_long s k m b l z n refl ek refl eb refl ez in
    let read : cipher_part c.put-3.new.bytes ≡ inner v.space v.lsn b = ap cipher_part e3 ∙ inner_read s k m b l z n refl ek refl eb refl ez in
    let x : List ℕ = enciphered (page_key v.version v.local) (page_iv v.space v.page v.lsn) (inner v.space v.lsn b) in
    let made : enciphered v.local c.page_iv-iv.result (cipher_part c.put-3.new.bytes) ≡ x =
    (λ i. enciphered (sym (page_key-own v.version v.local c.requires.keyed) i) (c.page_iv-iv.ensures i) (read i)) in
    let lx : length x + 30 ≡ n = ap (λ (y : List ℕ). length y + 30) (sym made) ∙ c.encipher_part.ensures.long ∙ n3 in
    let front : List ℕ = s ++ (k ++ x) in
    let e4 : c.encipher_part.new.page ≡ front ++ z =
    c.encipher_part.ensures.value ∙ (λ i. put 26 (made i) (e3 i)) ∙ write_cipher s k m b l z n refl ek refl eb refl ez x lx in
    let n4 : length c.encipher_part.new.page ≡ n = c.encipher_part.auto.page ∙ n3 in
    let lf : length front + 4 ≡ n = omega (arith, length-append s (k ++ x), length-append k x) in
    let front_is : take (length c.encipher_part.new.page - 4) c.encipher_part.new.page ≡ front =
    (λ i. take (n4 i - 4) (e4 i)) ∙ take_at front z (n - 4) (omega arith) in
    let kind : to_be_bytes w16 (be16_at o 24) ≡ k = be16_bytes o 24 c.known_page.ensures.bytes (omega arith) in
    c.write_sum.ensures
    ∙ (λ i. put (n4 i - 4) (to_be_bytes w32 (crc32c (front_is i))) (e4 i))
    ∙ write_end front z (to_be_bytes w32 (crc32c front)) n lf ez refl
    ∙ (λ i. (s ++ (sym kind i ++ x)) ++ to_be_bytes w32 (crc32c (s ++ (sym kind i ++ x))))
