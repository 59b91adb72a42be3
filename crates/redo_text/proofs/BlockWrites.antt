-- The writes of a block over zero bytes, in order: head, text, cipher and checksum.
use Rattle.std.proofs.Common.{◌≡◌, ℕ, ◌+◌, ◌-◌, ◌≤◌, List, [], ◌++◌, length, take, refl, sym, ap, ◌∙◌, arith, length-append, append_assoc}
use Rattle.std.proofs.lemmas.List.{append-nil, replicate-append-replicate, take_at}
use Rattle.byte_list.specs.Bytes.{put, range, zeros}
use Rattle.byte_list.proofs.PutLaws.{put_at}
use Rattle.byte_list.proofs.RangeLaws.{length-zeros, range_at}
use Rattle.redo_text.specs.Block.{filled, head}
use Rattle.redo_text.specs.Reading.{block_body}

pub zeros-add : (n m : ℕ) → zeros (n + m) ≡ zeros n ++ zeros m
unfolding zeros
zeros-add n m = sym (replicate-append-replicate n m 0)

pub length-head : (number version used flags : ℕ) → length (head number version used flags) ≡ 16
unfolding head
length-head number version used flags = refl

pub length-filled : (text : List ℕ) → length text ≤ 4076 → length (filled text) ≡ 4076
length-filled text most = length-append text (zeros (4076 - length text)) ∙ ap (λ (n : ℕ). length text + n) (length-zeros (4076 - length text)) ∙ omega arith

-- the parts of a block, the last of four bytes
module _ (h t : List ℕ) (long : length h ≡ 16) (most : length t ≤ 4076) where
  zeros_cut : zeros 4096 ≡ zeros 16 ++ (zeros (length t) ++ (zeros (4076 - length t) ++ zeros 4))
  zeros_cut =
      let all : 4096 ≡ 16 + (length t + ((4076 - length t) + 4)) = omega arith in
      ap zeros all ∙ zeros-add 16 (length t + ((4076 - length t) + 4))
      ∙ ap (λ (l : List ℕ). zeros 16 ++ l) (zeros-add (length t) ((4076 - length t) + 4) ∙ ap (λ (l : List ℕ). zeros (length t) ++ l) (zeros-add (4076 - length t) 4))

  pub head_put : (o : List ℕ) → o ≡ zeros 4096 → put 0 h o ≡ h ++ (zeros (length t) ++ (zeros (4076 - length t) ++ zeros 4))
  head_put o e =
      ap (put 0 h) (e ∙ zeros_cut) ∙ put_at [] (zeros 16) (zeros (length t) ++ (zeros (4076 - length t) ++ zeros 4)) h 0 refl (length-zeros 16 ∙ sym long)

  pub text_put : put 16 t (h ++ (zeros (length t) ++ (zeros (4076 - length t) ++ zeros 4))) ≡ h ++ (filled t ++ zeros 4)
  text_put =
      put_at h (zeros (length t)) (zeros (4076 - length t) ++ zeros 4) t 16 long (length-zeros (length t))
      ∙ ap (λ (l : List ℕ). h ++ l) (sym (append_assoc t (zeros (4076 - length t)) (zeros 4)))

module _ (h b : List ℕ) (long : length h ≡ 16) (whole : length b ≡ 4076) where
  pub block_long : (z : List ℕ) → length z ≡ 4 → length (h ++ (b ++ z)) ≡ 4096
  block_long z e = length-append h (b ++ z) ∙ (let more = length-append b z in omega (arith, more, e, whole, long))

  pub body_read : (z : List ℕ) → block_body (h ++ (b ++ z)) ≡ b
  body_read z = range_at h b z 16 4076 long whole

  pub body_put : (z new : List ℕ) → length new ≡ 4076 → put 16 new (h ++ (b ++ z)) ≡ h ++ (new ++ z)
  body_put z new e = put_at h b z new 16 long (whole ∙ sym e)

  front_long : length (h ++ b) ≡ 4092
  front_long = length-append h b ∙ omega (arith, long, whole)

  pub front_read : (z : List ℕ) → range 0 4092 (h ++ (b ++ z)) ≡ h ++ b
  front_read z = ap (take 4092) (sym (append_assoc h b z)) ∙ take_at (h ++ b) z 4092 front_long

  pub sum_put : (z s : List ℕ) → length z ≡ length s → put 4092 s (h ++ (b ++ z)) ≡ (h ++ b) ++ s
  sum_put z s e =
      ap (put 4092 s) (sym (append_assoc h b z) ∙ ap (λ (l : List ℕ). (h ++ b) ++ l) (sym (append-nil z)))
      ∙ put_at (h ++ b) z [] s 4092 front_long e ∙ ap (λ (l : List ℕ). (h ++ b) ++ l) (append-nil s)
