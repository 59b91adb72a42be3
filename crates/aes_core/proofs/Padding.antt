-- A text, the padding after it, and the text again.
use Rattle.std.proofs.Common.{◌≡◌, ℕ, suc, ◌+◌, ◌-◌, ◌%◌, ◌≤◌, List, ◌++◌, length, take, drop, replicate, slice_index, get_or, refl, sym, ap, ap₂, ◌∙◌, arith, length-append, length-drop, length-take-le}
use Rattle.std.proofs.lemmas.List.{append-nil, drop-drop, drop_at, get_or-drop, get_or-replicate, length-replicate, take-append-drop, take_at}
use Rattle.aes_core.specs.Cipher.{AreBytes, IsCipherBlock, IsKey}
use Rattle.aes_core.specs.Modes.{EndsIn, cbc_pad, cbc_tail, padded, uncbc_tail, whole_blocks, joined, chain}
use Rattle.byte_list.proofs.ByteLaws.{bytes_append, bytes_replicate}
use Rattle.aes_core.proofs.ModeLaws.{cbc_redone, cbc_undone, length-done, length-undone, no_tail}

-- how many bytes are put after a text
abbrev pub room : List ℕ → ℕ
room p = 16 - length p % 16

pub last_is : (xs : List ℕ) (k : ℕ) → length xs ≡ 16 → EndsIn xs k → slice_index xs 15 ≡ k
last_is xs k long e =
    let at : 15 ≡ (length xs - k) + (k - 1) = omega (arith, e.some, e.most) in
    ap (λ (n : ℕ). get_or xs n 0) at ∙ sym (get_or-drop (length xs - k) xs (k - 1) 0) ∙ ap (λ (l : List ℕ). get_or l (k - 1) 0) e.end
    ∙ get_or-replicate k (k - 1) k 0 (omega (arith, e.some))

pub length-padded : (p : List ℕ) → length (padded p) ≡ length p + room p
length-padded p = omega (arith, length-append p (replicate (room p) (room p)), length-replicate (room p) (room p))

pub padded_whole : (p : List ℕ) → length (padded p) % 16 ≡ 0
padded_whole p = omega (arith, length-padded p)

pub padded_more : (p : List ℕ) → 16 ≤ length (padded p)
padded_more p = omega (arith, length-padded p)

pub bytes_padded : (p : List ℕ) → AreBytes p → AreBytes (padded p)
bytes_padded p b = bytes_append p (replicate (room p) (room p)) b (bytes_replicate (room p) (room p) (omega arith))

-- the last block of a padded text says how many
pub padded_ends : (p : List ℕ) → EndsIn (drop (length (padded p) - 16) (padded p)) (room p)
padded_ends p =
    let k : ℕ = room p in
    let l : length (padded p) ≡ length p + k = length-padded p in
    let xs : List ℕ = drop (length (padded p) - 16) (padded p) in
    let lx : length xs ≡ 16 = omega (arith, length-drop (length (padded p) - 16) (padded p)) in
    let at : length (padded p) - 16 + (length xs - k) ≡ length p = omega arith in
    let back : drop (length xs - k) xs ≡ drop (length p) (padded p) = drop-drop (length xs - k) (length (padded p) - 16) (padded p) ∙ ap (λ (n : ℕ). drop n (padded p)) at in
    record {
      some = omega arith;
      most = omega arith;
      end = back ∙ drop_at p (replicate k k) (length p) refl;
    }

-- a text of whole blocks whose last block says k is its front, padded
pub padded_front : (t : List ℕ) (k : ℕ) → length t % 16 ≡ 0 → 16 ≤ length t → EndsIn (drop (length t - 16) t) k → padded (take (length t - k) t) ≡ t
padded_front t k whole more e =
    let m : ℕ = length t - k in
    let front : List ℕ = take m t in
    let lf : length front ≡ m = length-take-le m t (omega arith) in
    let n : room front ≡ k = omega (arith, e.some, e.most) in
    let xs : List ℕ = drop (length t - 16) t in
    let lx : length xs ≡ 16 = omega (arith, length-drop (length t - 16) t) in
    let at : length t - 16 + (length xs - k) ≡ m = omega (arith, e.most) in
    let end : drop m t ≡ replicate k k = ap (λ (i : ℕ). drop i t) (sym at) ∙ sym (drop-drop (length xs - k) (length t - 16) t) ∙ e.end in
    ap (λ (r : ℕ). front ++ replicate r r) n ∙ ap (λ (l : List ℕ). front ++ l) (sym end) ∙ take-append-drop m t

pub pad_is : (key iv p : List ℕ) → cbc_tail key iv (padded p) ≡ cbc_pad key iv p
pad_is key iv p =
    ap (λ (t : List ℕ). joined (λ i. chain key iv (padded p) (suc i)) (whole_blocks (padded p)) ++ t) (no_tail key iv (padded p) (padded_whole p))
    ∙ append-nil (joined (λ i. chain key iv (padded p) (suc i)) (whole_blocks (padded p)))

module _ (key iv : List ℕ) (k : IsKey key) (v : IsCipherBlock iv) where
  pub undone_padded : (p c : List ℕ) → AreBytes p → c ≡ cbc_pad key iv p → uncbc_tail key iv c ≡ padded p
  undone_padded p c b is =
      ap (uncbc_tail key iv) (is ∙ sym (pad_is key iv p)) ∙ cbc_undone key iv k v (padded p) (bytes_padded p b)

  pub long_padded : (p c : List ℕ) → AreBytes p → c ≡ cbc_pad key iv p → length c ≡ length (padded p)
  long_padded p c b is = ap length (is ∙ sym (pad_is key iv p)) ∙ length-done key iv k v (padded p) (bytes_padded p b)

  -- what is accepted is a padded text
  pub accepted_is : (c : List ℕ) (n : ℕ) → AreBytes c → length c % 16 ≡ 0 → 16 ≤ length c
      → EndsIn (drop (length c - 16) (uncbc_tail key iv c)) n → c ≡ cbc_pad key iv (take (length c - n) (uncbc_tail key iv c))
  accepted_is c n b whole more e =
      let t : List ℕ = uncbc_tail key iv c in
      let l : length t ≡ length c = length-undone key iv k v c b in
      let at : EndsIn (drop (length t - 16) t) n = rw l e in
      let again : padded (take (length c - n) t) ≡ t = ap (λ (m : ℕ). padded (take (m - n) t)) (sym l) ∙ padded_front t n (omega arith) (omega arith) at in
      sym (cbc_redone key iv k v c b) ∙ ap (cbc_tail key iv) (sym again) ∙ pad_is key iv (take (length c - n) t)

  -- what a padded text was made of is what its last block says
  pub taken_is : (p c : List ℕ) (n : ℕ) → AreBytes p → c ≡ cbc_pad key iv p
      → EndsIn (drop (length c - 16) (uncbc_tail key iv c)) n → take (length c - n) (uncbc_tail key iv c) ≡ p
  taken_is p c n b is e =
      let t : uncbc_tail key iv c ≡ padded p = undone_padded p c b is in
      let l : length c ≡ length (padded p) = long_padded p c b is in
      let xs : List ℕ = drop (length (padded p) - 16) (padded p) in
      let lx : length xs ≡ 16 = omega (arith, length-drop (length (padded p) - 16) (padded p), padded_more p) in
      let e2 : EndsIn xs n = rw (sym l, sym t) e in
      let same : n ≡ room p = sym (last_is xs n lx e2) ∙ last_is xs (room p) lx (padded_ends p) in
      let at : length c - n ≡ length p = omega (arith, length-padded p) in
      ap₂ take at t ∙ take_at p (replicate (room p) (room p)) (length p) refl

  pub ends_padded : (p c : List ℕ) → AreBytes p → c ≡ cbc_pad key iv p → EndsIn (drop (length c - 16) (uncbc_tail key iv c)) (room p)
  ends_padded p c b is =
      let e : drop (length c - 16) (uncbc_tail key iv c) ≡ drop (length (padded p) - 16) (padded p) =
      ap₂ (λ (m : ℕ) (t : List ℕ). drop (m - 16) t) (long_padded p c b is) (undone_padded p c b is) in
      rw e (padded_ends p)
