-- A change as it is read from a text: its fields behind its first byte, and the bytes of a put behind them.
use Rattle.std.proofs.Common.{◌≡◌, ℕ, ◌+◌, ◌-◌, ◌≤◌, List, [], ◌∷◌, ◌++◌, length, take, drop, get_or, refl, sym, ap, subst, ◌∙◌, arith, length-append}
use Rattle.std.specs.Int.{to_be_bytes, w16, w32}
use Rattle.std.proofs.lemmas.List.{drop_all, drop_at, length-take-le, take-append-drop}
use Rattle.std.proofs.Math.Seq.{take-length}
use Rattle.std.proofs.lemmas.Nat.{from_be_bytes-to_be_bytes_4}
use Rattle.byte_list.specs.Bytes.{AreBytes, range}
use Rattle.byte_list.specs.Fields.{be16_at, be32_at}
use Rattle.byte_list.proofs.FieldLaws.{be16_bytes, be32_bytes, be32_at-same, be16_at-same}
use Rattle.byte_list.proofs.RangeLaws.{range-range, split_off}
use Rattle.redo_text.specs.declared.change.Change.{Change}
use Rattle.redo_text.specs.declared.change.Change.TheVariants.{Put, Kind, Touch, Floor, Encrypt}
use Rattle.redo_text.specs.Text.{change_text, IsAllowed, IsRange}
use Rattle.redo_text.specs.Changes.{Begins}
use Rattle.redo_text.proofs.ChangeLaws.{begins-change, first_change}

-- a field and what stands behind it
word : (f : List ℕ) (at : ℕ) → AreBytes f → at + 4 ≤ length f → drop at f ≡ to_be_bytes w32 (be32_at f at) ++ drop (at + 4) f
word f at bytes room = split_off at 4 f ∙ ap (λ (x : List ℕ). x ++ drop (at + 4) f) (sym (be32_bytes f at bytes room))

half : (f : List ℕ) (at : ℕ) → AreBytes f → at + 2 ≤ length f → drop at f ≡ to_be_bytes w16 (be16_at f at) ++ drop (at + 2) f
half f at bytes room = split_off at 2 f ∙ ap (λ (x : List ℕ). x ++ drop (at + 2) f) (sym (be16_bytes f at bytes room))

-- the first fields of a text, which are read as f
module _ (old f new : List ℕ) (n : ℕ) (is : f ≡ take n old) (bytes : AreBytes f) (room : n ≤ length old) (left : new ≡ drop n old) where
  long : length f ≡ n
  long = ap length is ∙ length-take-le n old room

  cut : old ≡ f ++ new
  cut = sym (take-append-drop n old) ∙ (λ i. sym is i ++ sym left i)

  none_left : drop n f ≡ []
  none_left = drop_all n f (omega (arith, long))

  pub one_word : n ≡ 4 → old ≡ to_be_bytes w32 (be32_at f 0) ++ new
  one_word e =
      let end : drop 4 f ≡ [] = ap (λ (k : ℕ). drop k f) (sym e) ∙ none_left in
      cut ∙ ap (λ (x : List ℕ). x ++ new) (word f 0 bytes (omega (arith, long)) ∙ ap (λ (x : List ℕ). to_be_bytes w32 (be32_at f 0) ++ x) end)

  pub two_words : n ≡ 8 → old ≡ to_be_bytes w32 (be32_at f 0) ++ (to_be_bytes w32 (be32_at f 4) ++ new)
  two_words e =
      let end : drop 8 f ≡ [] = ap (λ (k : ℕ). drop k f) (sym e) ∙ none_left in
      let second = word f 4 bytes (omega (arith, long)) ∙ ap (λ (x : List ℕ). to_be_bytes w32 (be32_at f 4) ++ x) end in
      cut ∙ ap (λ (x : List ℕ). x ++ new) (word f 0 bytes (omega (arith, long)) ∙ ap (λ (x : List ℕ). to_be_bytes w32 (be32_at f 0) ++ x) second)

  pub two_and_half : n ≡ 10 → old ≡ to_be_bytes w32 (be32_at f 0) ++ (to_be_bytes w32 (be32_at f 4) ++ (to_be_bytes w16 (be16_at f 8) ++ new))
  two_and_half e =
      let end : drop 10 f ≡ [] = ap (λ (k : ℕ). drop k f) (sym e) ∙ none_left in
      let third = half f 8 bytes (omega (arith, long)) ∙ ap (λ (x : List ℕ). to_be_bytes w16 (be16_at f 8) ++ x) end in
      let second = word f 4 bytes (omega (arith, long)) ∙ ap (λ (x : List ℕ). to_be_bytes w32 (be32_at f 4) ++ x) third in
      cut ∙ ap (λ (x : List ℕ). x ++ new) (word f 0 bytes (omega (arith, long)) ∙ ap (λ (x : List ℕ). to_be_bytes w32 (be32_at f 0) ++ x) second)

  pub four_words : n ≡ 16
      → old ≡ to_be_bytes w32 (be32_at f 0) ++ (to_be_bytes w32 (be32_at f 4) ++ (to_be_bytes w32 (be32_at f 8) ++ (to_be_bytes w32 (be32_at f 12) ++ new)))
  four_words e =
      let end : drop 16 f ≡ [] = ap (λ (k : ℕ). drop k f) (sym e) ∙ none_left in
      let fourth = word f 12 bytes (omega (arith, long)) ∙ ap (λ (x : List ℕ). to_be_bytes w32 (be32_at f 12) ++ x) end in
      let third = word f 8 bytes (omega (arith, long)) ∙ ap (λ (x : List ℕ). to_be_bytes w32 (be32_at f 8) ++ x) fourth in
      let second = word f 4 bytes (omega (arith, long)) ∙ ap (λ (x : List ℕ). to_be_bytes w32 (be32_at f 4) ++ x) third in
      cut ∙ ap (λ (x : List ℕ). x ++ new) (word f 0 bytes (omega (arith, long)) ∙ ap (λ (x : List ℕ). to_be_bytes w32 (be32_at f 0) ++ x) second)

  -- a field of the text is one of f
  pub same_32 : (at : ℕ) → at + 4 ≤ n → be32_at old at ≡ be32_at f at
  same_32 at fits =
      let zero_more : 0 + at ≡ at = omega arith in
      be32_at-same old f at at (sym (ap (range at 4) is ∙ range-range at 4 0 n old fits ∙ ap (λ (k : ℕ). range k 4 old) zero_more))

  pub same_16 : (at : ℕ) → at + 2 ≤ n → be16_at old at ≡ be16_at f at
  same_16 at fits =
      let zero_more : 0 + at ≡ at = omega arith in
      be16_at-same old f at at (sym (ap (range at 2) is ∙ range-range at 2 0 n old fits ∙ ap (λ (k : ℕ). range k 2 old) zero_more))

-- a put with its bytes
pub put_joined : (old f more new : List ℕ) (size : ℕ) (bytes : List ℕ) (s p a : ℕ)
    → old ≡ to_be_bytes w32 s ++ (to_be_bytes w32 p ++ (to_be_bytes w32 a ++ (to_be_bytes w32 size ++ more)))
    → bytes ≡ take size more → new ≡ drop size more → size ≤ length more → 1 ∷ old ≡ change_text (Put s p a bytes) ++ new
put_joined old f more new size bytes s p a is taken left room =
    let long : size ≡ length bytes = sym (ap length taken ∙ length-take-le size more room) in
    let all : more ≡ bytes ++ new = sym (take-append-drop size more) ∙ (λ i. sym taken i ++ sym left i) in
    ap (λ (l : List ℕ). 1 ∷ l) is ∙ (λ i. 1 ∷ to_be_bytes w32 s ++ (to_be_bytes w32 p ++ (to_be_bytes w32 a ++ (to_be_bytes w32 (long i) ++ all i))))

-- what a text that begins as a put has for one
pub put_allowed : (old : List ℕ) (c : Change) (rest : List ℕ) → Begins (1 ∷ old) c rest
    → IsAllowed (Put (be32_at old 0) (be32_at old 4) (be32_at old 8) (take (be32_at old 12) (drop 16 old)))
unfolding be32_at first_change
put_allowed old c rest b = subst IsAllowed (begins-change (1 ∷ old) c rest b) b.allowed

pub kind_allowed : (old : List ℕ) (c : Change) (rest : List ℕ) → Begins (2 ∷ old) c rest → IsAllowed (Kind (be32_at old 0) (be32_at old 4) (be16_at old 8))
unfolding be16_at be32_at first_change
kind_allowed old c rest b = subst IsAllowed (begins-change (2 ∷ old) c rest b) b.allowed

-- its bytes are there
pub put_room : (old : List ℕ) (c : Change) (rest : List ℕ) → Begins (1 ∷ old) c rest → be32_at old 12 ≤ length (drop 16 old)
unfolding be32_at
put_room old (Put s p a bytes) rest b =
    let range : IsRange a (length bytes) = b.allowed.3 in
    let is : old ≡ drop 1 (change_text (Put s p a bytes) ++ rest) = ap (drop 1) b.is in
    let size : be32_at old 12 ≡ length bytes = ap (λ (l : List ℕ). be32_at l 12) is ∙ from_be_bytes-to_be_bytes_4 (length bytes) (omega (arith, range.to)) in
    let more : drop 16 old ≡ bytes ++ rest = ap (drop 16) is in
    omega (arith, size, ap length more, length-append bytes rest)
put_room old (Kind s p k) rest b = absurd (omega (arith, ap (λ (l : List ℕ). get_or l 0 0) b.is))
put_room old (Touch s p) rest b = absurd (omega (arith, ap (λ (l : List ℕ). get_or l 0 0) b.is))
put_room old (Floor s v) rest b = absurd (omega (arith, ap (λ (l : List ℕ). get_or l 0 0) b.is))
put_room old (Encrypt s) rest b = absurd (omega (arith, ap (λ (l : List ℕ). get_or l 0 0) b.is))

-- what is left of a text behind its front
pub left_behind : (text front back : List ℕ) (n : ℕ) → text ≡ front ++ back → n ≡ length back → take (length text - (length text - n)) (drop (length text - n) text) ≡ back
left_behind text front back n is long =
    let all : length text ≡ length front + length back = ap length is ∙ length-append front back in
    let at : length text - n ≡ length front = omega (arith, all, long) in
    let count : length text - (length text - n) ≡ length back = omega (arith, all, long) in
    (λ i. take (count i) (drop (at i) (is i))) ∙ ap (take (length back)) (drop_at front back (length front) refl) ∙ take-length back
