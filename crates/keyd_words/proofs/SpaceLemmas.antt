-- A space's word, cut at its colons.
use Rattle.std.proofs.Common.{◌≡◌, ◌≢◌, ℕ, ◌<◌, ◌^◌, ◌++◌, length, get_or, arith, sym, ◌∙◌, ap, List, [], ◌∷◌, zero, suc, refl, drop, Bool, true, false}
use Rattle.std.specs.Fmt.{decimal}
use Rattle.std.proofs.lemmas.Fmt.{decimal_injective, digits_decimal}
use Rattle.std.proofs.lemmas.Str.Parse.{digit_at}
use Rattle.keyd_words.proofs.NumberLemmas.{own}
use Rattle.keyd_words.specs.Parts.{HasNoByte, IsCutAt, AreFourParts}
use Rattle.keyd_words.specs.Values.{WritesNumber, space_text, IsNewSpace, kind_word, greatest_space, pages_allowed}
use Rattle.keyd_words.specs.declared.text.NewSpace.{NewSpace}

first_of : (c : ℕ) (xs : List ℕ) → HasNoByte 58 (c ∷ xs) → c ≢ 58
first_of c xs free = free 0 0 (omega arith)

rest_of : (c : ℕ) (xs : List ℕ) → HasNoByte 58 (c ∷ xs) → HasNoByte 58 xs
rest_of c xs free k d low = free (suc k) d (omega (arith, low))

-- the first colon is where it is
pub one_cut : (xs ys front back : List ℕ) → HasNoByte 58 xs → HasNoByte 58 front → xs ++ (58 ∷ ys) ≡ front ++ (58 ∷ back) → (xs ≡ front) × (ys ≡ back)
one_cut [] ys [] back p q e = (refl, ap (λ t. drop 1 t) e)
one_cut [] ys (c ∷ front) back p q e = absurd (first_of c front q (sym (ap (λ t. get_or t 0 0) e)))
one_cut (c ∷ xs) ys [] back p q e = absurd (first_of c xs p (ap (λ t. get_or t 0 0) e))
one_cut (c ∷ xs) ys (d ∷ front) back p q e =
    let rest = one_cut xs ys front back (rest_of c xs p) (rest_of d front q) (ap (λ t. drop 1 t) e) in
    let first : c ≡ d = ap (λ t. get_or t 0 0) e in
    (ap (λ t. c ∷ t) rest.0 ∙ ap (λ n. n ∷ front) first, rest.1)

pub no_cut : (text front back : List ℕ) → HasNoByte 58 text → text ≡ front ++ (58 ∷ back) → ⊥
no_cut [] [] back free e = let n : 0 ≡ suc (length back) = ap length e in omega (arith, n)
no_cut [] (c ∷ front) back free e = let n : 0 ≡ suc (length (front ++ (58 ∷ back))) = ap length e in omega (arith, n)
no_cut (c ∷ text) [] back free e = first_of c text free (ap (λ t. get_or t 0 0) e)
no_cut (c ∷ text) (d ∷ front) back free e = no_cut text front back (rest_of c text free) (ap (λ t. drop 1 t) e)

same_default : (xs : List ℕ) (k c d : ℕ) → k < length xs → get_or xs k c ≡ get_or xs k d
same_default [] k c d low = absurd (omega (arith, low))
same_default (x ∷ xs) zero c d low = refl
same_default (x ∷ xs) (suc k) c d low = same_default xs k c d (omega (arith, low))

-- the text of a number has no colon
pub decimal_free : (n : ℕ) → n < 2 ^ 64 → HasNoByte 58 (decimal n)
decimal_free n small k d low colon =
    let digit = digit_at (decimal n) k (digits_decimal own n small) low in
    omega (arith, digit.1, same_default (decimal n) k 0 d low, colon)

pub no_other_number : (text : List ℕ) (low high m n : ℕ) → m < 2 ^ 64 → high < 2 ^ 32 → text ≡ decimal m → WritesNumber text low high n → m ≡ n
no_other_number text low high m n small top spelled is = decimal_injective m n small (omega (arith, top, is.to)) (sym spelled ∙ is.spelled)

-- what is behind the first, the second and the third colon
pub behind_one : (text x rest a b c d : List ℕ) → IsCutAt 58 text x rest → AreFourParts text a b c d → rest ≡ b ++ (58 ∷ (c ++ (58 ∷ d)))
behind_one text x rest a b c d cut are = (one_cut x rest a (b ++ (58 ∷ (c ++ (58 ∷ d)))) cut.free are.first_free (sym cut.is ∙ are.is)).1

pub behind_two : (text x rest y more a b c d : List ℕ) → IsCutAt 58 text x rest → IsCutAt 58 rest y more → AreFourParts text a b c d → more ≡ c ++ (58 ∷ d)
behind_two text x rest y more a b c d one two are =
    (one_cut y more b (c ++ (58 ∷ d)) two.free are.second_free (sym two.is ∙ behind_one text x rest a b c d one are)).1

-- the parts are the only ones
pub one_way : (text a b c d e f g h : List ℕ) → AreFourParts text a b c d → AreFourParts text e f g h → (a ≡ e) × (b ≡ f) × (c ≡ g) × (d ≡ h)
one_way text a b c d e f g h p q =
    let first = one_cut a (b ++ (58 ∷ (c ++ (58 ∷ d)))) e (f ++ (58 ∷ (g ++ (58 ∷ h)))) p.first_free q.first_free (sym p.is ∙ q.is) in
    let second = one_cut b (c ++ (58 ∷ d)) f (g ++ (58 ∷ h)) p.second_free q.second_free first.1 in
    let third = one_cut c d g h p.third_free q.third_free second.1 in
    (first.0, second.0, third.0, third.1)

-- the parts of a space's word
pub parts_of_space : (value : List ℕ) (s : NewSpace) → value ≡ space_text s → IsNewSpace s → AreFourParts value (decimal s.space) (decimal s.pages) (decimal s.key_id) (kind_word s.ciphered)
parts_of_space value s spelled is = record {
  is = spelled;
  first_free = decimal_free s.space (omega (arith, is.id_to));
  second_free = decimal_free s.pages (omega (arith, is.pages_to));
  third_free = decimal_free s.key_id (omega (arith, is.key_to));
}

pub space_of_parts : (value a b c d : List ℕ) (s : NewSpace) → AreFourParts value a b c d → WritesNumber a 1 greatest_space s.space → WritesNumber b 2 pages_allowed s.pages → WritesNumber c 1 4294967295 s.key_id
    → d ≡ kind_word s.ciphered → (value ≡ space_text s) × IsNewSpace s
space_of_parts value a b c d s are first second third kind = (
  are.is ∙ ap (λ t. t ++ (58 ∷ (b ++ (58 ∷ (c ++ (58 ∷ d)))))) first.spelled ∙ ap (λ t. decimal s.space ++ (58 ∷ (t ++ (58 ∷ (c ++ (58 ∷ d)))))) second.spelled
      ∙ ap (λ t. decimal s.space ++ (58 ∷ (decimal s.pages ++ (58 ∷ (t ++ (58 ∷ d)))))) third.spelled
      ∙ ap (λ t. decimal s.space ++ (58 ∷ (decimal s.pages ++ (58 ∷ (decimal s.key_id ++ (58 ∷ t)))))) kind,
  record {
    id_from = first.from;
    id_to = first.to;
    pages_from = second.from;
    pages_to = second.to;
    key_from = third.from;
    key_to = third.to;
  },
)

kind_injective : (a b : Bool) → kind_word a ≡ kind_word b → a ≡ b
unfolding kind_word
kind_injective true true e = refl
kind_injective false false e = refl
kind_injective true false e = let n : 6 ≡ 5 = ap length e in absurd (omega (arith, n))
kind_injective false true e = let n : 5 ≡ 6 = ap length e in absurd (omega (arith, n))

same_fields : (s t : NewSpace) → s.space ≡ t.space → s.pages ≡ t.pages → s.key_id ≡ t.key_id → s.ciphered ≡ t.ciphered → s ≡ t
same_fields s t a b c d =
    let mk : ℕ → ℕ → ℕ → Bool → NewSpace = λ w x y z. record { space = w; pages = x; key_id = y; ciphered = z } in
    ap (λ w. mk w s.pages s.key_id s.ciphered) a ∙ ap (λ x. mk t.space x s.key_id s.ciphered) b ∙ ap (λ y. mk t.space t.pages y s.ciphered) c ∙ ap (λ z. mk t.space t.pages t.key_id z) d

-- a space's word writes one space
pub space_text-injective : (s t : NewSpace) → IsNewSpace s → IsNewSpace t → space_text s ≡ space_text t → s ≡ t
space_text-injective s t p q e =
    let parts = one_way (space_text s) (decimal s.space) (decimal s.pages) (decimal s.key_id) (kind_word s.ciphered) (decimal t.space) (decimal t.pages) (decimal t.key_id) (kind_word t.ciphered)
    (parts_of_space (space_text s) s refl p) (parts_of_space (space_text s) t e q) in
    same_fields s t (decimal_injective s.space t.space (omega (arith, p.id_to)) (omega (arith, q.id_to)) parts.0)
    (decimal_injective s.pages t.pages (omega (arith, p.pages_to)) (omega (arith, q.pages_to)) parts.1)
    (decimal_injective s.key_id t.key_id (omega (arith, p.key_to)) (omega (arith, q.key_to)) parts.2)
    (kind_injective s.ciphered t.ciphered parts.3)
