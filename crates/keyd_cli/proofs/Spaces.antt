-- A space's word, cut at its colons.
use Rattle.std.proofs.Common.{◌≡◌, ◌≢◌, ℕ, ◌<◌, ◌^◌, ◌++◌, length, get_or, arith, sym, ◌∙◌, ap, [], ◌∷◌, zero, suc, codes, refl, All, drop}
use Rattle.std.specs.Fmt.{decimal}
use Rattle.std.proofs.lemmas.Fmt.{decimal_injective, digits_decimal}
use Rattle.std.proofs.lemmas.Str.Parse.{digit_at}
use Rattle.keyd_cli.proofs.Numbers.{own}
use Rattle.keyd_cli.specs.Parts.{IsDrillCut}
use Rattle.keyd_cli.specs.Numbers.{IsDrillNumber}
use Rattle.keyd_cli.specs.Words.{most_pages, last_space_id, CommandWord, IsNoColon, AreParts, IsSpace}

first_of : (c : ℕ) (xs : CommandWord) → All IsNoColon (c ∷ xs) → c ≢ 58
first_of c xs free = free 0 0 (omega arith)

rest_of : (c : ℕ) (xs : CommandWord) → All IsNoColon (c ∷ xs) → All IsNoColon xs
rest_of c xs free k d low = free (suc k) d (omega (arith, low))

-- the first colon is where it is
pub one_cut : (xs ys front back : CommandWord) → All IsNoColon xs → All IsNoColon front → xs ++ (58 ∷ ys) ≡ front ++ (58 ∷ back) → (xs ≡ front) × (ys ≡ back)
one_cut [] ys [] back p q e = (refl, ap (λ t. drop 1 t) e)
one_cut [] ys (c ∷ front) back p q e = absurd (first_of c front q (sym (ap (λ t. get_or t 0 0) e)))
one_cut (c ∷ xs) ys [] back p q e = absurd (first_of c xs p (ap (λ t. get_or t 0 0) e))
one_cut (c ∷ xs) ys (d ∷ front) back p q e =
    let rest = one_cut xs ys front back (rest_of c xs p) (rest_of d front q) (ap (λ t. drop 1 t) e) in
    let first : c ≡ d = ap (λ t. get_or t 0 0) e in
    (ap (λ t. c ∷ t) rest.0 ∙ ap (λ n. n ∷ front) first, rest.1)

pub no_cut : (text front back : CommandWord) → All IsNoColon text → text ≡ front ++ (58 ∷ back) → ⊥
no_cut [] [] back free e = let n : 0 ≡ suc (length back) = ap length e in omega (arith, n)
no_cut [] (c ∷ front) back free e = let n : 0 ≡ suc (length (front ++ (58 ∷ back))) = ap length e in omega (arith, n)
no_cut (c ∷ text) [] back free e = first_of c text free (ap (λ t. get_or t 0 0) e)
no_cut (c ∷ text) (d ∷ front) back free e = no_cut text front back (rest_of c text free) (ap (λ t. drop 1 t) e)

same_default : (xs : CommandWord) (k c d : ℕ) → k < length xs → get_or xs k c ≡ get_or xs k d
same_default [] k c d low = absurd (omega (arith, low))
same_default (x ∷ xs) zero c d low = refl
same_default (x ∷ xs) (suc k) c d low = same_default xs k c d (omega (arith, low))

-- the text of a number has no colon
pub decimal_free : (n : ℕ) → n < 2 ^ 64 → All IsNoColon (decimal n)
decimal_free n small k d low colon =
    let digit = digit_at (decimal n) k (digits_decimal own n small) low in
    omega (arith, digit.1, same_default (decimal n) k 0 d low, colon)

pub no_other_number : (text : CommandWord) (low high m n : ℕ) → m < 2 ^ 64 → high < 2 ^ 32 → text ≡ decimal m → IsDrillNumber text low high n → m ≡ n
no_other_number text low high m n small top spelled is = decimal_injective m n small (omega (arith, top, is.to)) (sym spelled ∙ is.spelled)

-- what is behind the first, the second and the third colon
pub behind_one : (text x rest a b d : CommandWord) → IsDrillCut 58 text x rest → AreParts text a b d → rest ≡ b ++ (58 ∷ (d ++ codes ":plain"))
behind_one text x rest a b d cut are = (one_cut x rest a (b ++ (58 ∷ (d ++ codes ":plain"))) cut.free are.first_free (sym cut.is ∙ are.is)).1

pub behind_two : (text x rest y more a b d : CommandWord) → IsDrillCut 58 text x rest → IsDrillCut 58 rest y more → AreParts text a b d → more ≡ d ++ codes ":plain"
behind_two text x rest y more a b d one two are =
    (one_cut y more b (d ++ codes ":plain") two.free are.second_free (sym two.is ∙ behind_one text x rest a b d one are)).1

pub behind_three : (text x rest y more z kind a b d : CommandWord) → IsDrillCut 58 text x rest → IsDrillCut 58 rest y more → IsDrillCut 58 more z kind → AreParts text a b d → kind ≡ codes "plain"
behind_three text x rest y more z kind a b d one two three are =
    (one_cut z kind d (codes "plain") three.free are.third_free (sym three.is ∙ behind_two text x rest y more a b d one two are)).1

-- the parts are the only ones
pub one_way : (text a b d e f g : CommandWord) → AreParts text a b d → AreParts text e f g → (a ≡ e) × (b ≡ f) × (d ≡ g)
one_way text a b d e f g p q =
    let first = one_cut a (b ++ (58 ∷ (d ++ codes ":plain"))) e (f ++ (58 ∷ (g ++ codes ":plain"))) p.first_free q.first_free (sym p.is ∙ q.is) in
    let second = one_cut b (d ++ codes ":plain") f (g ++ codes ":plain") p.second_free q.second_free first.1 in
    let third = one_cut d (codes "plain") g (codes "plain") p.third_free q.third_free second.1 in
    (first.0, second.0, third.0)

-- the parts of a space's word
pub parts_of_space : (value : CommandWord) (id pages key : ℕ) → IsSpace value id pages key → AreParts value (decimal id) (decimal pages) (decimal key)
parts_of_space value id pages key is = record {
  is = is.spelled;
  first_free = decimal_free id (omega (arith, is.id_to));
  second_free = decimal_free pages (omega (arith, is.pages_to));
  third_free = decimal_free key (omega (arith, is.key_to));
}

pub space_of_parts : (value a b d : CommandWord) (id pages key : ℕ) → AreParts value a b d → IsDrillNumber a 1 last_space_id id → IsDrillNumber b 2 most_pages pages → IsDrillNumber d 1 4294967295 key
    → IsSpace value id pages key
space_of_parts value a b d id pages key are first second third = record {
  spelled = are.is ∙ ap (λ t. t ++ (58 ∷ (b ++ (58 ∷ (d ++ codes ":plain"))))) first.spelled ∙ ap (λ t. decimal id ++ (58 ∷ (t ++ (58 ∷ (d ++ codes ":plain"))))) second.spelled
      ∙ ap (λ t. decimal id ++ (58 ∷ (decimal pages ++ (58 ∷ (t ++ codes ":plain"))))) third.spelled;
  id_from = first.from;
  id_to = first.to;
  pages_from = second.from;
  pages_to = second.to;
  key_from = third.from;
  key_to = third.to;
}
