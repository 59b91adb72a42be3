-- What a valid header is, part by part.
use Rattle.std.proofs.Common.{◌≡◌, ℕ, Bool, true, false, nat_eq, nat_le, ◌&&◌, ◌||◌, if◌then◌else◌, List, length, take, codes, Some, None, refl, sym, ap, ◌∙◌}
use Rattle.std.proofs.lemmas.Slice.Eq.{bytes_eq-Decides}
use Rattle.std.specs.Str.{bytes_eq}
use Rattle.std.proofs.lemmas.Bool.{cond-true, cond-false}
use Rattle.aes_core.specs.declared.algorithm.Algorithm.{Algorithm}
use Rattle.aes_core.specs.declared.algorithm.Algorithm.TheVariants.{Cbc, Ctr}
use Rattle.byte_list.specs.Bytes.{range}
use Rattle.byte_list.specs.Fields.{be32_at}
use Rattle.page_places.specs.Texts.{ends_in_sum}
use Rattle.page_places.proofs.Sums.{and_left, and_right, and_both, not_true}
use Rattle.store_files.specs.Header.{HeldSpace, spaces_at, are_in_order, pages_together, are_allowed, header_fields, is_header, header_in}
use Rattle.store_form.specs.Said.{algorithm_named}
use Rattle.store_form.proofs.SpaceLists.{length-spaces}

abbrev pub spaces_of_block : List ℕ → List HeldSpace
spaces_of_block b = spaces_at b 40 (be32_at b 20)

-- the parts, as they are read
pub record IsHeaderBlock (b : List ℕ) : Type 0 where
  pub sums : ends_in_sum b ≡ true
  pub magic : take 8 b ≡ codes "KEYSTOR1"
  pub form : (nat_eq (be32_at b 8) 2 && nat_eq (be32_at b 12) 16384) ≡ true
  pub named : (nat_eq (be32_at b 240) 1 || nat_eq (be32_at b 240) 2) ≡ true
  pub counts : (nat_le 32 (be32_at b 16) && (nat_le (be32_at b 16) 4096 && (nat_le 1 (be32_at b 20) && nat_le (be32_at b 20) 16))) ≡ true
  pub spaces : (are_in_order 0 (spaces_of_block b) && nat_le (pages_together (spaces_of_block b)) 16384) ≡ true

many : (b : List ℕ) → length (spaces_of_block b) ≡ be32_at b 20
many b = length-spaces b (be32_at b 20) 40

pub header_is : (b : List ℕ) → is_header b ≡ true → IsHeaderBlock b
unfolding is_header are_allowed header_fields
header_is b is =
    let a = and_right (ends_in_sum b) _ is in
    let c = and_right (bytes_eq (range 0 8 b) (codes "KEYSTOR1")) _ a in
    let d = and_right (nat_eq (be32_at b 8) 2) _ c in
    let e = and_right (nat_eq (be32_at b 12) 16384) _ d in
    let f = and_right (nat_eq (be32_at b 240) 1 || nat_eq (be32_at b 240) 2) _ e in
    let g = and_right (nat_le 32 (be32_at b 16)) _ f in
    let h = and_right (nat_le (be32_at b 16) 4096) _ g in
    let i = and_right (nat_le 1 (length (spaces_of_block b))) _ h in
    let j = and_right (nat_le (length (spaces_of_block b)) 16) _ i in
    record {
      sums = and_left (ends_in_sum b) _ is;
      magic = (bytes_eq-Decides (range 0 8 b) (codes "KEYSTOR1")).0 (and_left (bytes_eq (range 0 8 b) (codes "KEYSTOR1")) _ a);
      form = and_both _ _ (and_left (nat_eq (be32_at b 8) 2) _ c) (and_left (nat_eq (be32_at b 12) 16384) _ d);
      named = and_left (nat_eq (be32_at b 240) 1 || nat_eq (be32_at b 240) 2) _ e;
      counts = and_both _ _ (and_left (nat_le 32 (be32_at b 16)) _ f) (and_both _ _ (and_left (nat_le (be32_at b 16) 4096) _ g)
          (and_both _ _ (sym (ap (λ (n : ℕ). nat_le 1 n) (many b)) ∙ and_left (nat_le 1 (length (spaces_of_block b))) _ h)
          (sym (ap (λ (n : ℕ). nat_le n 16) (many b)) ∙ and_left (nat_le (length (spaces_of_block b)) 16) _ i)));
      spaces = j;
    }

pub is_header_of : (b : List ℕ) → IsHeaderBlock b → is_header b ≡ true
unfolding is_header are_allowed header_fields
is_header_of b is =
    let low = and_left (nat_le 32 (be32_at b 16)) _ is.counts in
    let rest = and_right (nat_le 32 (be32_at b 16)) _ is.counts in
    let high = and_left (nat_le (be32_at b 16) 4096) _ rest in
    let count = and_right (nat_le (be32_at b 16) 4096) _ rest in
    let some = ap (λ (n : ℕ). nat_le 1 n) (many b) ∙ and_left (nat_le 1 (be32_at b 20)) _ count in
    let few = ap (λ (n : ℕ). nat_le n 16) (many b) ∙ and_right (nat_le 1 (be32_at b 20)) _ count in
    and_both _ _ is.sums (and_both _ _ ((bytes_eq-Decides (range 0 8 b) (codes "KEYSTOR1")).1 is.magic) (and_both _ _ (and_left (nat_eq (be32_at b 8) 2) _ is.form) (and_both _ _ (and_right (nat_eq (be32_at b 8) 2) _ is.form)
    (and_both _ _ is.named (and_both _ _ low (and_both _ _ high (and_both _ _ some (and_both _ _ few is.spaces))))))))

pub header_none : (b : List ℕ) → (IsHeaderBlock b → ⊥) → header_in b ≡ None
unfolding header_in
header_none b none = cond-false (is_header b) _ _ (not_true (is_header b) (λ is. none (header_is b is)))

pub header_some : (b : List ℕ) → IsHeaderBlock b → header_in b ≡ Some (header_fields b)
unfolding header_in
header_some b is = cond-true (is_header b) _ _ (is_header_of b is)

-- the algorithm that a number names
pub named_none : (code : ℕ) → algorithm_named code ≡ None → (nat_eq code 1 || nat_eq code 2) ≡ false
named_none code is = by (nat_eq code 1) (nat_eq code 2) is
  where
    by : (one two : Bool) → (if one then Some Cbc else (if two then Some Ctr else None)) ≡ None → (one || two) ≡ false
    by true two is = absurd (cc)
    by false true is = absurd (cc)
    by false false is = refl

pub named_some : (code : ℕ) (a : Algorithm) → algorithm_named code ≡ Some a → ((nat_eq code 1 || nat_eq code 2) ≡ true) × ((if nat_eq code 1 then Cbc else Ctr) ≡ a)
named_some code a is = by (nat_eq code 1) (nat_eq code 2) is
  where
    by : (one two : Bool) → (if one then Some Cbc else (if two then Some Ctr else None)) ≡ Some a → ((one || two) ≡ true) × ((if one then Cbc else Ctr) ≡ a)
    by true two is = (refl, let e : Cbc ≡ a = cc in e)
    by false true is = (refl, let e : Ctr ≡ a = cc in e)
    by false false is = absurd (cc)

-- what the block says, from its parts
pub fields_are : (b : List ℕ) (a : Algorithm) (blocks : ℕ) (salt : List ℕ) (spaces : List HeldSpace) → (if nat_eq (be32_at b 240) 1 then Cbc else Ctr) ≡ a → be32_at b 16 ≡ blocks → range 24 16 b ≡ salt → spaces_of_block b ≡ spaces
    → header_fields b ≡ record { algorithm = a; blocks = blocks; salt = salt; spaces = spaces }
unfolding header_fields
fields_are b a blocks salt spaces is_a is_blocks is_salt is_spaces = λ j. record { algorithm = is_a j; blocks = is_blocks j; salt = is_salt j; spaces = is_spaces j }
