-- What holds of each byte, by computing it 256 times.
use Rattle.std.proofs.Common.{◌≡◌, ℕ, ◌<◌, List, map, get_or, bit_xor, refl, sym, ap, ◌∙◌, arith}
use Rattle.std.proofs.Common.{nat_lt, true}
use Rattle.std.specs.List.{range_with_len}
use Rattle.std.proofs.lemmas.Bool.{ltb-true}
use Rattle.std.proofs.lemmas.List.FromFn.{get_or-map-range_with_len}
use Rattle.aes_core.specs.Field.{inverse_from, power, product_of, sub_byte, times, times_x, inv_sub_byte}
use Rattle.aes_core.specs.declared.tables.TheConstants.{POWERS, SUB, INV_SUB}

-- two functions that are one on each byte
pub everywhere : {Y : Type 0} (f g : ℕ → Y) → map f (range_with_len 0 256) ≡ map g (range_with_len 0 256) → (a : ℕ) → a < 256 → f a ≡ g a
everywhere f g e a h =
    sym (get_or-map-range_with_len f 0 256 a a (f 0) h (omega arith))
    ∙ ap (λ (l : List _). get_or l a (f 0)) e ∙ get_or-map-range_with_len g 0 256 a a (f 0) h (omega arith)

-- a table and what it is of
pub at_table : {Y : Type 0} (t : List Y) (g : ℕ → Y) (d : Y) → t ≡ map g (range_with_len 0 256) → (a : ℕ) → a < 256 → get_or t a d ≡ g a
at_table t g d e a h = ap (λ (l : List _). get_or l a d) e ∙ get_or-map-range_with_len g 0 256 a a d h (omega arith)

sub_table : SUB ≡ map sub_byte (range_with_len 0 256)
unfolding sub_byte inverse_from product_of
sub_table = refl

pub sub_at : (a : ℕ) → a < 256 → get_or SUB a 0 ≡ sub_byte a
sub_at a h = at_table SUB sub_byte 0 sub_table a h

inv_sub_table : INV_SUB ≡ map inv_sub_byte (range_with_len 0 256)
unfolding inv_sub_byte inverse_from product_of
inv_sub_table = refl

pub inv_sub_at : (a : ℕ) → a < 256 → get_or INV_SUB a 0 ≡ inv_sub_byte a
inv_sub_at a h = at_table INV_SUB inv_sub_byte 0 inv_sub_table a h

-- what each entry of a table passes, computed of the table
table_lt : (table : List ℕ) (g : ℕ → ℕ) → ((a : ℕ) → a < 256 → get_or table a 0 ≡ g a) → map (λ a. nat_lt (get_or table a 0) 256) (range_with_len 0 256) ≡ map (λ a. true) (range_with_len 0 256)
    → (a : ℕ) → a < 256 → g a < 256
table_lt table g at in_range a h =
    let e = at a h in
    let below = ltb-true (get_or table a 0) 256 (everywhere (λ a. nat_lt (get_or table a 0) 256) (λ a. true) in_range a h) in
    rw e at below

pub sub_byte-lt : (a : ℕ) → a < 256 → sub_byte a < 256
sub_byte-lt = table_lt SUB sub_byte sub_at refl

pub inv_sub_byte-lt : (a : ℕ) → a < 256 → inv_sub_byte a < 256
inv_sub_byte-lt = table_lt INV_SUB inv_sub_byte inv_sub_at refl

-- one table undoes another, computed of both
undone_by : (there back : List ℕ) (f g : ℕ → ℕ) → ((a : ℕ) → a < 256 → get_or there a 0 ≡ f a) → ((a : ℕ) → a < 256 → get_or back a 0 ≡ g a) → ((a : ℕ) → a < 256 → f a < 256)
    → map (λ a. get_or back (get_or there a 0) 0) (range_with_len 0 256) ≡ map (λ a. a) (range_with_len 0 256) → (a : ℕ) → a < 256 → g (f a) ≡ a
undone_by there back f g at_there at_back lt computed a h =
    sym (at_back (f a) (lt a h)) ∙ ap (λ (n : ℕ). get_or back n 0) (sym (at_there a h))
    ∙ everywhere (λ a. get_or back (get_or there a 0) 0) (λ a. a) computed a h

pub inv_sub-sub : (a : ℕ) → a < 256 → inv_sub_byte (sub_byte a) ≡ a
inv_sub-sub = undone_by SUB INV_SUB sub_byte inv_sub_byte sub_at inv_sub_at sub_byte-lt refl

pub sub-inv_sub : (a : ℕ) → a < 256 → sub_byte (inv_sub_byte a) ≡ a
sub-inv_sub = undone_by INV_SUB SUB inv_sub_byte sub_byte inv_sub_at sub_at inv_sub_byte-lt refl

-- ---- small multiples

once : map (λ a. times 1 a) (range_with_len 0 256) ≡ map (λ a. a) (range_with_len 0 256)
unfolding product_of
once = refl

pub times_1 : (a : ℕ) → a < 256 → times 1 a ≡ a
times_1 a h = everywhere (λ a. times 1 a) (λ a. a) once a h

twice : map (λ a. times 2 a) (range_with_len 0 256) ≡ map (λ a. times_x a) (range_with_len 0 256)
unfolding product_of
twice = refl

pub times_2 : (a : ℕ) → a < 256 → times 2 a ≡ times_x a
times_2 a h = everywhere (λ a. times 2 a) (λ a. times_x a) twice a h

thrice : map (λ a. times 3 a) (range_with_len 0 256) ≡ map (λ a. bit_xor (times_x a) a) (range_with_len 0 256)
unfolding product_of
thrice = refl

pub times_3 : (a : ℕ) → a < 256 → times 3 a ≡ bit_xor (times_x a) a
times_3 a h = everywhere (λ a. times 3 a) (λ a. bit_xor (times_x a) a) thrice a h

-- ---- powers of x

powers_table : POWERS ≡ map power (range_with_len 0 10)
unfolding power
powers_table = refl

pub power_at : (n : ℕ) → n < 10 → get_or POWERS n 0 ≡ power n
power_at n h = ap (λ (l : List ℕ). get_or l n 0) powers_table ∙ get_or-map-range_with_len power 0 10 n n 0 h (omega arith)
