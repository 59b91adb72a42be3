-- Keys are looked for one after another, and the least that is lacking is kept.
use Rattle.std.proofs.Common.{◌≡◌, ◌⊎◌, ℕ, ◌+◌, ◌<◌, ◌≤◌, List, Option, Some, None, refl, sym, ap, subst, ◌∙◌, arith, inl, inr, ⊎_elim}
use Rattle.std.proofs.lemmas.Bool.{cases_lt}
use Rattle.std.proofs.lemmas.Option.{same_Some, none-some}
use Rattle.key_ring.specs.Ring.{RingEntry}
use Rattle.recovery.specs.Keys.{AreThere, HasUpTo, IsLeastLacking, IsNotBehind, Lacks, LooksFor, OneBelow}
use Rattle.recovery.specs.declared.keys.KeyName.{KeyName}

pub up_to_then : (a b c : KeyName) → IsNotBehind a b → IsNotBehind b c → IsNotBehind a c
up_to_then a b c (inl x) (inl y) = inl (omega (arith, x, y))
up_to_then a b c (inl x) (inr y) = let e = y.0 in inl (omega (arith, x, e))
up_to_then a b c (inr x) (inl y) = let e = x.0 in inl (omega (arith, y, e))
up_to_then a b c (inr x) (inr y) = let le = x.1 in let more = y.1 in inr (x.0 ∙ y.0, omega (arith, le, more))

pub up_to_itself : (a : KeyName) → IsNotBehind a a
up_to_itself a = inr (refl, omega arith)

-- two of which none is behind the other are one
pub up_to_both : (a b : KeyName) → IsNotBehind a b → IsNotBehind b a → a ≡ b
up_to_both a b (inl x) (inl y) = absurd (omega (arith, x, y))
up_to_both a b (inl x) (inr y) = let e = y.0 in absurd (omega (arith, x, e))
up_to_both a b (inr x) (inl y) = let e = x.0 in absurd (omega (arith, y, e))
up_to_both a b (inr x) (inr y) =
    let le = x.1 in
    let ge = y.1 in
    let id : a.id ≡ b.id = x.0 in
    let version : a.version ≡ b.version = omega (arith, le, ge) in
    λ i. record { id = id i; version = version i }

module _ (ring : List RingEntry) where
  pub looks_nothing : (P : KeyName → Type 0) (o : Option KeyName) → ((x : KeyName) → P x → Lacks ring x → ⊥) → LooksFor ring P o o
  looks_nothing P o none = record { keeps = λ x has. has; all = λ x p lacks. absurd (none x p lacks); only = λ x is. inl is }

  pub looks_first : (name : KeyName) → Lacks ring name → LooksFor ring (λ x. x ≡ name) None (Some name)
  looks_first name lacks = record {
    keeps = λ x has. absurd has;
    all = λ x same missing. subst (IsNotBehind name) (sym same) (up_to_itself name);
    only = λ x is. let same : name ≡ x = same_Some name x is in inr (sym same, subst (Lacks ring) same lacks);
  }

  pub looks_lesser : (found name : KeyName) → IsNotBehind found name → LooksFor ring (λ x. x ≡ name) (Some found) (Some found)
  looks_lesser found name order = record { keeps = λ x has. has; all = λ x same missing. subst (IsNotBehind found) (sym same) order; only = λ x is. inl is }

  pub looks_greater : (found name : KeyName) → IsNotBehind name found → Lacks ring name → LooksFor ring (λ x. x ≡ name) (Some found) (Some name)
  looks_greater found name order lacks = record {
    keeps = λ x has. up_to_then name found x order has;
    all = λ x same missing. subst (IsNotBehind name) (sym same) (up_to_itself name);
    only = λ x is. let same : name ≡ x = same_Some name x is in inr (sym same, subst (Lacks ring) same lacks);
  }

  pub looks_as : (P Q : KeyName → Type 0) (a b : Option KeyName) → ((x : KeyName) → P x → Q x) → ((x : KeyName) → Q x → P x) → LooksFor ring P a b → LooksFor ring Q a b
  looks_as P Q a b to from looks = record {
    keeps = looks.keeps;
    all = λ x q lacks. looks.all x (from x q) lacks;
    only = λ x is. ⊎_elim (λ (old : a ≡ Some x). inl old) (λ (new : P x × Lacks ring x). inr (to x new.0, new.1)) (looks.only x is);
  }

  pub looks_then : (P Q : KeyName → Type 0) (a b c : Option KeyName) → LooksFor ring P a b → LooksFor ring Q b c → LooksFor ring (λ x. P x ⊎ Q x) a c
  looks_then P Q a b c first second = record {
    keeps = λ x has. second.keeps x (first.keeps x has);
    all = λ x e lacks. ⊎_elim (λ (p : P x). second.keeps x (first.all x p lacks)) (λ (q : Q x). second.all x q lacks) e;
    only = λ x is.
        ⊎_elim (λ (mid : b ≡ Some x). ⊎_elim (λ (old : a ≡ Some x). inl old) (λ (new : P x × Lacks ring x). inr (inl new.0, new.1)) (first.only x mid))
        (λ (new : Q x × Lacks ring x). inr (inr new.0, new.1)) (second.only x is);
  }

  -- one more of a row
  pub looks_next : (P : ℕ → KeyName → Type 0) (n : ℕ) (a b c : Option KeyName) → LooksFor ring (OneBelow P n) a b → LooksFor ring (P n) b c → LooksFor ring (OneBelow P (n + 1)) a c
  looks_next P n a b c first second = looks_as (λ x. OneBelow P n x ⊎ P n x) (OneBelow P (n + 1)) a c to from (looks_then (OneBelow P n) (P n) a b c first second)
    where
      to : (x : KeyName) → OneBelow P n x ⊎ P n x → OneBelow P (n + 1) x
      to x e = ⊎_elim (λ (p : OneBelow P n x). let lt = p.1 in (p.0, omega (arith, lt), p.2)) (λ (p : P n x). (n, omega arith, p)) e

      from : (x : KeyName) → OneBelow P (n + 1) x → OneBelow P n x ⊎ P n x
      from x (i, lt, p) = ⊎_elim (λ (l : i < n). inl (i, l, p)) (λ (ge : n ≤ i). let e : i ≡ n = omega (arith, lt, ge) in inr (subst (λ (k : ℕ). P k x) e p)) (cases_lt i n)

  pub looks_none : (P : ℕ → KeyName → Type 0) (o : Option KeyName) → LooksFor ring (OneBelow P 0) o o
  looks_none P o = looks_nothing (OneBelow P 0) o (λ x p lacks. let lt = p.1 in omega (arith, lt))

  -- ---- what was found in the end

  pub looked_all : (P : KeyName → Type 0) (o : Option KeyName) → LooksFor ring P None o → o ≡ None → AreThere ring P
  looked_all P o looks none x p lacks = subst (λ (n : Option KeyName). HasUpTo n x) none (looks.all x p lacks)

  pub looked_least : (P : KeyName → Type 0) (o : Option KeyName) (name : KeyName) → LooksFor ring P None o → o ≡ Some name → IsLeastLacking ring P name
  looked_least P o name looks is =
      let own : P name × Lacks ring name = ⊎_elim (λ (old : None ≡ Some name). absurd (none-some name old)) (λ (new : P name × Lacks ring name). new) (looks.only name is) in
      record { needed = own.0; lacks = own.1; least = λ y p lacks. subst (λ (n : Option KeyName). HasUpTo n y) is (looks.all y p lacks) }

  pub least_one : (P : KeyName → Type 0) (a b : KeyName) → IsLeastLacking ring P a → IsLeastLacking ring P b → a ≡ b
  least_one P a b x y = up_to_both a b (x.least b y.needed y.lacks) (y.least a x.needed x.lacks)
