-- Pages of a range are counted one after another.
use Rattle.std.proofs.Common.{◌≡◌, ℕ, zero, suc, ◌+◌, ◌-◌, ◌≤◌, ◌<◌, Bool, true, false, if◌then◌else◌, refl, sym, ap, ◌∙◌, arith}
use Rattle.recovery.specs.Rounds.{count_in}

pub count_next : (has : ℕ → Bool) (from page : ℕ) → from ≤ page → count_in has from (page + 1 - from) ≡ count_in has from (page - from) + (if has page then 1 else 0)
count_next has from page le =
    let longer : page + 1 - from ≡ suc (page - from) = omega (arith, le) in
    let here : from + (page - from) ≡ page = omega (arith, le) in
    ap (count_in has from) longer ∙ ap (λ (q : ℕ). count_in has from (page - from) + (if has q then 1 else 0)) here

pub count_with : (has : ℕ → Bool) (from page : ℕ) → from ≤ page → has page ≡ true → count_in has from (page + 1 - from) ≡ count_in has from (page - from) + 1
count_with has from page le is = count_next has from page le ∙ ap (λ (b : Bool). count_in has from (page - from) + (if b then 1 else 0)) is

pub count_without : (has : ℕ → Bool) (from page : ℕ) → from ≤ page → has page ≡ false → count_in has from (page + 1 - from) ≡ count_in has from (page - from)
count_without has from page le isnt =
    count_next has from page le ∙ ap (λ (b : Bool). count_in has from (page - from) + (if b then 1 else 0)) isnt ∙ (let n = count_in has from (page - from) in omega arith)

pub count_none : (has : ℕ → Bool) (from : ℕ) → count_in has from (from - from) ≡ 0
count_none has from = let none : from - from ≡ 0 = omega arith in ap (count_in has from) none

up_to : (has : ℕ → Bool) (from m k : ℕ) → count_in has from m ≤ count_in has from (k + m)
up_to has from m zero = let none : 0 + m ≡ m = omega arith in let same : count_in has from (0 + m) ≡ count_in has from m = ap (count_in has from) none in omega (arith, same)
up_to has from m (suc k) =
    let less = up_to has from m k in
    let longer : suc k + m ≡ suc (k + m) = omega arith in
    let more : count_in has from (suc k + m) ≡ count_in has from (k + m) + (if has (from + (k + m)) then 1 else 0) = ap (count_in has from) longer in
    omega (arith, less, more)

-- a shorter range has no more of them
pub count_less : (has : ℕ → Bool) (from m n : ℕ) → m ≤ n → count_in has from m ≤ count_in has from n
count_less has from m n le =
    let whole : (n - m) + m ≡ n = omega (arith, le) in
    let less = up_to has from m (n - m) in
    let same : count_in has from ((n - m) + m) ≡ count_in has from n = ap (count_in has from) whole in
    omega (arith, less, same)

-- nor has one that ends behind a page of it
pub count_to : (has : ℕ → Bool) (from page end : ℕ) → from ≤ page → page < end → count_in has from (page - from) + (if has page then 1 else 0) ≤ count_in has from (end - from)
count_to has from page end low high =
    let more = count_next has from page low in
    let less = count_less has from (page + 1 - from) (end - from) (omega (arith, low, high)) in
    omega (arith, more, less)

both_parts : (has : ℕ → Bool) (from m k : ℕ) → count_in has from (m + k) ≡ count_in has from m + count_in has (from + m) k
both_parts has from m zero = let none : m + 0 ≡ m = omega arith in let n = count_in has from m in ap (count_in has from) none ∙ omega arith
both_parts has from m (suc k) =
    let longer : m + suc k ≡ suc (m + k) = omega arith in
    let here : from + (m + k) ≡ from + m + k = omega arith in
    let before = both_parts has from m k in
    let more : count_in has from (m + suc k) ≡ count_in has from (m + k) + (if has (from + m + k) then 1 else 0) = ap (count_in has from) longer ∙ ap (λ (q : ℕ). count_in has from (m + k) + (if has q then 1 else 0)) here in
    omega (arith, more, before)

-- a range has as many as its two parts
pub count_parts : (has : ℕ → Bool) (from mid end : ℕ) → from ≤ mid → mid ≤ end → count_in has from (end - from) ≡ count_in has from (mid - from) + count_in has mid (end - mid)
count_parts has from mid end low high =
    let whole : (mid - from) + (end - mid) ≡ end - from = omega (arith, low, high) in
    let here : from + (mid - from) ≡ mid = omega (arith, low) in
    sym (ap (count_in has from) whole) ∙ both_parts has from (mid - from) (end - mid) ∙ ap (λ (q : ℕ). count_in has from (mid - from) + count_in has q (end - mid)) here
