-- Statements in a row: their entries and replies.
use Rattle.std.proofs.Common.{◌≡◌, ℕ, ◌+◌, ◌≤◌, ◌++◌, length, arith, sym, ◌∙◌, ap, subst, List, [], ◌∷◌, cond, refl, add-zero, drop}
use Rattle.std.proofs.lemmas.List.{append-nil, length-append}
use Rattle.std.proofs.lemmas.List.Sums.{sum_by-append, sum_by-cons}
use mathlib.Core.List.{append_assoc}
use Rattle.plain_engine.specs.declared.journal.Entry.{Entry}
use Rattle.keyd_cli.specs.declared.outcome.Reply.{Reply}
use Rattle.keyd_cli.specs.declared.outcome.Answer.{Answer}
use Rattle.keyd_cli.specs.declared.outcome.Answer.TheVariants.{Place, Acked}
use Rattle.keyd_cli.specs.declared.act.DrillAct.{DrillAct}
use Rattle.keyd_cli.specs.declared.act.DrillAct.TheVariants.{Mtr, Sync}
use Rattle.keyd_cli.specs.declared.act.DrillStatement.{DrillStatement}
use Rattle.keyd_cli.specs.Reads.{is_mtr, mtr_count}
use Rattle.keyd_cli.specs.Session.{entry_of, entries_of, answer_to, reply_to, replies_to, IsSmallAct, AreRunnable, AckedWithin, AreAckedWithin, acked_by}

pub entries-append : (count : ℕ) (xs ys : List DrillStatement) → entries_of count (xs ++ ys) ≡ entries_of count xs ++ entries_of (count + length (entries_of count xs)) ys
entries-append count [] ys = ap (λ n. entries_of n ys) (sym (add-zero count))
entries-append count (x ∷ xs) ys =
    let first = entry_of count x.line x.act in
    let behind = count + length first in
    let more = entries_of behind xs in
    let size : behind + length more ≡ count + length (first ++ more) = omega (arith, length-append first more) in
    ap (λ es. first ++ es) (entries-append behind xs ys) ∙ sym (append_assoc first more (entries_of (behind + length more) ys))
    ∙ ap (λ n. (first ++ more) ++ entries_of n ys) size

pub replies-append : (count : ℕ) (xs ys : List DrillStatement) → replies_to count (xs ++ ys) ≡ replies_to count xs ++ replies_to (count + length (entries_of count xs)) ys
replies-append count [] ys = ap (λ n. replies_to n ys) (sym (add-zero count))
replies-append count (x ∷ xs) ys =
    let first = entry_of count x.line x.act in
    let behind = count + length first in
    let more = entries_of behind xs in
    let size : behind + length more ≡ count + length (first ++ more) = omega (arith, length-append first more) in
    ap (λ rs. reply_to count x ∷ rs) (replies-append behind xs ys ∙ ap (λ n. replies_to behind xs ++ replies_to n ys) size)

-- a statement adds an entry where it is a mini-transaction
pub one_entry : (count line : ℕ) (act : DrillAct) → length (entry_of count line act) ≡ cond (is_mtr act) 1 0
one_entry count line (Mtr session mtr) = refl
one_entry count line Sync = refl

pub length-entries : (count : ℕ) (xs : List DrillStatement) → length (entries_of count xs) ≡ mtr_count xs
length-entries count [] = refl
length-entries count (x ∷ xs) =
    let first = entry_of count x.line x.act in
    let more = entries_of (count + length first) xs in
    omega (arith, length-append first more, one_entry count x.line x.act, length-entries (count + length first) xs, sum_by-cons (λ s. cond (is_mtr s.act) 1 0) x xs)

-- statements with one more
pub entries_more : (xs : List DrillStatement) (x : DrillStatement) (old new : List Entry) → old ≡ entries_of 0 xs → new ≡ old ++ entry_of (length old) x.line x.act → new ≡ entries_of 0 (xs ++ (x ∷ []))
entries_more xs x old new is grown =
    let at : length old ≡ 0 + length (entries_of 0 xs) = omega (arith, ap length is) in
    grown ∙ ap (λ es. es ++ entry_of (length old) x.line x.act) is ∙ ap (λ n. entries_of 0 xs ++ entry_of n x.line x.act) at
    ∙ ap (λ es. entries_of 0 xs ++ es) (sym (append-nil (entry_of (0 + length (entries_of 0 xs)) x.line x.act))) ∙ sym (entries-append 0 xs (x ∷ []))

pub replies_more : (xs : List DrillStatement) (x : DrillStatement) (journal : List Entry) (old new : List Reply) → journal ≡ entries_of 0 xs → old ≡ replies_to 0 xs
    → new ≡ old ++ (reply_to (length journal) x ∷ []) → new ≡ replies_to 0 (xs ++ (x ∷ []))
replies_more xs x journal old new are is grown =
    let at : length journal ≡ 0 + length (entries_of 0 xs) = omega (arith, ap length are) in
    grown ∙ ap (λ rs. rs ++ (reply_to (length journal) x ∷ [])) is ∙ ap (λ n. replies_to 0 xs ++ (reply_to n x ∷ [])) at ∙ sym (replies-append 0 xs (x ∷ []))

-- the statement after the first ones can be run
pub next_runnable : (all xs : List DrillStatement) (x : DrillStatement) (rest : List DrillStatement) → all ≡ xs ++ (x ∷ rest) → AreRunnable all → IsSmallAct x.act
next_runnable all [] x rest is are = (subst AreRunnable is are).0
next_runnable [] (y ∷ xs) x rest is are = let n : 0 ≡ length (y ∷ (xs ++ (x ∷ rest))) = ap length is in absurd (omega (arith, n))
next_runnable (a ∷ all) (y ∷ xs) x rest is are = next_runnable all xs x rest (ap (λ l. drop 1 l) is) are.1

pub next_room : (all xs : List DrillStatement) (x : DrillStatement) (rest : List DrillStatement) (journal : List Entry) (count line : ℕ) → all ≡ xs ++ (x ∷ rest) → journal ≡ entries_of 0 xs → mtr_count all ≤ 256
    → length journal + length (entry_of count line x.act) ≤ 256
next_room all xs x rest journal count line is are few =
    let counted : DrillStatement → ℕ = λ s. cond (is_mtr s.act) 1 0 in
    let whole : mtr_count all ≡ mtr_count xs + mtr_count (x ∷ rest) = ap mtr_count is ∙ sum_by-append counted xs (x ∷ rest) in
    omega (arith, whole, sum_by-cons counted x rest, ap length are, length-entries 0 xs, one_entry count line x.act, few)

within_more : (a b : ℕ) (rs : List Reply) → a ≤ b → AreAckedWithin a rs → AreAckedWithin b rs
within_more a b [] le are = tt
within_more a b (r ∷ rs) le are = (one r.answer are.0, within_more a b rs le are.1)
  where
    one : (answer : Answer) → AckedWithin a answer → AckedWithin b answer
    one (Acked n) low = omega (arith, le, low)
    one (Place place lsn) low = tt

within_push : (a : ℕ) (rs : List Reply) (r : Reply) → AreAckedWithin a rs → AckedWithin a r.answer → AreAckedWithin a (rs ++ (r ∷ []))
within_push a [] r are low = (low, tt)
within_push a (x ∷ rs) r are low = (are.0, within_push a rs r are.1 low)

-- the acknowledgements of one statement more
pub acked_more : (line : ℕ) (act : DrillAct) (old new : List Entry) (a b : ℕ) (rs more : List Reply) (reply : Reply) → new ≡ old ++ entry_of (length old) line act → reply.answer ≡ answer_to (length old) act
    → more ≡ rs ++ (reply ∷ []) → b ≡ acked_by reply.answer a (length new) → AreAckedWithin a rs → a ≤ length old → AreAckedWithin b more × (b ≤ length new)
acked_more line (Mtr session mtr) old new a b rs more reply grown answered pushed is are low =
    let same : b ≡ a = is ∙ ap (λ x. acked_by x a (length new)) answered in
    let long : length new ≡ length old + 1 = ap length grown ∙ length-append old (entry_of (length old) line (Mtr session mtr)) in
    let fits : AckedWithin b reply.answer = subst (λ x. AckedWithin b x) (sym answered) tt in
    (subst (AreAckedWithin b) (sym pushed) (within_push b rs reply (within_more a b rs (omega (arith, same)) are) fits), omega (arith, same, long, low))
acked_more line Sync old new a b rs more reply grown answered pushed is are low =
    let same : b ≡ length new = is ∙ ap (λ x. acked_by x a (length new)) answered in
    let long : length new ≡ length old + 0 = ap length grown ∙ length-append old [] in
    let fits : AckedWithin b reply.answer = subst (λ x. AckedWithin b x) (sym answered) (let le : length old ≤ b = omega (arith, same, long) in le) in
    (subst (AreAckedWithin b) (sym pushed) (within_push b rs reply (within_more a b rs (omega (arith, same, long, low)) are) fits), omega (arith, same))
