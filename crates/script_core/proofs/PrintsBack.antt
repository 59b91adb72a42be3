-- A script that is printed by the grammar's own spelling reads as itself.
use Rattle.std.proofs.Common.{◌≡◌, ◌≢◌, ℕ, ◌+◌, ◌-◌, ◌<◌, ◌≤◌, ◌^◌, List, [], ◌∷◌, ◌++◌, ap, sym, ◌∙◌, subst, inl, inr, refl, arith, length, get_or, codes, replicate, suc, Bool, true, false, ◌&&◌, nat_lt}
use Rattle.std.proofs.lemmas.Bool.Decides.{Decides-ltb}
use Rattle.std.proofs.lemmas.List.Elements.{All-cons}
use Rattle.std.specs.Fmt.{decimal}
use Rattle.std.specs.List.{join_with_byte}
use Rattle.hex.specs.Hex.{encode_lower}
use Rattle.script_core.specs.Words.{Word, IsNumber, script_lines, words_of}
use Rattle.script_core.specs.Names.{name_of, change_name_of}
use Rattle.script_core.specs.Statements.{change_name, AreChangeArguments, IsChange, AreChanges, statement_name, AreArguments, IsStatement}
use Rattle.script_core.specs.Scripts.{IsSkipped, Reads, NoLine, Skipped, Said, IsScript}
use Rattle.script_core.specs.Printing.{change_arguments, change_spelling, changes_spelling, arguments_of, spelling, line_of, lines_from, printed}
use Rattle.script_core.specs.declared.names.StatementName.{StatementName}
use Rattle.script_core.specs.declared.names.StatementName.TheVariants as name
use Rattle.script_core.specs.declared.names.ChangeName.{ChangeName}
use Rattle.script_core.specs.declared.names.ChangeName.TheVariants as kind
use Rattle.script_core.specs.declared.act.Act.{Act}
use Rattle.script_core.specs.declared.act.Act.TheVariants.{Mtr, Read, Sync, Flush, Check, Take, Put, Activate, Encrypt, Rotate, Report}
use Rattle.script_core.specs.declared.act.ScriptChange.{ScriptChange}
use Rattle.script_core.specs.declared.act.ScriptChange.TheVariants as change
use Rattle.script_core.specs.declared.script.Statement.{Statement}
use Rattle.script_core.proofs.Joining.{IsPlain, IsPlainWord, ArePlain, AreFree, parts_joined, no_spaces, no_feed, plain_decimal, plain_hex, hex_again}

again : (word : Word) (low high n : ℕ) → IsNumber word low high n → IsNumber (decimal n) low high n
again word low high n is = record { spelled = refl; from = is.from; to = is.to }

plain : (word : Word) (low high n : ℕ) → high < 2 ^ 64 → IsNumber word low high n → IsPlainWord (decimal n)
plain word low high n top is = plain_decimal n (omega (arith, is.to, top))

change_again : (c : ScriptChange) (words old rest : List Word) → AreChangeArguments c words old → AreChangeArguments c (change_arguments c rest) rest
unfolding AreChangeArguments change_arguments
change_again (change.Put space page at bytes) words old rest are =
    (decimal space, decimal page, decimal at, encode_lower bytes, refl, again are.0 0 4294967295 space are.5, again are.1 0 4294967295 page are.6, again are.2 0 4294967295 at are.7, hex_again are.3 bytes are.8)
change_again (change.Fill space page at count byte) words old rest are =
    (decimal space, decimal page, decimal at, decimal count, encode_lower (byte ∷ []), refl, again are.0 0 4294967295 space are.6, again are.1 0 4294967295 page are.7, again are.2 0 4294967295 at are.8, again are.3 0 4294967295 count are.9, hex_again are.4 (byte ∷ []) are.10)
change_again (change.Kind space page type) words old rest are =
    (decimal space, decimal page, decimal type, refl, again are.0 0 4294967295 space are.4, again are.1 0 4294967295 page are.5, record { number = again are.2 0 65535 type are.6.number; other = are.6.other })

change_plain : (c : ScriptChange) (words old rest : List Word) → AreChangeArguments c words old → ArePlain rest → ArePlain (change_arguments c rest)
unfolding AreChangeArguments change_arguments
change_plain (change.Put space page at bytes) words old rest are more =
    (plain are.0 0 4294967295 space (omega arith) are.5, (plain are.1 0 4294967295 page (omega arith) are.6, (plain are.2 0 4294967295 at (omega arith) are.7, (plain_hex are.3 bytes are.8, more))))
change_plain (change.Fill space page at count byte) words old rest are more =
    (plain are.0 0 4294967295 space (omega arith) are.6, (plain are.1 0 4294967295 page (omega arith) are.7, (plain are.2 0 4294967295 at (omega arith) are.8, (plain are.3 0 4294967295 count (omega arith) are.9, (plain_hex are.4 (byte ∷ []) are.10, more)))))
change_plain (change.Kind space page type) words old rest are more =
    (plain are.0 0 4294967295 space (omega arith) are.4, (plain are.1 0 4294967295 page (omega arith) are.5, (plain are.2 0 65535 type (omega arith) are.6.number, more)))

-- words of letters alone
letters : Word → Bool
letters [] = true
letters (c ∷ cs) = nat_lt 32 c && letters cs

both : (a b : Bool) → (a && b) ≡ true → (a ≡ true) × (b ≡ true)
both true true e = (refl, refl)
both true false e = cc e
both false b e = cc e

plain_letters : (word : Word) → letters word ≡ true → IsPlainWord word
unfolding letters
plain_letters [] are = λ k d low. absurd (omega (arith, low))
plain_letters (c ∷ cs) are =
    let parts = both (nat_lt 32 c) (letters cs) are in
    let more : 32 < c = (Decides-ltb 32 c).0 parts.0 in
    All-cons IsPlain c cs (λ e. omega (arith, e, more), λ e. omega (arith, e, more)) (plain_letters cs parts.1)

plain_name : (n : StatementName) → IsPlainWord (name_of n)
unfolding name_of letters
plain_name name.Mtr = plain_letters (name_of name.Mtr) refl
plain_name name.Read = plain_letters (name_of name.Read) refl
plain_name name.Sync = plain_letters (name_of name.Sync) refl
plain_name name.Flush = plain_letters (name_of name.Flush) refl
plain_name name.Check = plain_letters (name_of name.Check) refl
plain_name name.Take = plain_letters (name_of name.Take) refl
plain_name name.Put = plain_letters (name_of name.Put) refl
plain_name name.Activate = plain_letters (name_of name.Activate) refl
plain_name name.Encrypt = plain_letters (name_of name.Encrypt) refl
plain_name name.Rotate = plain_letters (name_of name.Rotate) refl
plain_name name.Report = plain_letters (name_of name.Report) refl

plain_change_name : (n : ChangeName) → IsPlainWord (change_name_of n)
unfolding change_name_of letters
plain_change_name kind.Put = plain_letters (change_name_of kind.Put) refl
plain_change_name kind.Fill = plain_letters (change_name_of kind.Fill) refl
plain_change_name kind.Kind = plain_letters (change_name_of kind.Kind) refl

plain_semicolon : IsPlainWord (codes ";")
unfolding letters
plain_semicolon = plain_letters (codes ";") refl

whole_change : (c : ScriptChange) (words old rest : List Word) → IsChange c words old → IsChange c (change_spelling c rest) rest
whole_change c words old rest is = record { arguments = change_arguments c rest; named = refl; are = change_again c is.arguments old rest is.are }

changes_again : (cs : List ScriptChange) (words : List Word) → AreChanges cs words → AreChanges cs (changes_spelling cs)
unfolding AreChanges changes_spelling
changes_again [] words are = absurd are
changes_again (c ∷ []) words are = whole_change c words [] [] are
changes_again (c ∷ d ∷ cs) words (rest, is, are) =
    (changes_spelling (d ∷ cs), whole_change c words (codes ";" ∷ rest) (codes ";" ∷ changes_spelling (d ∷ cs)) is, changes_again (d ∷ cs) rest are)

changes_plain : (cs : List ScriptChange) (words : List Word) → AreChanges cs words → ArePlain (changes_spelling cs)
unfolding AreChanges changes_spelling
changes_plain [] words are = absurd are
changes_plain (c ∷ []) words are = (plain_change_name (change_name c), change_plain c are.arguments [] [] are.are tt)
changes_plain (c ∷ d ∷ cs) words (rest, is, are) =
    (plain_change_name (change_name c), change_plain c is.arguments (codes ";" ∷ rest) (codes ";" ∷ changes_spelling (d ∷ cs)) is.are (plain_semicolon, changes_plain (d ∷ cs) rest are))

module _ (before : List Act) where
  arguments_again : (act : Act) (words : List Word) → AreArguments before act words → AreArguments before act (arguments_of act)
  unfolding AreArguments arguments_of
  arguments_again (Mtr session changes) words are = (decimal session, changes_spelling changes, refl, again are.0 1 16 session are.3, changes_again changes are.1 are.4, are.5)
  arguments_again (Read session space page at count) words are =
      (decimal session, decimal space, decimal page, decimal at, decimal count, refl, again are.0 1 16 session are.6, again are.1 0 4294967295 space are.7, again are.2 0 4294967295 page are.8, again are.3 0 4294967295 at are.9, again are.4 1 16338 count are.10)
  arguments_again Sync words are = refl
  arguments_again Flush words are = refl
  arguments_again Check words are = refl
  arguments_again (Take batch space count) words are = (decimal batch, decimal space, decimal count, refl, again are.0 1 16 batch are.4, are.5, again are.1 0 4294967295 space are.6, again are.2 1 64 count are.7)
  arguments_again (Put batch) words are = (decimal batch, refl, again are.0 1 16 batch are.2, are.3)
  arguments_again (Activate version) words are = (decimal version, refl, again are.0 0 4294967295 version are.2)
  arguments_again (Encrypt space) words are = (decimal space, refl, again are.0 0 4294967295 space are.2)
  arguments_again (Rotate space) words are = (decimal space, refl, again are.0 0 4294967295 space are.2)
  arguments_again (Report space) words are = (decimal space, refl, again are.0 0 4294967295 space are.2)

  arguments_plain : (act : Act) (words : List Word) → AreArguments before act words → ArePlain (arguments_of act)
  unfolding AreArguments arguments_of
  arguments_plain (Mtr session changes) words are = (plain are.0 1 16 session (omega arith) are.3, changes_plain changes are.1 are.4)
  arguments_plain (Read session space page at count) words are =
      (plain are.0 1 16 session (omega arith) are.6, (plain are.1 0 4294967295 space (omega arith) are.7, (plain are.2 0 4294967295 page (omega arith) are.8, (plain are.3 0 4294967295 at (omega arith) are.9, (plain are.4 1 16338 count (omega arith) are.10, tt)))))
  arguments_plain Sync words are = tt
  arguments_plain Flush words are = tt
  arguments_plain Check words are = tt
  arguments_plain (Take batch space count) words are = (plain are.0 1 16 batch (omega arith) are.4, (plain are.1 0 4294967295 space (omega arith) are.6, (plain are.2 1 64 count (omega arith) are.7, tt)))
  arguments_plain (Put batch) words are = (plain are.0 1 16 batch (omega arith) are.2, tt)
  arguments_plain (Activate version) words are = (plain are.0 0 4294967295 version (omega arith) are.2, tt)
  arguments_plain (Encrypt space) words are = (plain are.0 0 4294967295 space (omega arith) are.2, tt)
  arguments_plain (Rotate space) words are = (plain are.0 0 4294967295 space (omega arith) are.2, tt)
  arguments_plain (Report space) words are = (plain are.0 0 4294967295 space (omega arith) are.2, tt)

  spelling_plain : (act : Act) (words : List Word) → IsStatement before words act → ArePlain (spelling act)
  spelling_plain act words is = (plain_name (statement_name act), arguments_plain act is.arguments is.are)

  -- a statement's line reads as the statement
  line_again : (act : Act) (words : List Word) → IsStatement before words act → IsStatement before (words_of (line_of act)) act
  line_again act words is =
      let cut : words_of (line_of act) ≡ spelling act = parts_joined 32 (name_of (statement_name act)) (arguments_of act) (no_spaces (spelling act) (spelling_plain act words is)) in
      record { arguments = arguments_of act; named = cut; are = arguments_again act is.arguments is.are }

-- A line of a statement is no comment

first_byte : StatementName → ℕ
first_byte n = get_or (name_of n) 0 0

starts : (n : StatementName) → (0 < length (name_of n)) × (get_or (name_of n) 0 0 ≢ 35)
unfolding name_of
starts name.Mtr = (omega arith, λ e. omega (arith, e))
starts name.Read = (omega arith, λ e. omega (arith, e))
starts name.Sync = (omega arith, λ e. omega (arith, e))
starts name.Flush = (omega arith, λ e. omega (arith, e))
starts name.Check = (omega arith, λ e. omega (arith, e))
starts name.Take = (omega arith, λ e. omega (arith, e))
starts name.Put = (omega arith, λ e. omega (arith, e))
starts name.Activate = (omega arith, λ e. omega (arith, e))
starts name.Encrypt = (omega arith, λ e. omega (arith, e))
starts name.Rotate = (omega arith, λ e. omega (arith, e))
starts name.Report = (omega arith, λ e. omega (arith, e))

joined_first : (word : Word) (words : List Word) → 0 < length word → (get_or (join_with_byte 32 (word ∷ words)) 0 0 ≡ get_or word 0 0) × (0 < length (join_with_byte 32 (word ∷ words)))
joined_first [] words some = absurd (omega (arith, some))
joined_first (c ∷ cs) [] some = (refl, some)
joined_first (c ∷ cs) (next ∷ words) some = (refl, omega arith)

kept_line : (act : Act) → IsSkipped (line_of act) → ⊥
kept_line act (inl empty) =
    let s = starts (statement_name act) in
    let j = joined_first (name_of (statement_name act)) (arguments_of act) s.0 in
    let none = ap length empty in omega (arith, j.1, none)
kept_line act (inr (rest, comment)) =
    let s = starts (statement_name act) in
    let j = joined_first (name_of (statement_name act)) (arguments_of act) s.0 in
    s.1 (sym j.0 ∙ ap (λ t. get_or t 0 0) comment)

-- Lines with their numbers

-- the lines from a number on are numbered from there on
numbers_from : (number : ℕ) (before : List Act) (lines : List (List ℕ)) (s : Statement) (ss : List Statement) → Reads number before lines (s ∷ ss) → number ≤ s.line
numbers_from number before lines s ss (Skipped n bs line rest xs skipped reads) = let later = numbers_from (number + 1) before rest s ss reads in omega (arith, later)
numbers_from number before lines s ss (Said n bs line act rest xs kept is reads) = omega arith

later_lines : (number : ℕ) (s : Statement) (ss : List Statement) → number + 1 ≤ s.line → lines_from number (s ∷ ss) ≡ [] ∷ lines_from (number + 1) (s ∷ ss)
unfolding lines_from
later_lines number s ss low =
    let more : s.line - number ≡ suc (s.line - (number + 1)) = omega arith in
    ap (λ n. replicate n [] ++ (line_of s.act ∷ lines_from (s.line + 1) ss)) more

these_lines : (number : ℕ) (act : Act) (ss : List Statement) → lines_from number (record { line = number; act = act } ∷ ss) ≡ line_of act ∷ lines_from (number + 1) ss
unfolding lines_from
these_lines number act ss =
    let none : number - number ≡ 0 = omega arith in
    ap (λ n. replicate n [] ++ (line_of act ∷ lines_from (number + 1) ss)) none

no_lines : (number : ℕ) → lines_from number [] ≡ []
unfolding lines_from
no_lines number = refl

skipped_again : (number : ℕ) (before : List Act) (lines : List (List ℕ)) (ss : List Statement) → Reads (number + 1) before lines ss → Reads (number + 1) before (lines_from (number + 1) ss) ss → Reads number before (lines_from number ss) ss
skipped_again number before lines [] reads printed_reads = subst (λ ls. Reads number before ls []) (sym (no_lines number)) (NoLine number before)
skipped_again number before lines (s ∷ ss) reads printed_reads =
    subst (λ ls. Reads number before ls (s ∷ ss)) (sym (later_lines number s ss (numbers_from (number + 1) before lines s ss reads)))
    (Skipped number before [] (lines_from (number + 1) (s ∷ ss)) (s ∷ ss) (inl refl) printed_reads)

reads_again : (number : ℕ) (before : List Act) (lines : List (List ℕ)) (ss : List Statement) → Reads number before lines ss → Reads number before (lines_from number ss) ss
reads_again number before lines ss (NoLine n bs) = subst (λ ls. Reads number before ls []) (sym (no_lines number)) (NoLine number before)
reads_again number before lines ss (Skipped n bs line rest xs skipped reads) = skipped_again number before rest ss reads (reads_again (number + 1) before rest ss reads)
reads_again number before lines ss (Said n bs line act rest xs kept is reads) =
    let one : Statement = record { line = number; act = act } in
    subst (λ ls. Reads number before ls (one ∷ xs)) (sym (these_lines number act xs))
    (Said number before (line_of act) act (lines_from (number + 1) xs) xs (kept_line act) (line_again before act (words_of line) is) (reads_again (number + 1) (act ∷ before) rest xs reads))

-- no printed line has a line feed
lines_free : (number : ℕ) (before : List Act) (lines : List (List ℕ)) (ss : List Statement) → Reads number before lines ss → AreFree 10 (lines_from number ss)
lines_free number before lines ss (NoLine n bs) = subst (AreFree 10) (sym (no_lines number)) tt
lines_free number before lines ss (Skipped n bs line rest xs skipped reads) = by ss reads (lines_free (number + 1) before rest ss reads)
  where
    by : (ys : List Statement) → Reads (number + 1) before rest ys → AreFree 10 (lines_from (number + 1) ys) → AreFree 10 (lines_from number ys)
    by [] r free = subst (AreFree 10) (sym (no_lines number)) tt
    by (s ∷ ys) r free = subst (AreFree 10) (sym (later_lines number s ys (numbers_from (number + 1) before rest s ys r))) (λ k d low. absurd (omega (arith, low)), free)
lines_free number before lines ss (Said n bs line act rest xs kept is reads) =
    subst (AreFree 10) (sym (these_lines number act xs)) (no_feed (spelling act) (spelling_plain before act (words_of line) is), lines_free (number + 1) (act ∷ before) rest xs reads)

no_statement : (s : Statement) (ss : List Statement) → Reads 1 [] [] (s ∷ ss) → ⊥
no_statement s ss reads = none [] (s ∷ ss) reads refl refl
  where
    none : (ls : List (List ℕ)) (ys : List Statement) → Reads 1 [] ls ys → ls ≡ [] → ys ≡ s ∷ ss → ⊥
    none ls ys (NoLine n bs) a b = cc b
    none ls ys (Skipped n bs line rest xs skipped reads) a b = cc a
    none ls ys (Said n bs line act rest xs kept is reads) a b = cc a

-- lines that are joined are cut again; without one there is an empty line
whole_again : (ls : List (List ℕ)) (ss : List Statement) → AreFree 10 ls → Reads 1 [] ls ss → Reads 1 [] (script_lines (join_with_byte 10 ls)) ss
whole_again [] ss free reads = by ss reads
  where
    by : (ys : List Statement) → Reads 1 [] [] ys → Reads 1 [] ([] ∷ []) ys
    by [] r = Skipped 1 [] [] [] [] (inl refl) (NoLine 2 [])
    by (s ∷ ys) r = absurd (no_statement s ys r)
whole_again (l ∷ ls) ss free reads = subst (λ x. Reads 1 [] x ss) (sym (parts_joined 10 l ls free)) reads

-- a script printed by the grammar's own spelling reads as itself
pub prints_back : (text : List ℕ) (ss : List Statement) → IsScript text ss → IsScript (printed ss) ss
prints_back text ss is = record {
  reads = whole_again (lines_from 1 ss) ss (lines_free 1 [] (script_lines text) ss is.reads) (reads_again 1 [] (script_lines text) ss is.reads);
  few = is.few;
}
