-- A text is one script at most, and then no line is bad; a text has one first bad line at most.
use Rattle.std.proofs.Common.{◌≡◌, ◌≢◌, ◌⊎◌, ℕ, ◌+◌, ◌≤◌, List, [], ◌∷◌, ap, sym, ◌∙◌, subst, inl, inr, refl, arith, drop, get_or, length, codes}
use Rattle.script_core.specs.Words.{Word, script_lines, words_of}
use Rattle.script_core.specs.Names.{name_of, change_name_of, fields_of, change_fields_of}
use Rattle.script_core.specs.Fields.{Field, Numeral, Takes, FitsField, Passes, FaultIn}
use Rattle.script_core.specs.Statements.{change_name, AreChangeArguments, IsChange, AreChanges, statement_name, AreArguments, IsStatement, ChangeFault, ChangesFault, InChange, NoSemicolon, Full, InRest, ArgumentFault, IsLineFault}
use Rattle.script_core.specs.Scripts.{Reads, NoLine, Skipped, Said, BadAt, Bad, PastSkipped, PastSaid, IsScript, IsOnlyScript, HasNoBadLine, IsFirstBad, IsScriptRefusal, Excludes}
use Rattle.script_core.specs.declared.names.StatementName.{StatementName}
use Rattle.script_core.specs.declared.names.StatementName.TheVariants as name
use Rattle.script_core.specs.declared.names.ChangeName.{ChangeName}
use Rattle.script_core.specs.declared.names.ChangeName.TheVariants as kind
use Rattle.script_core.specs.declared.act.Act.{Act}
use Rattle.script_core.specs.declared.act.Act.TheVariants.{Mtr, Read, Sync, Flush, Check, Take, Put, Activate, Encrypt, Rotate, Report}
use Rattle.script_core.specs.declared.act.ScriptChange.{ScriptChange}
use Rattle.script_core.specs.declared.act.ScriptChange.TheVariants as change
use Rattle.script_core.specs.declared.script.Statement.{Statement}
use Rattle.script_core.specs.declared.fault.LineFault.{LineFault}
use Rattle.script_core.specs.declared.fault.LineFault.TheVariants as fault
use Rattle.script_core.specs.declared.fault.ScriptFault.{ScriptFault}
use Rattle.script_core.specs.declared.fault.ScriptFault.TheVariants.{BadLine, TooMany, OutOfMemory}
use Rattle.script_core.proofs.FaultsOnce.{AllPass, AreBounded, no_fault, one_fault, no_fault_there, one_fault_there, one_rest}
use Rattle.script_core.proofs.StatementsOnce.{one_change, one_statement, name_of-injective, change_name_of-injective}

-- a word that can stand, first of some words
first : (before : List Act) (word : Word) (rest : List Word) (field : Field) → FitsField before field word → Takes (word ∷ rest) rest (FitsField before field)
first before word rest field fits = record { word = word; begins = refl; has = fits }

change_passes : (c : ScriptChange) (words rest : List Word) → AreChangeArguments c words rest → AllPass [] (change_fields_of (change_name c)) words
unfolding AreChangeArguments change_name change_fields_of AllPass Passes FitsField
change_passes (change.Put space page at bytes) words rest are = (
  are.1 ∷ are.2 ∷ are.3 ∷ rest,
  record { word = are.0; begins = are.4; has = (space, are.5) },
  (are.2 ∷ are.3 ∷ rest, record { word = are.1; begins = refl; has = (page, are.6) }, (are.3 ∷ rest, record { word = are.2; begins = refl; has = (at, are.7) }, (rest, record { word = are.3; begins = refl; has = (bytes, are.8) }, tt))),
)
change_passes (change.Fill space page at count byte) words rest are = (
  are.1 ∷ are.2 ∷ are.3 ∷ are.4 ∷ rest,
  record { word = are.0; begins = are.5; has = (space, are.6) },
  (
    are.2 ∷ are.3 ∷ are.4 ∷ rest,
    record { word = are.1; begins = refl; has = (page, are.7) },
    (
      are.3 ∷ are.4 ∷ rest,
      record { word = are.2; begins = refl; has = (at, are.8) },
      (are.4 ∷ rest, record { word = are.3; begins = refl; has = (count, are.9) }, (rest, record { word = are.4; begins = refl; has = (byte, are.10) }, tt)),
    ),
  ),
)
change_passes (change.Kind space page type) words rest are = (
  are.1 ∷ are.2 ∷ rest,
  record { word = are.0; begins = are.3; has = (space, are.4) },
  (are.2 ∷ rest, record { word = are.1; begins = refl; has = (page, are.5) }, (rest, record { word = are.2; begins = refl; has = (type, are.6) }, tt)),
)

change_bounds : (n : ChangeName) → AreBounded (change_fields_of n)
unfolding change_fields_of
change_bounds kind.Put = (omega arith, (omega arith, (omega arith, (tt, tt))))
change_bounds kind.Fill = (omega arith, (omega arith, (omega arith, (omega arith, (tt, tt)))))
change_bounds kind.Kind = (omega arith, (omega arith, (tt, tt)))

-- a change has no fault
change_no_fault : (c : ScriptChange) (words rest : List Word) (k : LineFault) → IsChange c words rest → ChangeFault words k → ⊥
unfolding ChangeFault
change_no_fault c words rest k is found = by (subst (λ ws. ChangeFault ws k) is.named found)
  where
    by : ((k ≡ fault.Word) × ((n : ChangeName) → change_name_of (change_name c) ≢ change_name_of n)) ⊎ ((n : ChangeName) × (change_name_of (change_name c) ≡ change_name_of n) × FaultIn [] (change_fields_of n) is.arguments k) → ⊥
    by (inl (named, other)) = other (change_name c) refl
    by (inr (n, same, behind)) =
        let m : n ≡ change_name c = sym (change_name_of-injective (change_name c) n same) in
        no_fault [] (change_fields_of (change_name c)) is.arguments k (change_bounds (change_name c)) (change_passes c is.arguments rest is.are) (subst (λ x. FaultIn [] (change_fields_of x) is.arguments k) m behind)

one_change_fault : (words : List Word) (a b : LineFault) → ChangeFault words a → ChangeFault words b → a ≡ b
unfolding ChangeFault
one_change_fault [] a b p q = p ∙ sym q
one_change_fault (word ∷ words) a b (inl p) (inl q) = p.0 ∙ sym q.0
one_change_fault (word ∷ words) a b (inl (named, other)) (inr (n, is, behind)) = absurd (other n is)
one_change_fault (word ∷ words) a b (inr (n, is, behind)) (inl (named, other)) = absurd (other n is)
one_change_fault (word ∷ words) a b (inr (m, is, p)) (inr (n, also, q)) =
    one_fault [] (change_fields_of n) words a b (change_bounds n) (subst (λ x. FaultIn [] (change_fields_of x) words a) (change_name_of-injective m n (sym is ∙ also)) p) q

-- what follows a change is what follows it in each reading
follows : (c d : ScriptChange) (words r s : List Word) → IsChange c words r → IsChange d words s → r ≡ s
follows c d words r s p q = (one_change c d words r s p q).1

changes_no_fault : (cs : List ScriptChange) (count : ℕ) (words : List Word) (k : LineFault) → AreChanges cs words → count + length cs ≤ 64 → ChangesFault count words k → ⊥
unfolding AreChanges
changes_no_fault [] count words k are room found = are
changes_no_fault (c ∷ []) count words k are room (InChange n ws kind is) = change_no_fault c words [] k are is
changes_no_fault (c ∷ []) count words k are room (NoSemicolon n ws rest d word is other) = let e = follows c d words [] (word ∷ rest) are is in cc e
changes_no_fault (c ∷ []) count words k are room (Full n ws rest d is full) = let e = follows c d words [] (codes ";" ∷ rest) are is in cc e
changes_no_fault (c ∷ []) count words k are room (InRest n ws rest d kind is low behind) = let e = follows c d words [] (codes ";" ∷ rest) are is in cc e
changes_no_fault (c ∷ x ∷ cs) count words k (rest, are, more) room (InChange n ws kind is) = change_no_fault c words (codes ";" ∷ rest) k are is
changes_no_fault (c ∷ x ∷ cs) count words k (rest, are, more) room (NoSemicolon n ws left d word is other) =
    other (sym (ap (λ us. get_or us 0 []) (follows c d words (codes ";" ∷ rest) (word ∷ left) are is)))
changes_no_fault (c ∷ x ∷ cs) count words k (rest, are, more) room (Full n ws left d is full) = omega (arith, room, full)
changes_no_fault (c ∷ x ∷ cs) count words k (rest, are, more) room (InRest n ws left d kind is low behind) =
    let same : left ≡ rest = ap (λ us. drop 1 us) (follows d c words (codes ";" ∷ left) (codes ";" ∷ rest) is are) in
    changes_no_fault (x ∷ cs) (count + 1) rest k more (omega (arith, room)) (subst (λ us. ChangesFault (count + 1) us k) same behind)

one_changes_fault : (count : ℕ) (words : List Word) (a b : LineFault) → ChangesFault count words a → ChangesFault count words b → a ≡ b
one_changes_fault count words a b (InChange n ws k p) (InChange n2 ws2 k2 q) = one_change_fault words a b p q
one_changes_fault count words a b (InChange n ws k p) (NoSemicolon n2 ws2 rest d word is other) = absurd (change_no_fault d words (word ∷ rest) a is p)
one_changes_fault count words a b (InChange n ws k p) (Full n2 ws2 rest d is full) = absurd (change_no_fault d words (codes ";" ∷ rest) a is p)
one_changes_fault count words a b (InChange n ws k p) (InRest n2 ws2 rest d k2 is low behind) = absurd (change_no_fault d words (codes ";" ∷ rest) a is p)
one_changes_fault count words a b (NoSemicolon n ws rest c word is other) (InChange n2 ws2 k2 q) = absurd (change_no_fault c words (word ∷ rest) b is q)
one_changes_fault count words a b (NoSemicolon n ws rest c word is other) (NoSemicolon n2 ws2 left d word2 also different) = refl
one_changes_fault count words a b (NoSemicolon n ws rest c word is other) (Full n2 ws2 left d also full) = absurd (other (ap (λ us. get_or us 0 []) (follows c d words (word ∷ rest) (codes ";" ∷ left) is also)))
one_changes_fault count words a b (NoSemicolon n ws rest c word is other) (InRest n2 ws2 left d k2 also low behind) = absurd (other (ap (λ us. get_or us 0 []) (follows c d words (word ∷ rest) (codes ";" ∷ left) is also)))
one_changes_fault count words a b (Full n ws rest c is full) (InChange n2 ws2 k2 q) = absurd (change_no_fault c words (codes ";" ∷ rest) b is q)
one_changes_fault count words a b (Full n ws rest c is full) (NoSemicolon n2 ws2 left d word also other) = absurd (other (ap (λ us. get_or us 0 []) (follows d c words (word ∷ left) (codes ";" ∷ rest) also is)))
one_changes_fault count words a b (Full n ws rest c is full) (Full n2 ws2 left d also filled) = refl
one_changes_fault count words a b (Full n ws rest c is full) (InRest n2 ws2 left d k2 also low behind) = absurd (omega (arith, full, low))
one_changes_fault count words a b (InRest n ws rest c k is low behind) (InChange n2 ws2 k2 q) = absurd (change_no_fault c words (codes ";" ∷ rest) b is q)
one_changes_fault count words a b (InRest n ws rest c k is low behind) (NoSemicolon n2 ws2 left d word also other) = absurd (other (ap (λ us. get_or us 0 []) (follows d c words (word ∷ left) (codes ";" ∷ rest) also is)))
one_changes_fault count words a b (InRest n ws rest c k is low behind) (Full n2 ws2 left d also full) = absurd (omega (arith, full, low))
one_changes_fault count words a b (InRest n ws rest c k is low behind) (InRest n2 ws2 left d k2 also room later) =
    let same : rest ≡ left = ap (λ us. drop 1 us) (follows c d words (codes ";" ∷ rest) (codes ";" ∷ left) is also) in
    one_changes_fault (count + 1) left a b (subst (λ us. ChangesFault (count + 1) us a) same behind) later

number_bounds : (n : StatementName) → AreBounded (fields_of n)
unfolding fields_of
number_bounds name.Mtr = (omega arith, tt)
number_bounds name.Read = (omega arith, (omega arith, (omega arith, (omega arith, (omega arith, (tt, tt))))))
number_bounds name.Sync = (tt, tt)
number_bounds name.Flush = (tt, tt)
number_bounds name.Check = (tt, tt)
number_bounds name.Take = (tt, (omega arith, (omega arith, (tt, tt))))
number_bounds name.Put = (tt, (tt, tt))
number_bounds name.Activate = (omega arith, (tt, tt))
number_bounds name.Encrypt = (omega arith, (tt, tt))
number_bounds name.Rotate = (omega arith, (tt, tt))
number_bounds name.Report = (omega arith, (tt, tt))

module _ (before : List Act) where
  arguments_pass : (act : Act) (words : List Word) → AreArguments before act words → AllPass before (fields_of (statement_name act)) words
  unfolding AreArguments statement_name fields_of AllPass Passes FitsField
  arguments_pass (Mtr session changes) words are = (are.1, record { word = are.0; begins = are.2; has = (session, are.3) }, tt)
  arguments_pass (Read session space page at count) words are = (
    are.1 ∷ are.2 ∷ are.3 ∷ are.4 ∷ [],
    record { word = are.0; begins = are.5; has = (session, are.6) },
    (
      are.2 ∷ are.3 ∷ are.4 ∷ [],
      record { word = are.1; begins = refl; has = (space, are.7) },
      (
        are.3 ∷ are.4 ∷ [],
        record { word = are.2; begins = refl; has = (page, are.8) },
        (are.4 ∷ [], record { word = are.3; begins = refl; has = (at, are.9) }, ([], record { word = are.4; begins = refl; has = (count, are.10) }, ([], (refl, refl), tt))),
      ),
    ),
  )
  arguments_pass Sync words are = ([], (are, refl), tt)
  arguments_pass Flush words are = ([], (are, refl), tt)
  arguments_pass Check words are = ([], (are, refl), tt)
  arguments_pass (Take batch space count) words are = (
    are.1 ∷ are.2 ∷ [],
    record { word = are.0; begins = are.3; has = (batch, are.4, are.5) },
    (are.2 ∷ [], record { word = are.1; begins = refl; has = (space, are.6) }, ([], record { word = are.2; begins = refl; has = (count, are.7) }, ([], (refl, refl), tt))),
  )
  arguments_pass (Put batch) words are = ([], record { word = are.0; begins = are.1; has = (batch, are.2, are.3) }, ([], (refl, refl), tt))
  arguments_pass (Activate version) words are = ([], record { word = are.0; begins = are.1; has = (version, are.2) }, ([], (refl, refl), tt))
  arguments_pass (Encrypt space) words are = ([], record { word = are.0; begins = are.1; has = (space, are.2) }, ([], (refl, refl), tt))
  arguments_pass (Rotate space) words are = ([], record { word = are.0; begins = are.1; has = (space, are.2) }, ([], (refl, refl), tt))
  arguments_pass (Report space) words are = ([], record { word = are.0; begins = are.1; has = (space, are.2) }, ([], (refl, refl), tt))

  changes_are : (session : ℕ) (changes : List ScriptChange) (words : List Word) → AreArguments before (Mtr session changes) words → (rest : List Word) × Passes before (Numeral 1 16) words rest × AreChanges changes rest × (length changes ≤ 64)
  unfolding AreArguments Passes FitsField
  changes_are session changes words are = (are.1, record { word = are.0; begins = are.2; has = (session, are.3) }, are.4, are.5)

  arguments_no_fault : (act : Act) (words : List Word) (k : LineFault) → AreArguments before act words → ArgumentFault before (statement_name act) words k → ⊥
  unfolding ArgumentFault statement_name
  arguments_no_fault (Mtr session changes) words k are (inl found) = let c = changes_are session changes words are in no_fault_there before (Numeral 1 16) words c.0 k (omega arith) c.1 found
  arguments_no_fault (Mtr session changes) words k are (inr (rest, passes, found)) =
      let c = changes_are session changes words are in
      changes_no_fault changes 0 c.0 k c.2 (omega (arith, c.3)) (subst (λ us. ChangesFault 0 us k) (one_rest before (Numeral 1 16) words rest c.0 passes c.1) found)
  arguments_no_fault (Read session space page at count) words k are found = no_fault before (fields_of name.Read) words k (number_bounds name.Read) (arguments_pass (Read session space page at count) words are) found
  arguments_no_fault Sync words k are found = no_fault before (fields_of name.Sync) words k (number_bounds name.Sync) (arguments_pass Sync words are) found
  arguments_no_fault Flush words k are found = no_fault before (fields_of name.Flush) words k (number_bounds name.Flush) (arguments_pass Flush words are) found
  arguments_no_fault Check words k are found = no_fault before (fields_of name.Check) words k (number_bounds name.Check) (arguments_pass Check words are) found
  arguments_no_fault (Take batch space count) words k are found = no_fault before (fields_of name.Take) words k (number_bounds name.Take) (arguments_pass (Take batch space count) words are) found
  arguments_no_fault (Put batch) words k are found = no_fault before (fields_of name.Put) words k (number_bounds name.Put) (arguments_pass (Put batch) words are) found
  arguments_no_fault (Activate version) words k are found = no_fault before (fields_of name.Activate) words k (number_bounds name.Activate) (arguments_pass (Activate version) words are) found
  arguments_no_fault (Encrypt space) words k are found = no_fault before (fields_of name.Encrypt) words k (number_bounds name.Encrypt) (arguments_pass (Encrypt space) words are) found
  arguments_no_fault (Rotate space) words k are found = no_fault before (fields_of name.Rotate) words k (number_bounds name.Rotate) (arguments_pass (Rotate space) words are) found
  arguments_no_fault (Report space) words k are found = no_fault before (fields_of name.Report) words k (number_bounds name.Report) (arguments_pass (Report space) words are) found

  one_argument_fault : (n : StatementName) (words : List Word) (a b : LineFault) → ArgumentFault before n words a → ArgumentFault before n words b → a ≡ b
  unfolding ArgumentFault
  one_argument_fault name.Mtr words a b (inl p) (inl q) = one_fault_there before (Numeral 1 16) words a b (omega arith) p q
  one_argument_fault name.Mtr words a b (inl p) (inr (rest, passes, q)) = absurd (no_fault_there before (Numeral 1 16) words rest a (omega arith) passes p)
  one_argument_fault name.Mtr words a b (inr (rest, passes, p)) (inl q) = absurd (no_fault_there before (Numeral 1 16) words rest b (omega arith) passes q)
  one_argument_fault name.Mtr words a b (inr (rest, passes, p)) (inr (left, also, q)) =
      one_changes_fault 0 left a b (subst (λ us. ChangesFault 0 us a) (one_rest before (Numeral 1 16) words rest left passes also) p) q
  one_argument_fault name.Read words a b p q = one_fault before (fields_of name.Read) words a b (number_bounds name.Read) p q
  one_argument_fault name.Sync words a b p q = one_fault before (fields_of name.Sync) words a b (number_bounds name.Sync) p q
  one_argument_fault name.Flush words a b p q = one_fault before (fields_of name.Flush) words a b (number_bounds name.Flush) p q
  one_argument_fault name.Check words a b p q = one_fault before (fields_of name.Check) words a b (number_bounds name.Check) p q
  one_argument_fault name.Take words a b p q = one_fault before (fields_of name.Take) words a b (number_bounds name.Take) p q
  one_argument_fault name.Put words a b p q = one_fault before (fields_of name.Put) words a b (number_bounds name.Put) p q
  one_argument_fault name.Activate words a b p q = one_fault before (fields_of name.Activate) words a b (number_bounds name.Activate) p q
  one_argument_fault name.Encrypt words a b p q = one_fault before (fields_of name.Encrypt) words a b (number_bounds name.Encrypt) p q
  one_argument_fault name.Rotate words a b p q = one_fault before (fields_of name.Rotate) words a b (number_bounds name.Rotate) p q
  one_argument_fault name.Report words a b p q = one_fault before (fields_of name.Report) words a b (number_bounds name.Report) p q

  -- a line's words have one first fault at most
  pub one_line_fault : (words : List Word) (a b : LineFault) → IsLineFault before words a → IsLineFault before words b → a ≡ b
  unfolding IsLineFault
  one_line_fault [] a b p q = p ∙ sym q
  one_line_fault (word ∷ words) a b (inl p) (inl q) = p.0 ∙ sym q.0
  one_line_fault (word ∷ words) a b (inl (named, other)) (inr (n, is, behind)) = absurd (other n is)
  one_line_fault (word ∷ words) a b (inr (n, is, behind)) (inl (named, other)) = absurd (other n is)
  one_line_fault (word ∷ words) a b (inr (m, is, p)) (inr (n, also, q)) = one_argument_fault n words a b (subst (λ x. ArgumentFault before x words a) (name_of-injective m n (sym is ∙ also)) p) q

  -- a statement has no fault
  pub statement_no_fault : (words : List Word) (act : Act) (k : LineFault) → IsStatement before words act → IsLineFault before words k → ⊥
  unfolding IsLineFault
  statement_no_fault words act k is found = by (subst (λ ws. IsLineFault before ws k) is.named found)
    where
      by : ((k ≡ fault.Word) × ((n : StatementName) → name_of (statement_name act) ≢ name_of n)) ⊎ ((n : StatementName) × (name_of (statement_name act) ≡ name_of n) × ArgumentFault before n is.arguments k) → ⊥
      by (inl (named, other)) = other (statement_name act) refl
      by (inr (n, same, behind)) = arguments_no_fault act is.arguments k is.are (subst (λ x. ArgumentFault before x is.arguments k) (sym (name_of-injective (statement_name act) n same)) behind)

-- these lines are one list of statements at most
pub one_reading : (number : ℕ) (before : List Act) (lines : List (List ℕ)) (a b : List Statement) → Reads number before lines a → Reads number before lines b → a ≡ b
one_reading number before lines a b (NoLine n bs) (NoLine n2 bs2) = refl
one_reading number before lines a b (Skipped n bs line rest ss skipped p) (Skipped n2 bs2 line2 rest2 ss2 also q) = one_reading (number + 1) before rest a b p q
one_reading number before lines a b (Skipped n bs line rest ss skipped p) (Said n2 bs2 line2 act rest2 ss2 kept is q) = absurd (kept skipped)
one_reading number before lines a b (Said n bs line act rest ss kept is p) (Skipped n2 bs2 line2 rest2 ss2 skipped q) = absurd (kept skipped)
one_reading number before lines a b (Said n bs line act rest ss kept is p) (Said n2 bs2 line2 other rest2 ss2 also same q) =
    let e : act ≡ other = one_statement before (words_of line) act other is same in
    let behind : ss ≡ ss2 = one_reading (number + 1) (other ∷ before) rest ss ss2 (subst (λ x. Reads (number + 1) (x ∷ before) rest ss) e p) q in
    ap (λ (x : Act). let one : Statement = record { line = number; act = x } in one ∷ ss) e ∙ ap (λ xs. let one : Statement = record { line = number; act = other } in one ∷ xs) behind

-- where they are statements no line is bad
pub read_not_bad : (number : ℕ) (before : List Act) (lines : List (List ℕ)) (a : List Statement) (at : ℕ) (k : LineFault) → BadAt number before lines at k → Reads number before lines a → ⊥
read_not_bad number before lines a at k (Bad n bs line rest kind kept found) (Skipped n2 bs2 line2 rest2 ss skipped p) = kept skipped
read_not_bad number before lines a at k (Bad n bs line rest kind kept found) (Said n2 bs2 line2 act rest2 ss also is p) = statement_no_fault before (words_of line) act k is found
read_not_bad number before lines a at k (PastSkipped n bs line rest m kind skipped bad) (Skipped n2 bs2 line2 rest2 ss also p) = read_not_bad (number + 1) before rest a at k bad p
read_not_bad number before lines a at k (PastSkipped n bs line rest m kind skipped bad) (Said n2 bs2 line2 act rest2 ss kept is p) = kept skipped
read_not_bad number before lines a at k (PastSaid n bs line act rest m kind kept is bad) (Skipped n2 bs2 line2 rest2 ss skipped p) = kept skipped
read_not_bad number before lines a at k (PastSaid n bs line act rest m kind kept is bad) (Said n2 bs2 line2 other rest2 ss also same p) =
    let e : other ≡ act = one_statement before (words_of line) other act same is in
    read_not_bad (number + 1) (act ∷ before) rest ss at k bad (subst (λ x. Reads (number + 1) (x ∷ before) rest ss) e p)

-- one line at most is the first bad one, with one fault
pub one_bad : (number : ℕ) (before : List Act) (lines : List (List ℕ)) (m n : ℕ) (a b : LineFault) → BadAt number before lines m a → BadAt number before lines n b → (m ≡ n) × (a ≡ b)
one_bad number before lines m n a b (Bad i bs line rest k kept found) (Bad i2 bs2 line2 rest2 k2 also other) = (refl, one_line_fault before (words_of line) a b found other)
one_bad number before lines m n a b (Bad i bs line rest k kept found) (PastSkipped i2 bs2 line2 rest2 m2 k2 skipped bad) = absurd (kept skipped)
one_bad number before lines m n a b (Bad i bs line rest k kept found) (PastSaid i2 bs2 line2 act rest2 m2 k2 also is bad) = absurd (statement_no_fault before (words_of line) act a is found)
one_bad number before lines m n a b (PastSkipped i bs line rest m1 k skipped p) (Bad i2 bs2 line2 rest2 k2 kept found) = absurd (kept skipped)
one_bad number before lines m n a b (PastSkipped i bs line rest m1 k skipped p) (PastSkipped i2 bs2 line2 rest2 m2 k2 also q) = one_bad (number + 1) before rest m n a b p q
one_bad number before lines m n a b (PastSkipped i bs line rest m1 k skipped p) (PastSaid i2 bs2 line2 act rest2 m2 k2 kept is q) = absurd (kept skipped)
one_bad number before lines m n a b (PastSaid i bs line act rest m1 k kept is p) (Bad i2 bs2 line2 rest2 k2 also found) = absurd (statement_no_fault before (words_of line) act b is found)
one_bad number before lines m n a b (PastSaid i bs line act rest m1 k kept is p) (PastSkipped i2 bs2 line2 rest2 m2 k2 skipped q) = absurd (kept skipped)
one_bad number before lines m n a b (PastSaid i bs line act rest m1 k kept is p) (PastSaid i2 bs2 line2 other rest2 m2 k2 also same q) =
    let e : act ≡ other = one_statement before (words_of line) act other is same in
    one_bad (number + 1) (other ∷ before) rest m n a b (subst (λ x. BadAt (number + 1) (x ∷ before) rest m a) e p) q

-- a text is one script at most, and none where a line is bad; its first bad line is one
pub one_script : (text : List ℕ) (a b : List Statement) → IsScript text a → IsScript text b → a ≡ b
one_script text a b p q = one_reading 1 [] (script_lines text) a b p.reads q.reads

pub script_not_bad : (text : List ℕ) (a : List Statement) (at : ℕ) (k : LineFault) → IsScript text a → IsFirstBad text at k → ⊥
script_not_bad text a at k is bad = read_not_bad 1 [] (script_lines text) a at k bad is.reads

pub one_first_bad : (text : List ℕ) (m n : ℕ) (a b : LineFault) → IsFirstBad text m a → IsFirstBad text n b → (m ≡ n) × (a ≡ b)
one_first_bad text m n a b p q = one_bad 1 [] (script_lines text) m n a b p q

pub only_script : (text : List ℕ) (statements : List Statement) → IsScript text statements → IsOnlyScript text statements
only_script text statements is others also = one_script text others statements also is

pub no_bad_line : (text : List ℕ) (statements : List Statement) → IsScript text statements → HasNoBadLine text
no_bad_line text statements is line kind bad = script_not_bad text statements line kind is bad

pub excludes : (text : List ℕ) (f : ScriptFault) → IsScriptRefusal text f → Excludes text f
excludes text (BadLine line kind) is = (λ statements script. script_not_bad text statements line kind script is, λ other k bad. one_first_bad text other line k kind bad is)
excludes text TooMany is = (
  λ statements script. let same = one_reading 1 [] (script_lines text) statements is.statements script.reads is.reads in let size = ap length same in omega (arith, size, script.few, is.many),
  λ line kind bad. read_not_bad 1 [] (script_lines text) is.statements line kind bad is.reads,
)
excludes text OutOfMemory is = tt
