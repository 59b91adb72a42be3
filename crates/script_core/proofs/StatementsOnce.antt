-- The words of a line are one statement at most, and a statement has no fault.
use Rattle.std.proofs.Common.{◌≡◌, ℕ, ◌<◌, ◌^◌, List, [], ◌∷◌, ap, sym, ◌∙◌, subst, refl, arith, drop, get_or, codes, nat_eq, if◌then◌else◌, Result, Ok, Err}
use Rattle.std.specs.Str.Parse.{digits_value}
use Rattle.hex.specs.Hex.{decode_of}
use Rattle.script_core.specs.Words.{Word, IsNumber, IsHex}
use Rattle.script_core.specs.Names.{name_of, change_name_of}
use Rattle.script_core.specs.Statements.{change_name, AreChangeArguments, IsChange, AreChanges, statement_name, AreArguments, IsStatement}
use Rattle.script_core.specs.declared.names.StatementName.{StatementName}
use Rattle.script_core.specs.declared.names.StatementName.TheVariants as name
use Rattle.script_core.specs.declared.names.ChangeName.{ChangeName}
use Rattle.script_core.specs.declared.names.ChangeName.TheVariants as kind
use Rattle.script_core.specs.declared.act.Act.{Act}
use Rattle.script_core.specs.declared.act.Act.TheVariants.{Mtr, Read, Sync, Flush, Check, Take, Put, Activate, Encrypt, Rotate, Report}
use Rattle.script_core.specs.declared.act.ScriptChange.{ScriptChange}
use Rattle.script_core.specs.declared.act.ScriptChange.TheVariants as change
use Rattle.script_core.proofs.NumberLemmas.{number_numeral}

-- A name determines its statement

named_by : ℕ → ℕ → ℕ → StatementName
named_by a b c =
    if nat_eq a 109 then name.Mtr
    else if nat_eq a 115 then name.Sync
    else if nat_eq a 102 then name.Flush
    else if nat_eq a 99 then name.Check
    else if nat_eq a 116 then name.Take
    else if nat_eq a 112 then name.Put
    else if nat_eq a 97 then name.Activate
    else if nat_eq a 101 then name.Encrypt
    else if nat_eq b 111 then name.Rotate
    else if nat_eq c 97 then name.Read
    else name.Report

name_in : Word → StatementName
name_in word = named_by (get_or word 0 0) (get_or word 1 0) (get_or word 2 0)

name_in-name_of : (n : StatementName) → name_in (name_of n) ≡ n
unfolding name_of name_in named_by
name_in-name_of name.Mtr = refl
name_in-name_of name.Read = refl
name_in-name_of name.Sync = refl
name_in-name_of name.Flush = refl
name_in-name_of name.Check = refl
name_in-name_of name.Take = refl
name_in-name_of name.Put = refl
name_in-name_of name.Activate = refl
name_in-name_of name.Encrypt = refl
name_in-name_of name.Rotate = refl
name_in-name_of name.Report = refl

pub name_of-injective : (m n : StatementName) → name_of m ≡ name_of n → m ≡ n
name_of-injective m n same = sym (name_in-name_of m) ∙ ap name_in same ∙ name_in-name_of n

change_by : ℕ → ChangeName
change_by a = if nat_eq a 112 then kind.Put else if nat_eq a 102 then kind.Fill else kind.Kind

change_in : Word → ChangeName
change_in word = change_by (get_or word 0 0)

change_in-change_name_of : (n : ChangeName) → change_in (change_name_of n) ≡ n
unfolding change_name_of change_in change_by
change_in-change_name_of kind.Put = refl
change_in-change_name_of kind.Fill = refl
change_in-change_name_of kind.Kind = refl

pub change_name_of-injective : (m n : ChangeName) → change_name_of m ≡ change_name_of n → m ≡ n
change_name_of-injective m n same = sym (change_in-change_name_of m) ∙ ap change_in same ∙ change_in-change_name_of n

-- What words say

number : Word → ℕ
number word = digits_value 10 word

bytes_in : Result (List ℕ) Rattle.hex.specs.declared.error.FromHexError.FromHexError → List ℕ
bytes_in (Ok bytes) = bytes
bytes_in (Err e) = []

hex : Word → List ℕ
hex word = bytes_in (decode_of word)

value : (word : Word) (low high n : ℕ) → high < 2 ^ 32 → IsNumber word low high n → number word ≡ n
unfolding number
value word low high n top is = (number_numeral word low high n top is).1

hex_value : (word : Word) (bytes : List ℕ) → IsHex word bytes → hex word ≡ bytes
unfolding hex bytes_in
hex_value word bytes is = ap bytes_in is.digits

word_at : ℕ → List Word → Word
word_at i words = get_or words i []

change_said : ChangeName → List Word → ScriptChange
change_said kind.Put words = change.Put (number (word_at 0 words)) (number (word_at 1 words)) (number (word_at 2 words)) (hex (word_at 3 words))
change_said kind.Fill words = change.Fill (number (word_at 0 words)) (number (word_at 1 words)) (number (word_at 2 words)) (number (word_at 3 words)) (get_or (hex (word_at 4 words)) 0 0)
change_said kind.Kind words = change.Kind (number (word_at 0 words)) (number (word_at 1 words)) (number (word_at 2 words))

change_words : ChangeName → ℕ
change_words kind.Put = 4
change_words kind.Fill = 5
change_words kind.Kind = 3

change_is : (c : ScriptChange) (words rest : List Word) → AreChangeArguments c words rest → (c ≡ change_said (change_name c) words) × (rest ≡ drop (change_words (change_name c)) words)
unfolding AreChangeArguments change_name change_said change_words word_at
change_is (change.Put space page at bytes) words rest are =
    let s : number (get_or words 0 []) ≡ space = ap (λ ws. number (get_or ws 0 [])) are.4 ∙ value are.0 0 4294967295 space (omega arith) are.5 in
    let p : number (get_or words 1 []) ≡ page = ap (λ ws. number (get_or ws 1 [])) are.4 ∙ value are.1 0 4294967295 page (omega arith) are.6 in
    let a : number (get_or words 2 []) ≡ at = ap (λ ws. number (get_or ws 2 [])) are.4 ∙ value are.2 0 4294967295 at (omega arith) are.7 in
    let h : hex (get_or words 3 []) ≡ bytes = ap (λ ws. hex (get_or ws 3 [])) are.4 ∙ hex_value are.3 bytes are.8 in
    (cc, sym (ap (λ ws. drop 4 ws) are.4))
change_is (change.Fill space page at count byte) words rest are =
    let s : number (get_or words 0 []) ≡ space = ap (λ ws. number (get_or ws 0 [])) are.5 ∙ value are.0 0 4294967295 space (omega arith) are.6 in
    let p : number (get_or words 1 []) ≡ page = ap (λ ws. number (get_or ws 1 [])) are.5 ∙ value are.1 0 4294967295 page (omega arith) are.7 in
    let a : number (get_or words 2 []) ≡ at = ap (λ ws. number (get_or ws 2 [])) are.5 ∙ value are.2 0 4294967295 at (omega arith) are.8 in
    let l : number (get_or words 3 []) ≡ count = ap (λ ws. number (get_or ws 3 [])) are.5 ∙ value are.3 0 4294967295 count (omega arith) are.9 in
    let h : get_or (hex (get_or words 4 [])) 0 0 ≡ byte = ap (λ ws. get_or (hex (get_or ws 4 [])) 0 0) are.5 ∙ ap (λ bs. get_or bs 0 0) (hex_value are.4 (byte ∷ []) are.10) in
    (cc, sym (ap (λ ws. drop 5 ws) are.5))
change_is (change.Kind space page type) words rest are =
    let s : number (get_or words 0 []) ≡ space = ap (λ ws. number (get_or ws 0 [])) are.3 ∙ value are.0 0 4294967295 space (omega arith) are.4 in
    let p : number (get_or words 1 []) ≡ page = ap (λ ws. number (get_or ws 1 [])) are.3 ∙ value are.1 0 4294967295 page (omega arith) are.5 in
    let k : number (get_or words 2 []) ≡ type = ap (λ ws. number (get_or ws 2 [])) are.3 ∙ value are.2 0 65535 type (omega arith) are.6.number in
    (cc, sym (ap (λ ws. drop 3 ws) are.3))

-- words begin with one change, and one rest follows
pub one_change : (a b : ScriptChange) (words r s : List Word) → IsChange a words r → IsChange b words s → (a ≡ b) × (r ≡ s)
one_change a b words r s p q =
    let same = sym p.named ∙ q.named in
    let n : change_name a ≡ change_name b = change_name_of-injective (change_name a) (change_name b) (ap (λ ws. get_or ws 0 []) same) in
    let ws : p.arguments ≡ q.arguments = ap (λ ws. drop 1 ws) same in
    let x = change_is a p.arguments r p.are in
    let y = change_is b q.arguments s q.are in
    let P : ChangeName → List Word → ScriptChange = change_said in
    (x.0 ∙ ap (λ m. change_said m p.arguments) n ∙ ap (change_said (change_name b)) ws ∙ sym y.0, x.1 ∙ ap (λ m. drop (change_words m) p.arguments) n ∙ ap (drop (change_words (change_name b))) ws ∙ sym y.1)

pub one_changes : (a b : List ScriptChange) (words : List Word) → AreChanges a words → AreChanges b words → a ≡ b
unfolding AreChanges
one_changes [] b words p q = absurd p
one_changes (c ∷ []) [] words p q = absurd q
one_changes (c ∷ d ∷ cs) [] words p q = absurd q
one_changes (c ∷ []) (x ∷ []) words p q = ap (λ y. y ∷ []) (one_change c x words [] [] p q).0
one_changes (c ∷ []) (x ∷ y ∷ ys) words p (rest, q, more) = let e = (one_change c x words [] (codes ";" ∷ rest) p q).1 in cc e
one_changes (c ∷ d ∷ cs) (x ∷ []) words (rest, p, more) q = let e = (one_change c x words (codes ";" ∷ rest) [] p q).1 in cc e
one_changes (c ∷ d ∷ cs) (x ∷ y ∷ ys) words (rest, p, more) (left, q, also) =
    let both = one_change c x words (codes ";" ∷ rest) (codes ";" ∷ left) p q in
    let same : rest ≡ left = ap (λ ws. drop 1 ws) both.1 in
    let behind : d ∷ cs ≡ y ∷ ys = one_changes (d ∷ cs) (y ∷ ys) left (subst (AreChanges (d ∷ cs)) same more) also in
    ap (λ z. z ∷ (d ∷ cs)) both.0 ∙ ap (λ zs. x ∷ zs) behind

-- A statement is determined by its words

changes_of : Act → List ScriptChange
changes_of (Mtr session changes) = changes
changes_of _ = []

act_said : StatementName → List Word → List ScriptChange → Act
act_said name.Mtr words changes = Mtr (number (word_at 0 words)) changes
act_said name.Read words changes = Read (number (word_at 0 words)) (number (word_at 1 words)) (number (word_at 2 words)) (number (word_at 3 words)) (number (word_at 4 words))
act_said name.Sync words changes = Sync
act_said name.Flush words changes = Flush
act_said name.Check words changes = Check
act_said name.Take words changes = Take (number (word_at 0 words)) (number (word_at 1 words)) (number (word_at 2 words))
act_said name.Put words changes = Put (number (word_at 0 words))
act_said name.Activate words changes = Activate (number (word_at 0 words))
act_said name.Encrypt words changes = Encrypt (number (word_at 0 words))
act_said name.Rotate words changes = Rotate (number (word_at 0 words))
act_said name.Report words changes = Report (number (word_at 0 words))

-- the words behind the name say the changes, where there are some
ChangesSay : StatementName → List ScriptChange → List Word → Type 0
ChangesSay name.Mtr changes words = AreChanges changes (drop 1 words)
ChangesSay _ changes words = changes ≡ []

one_say : (n : StatementName) (a b : List ScriptChange) (words : List Word) → ChangesSay n a words → ChangesSay n b words → a ≡ b
unfolding ChangesSay
one_say name.Mtr a b words p q = one_changes a b (drop 1 words) p q
one_say name.Read a b words p q = p ∙ sym q
one_say name.Sync a b words p q = p ∙ sym q
one_say name.Flush a b words p q = p ∙ sym q
one_say name.Check a b words p q = p ∙ sym q
one_say name.Take a b words p q = p ∙ sym q
one_say name.Put a b words p q = p ∙ sym q
one_say name.Activate a b words p q = p ∙ sym q
one_say name.Encrypt a b words p q = p ∙ sym q
one_say name.Rotate a b words p q = p ∙ sym q
one_say name.Report a b words p q = p ∙ sym q

module _ (before : List Act) where
  act_is : (act : Act) (words : List Word) → AreArguments before act words → (act ≡ act_said (statement_name act) words (changes_of act)) × ChangesSay (statement_name act) (changes_of act) words
  unfolding AreArguments statement_name act_said changes_of ChangesSay word_at
  act_is (Mtr session changes) words are =
      let k : number (get_or words 0 []) ≡ session = ap (λ ws. number (get_or ws 0 [])) are.2 ∙ value are.0 1 16 session (omega arith) are.3 in
      (cc, subst (AreChanges changes) (sym (ap (λ ws. drop 1 ws) are.2)) are.4)
  act_is (Read session space page at count) words are =
      let k : number (get_or words 0 []) ≡ session = ap (λ ws. number (get_or ws 0 [])) are.5 ∙ value are.0 1 16 session (omega arith) are.6 in
      let s : number (get_or words 1 []) ≡ space = ap (λ ws. number (get_or ws 1 [])) are.5 ∙ value are.1 0 4294967295 space (omega arith) are.7 in
      let p : number (get_or words 2 []) ≡ page = ap (λ ws. number (get_or ws 2 [])) are.5 ∙ value are.2 0 4294967295 page (omega arith) are.8 in
      let a : number (get_or words 3 []) ≡ at = ap (λ ws. number (get_or ws 3 [])) are.5 ∙ value are.3 0 4294967295 at (omega arith) are.9 in
      let l : number (get_or words 4 []) ≡ count = ap (λ ws. number (get_or ws 4 [])) are.5 ∙ value are.4 1 16338 count (omega arith) are.10 in
      (cc, refl)
  act_is Sync words are = (refl, refl)
  act_is Flush words are = (refl, refl)
  act_is Check words are = (refl, refl)
  act_is (Take batch space count) words are =
      let b : number (get_or words 0 []) ≡ batch = ap (λ ws. number (get_or ws 0 [])) are.3 ∙ value are.0 1 16 batch (omega arith) are.4 in
      let s : number (get_or words 1 []) ≡ space = ap (λ ws. number (get_or ws 1 [])) are.3 ∙ value are.1 0 4294967295 space (omega arith) are.6 in
      let n : number (get_or words 2 []) ≡ count = ap (λ ws. number (get_or ws 2 [])) are.3 ∙ value are.2 1 64 count (omega arith) are.7 in
      (cc, refl)
  act_is (Put batch) words are =
      let b : number (get_or words 0 []) ≡ batch = ap (λ ws. number (get_or ws 0 [])) are.1 ∙ value are.0 1 16 batch (omega arith) are.2 in (cc, refl)
  act_is (Activate version) words are =
      let v : number (get_or words 0 []) ≡ version = ap (λ ws. number (get_or ws 0 [])) are.1 ∙ value are.0 0 4294967295 version (omega arith) are.2 in (cc, refl)
  act_is (Encrypt space) words are =
      let s : number (get_or words 0 []) ≡ space = ap (λ ws. number (get_or ws 0 [])) are.1 ∙ value are.0 0 4294967295 space (omega arith) are.2 in (cc, refl)
  act_is (Rotate space) words are =
      let s : number (get_or words 0 []) ≡ space = ap (λ ws. number (get_or ws 0 [])) are.1 ∙ value are.0 0 4294967295 space (omega arith) are.2 in (cc, refl)
  act_is (Report space) words are =
      let s : number (get_or words 0 []) ≡ space = ap (λ ws. number (get_or ws 0 [])) are.1 ∙ value are.0 0 4294967295 space (omega arith) are.2 in (cc, refl)

  -- the words of a line are one statement at most
  pub one_statement : (words : List Word) (a b : Act) → IsStatement before words a → IsStatement before words b → a ≡ b
  one_statement words a b p q =
      let same = sym p.named ∙ q.named in
      let n : statement_name a ≡ statement_name b = name_of-injective (statement_name a) (statement_name b) (ap (λ ws. get_or ws 0 []) same) in
      let ws : p.arguments ≡ q.arguments = ap (λ ws. drop 1 ws) same in
      let x = act_is a p.arguments p.are in
      let y = act_is b q.arguments q.are in
      let moved : ChangesSay (statement_name b) (changes_of a) q.arguments = subst (λ m. ChangesSay m (changes_of a) q.arguments) n (subst (ChangesSay (statement_name a) (changes_of a)) ws x.1) in
      let changes : changes_of a ≡ changes_of b = one_say (statement_name b) (changes_of a) (changes_of b) q.arguments moved y.1 in
      x.0 ∙ ap (λ m. act_said m p.arguments (changes_of a)) n ∙ ap (λ us. act_said (statement_name b) us (changes_of a)) ws ∙ ap (act_said (statement_name b) q.arguments) changes ∙ sym y.0
