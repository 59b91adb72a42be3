-- A value is the only one of its form that its word writes.
use Rattle.std.proofs.Common.{◌≡◌, ℕ, ◌++◌, arith, sym, ◌∙◌, ap, subst, List, [], ◌∷◌, map, get_or, drop, length, suc, refl, Option, Some, None, inl, inr}
use Rattle.std.proofs.lemmas.Fmt.{decimal_injective}
use Rattle.aes_core.specs.declared.algorithm.Algorithm.{Algorithm}
use Rattle.aes_core.specs.declared.algorithm.Algorithm.TheVariants as algorithm
use Rattle.disk_model.specs.declared.calls.Choice.{Choice}
use Rattle.disk_model.specs.declared.calls.Choice.TheVariants.{Lost, Kept, Torn}
use Rattle.key_file.specs.declared.derivation.KeyDigest.{KeyDigest}
use Rattle.key_file.specs.declared.derivation.KeyDigest.TheVariants as digest
use Rattle.keyd_words.specs.declared.table.ValueForm.{ValueForm}
use Rattle.keyd_words.specs.declared.table.ValueForm.TheVariants as form
use Rattle.keyd_words.specs.declared.text.NewSpace.{NewSpace}
use Rattle.keyd_words.specs.declared.value.OptionValue.{OptionValue}
use Rattle.keyd_words.specs.declared.value.OptionValue.TheVariants as value
use Rattle.keyd_words.specs.Table.{Argument}
use Rattle.std.specs.Borrow.{Bor}
use Rattle.keyd_words.specs.declared.fault.SettingFault.{SettingFault}
use Rattle.keyd_words.specs.declared.fault.SettingFault.TheVariants as fault
use Rattle.keyd_words.specs.Values.{WritesNumber, digest_word, algorithm_word, space_text, choice_letter, value_word, AreChoices, IsValueOf, IsSetTo, value_words, IsNewSpace, AreWordsOf, ForMisfit}
use Rattle.keyd_words.specs.Settings.{space_in_value}
use Rattle.keyd_words.proofs.SpaceLemmas.{space_text-injective}
use Rattle.keyd_words.proofs.TableLemmas.{IsSmall}

digest_injective : (a b : KeyDigest) → digest_word a ≡ digest_word b → a ≡ b
unfolding digest_word
digest_injective digest.Sha1 digest.Sha1 e = refl
digest_injective digest.Sha256 digest.Sha256 e = refl
digest_injective digest.Sha1 digest.Sha256 e = let n : 4 ≡ 6 = ap length e in absurd (omega (arith, n))
digest_injective digest.Sha256 digest.Sha1 e = let n : 6 ≡ 4 = ap length e in absurd (omega (arith, n))

algorithm_injective : (a b : Algorithm) → algorithm_word a ≡ algorithm_word b → a ≡ b
unfolding algorithm_word
algorithm_injective algorithm.Cbc algorithm.Cbc e = refl
algorithm_injective algorithm.Ctr algorithm.Ctr e = refl
algorithm_injective algorithm.Cbc algorithm.Ctr e = let n : 98 ≡ 116 = ap (λ t. get_or t 1 0) e in absurd (omega (arith, n))
algorithm_injective algorithm.Ctr algorithm.Cbc e = let n : 116 ≡ 98 = ap (λ t. get_or t 1 0) e in absurd (omega (arith, n))

pub letter_injective : (a b : Choice) → choice_letter a ≡ choice_letter b → a ≡ b
unfolding choice_letter
letter_injective Lost Lost e = refl
letter_injective Kept Kept e = refl
letter_injective Torn Torn e = refl
letter_injective Lost Kept e = absurd (omega (arith, e))
letter_injective Lost Torn e = absurd (omega (arith, e))
letter_injective Kept Lost e = absurd (omega (arith, e))
letter_injective Kept Torn e = absurd (omega (arith, e))
letter_injective Torn Lost e = absurd (omega (arith, e))
letter_injective Torn Kept e = absurd (omega (arith, e))

choices_injective : (xs ys : List Choice) → map choice_letter xs ≡ map choice_letter ys → xs ≡ ys
choices_injective [] [] e = refl
choices_injective [] (y ∷ ys) e = let n : 0 ≡ suc (length (map choice_letter ys)) = ap length e in absurd (omega (arith, n))
choices_injective (x ∷ xs) [] e = let n : suc (length (map choice_letter xs)) ≡ 0 = ap length e in absurd (omega (arith, n))
choices_injective (x ∷ xs) (y ∷ ys) e =
    let first : choice_letter x ≡ choice_letter y = ap (λ t. get_or t 0 0) e in
    let rest : map choice_letter xs ≡ map choice_letter ys = ap (λ t. drop 1 t) e in
    ap (λ z. z ∷ xs) (letter_injective x y first) ∙ ap (λ zs. y ∷ zs) (choices_injective xs ys rest)

one_value : (f : ValueForm) (v w : OptionValue) → IsSmall (Some f) → IsValueOf f v → IsValueOf f w → value_word v ≡ value_word w → v ≡ w
unfolding IsValueOf value_word IsSmall
one_value form.FileName (value.FileName a) (value.FileName b) small p q e = ap (λ t. value.FileName t) e
one_value form.FileKey (value.FileKey a) (value.FileKey b) small p q e = ap (λ t. value.FileKey t) e
one_value (form.Number low high) (value.Number m) (value.Number n) small p q e =
    ap (λ k. value.Number k) (decimal_injective m n (omega (arith, p.1, small.1)) (omega (arith, q.1, small.1)) e)
one_value form.Digest (value.Digest a) (value.Digest b) small p q e = ap (λ d. value.Digest d) (digest_injective a b e)
one_value form.Algorithm (value.Algorithm a) (value.Algorithm b) small p q e = ap (λ d. value.Algorithm d) (algorithm_injective a b e)
one_value form.Space (value.Space a) (value.Space b) small p q e = ap (λ s. value.Space s) (space_text-injective a b p q e)
one_value form.FirstChoices (value.FirstChoices a) (value.FirstChoices b) small p q e = ap (λ cs. value.FirstChoices cs) (choices_injective a b e)
one_value form.SecondChoices (value.SecondChoices a) (value.SecondChoices b) small p q e = ap (λ cs. value.SecondChoices cs) (choices_injective a b e)
one_value form.FileName (value.FileName a) _ small p q e = absurd q
one_value form.FileKey (value.FileKey a) _ small p q e = absurd q
one_value (form.Number low high) (value.Number m) _ small p q e = absurd q
one_value form.Digest (value.Digest a) _ small p q e = absurd q
one_value form.Algorithm (value.Algorithm a) _ small p q e = absurd q
one_value form.Space (value.Space a) _ small p q e = absurd q
one_value form.FirstChoices (value.FirstChoices a) _ small p q e = absurd q
one_value form.SecondChoices (value.SecondChoices a) _ small p q e = absurd q
one_value _ _ _ small p q e = absurd p

-- of two values in front of lists of words
pub one_set : (f : Option ValueForm) (v w : Option OptionValue) (xs ys : List Argument) → IsSmall f → IsSetTo f v → IsSetTo f w
    → value_words v ++ xs ≡ value_words w ++ ys → (v ≡ w) × (xs ≡ ys)
unfolding IsSetTo value_words
one_set None None None xs ys small p q e = (refl, e)
one_set (Some f) (Some v) (Some w) xs ys small p q e = (ap (λ x. Some x) (one_value f v w small p q (ap (λ t. get_or t 0 []) e)), ap (λ t. drop 1 t) e)
one_set None None (Some w) xs ys small p q e = absurd q
one_set None (Some v) w xs ys small p q e = absurd p
one_set (Some f) None w xs ys small p q e = absurd p
one_set (Some f) (Some v) None xs ys small p q e = absurd q

-- a tablespace is a value of its form alone
pub space_set : (f : Option ValueForm) (v : Option OptionValue) (x : NewSpace) → IsSetTo f v → space_in_value v ≡ Some x → (f ≡ Some form.Space) × IsNewSpace x
unfolding IsSetTo IsValueOf space_in_value
space_set (Some form.Space) (Some (value.Space y)) x p e = let same : y ≡ x = cc e in (refl, subst IsNewSpace same p)
space_set (Some form.FileName) (Some (value.Space y)) x p e = absurd p
space_set (Some form.FileKey) (Some (value.Space y)) x p e = absurd p
space_set (Some (form.Number low high)) (Some (value.Space y)) x p e = absurd p
space_set (Some form.Digest) (Some (value.Space y)) x p e = absurd p
space_set (Some form.Algorithm) (Some (value.Space y)) x p e = absurd p
space_set (Some form.FirstChoices) (Some (value.Space y)) x p e = absurd p
space_set (Some form.SecondChoices) (Some (value.Space y)) x p e = absurd p
space_set None (Some (value.Space y)) x p e = absurd p
space_set f None x p e = cc e
space_set f (Some (value.FileName t)) x p e = cc e
space_set f (Some (value.FileKey t)) x p e = cc e
space_set f (Some (value.Number n)) x p e = cc e
space_set f (Some (value.Digest d)) x p e = cc e
space_set f (Some (value.Algorithm a)) x p e = cc e
space_set f (Some (value.FirstChoices cs)) x p e = cc e
space_set f (Some (value.SecondChoices cs)) x p e = cc e

-- a value of the form of tablespaces has one
pub set_space : (v : Option OptionValue) → IsSetTo (Some form.Space) v → (x : NewSpace) × (space_in_value v ≡ Some x)
unfolding IsSetTo IsValueOf space_in_value
set_space (Some (value.Space y)) p = (y, refl)
set_space None p = absurd p
set_space (Some (value.FileName t)) p = absurd p
set_space (Some (value.FileKey t)) p = absurd p
set_space (Some (value.Number n)) p = absurd p
set_space (Some (value.Digest d)) p = absurd p
set_space (Some (value.Algorithm a)) p = absurd p
set_space (Some (value.FirstChoices cs)) p = absurd p
set_space (Some (value.SecondChoices cs)) p = absurd p

-- Words that write no value of a form

pub no_number : (word : Argument) (low high : ℕ) → ((n : ℕ) → WritesNumber word low high n → ⊥) → (v : OptionValue) → word ≡ value_word v → IsValueOf (form.Number low high) v → ⊥
unfolding IsValueOf value_word
no_number word low high unread (value.Number n) e is = unread n (record { spelled = e; from = is.0; to = is.1 })
no_number word low high unread _ e is = absurd is

pub no_digest : (word : Argument) → ((d : KeyDigest) → word ≡ digest_word d → ⊥) → (v : OptionValue) → word ≡ value_word v → IsValueOf form.Digest v → ⊥
unfolding IsValueOf value_word
no_digest word unread (value.Digest d) e is = unread d e
no_digest word unread _ e is = absurd is

pub no_algorithm : (word : Argument) → ((a : Algorithm) → word ≡ algorithm_word a → ⊥) → (v : OptionValue) → word ≡ value_word v → IsValueOf form.Algorithm v → ⊥
unfolding IsValueOf value_word
no_algorithm word unread (value.Algorithm a) e is = unread a e
no_algorithm word unread _ e is = absurd is

pub no_space : (word : Argument) → ((s : NewSpace) → word ≡ space_text s → IsNewSpace s → ⊥) → (v : OptionValue) → word ≡ value_word v → IsValueOf form.Space v → ⊥
unfolding IsValueOf value_word
no_space word unread (value.Space s) e is = unread s e is
no_space word unread _ e is = absurd is

pub no_first_choices : (word : Argument) → ((cs : List Choice) → word ≡ map choice_letter cs → AreChoices cs → ⊥) → (v : OptionValue) → word ≡ value_word v → IsValueOf form.FirstChoices v → ⊥
unfolding IsValueOf value_word
no_first_choices word unread (value.FirstChoices cs) e is = unread cs e is
no_first_choices word unread _ e is = absurd is

pub misfit_first_choices : (f : SettingFault) (word : Argument) → ForMisfit f ((cs : List Choice) → word ≡ map choice_letter cs → AreChoices cs → ⊥) → ForMisfit f ((v : OptionValue) → word ≡ value_word v → IsValueOf form.FirstChoices v → ⊥)
misfit_first_choices fault.Value word is = no_first_choices word is
misfit_first_choices fault.OutOfMemory word is = tt
misfit_first_choices fault.Name word is = absurd is

pub no_second_choices : (word : Argument) → ((cs : List Choice) → word ≡ map choice_letter cs → AreChoices cs → ⊥) → (v : OptionValue) → word ≡ value_word v → IsValueOf form.SecondChoices v → ⊥
unfolding IsValueOf value_word
no_second_choices word unread (value.SecondChoices cs) e is = unread cs e is
no_second_choices word unread _ e is = absurd is

pub misfit_second_choices : (f : SettingFault) (word : Argument) → ForMisfit f ((cs : List Choice) → word ≡ map choice_letter cs → AreChoices cs → ⊥) → ForMisfit f ((v : OptionValue) → word ≡ value_word v → IsValueOf form.SecondChoices v → ⊥)
misfit_second_choices fault.Value word is = no_second_choices word is
misfit_second_choices fault.OutOfMemory word is = tt
misfit_second_choices fault.Name word is = absurd is

-- the same for a value that may be missing
pub misfit_value : (f : SettingFault) (form' : ValueForm) (word : Bor Argument) → ForMisfit f ((v : OptionValue) → word.now ≡ value_word v → IsValueOf form' v → ⊥)
    → ForMisfit f ((v : Option OptionValue) → AreWordsOf (Some word) v → IsSetTo (Some form') v → ⊥)
unfolding IsSetTo value_words
misfit_value fault.Value form' word is = by
  where
    by : (v : Option OptionValue) → AreWordsOf (Some word) v → IsSetTo (Some form') v → ⊥
    by None are set = absurd set
    by (Some v) (inl none) set = let n : 1 ≡ 0 = ap length none in absurd (omega (arith, n))
    by (Some v) (inr one) set = is v (sym (ap (λ ws. get_or ws 0 []) one)) set
misfit_value fault.OutOfMemory form' word is = tt
misfit_value fault.Name form' word is = absurd is

pub missing_value : (form' : ValueForm) (v : Option OptionValue) → AreWordsOf None v → IsSetTo (Some form') v → ⊥
unfolding IsSetTo value_words
missing_value form' None are set = absurd set
missing_value form' (Some v) (inl none) set = let n : 1 ≡ 0 = ap length none in absurd (omega (arith, n))
missing_value form' (Some v) (inr one) set = absurd one

-- of one form, the next word gives one value
pub one_read : (f : Option ValueForm) (next : Option (Bor Argument)) (v w : Option OptionValue) → IsSmall f → AreWordsOf next v → AreWordsOf next w → IsSetTo f v → IsSetTo f w → v ≡ w
unfolding IsSetTo value_words
one_read None next None None small a b p q = refl
one_read None next None (Some w) small a b p q = absurd q
one_read None next (Some v) w small a b p q = absurd p
one_read (Some f) next None w small a b p q = absurd p
one_read (Some f) next (Some v) None small a b p q = absurd q
one_read (Some f) next (Some v) (Some w) small (inl none) b p q = let n : 1 ≡ 0 = ap length none in absurd (omega (arith, n))
one_read (Some f) next (Some v) (Some w) small (inr one) (inl none) p q = let n : 1 ≡ 0 = ap length none in absurd (omega (arith, n))
one_read (Some f) None (Some v) (Some w) small (inr one) (inr two) p q = absurd one
one_read (Some f) (Some word) (Some v) (Some w) small (inr one) (inr two) p q =
    ap (λ x. Some x) (one_value f v w small p q (ap (λ ws. get_or ws 0 []) (one ∙ sym two)))
