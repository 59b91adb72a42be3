-- How many values of a form options in a row have.
use Rattle.std.proofs.Common.{◌≡◌, ◌≢◌, ◌≤◌, length, arith, sym, ◌∙◌, ap, subst, inl, inr, List, [], ◌∷◌, suc, refl, All, Option, Some, None}
use Rattle.std.specs.List.{filter_map, cons_option}
use Rattle.keyd_words.specs.declared.command.Command.{Command}
use Rattle.keyd_words.specs.declared.table.OptionName.{OptionName}
use Rattle.keyd_words.specs.declared.table.OptionName.TheVariants.{KeyFile, FileKey, Digest, Space, Log, Algorithm, Active, Age, Binlog, Flushers, Rotators, Stop, Choice, Reopen, Stop2, Choice2}
use Rattle.keyd_words.specs.declared.table.ValueForm.{ValueForm}
use Rattle.keyd_words.specs.declared.table.ValueForm.TheVariants as form
use Rattle.keyd_words.specs.declared.value.OptionValue.{OptionValue}
use Rattle.keyd_words.specs.declared.value.OptionValue.TheVariants as value
use Rattle.keyd_words.specs.declared.setting.OptionSetting.{OptionSetting}
use Rattle.keyd_words.specs.Table.{Argument, row_of}
use Rattle.keyd_words.specs.Values.{IsSetTo, IsValueOf}
use Rattle.keyd_words.specs.Settings.{times_set, space_in_value, spaces_of, IsTakenBy, AreOptionsOf}
use Rattle.keyd_words.specs.Plans.{file_name_in_value, file_names}
use Rattle.keyd_words.proofs.ValueLemmas.{set_space}
use Rattle.keyd_words.proofs.SettingLemmas.{times-cons, times_same, times_other, some_or_none, head_of, tail_of, taken_space}

-- values that exactly the options of one name have
pub counted : {Y : Type 0} (c : Command) (f : OptionName) (h : Option OptionValue → Option Y) → ((s : OptionSetting) → IsTakenBy c s → s.name ≡ f → (y : Y) × (h s.value ≡ Some y))
    → ((s : OptionSetting) → IsTakenBy c s → (y : Y) → h s.value ≡ Some y → s.name ≡ f) → (ss : List OptionSetting) → All (IsTakenBy c) ss
    → length (filter_map (λ (s : OptionSetting). h s.value) ss) ≡ times_set f ss
counted c f h has only [] all = refl
counted c f h has only (s ∷ ss) all =
    let rest = counted c f h has only ss (tail_of (IsTakenBy c) s ss all) in
    let taken = head_of (IsTakenBy c) s ss all in
    let split = times-cons f s ss in
    let behind = filter_map (λ (t : OptionSetting). h t.value) ss in
    elim (some_or_none (h s.value)) [
      | inl found ↦ let n : length (cons_option (h s.value) behind) ≡ suc (length behind) = ap (λ o. length (cons_option o behind)) found.1 in
          omega (arith, n, rest, split, times_same f s (only s taken found.0 found.1))
      | inr absent ↦ let n : length (cons_option (h s.value) behind) ≡ length behind = ap (λ o. length (cons_option o behind)) absent in
          let other : s.name ≢ f = λ e. let some = has s taken e in let both : None ≡ Some some.0 = sym absent ∙ some.1 in cc both in
          omega (arith, n, rest, split, times_other f s other)
    ]

only_file : (f : OptionName) → (row_of f).form ≡ Some form.FileName → f ≡ KeyFile
unfolding row_of
only_file KeyFile e = refl
only_file FileKey e = cc
only_file Digest e = cc
only_file Space e = cc
only_file Log e = cc
only_file Algorithm e = cc
only_file Active e = cc
only_file Age e = cc
only_file Binlog e = cc
only_file Flushers e = cc
only_file Rotators e = cc
only_file Stop e = cc
only_file Choice e = cc
only_file Reopen e = cc
only_file Stop2 e = cc
only_file Choice2 e = cc

file_set : (f : Option ValueForm) (v : Option OptionValue) (t : Argument) → IsSetTo f v → file_name_in_value v ≡ Some t → f ≡ Some form.FileName
unfolding IsSetTo IsValueOf file_name_in_value
file_set (Some form.FileName) (Some (value.FileName y)) t p e = refl
file_set (Some form.FileKey) (Some (value.FileName y)) t p e = absurd p
file_set (Some (form.Number low high)) (Some (value.FileName y)) t p e = absurd p
file_set (Some form.Digest) (Some (value.FileName y)) t p e = absurd p
file_set (Some form.Algorithm) (Some (value.FileName y)) t p e = absurd p
file_set (Some form.Space) (Some (value.FileName y)) t p e = absurd p
file_set (Some form.FirstChoices) (Some (value.FileName y)) t p e = absurd p
file_set (Some form.SecondChoices) (Some (value.FileName y)) t p e = absurd p
file_set None (Some (value.FileName y)) t p e = absurd p
file_set f None t p e = cc e
file_set f (Some (value.FileKey x)) t p e = cc e
file_set f (Some (value.Number x)) t p e = cc e
file_set f (Some (value.Digest x)) t p e = cc e
file_set f (Some (value.Algorithm x)) t p e = cc e
file_set f (Some (value.Space x)) t p e = cc e
file_set f (Some (value.FirstChoices x)) t p e = cc e
file_set f (Some (value.SecondChoices x)) t p e = cc e

set_file : (v : Option OptionValue) → IsSetTo (Some form.FileName) v → (t : Argument) × (file_name_in_value v ≡ Some t)
unfolding IsSetTo IsValueOf file_name_in_value
set_file (Some (value.FileName t)) p = (t, refl)
set_file None p = absurd p
set_file (Some (value.FileKey x)) p = absurd p
set_file (Some (value.Number x)) p = absurd p
set_file (Some (value.Digest x)) p = absurd p
set_file (Some (value.Algorithm x)) p = absurd p
set_file (Some (value.Space x)) p = absurd p
set_file (Some (value.FirstChoices x)) p = absurd p
set_file (Some (value.SecondChoices x)) p = absurd p

form_at : (c : Command) (f : OptionName) (form' : Option ValueForm) → (row_of f).form ≡ form' → (s : OptionSetting) → IsTakenBy c s → s.name ≡ f → IsSetTo form' s.value
form_at c f form' is s taken same = subst (λ x. IsSetTo x s.value) (ap (λ g. (row_of g).form) same ∙ is) taken.set

file_form : (row_of KeyFile).form ≡ Some form.FileName
unfolding row_of
file_form = refl

space_form : (row_of Space).form ≡ Some form.Space
unfolding row_of
space_form = refl

pub file_count : (c : Command) (ss : List OptionSetting) → All (IsTakenBy c) ss → length (file_names ss) ≡ times_set KeyFile ss
file_count c ss all =
    counted c KeyFile file_name_in_value (λ s taken same. set_file s.value (form_at c KeyFile (Some form.FileName) file_form s taken same))
    (λ s taken t found. only_file s.name (file_set (row_of s.name).form s.value t taken.set found)) ss all

pub space_count : (c : Command) (ss : List OptionSetting) → All (IsTakenBy c) ss → length (spaces_of ss) ≡ times_set Space ss
space_count c ss all =
    counted c Space space_in_value (λ s taken same. set_space s.value (form_at c Space (Some form.Space) space_form s taken same))
    (λ s taken x found. (taken_space c s x taken found).0) ss all

pub few_files : (c : Command) (ss : List OptionSetting) → AreOptionsOf c ss → length (file_names ss) ≤ 64
unfolding row_of
few_files c ss are = omega (arith, file_count c ss are.taken, are.limits KeyFile)

pub few_spaces : (c : Command) (ss : List OptionSetting) → AreOptionsOf c ss → length (spaces_of ss) ≤ 16
unfolding row_of
few_spaces c ss are = omega (arith, space_count c ss are.taken, are.limits Space)
