-- What is asked for is within the bounds of the table.
use Rattle.std.proofs.Common.{◌≡◌, ℕ, ◌≤◌, length, arith, sym, ◌∙◌, ap, subst, inl, inr, List, [], ◌∷◌, zero, suc, refl, All, Option, Some, None, MatchOption, unwrap_or, true, if◌then◌else◌}
use Rattle.std.specs.List.{cons_option}
use Rattle.std.specs.Str.{bytes_eq}
use Rattle.std.proofs.lemmas.Slice.Eq.{bytes_eq-Decides}
use Rattle.std.proofs.lemmas.Bool.{cases_Bool}
use Rattle.disk_model.specs.declared.calls.Choice.{Choice}
use Rattle.keyd_words.specs.declared.command.Command.{Command}
use Rattle.keyd_words.specs.declared.command.Command.TheVariants as command
use Rattle.keyd_words.specs.declared.table.OptionName.{OptionName}
use Rattle.keyd_words.specs.declared.table.OptionName.TheVariants as name
use Rattle.keyd_words.specs.declared.table.ValueForm.{ValueForm}
use Rattle.keyd_words.specs.declared.table.ValueForm.TheVariants as form
use Rattle.keyd_words.specs.declared.value.OptionValue.{OptionValue}
use Rattle.keyd_words.specs.declared.value.OptionValue.TheVariants as value
use Rattle.keyd_words.specs.declared.setting.OptionSetting.{OptionSetting}
use Rattle.keyd_words.specs.declared.plan.Plan.{Plan}
use Rattle.keyd_words.specs.declared.plan.Plan.TheVariants.{Create, Step, Run, Drill, Recover, Report, Make}
use Rattle.keyd_words.specs.Table.{Argument, row_of, needs, is_needed, use_by}
use Rattle.keyd_words.specs.Values.{IsSetTo, IsValueOf, IsNewSpace, AreChoices}
use Rattle.keyd_words.specs.Settings.{space_in_value, spaces_of, IsTakenBy, AreAllOptionsOf}
use Rattle.keyd_words.specs.Plans.{first_of_two, last_found, number_for, number_set, first_choices_in_value, first_choices_set, second_choices_in_value, second_choices_set, file_names, key_plan, create_plan, step_plan, run_plan, crash_plan, second_plan, drill_plan}
use Rattle.keyd_words.specs.Words.{Says}
use Rattle.keyd_words.specs.Limits.{IsFrom, IsFromIfSome, IsKeyPlan, IsStorePlan, IsStepPlan, IsRunPlan, IsCrashPlan, IsDrillPlan, IsWithinLimits}
use Rattle.keyd_words.proofs.TableLemmas.{word-injective}
use Rattle.keyd_words.proofs.SettingLemmas.{some_or_none, head_of, tail_of, all_none, taken_space}
use Rattle.keyd_words.proofs.CountLemmas.{file_count, space_count, few_files, few_spaces}

all_cons : {X : Type 0} (P : X → Type 0) (x : X) (xs : List X) → P x → All P xs → All P (x ∷ xs)
all_cons P x xs p all zero d low = p
all_cons P x xs p all (suc k) d low = all k d (omega (arith, low))

-- what is said where there is a value
abbrev pub IfThere : {Y : Type 0} → (Y → Type 0) → Option Y → Type 0
IfThere P o = MatchOption o (Unit {0}) P

either_there : {Y : Type 0} (P : Y → Type 0) (a b : Option Y) → IfThere P a → IfThere P b → IfThere P (first_of_two a b)
either_there P (Some x) b p q = p
either_there P None b p q = q

-- the last answer has what each has
last_has : {X Y : Type 0} (Q : X → Type 0) (P : Y → Type 0) (f : X → Option Y) → ((x : X) → Q x → IfThere P (f x)) → (xs : List X) → All Q xs → IfThere P (last_found f xs)
unfolding last_found
last_has Q P f each [] all = tt
last_has Q P f each (x ∷ xs) all = either_there P (last_found f xs) (f x) (last_has Q P f each xs (tail_of Q x xs all)) (each x (head_of Q x xs all))

bounded : (low high n : ℕ) (f g : OptionName) → (row_of f).form ≡ Some (form.Number low high) → IsSetTo (row_of g).form (Some (value.Number n)) → IsFromIfSome low high (if bytes_eq (row_of g).word (row_of f).word then Some n else None)
unfolding IsSetTo IsValueOf
bounded low high n f g is set =
    elim (cases_Bool (bytes_eq (row_of g).word (row_of f).word)) [
      | inl equal ↦ let same : g ≡ f = word-injective g f ((bytes_eq-Decides (row_of g).word (row_of f).word).0 equal) in
          let range : IsSetTo (Some (form.Number low high)) (Some (value.Number n)) = subst (λ x. IsSetTo x (Some (value.Number n))) (ap (λ h. (row_of h).form) same ∙ is) set in
          subst (λ b. IsFromIfSome low high (if b then Some n else None)) (sym equal) range
      | inr unlike ↦ subst (λ b. IsFromIfSome low high (if b then Some n else None)) (sym unlike) tt
    ]

number_bounded : (low high : ℕ) (f g : OptionName) (v : Option OptionValue) → (row_of f).form ≡ Some (form.Number low high) → IsSetTo (row_of g).form v → IsFromIfSome low high (number_for f g v)
unfolding number_for
number_bounded low high f g (Some (value.Number n)) is set = bounded low high n f g is set
number_bounded low high f g None is set = tt
number_bounded low high f g (Some (value.FileName x)) is set = tt
number_bounded low high f g (Some (value.FileKey x)) is set = tt
number_bounded low high f g (Some (value.Digest x)) is set = tt
number_bounded low high f g (Some (value.Algorithm x)) is set = tt
number_bounded low high f g (Some (value.Space x)) is set = tt
number_bounded low high f g (Some (value.FirstChoices x)) is set = tt
number_bounded low high f g (Some (value.SecondChoices x)) is set = tt

-- the number that an option is set to is one of its form
number_within : (c : Command) (ss : List OptionSetting) (f : OptionName) (low high : ℕ) → (row_of f).form ≡ Some (form.Number low high) → All (IsTakenBy c) ss → IsFromIfSome low high (number_set f ss)
number_within c ss f low high is all = last_has (IsTakenBy c) (IsFrom low high) (λ (s : OptionSetting). number_for f s.name s.value) (λ s taken. number_bounded low high f s.name s.value is taken.set) ss all

first_bounded : (f : Option ValueForm) (v : Option OptionValue) → IsSetTo f v → IfThere AreChoices (first_choices_in_value v)
unfolding IsSetTo IsValueOf first_choices_in_value
first_bounded (Some form.FirstChoices) (Some (value.FirstChoices cs)) set = set
first_bounded (Some form.FileName) (Some (value.FirstChoices cs)) set = absurd set
first_bounded (Some form.FileKey) (Some (value.FirstChoices cs)) set = absurd set
first_bounded (Some (form.Number low high)) (Some (value.FirstChoices cs)) set = absurd set
first_bounded (Some form.Digest) (Some (value.FirstChoices cs)) set = absurd set
first_bounded (Some form.Algorithm) (Some (value.FirstChoices cs)) set = absurd set
first_bounded (Some form.Space) (Some (value.FirstChoices cs)) set = absurd set
first_bounded (Some form.SecondChoices) (Some (value.FirstChoices cs)) set = absurd set
first_bounded None (Some (value.FirstChoices cs)) set = absurd set
first_bounded f None set = tt
first_bounded f (Some (value.FileName x)) set = tt
first_bounded f (Some (value.FileKey x)) set = tt
first_bounded f (Some (value.Number x)) set = tt
first_bounded f (Some (value.Digest x)) set = tt
first_bounded f (Some (value.Algorithm x)) set = tt
first_bounded f (Some (value.Space x)) set = tt
first_bounded f (Some (value.SecondChoices x)) set = tt

second_bounded : (f : Option ValueForm) (v : Option OptionValue) → IsSetTo f v → IfThere AreChoices (second_choices_in_value v)
unfolding IsSetTo IsValueOf second_choices_in_value
second_bounded (Some form.SecondChoices) (Some (value.SecondChoices cs)) set = set
second_bounded (Some form.FileName) (Some (value.SecondChoices cs)) set = absurd set
second_bounded (Some form.FileKey) (Some (value.SecondChoices cs)) set = absurd set
second_bounded (Some (form.Number low high)) (Some (value.SecondChoices cs)) set = absurd set
second_bounded (Some form.Digest) (Some (value.SecondChoices cs)) set = absurd set
second_bounded (Some form.Algorithm) (Some (value.SecondChoices cs)) set = absurd set
second_bounded (Some form.Space) (Some (value.SecondChoices cs)) set = absurd set
second_bounded (Some form.FirstChoices) (Some (value.SecondChoices cs)) set = absurd set
second_bounded None (Some (value.SecondChoices cs)) set = absurd set
second_bounded f None set = tt
second_bounded f (Some (value.FileName x)) set = tt
second_bounded f (Some (value.FileKey x)) set = tt
second_bounded f (Some (value.Number x)) set = tt
second_bounded f (Some (value.Digest x)) set = tt
second_bounded f (Some (value.Algorithm x)) set = tt
second_bounded f (Some (value.Space x)) set = tt
second_bounded f (Some (value.FirstChoices x)) set = tt

-- a number or what stands in its place
or_within : (low high n : ℕ) (o : Option ℕ) → IsFromIfSome low high o → IsFrom low high n → IsFrom low high (unwrap_or o n)
or_within low high n (Some k) is there = is
or_within low high n None is there = there

crash_within : (stop : Option ℕ) (choices : Option (List Choice)) → IsFromIfSome 1 1000000 stop → IfThere AreChoices choices → IsCrashPlan (crash_plan stop choices)
unfolding crash_plan
crash_within stop (Some cs) s c = record { stop = s; choices = c }
crash_within stop None s c = record { stop = s; choices = (omega arith, omega arith) }

second_within : (stop : Option ℕ) (choices : Option (List Choice)) → IsFromIfSome 1 1000000 stop → IfThere AreChoices choices → IfThere IsCrashPlan (second_plan stop choices)
unfolding second_plan
second_within None None s c = tt
second_within (Some n) None s c = crash_within (Some n) None s c
second_within (Some n) (Some cs) s c = crash_within (Some n) (Some cs) s c
second_within None (Some cs) s c = crash_within None (Some cs) s c

-- each tablespace is within its bounds
spaces_within : (c : Command) (ss : List OptionSetting) → All (IsTakenBy c) ss → All IsNewSpace (spaces_of ss)
spaces_within c [] all = all_none IsNewSpace
spaces_within c (s ∷ ss) all =
    let rest = spaces_within c ss (tail_of (IsTakenBy c) s ss all) in
    elim (some_or_none (space_in_value s.value)) [
      | inl found ↦ subst (λ o. All IsNewSpace (cons_option o (spaces_of ss))) (sym found.1) (all_cons IsNewSpace found.0 (spaces_of ss) (taken_space c s found.0 (head_of (IsTakenBy c) s ss all) found.1).1 rest)
      | inr absent ↦ subst (λ o. All IsNewSpace (cons_option o (spaces_of ss))) (sym absent) rest
    ]

-- The plans of whole lists

keys_within : (c : Command) (ss : List OptionSetting) → needs name.KeyFile c ≡ true → AreAllOptionsOf c ss → IsKeyPlan (key_plan ss)
unfolding row_of
keys_within c ss needed are =
    let files : IsFrom 1 64 (length (file_names ss)) = (omega (arith, file_count c ss are.allowed.taken, are.needed name.KeyFile needed), few_files c ss are.allowed) in
    record { files = files; active = or_within 1 4294967295 (length (file_names ss)) (number_set name.Active ss) (number_within c ss name.Active 1 4294967295 refl are.allowed.taken) (files.0, omega (arith, files.1)) }

store_within : (c : Command) (ss : List OptionSetting) → needs name.KeyFile c ≡ true → needs name.Space c ≡ true → AreAllOptionsOf c ss → IsStorePlan (create_plan ss)
unfolding row_of
store_within c ss keyed spaced are = record {
  keys = keys_within c ss keyed are;
  spaces = (omega (arith, space_count c ss are.allowed.taken, are.needed name.Space spaced), few_spaces c ss are.allowed);
  each = spaces_within c ss are.allowed.taken;
  differ = are.allowed.differ;
  fit = are.allowed.fit;
  log = or_within 32 4096 256 (number_set name.Log ss) (number_within c ss name.Log 32 4096 refl are.allowed.taken) (omega arith, omega arith);
}

age_within : (c : Command) (ss : List OptionSetting) → AreAllOptionsOf c ss → unwrap_or (number_set name.Age ss) 1 ≤ 2147483648
unfolding row_of
age_within c ss are = (or_within 0 2147483648 1 (number_set name.Age ss) (number_within c ss name.Age 0 2147483648 refl are.allowed.taken) (omega arith, omega arith)).1

step_within : (c : Command) (ss : List OptionSetting) → needs name.KeyFile c ≡ true → AreAllOptionsOf c ss → IsStepPlan (step_plan ss)
step_within c ss keyed are = record { keys = keys_within c ss keyed are; age = age_within c ss are }

run_within : (c : Command) (ss : List OptionSetting) → needs name.KeyFile c ≡ true → AreAllOptionsOf c ss → IsRunPlan (run_plan ss)
unfolding row_of
run_within c ss keyed are = record {
  step = step_within c ss keyed are;
  flushers = or_within 1 4 1 (number_set name.Flushers ss) (number_within c ss name.Flushers 1 4 refl are.allowed.taken) (omega arith, omega arith);
  rotators = or_within 1 4 1 (number_set name.Rotators ss) (number_within c ss name.Rotators 1 4 refl are.allowed.taken) (omega arith, omega arith);
}

drill_within : (c : Command) (ss : List OptionSetting) → needs name.KeyFile c ≡ true → needs name.Space c ≡ true → AreAllOptionsOf c ss → IsDrillPlan (drill_plan ss)
unfolding row_of
drill_within c ss keyed spaced are =
    let taken = are.allowed.taken in
    let first : IfThere AreChoices (first_choices_set ss) = last_has (IsTakenBy c) AreChoices (λ (s : OptionSetting). first_choices_in_value s.value) (λ s is. first_bounded (row_of s.name).form s.value is.set) ss taken in
    let second : IfThere AreChoices (second_choices_set ss) = last_has (IsTakenBy c) AreChoices (λ (s : OptionSetting). second_choices_in_value s.value) (λ s is. second_bounded (row_of s.name).form s.value is.set) ss taken in
    record {
      store = store_within c ss keyed spaced are;
      age = age_within c ss are;
      first = crash_within (number_set name.Stop ss) (first_choices_set ss) (number_within c ss name.Stop 1 1000000 refl taken) first;
      reopen = number_within c ss name.Reopen 1 1000000 refl taken;
      second = second_within (number_set name.Stop2 ss) (second_choices_set ss) (number_within c ss name.Stop2 1 1000000 refl taken) second;
    }

-- what words say is within the limits
pub said_within : (built : List Command) (words : List Argument) (plan : Plan) → Says built words plan → IsWithinLimits plan
unfolding Says IsWithinLimits row_of is_needed use_by
said_within built words (Create p) says = subst IsStorePlan (sym says.are) (store_within command.Create says.settings refl refl says.list.whole)
said_within built words (Step p) says = subst IsStepPlan (sym says.are) (step_within command.Step says.settings refl says.list.whole)
said_within built words (Run p) says = subst IsRunPlan (sym says.are) (run_within command.Run says.settings refl says.list.whole)
said_within built words (Drill p) says = subst IsDrillPlan (sym says.are) (drill_within command.Drill says.settings refl refl says.list.whole)
said_within built words (Recover p) says = subst IsKeyPlan (sym says.are) (keys_within command.Recover says.settings refl says.list.whole)
said_within built words (Report p) says = subst IsKeyPlan (sym says.are) (keys_within command.Report says.settings refl says.list.whole)
said_within built words (Make p) says = record { number = says.1.number_to; count = (says.1.count_from, says.1.count_to) }
