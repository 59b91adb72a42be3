-- What options in a row are set to, with one more of them; and the plan of a draft.
use Rattle.std.proofs.Common.{◌≡◌, ◌++◌, sym, ◌∙◌, ap, List, [], ◌∷◌, refl, Option, Some, None}
use Rattle.std.specs.List.{cons_option}
use Rattle.std.proofs.lemmas.List.{map-append, append-nil}
use Rattle.std.proofs.lemmas.List.Elements.{filter_map-append}
use Rattle.keyd_words.specs.declared.table.OptionName.{OptionName}
use Rattle.keyd_words.specs.declared.table.OptionName.TheVariants as name
use Rattle.keyd_words.specs.declared.draft.NamedNumber.{NamedNumber}
use Rattle.keyd_words.specs.declared.draft.Draft.{Draft}
use Rattle.keyd_words.specs.declared.value.OptionValue.{OptionValue}
use Rattle.keyd_words.specs.declared.value.OptionValue.TheVariants as value
use Rattle.keyd_words.specs.declared.setting.OptionSetting.{OptionSetting}
use Rattle.keyd_words.specs.Settings.{space_in_value}
use Rattle.keyd_words.specs.Plans.{first_of_two, last_found, file_name_in_value, file_key_in_value, digest_in_value, algorithm_in_value, first_choices_in_value, second_choices_in_value, number_for, key_plan, create_plan, step_plan, run_plan, drill_plan}
use Rattle.keyd_words.specs.Drafts.{number_under, number_among, number_named, TellsOptions, keys_drafted, store_drafted, step_drafted, run_drafted, drill_drafted}

first_of_two-assoc : {X : Type 0} (a b c : Option X) → first_of_two (first_of_two a b) c ≡ first_of_two a (first_of_two b c)
first_of_two-assoc (Some x) b c = refl
first_of_two-assoc None b c = refl

first_of_two-none : {X : Type 0} (a : Option X) → first_of_two a None ≡ a
first_of_two-none (Some x) = refl
first_of_two-none None = refl

-- the last answer, with one element more
pub last-push : {X Y : Type 0} (f : X → Option Y) (xs : List X) (x : X) → last_found f (xs ++ (x ∷ [])) ≡ first_of_two (f x) (last_found f xs)
unfolding last_found
last-push f [] x = sym (first_of_two-none (f x))
last-push f (y ∷ ys) x = ap (λ o. first_of_two o (f y)) (last-push f ys x) ∙ first_of_two-assoc (f x) (last_found f ys) (f y)

-- an option's number, added to the numbers with their options' names
named_more : (f g : OptionName) (v : Option OptionValue) (ns : List NamedNumber) → number_among f (ns ++ cons_option (number_named g v) []) ≡ first_of_two (number_for f g v) (number_among f ns)
unfolding number_named number_for
named_more f g (Some (value.Number n)) ns = last-push (number_under f) ns (record { name = g; number = n })
named_more f g None ns = ap (number_among f) (append-nil ns)
named_more f g (Some (value.FileName x)) ns = ap (number_among f) (append-nil ns)
named_more f g (Some (value.FileKey x)) ns = ap (number_among f) (append-nil ns)
named_more f g (Some (value.Digest x)) ns = ap (number_among f) (append-nil ns)
named_more f g (Some (value.Algorithm x)) ns = ap (number_among f) (append-nil ns)
named_more f g (Some (value.Space x)) ns = ap (number_among f) (append-nil ns)
named_more f g (Some (value.FirstChoices x)) ns = ap (number_among f) (append-nil ns)
named_more f g (Some (value.SecondChoices x)) ns = ap (number_among f) (append-nil ns)

-- one option more
pub told_more : (d n : Draft) (ss : List OptionSetting) (s : OptionSetting) → TellsOptions d ss
    → n.names.items ≡ d.names.items ++ (s.name ∷ [])
    → n.key_files ≡ d.key_files ++ cons_option (file_name_in_value s.value) []
    → n.filekey ≡ first_of_two (file_key_in_value s.value) d.filekey
    → n.digest ≡ first_of_two (digest_in_value s.value) d.digest
    → n.algorithm ≡ first_of_two (algorithm_in_value s.value) d.algorithm
    → n.spaces ≡ d.spaces ++ cons_option (space_in_value s.value) []
    → n.first ≡ first_of_two (first_choices_in_value s.value) d.first
    → n.second ≡ first_of_two (second_choices_in_value s.value) d.second
    → n.numbers.items ≡ d.numbers.items ++ cons_option (number_named s.name s.value) []
    → TellsOptions n (ss ++ (s ∷ []))
told_more d n ss s t names files filekey digest algorithm spaces first second numbers =
    let more = s ∷ [] in
    record {
      names = names ∙ ap (λ xs. xs ++ (s.name ∷ [])) t.names ∙ sym (map-append (λ (x : OptionSetting). x.name) ss more);
      key_files = files ∙ ap (λ xs. xs ++ cons_option (file_name_in_value s.value) []) t.key_files ∙ sym (filter_map-append (λ (x : OptionSetting). file_name_in_value x.value) ss more);
      filekey = filekey ∙ ap (first_of_two (file_key_in_value s.value)) t.filekey ∙ sym (last-push (λ (x : OptionSetting). file_key_in_value x.value) ss s);
      digest = digest ∙ ap (first_of_two (digest_in_value s.value)) t.digest ∙ sym (last-push (λ (x : OptionSetting). digest_in_value x.value) ss s);
      algorithm = algorithm ∙ ap (first_of_two (algorithm_in_value s.value)) t.algorithm ∙ sym (last-push (λ (x : OptionSetting). algorithm_in_value x.value) ss s);
      spaces = spaces ∙ ap (λ xs. xs ++ cons_option (space_in_value s.value) []) t.spaces ∙ sym (filter_map-append (λ (x : OptionSetting). space_in_value x.value) ss more);
      first = first ∙ ap (first_of_two (first_choices_in_value s.value)) t.first ∙ sym (last-push (λ (x : OptionSetting). first_choices_in_value x.value) ss s);
      second = second ∙ ap (first_of_two (second_choices_in_value s.value)) t.second ∙ sym (last-push (λ (x : OptionSetting). second_choices_in_value x.value) ss s);
      numbers = λ f. ap (number_among f) numbers ∙ named_more f s.name s.value d.numbers.items ∙ ap (first_of_two (number_for f s.name s.value)) (t.numbers f) ∙ sym (last-push (λ (x : OptionSetting). number_for f x.name x.value) ss s);
    }

-- What a draft asks for is what its options ask for

pub told_keys : (d : Draft) (ss : List OptionSetting) → TellsOptions d ss → keys_drafted d ≡ key_plan ss
told_keys d ss t = rw (t.key_files, t.filekey, t.digest, t.numbers name.Active) refl

pub told_store : (d : Draft) (ss : List OptionSetting) → TellsOptions d ss → store_drafted d ≡ create_plan ss
told_store d ss t = rw (told_keys d ss t, t.spaces, t.algorithm, t.numbers name.Log) refl

pub told_step : (d : Draft) (ss : List OptionSetting) → TellsOptions d ss → step_drafted d ≡ step_plan ss
told_step d ss t = rw (told_keys d ss t, t.names, t.numbers name.Age) refl

pub told_run : (d : Draft) (ss : List OptionSetting) → TellsOptions d ss → run_drafted d ≡ run_plan ss
told_run d ss t = rw (told_step d ss t, t.numbers name.Flushers, t.numbers name.Rotators) refl

pub told_drill : (d : Draft) (ss : List OptionSetting) → TellsOptions d ss → drill_drafted d ≡ drill_plan ss
told_drill d ss t = rw (told_store d ss t, t.first, t.second, t.numbers name.Age, t.numbers name.Stop, t.numbers name.Reopen, t.numbers name.Stop2) refl
