-- What lists of words say, command by command.
use Rattle.std.proofs.Common.{◌≡◌, ℕ, ◌<◌, ◌++◌, length, take, drop, get_or, arith, sym, ◌∙◌, ap, subst, List, [], ◌∷◌, suc, refl, Contains}
use Rattle.std.specs.Fmt.{decimal}
use Rattle.std.proofs.lemmas.Fmt.{decimal_injective}
use Rattle.std.proofs.lemmas.List.{append-nil}
use Rattle.keyd_words.specs.declared.plan.MakeOptions.{MakeOptions}
use Rattle.keyd_words.specs.declared.plan.Plan.{Plan}
use Rattle.keyd_words.specs.declared.plan.Plan.TheVariants.{Create, Step, Run, Drill, Recover, Report, Make}
use Rattle.keyd_words.specs.declared.setting.OptionSetting.{OptionSetting}
use Rattle.keyd_words.specs.declared.command.Command.{Command}
use Rattle.keyd_words.specs.declared.command.Command.TheVariants as command
use Rattle.keyd_words.specs.declared.draft.Draft.{Draft}
use Rattle.keyd_words.specs.Drafts.{TellsOptions, IsDraftOf}
use Rattle.keyd_words.specs.Plans.{key_plan, create_plan, step_plan, run_plan, drill_plan}
use Rattle.keyd_words.specs.Settings.{settings_words}
use Rattle.keyd_words.specs.Values.{value_words}
use Rattle.keyd_words.specs.Table.{Argument, command_word}
use Rattle.keyd_words.specs.Words.{IsListOf, IsListFor, Asks, AsksToMake, Says, IsValid, BeginsList, IsUsageAt, StartsWith, IsWordsFault}
use Rattle.keyd_words.specs.declared.fault.WordsFault.{WordsFault}
use Rattle.keyd_words.specs.declared.fault.WordsFault.TheVariants as fault
use Rattle.keyd_words.proofs.SettingLemmas.{split_words}
use Rattle.keyd_words.proofs.TableLemmas.{command_word-injective}
use Rattle.keyd_words.proofs.UsageLemmas.{usage_as}
use Rattle.keyd_words.proofs.MakeLemmas.{IsMake}

-- the command of a plan
abbrev pub command_of : Plan → Command
command_of (Create p) = command.Create
command_of (Step p) = command.Step
command_of (Run p) = command.Run
command_of (Drill p) = command.Drill
command_of (Recover p) = command.Recover
command_of (Report p) = command.Report
command_of (Make p) = command.Make

-- the lists of a command
abbrev pub IsListWith : Command → List Argument → Type 0
IsListWith command.Make words = IsMake words
IsListWith c words = IsListFor c words

asked_start : (built : List Command) (words : List Argument) (c : Command) (Are : List OptionSetting → Type 0) → Asks built words c Are → StartsWith c words
asked_start built words c Are asks = (settings_words asks.settings, asks.list.written)

pub said_start : (built : List Command) (words : List Argument) (p : Plan) → Says built words p → StartsWith (command_of p) words
unfolding Says
said_start built words (Create p) says = asked_start built words command.Create (λ ss. p ≡ create_plan ss) says
said_start built words (Step p) says = asked_start built words command.Step (λ ss. p ≡ step_plan ss) says
said_start built words (Run p) says = asked_start built words command.Run (λ ss. p ≡ run_plan ss) says
said_start built words (Drill p) says = asked_start built words command.Drill (λ ss. p ≡ drill_plan ss) says
said_start built words (Recover p) says = asked_start built words command.Recover (λ ss. p ≡ key_plan ss) says
said_start built words (Report p) says = asked_start built words command.Report (λ ss. p ≡ key_plan ss) says
said_start built words (Make p) says = (decimal p.number ∷ decimal p.count ∷ [], says.1.written)

pub said_known : (built : List Command) (words : List Argument) (p : Plan) → Says built words p → Contains built (command_of p)
unfolding Says
said_known built words (Create p) says = says.known
said_known built words (Step p) says = says.known
said_known built words (Run p) says = says.known
said_known built words (Drill p) says = says.known
said_known built words (Recover p) says = says.known
said_known built words (Report p) says = says.known
said_known built words (Make p) says = says.0

said_list : (built : List Command) (words : List Argument) (p : Plan) → Says built words p → IsListWith (command_of p) words
unfolding Says
said_list built words (Create p) says = (says.settings, says.list)
said_list built words (Step p) says = (says.settings, says.list)
said_list built words (Run p) says = (says.settings, says.list)
said_list built words (Drill p) says = (says.settings, says.list)
said_list built words (Recover p) says = (says.settings, says.list)
said_list built words (Report p) says = (says.settings, says.list)
said_list built words (Make p) says = (p, says.1)

-- one command begins a list
pub one_start : (c d : Command) (words : List Argument) → StartsWith c words → StartsWith d words → c ≡ d
one_start c d words p q = command_word-injective c d (ap (λ ws. get_or ws 0 []) (sym p.1 ∙ q.1))

-- a valid list is one of its command's
pub listed : (built : List Command) (c : Command) (words : List Argument) → StartsWith c words → IsValid built words → IsListWith c words
listed built c words starts valid = subst (λ d. IsListWith d words) (one_start (command_of valid.0) c words (said_start built words valid.0 valid.1) starts) (said_list built words valid.0 valid.1)

pub valid_of : (built : List Command) (c : Command) (words : List Argument) → Contains built c → IsListWith c words → IsValid built words
unfolding Says
valid_of built command.Create words known list = (Create (create_plan list.0), record { known = known; settings = list.0; list = list.1; are = refl })
valid_of built command.Step words known list = (Step (step_plan list.0), record { known = known; settings = list.0; list = list.1; are = refl })
valid_of built command.Run words known list = (Run (run_plan list.0), record { known = known; settings = list.0; list = list.1; are = refl })
valid_of built command.Drill words known list = (Drill (drill_plan list.0), record { known = known; settings = list.0; list = list.1; are = refl })
valid_of built command.Recover words known list = (Recover (key_plan list.0), record { known = known; settings = list.0; list = list.1; are = refl })
valid_of built command.Report words known list = (Report (key_plan list.0), record { known = known; settings = list.0; list = list.1; are = refl })
valid_of built command.Make words known list = (Make list.0, (known, list.1))

-- where a command's lists end, all lists do
pub usage_of : (built : List Command) (c : Command) (words : List Argument) (i : ℕ) → Contains built c → StartsWith c words → IsUsageAt (IsListWith c) words i → IsUsageAt (IsValid built) words i
usage_of built c words i known starts usage =
    let rest = starts.0 in
    let there : IsUsageAt (IsListWith c) (command_word c ∷ rest) i = subst (λ ws. IsUsageAt (IsListWith c) ws i) starts.1 usage in
    subst (λ ws. IsUsageAt (IsValid built) ws i) (sym starts.1)
    (usage_as (IsListWith c) (IsValid built) (command_word c) rest i (λ more list. valid_of built c (command_word c ∷ more) known list) (λ more valid. listed built c (command_word c ∷ more) (more, refl) valid) there)

-- no command that is built begins the words
pub usage_unknown : (built : List Command) (words : List Argument) → ((c : Command) → Contains built c → StartsWith c words → ⊥) → IsUsageAt (IsValid built) words 0
usage_unknown built words unknown = record {
  within = omega arith;
  least = λ j low. absurd (omega (arith, low));
  refused = λ low begun. by words begun unknown low;
  faulty = λ valid. unknown (command_of valid.0) (said_known built words valid.0 valid.1) (said_start built words valid.0 valid.1);
}
  where
    by : (ws : List Argument) → BeginsList (IsValid built) (take 1 ws) → ((c : Command) → Contains built c → StartsWith c ws → ⊥) → 0 < length ws → ⊥
    by [] begun none low = omega (arith, low)
    by (w ∷ ws) begun none low =
        let valid = begun.1 in
        let start = said_start built (w ∷ begun.0) valid.0 valid.1 in
        none (command_of valid.0) (said_known built (w ∷ begun.0) valid.0 valid.1) (ws, ap (λ x. x ∷ ws) (ap (λ xs. get_or xs 0 []) start.1))

-- One plan

-- the options of a list are the only ones
pub one_list : (c : Command) (words : List Argument) (ss ts : List OptionSetting) → IsListOf c words ss → IsListOf c words ts → ss ≡ ts
one_list c words ss ts p q =
    let same : settings_words ts ≡ settings_words ss = ap (λ ws. drop 1 ws) (sym q.written ∙ p.written) in
    by (split_words c c ss ts [] p.whole.allowed.taken q.whole.allowed.taken (same ∙ sym (append-nil (settings_words ss))))
  where
    by : ((rest : List OptionSetting) × (ts ≡ ss ++ rest) × (settings_words rest ≡ [])) → ss ≡ ts
    by ([], is, none) = sym (is ∙ append-nil ss)
    by (s ∷ rest, is, none) = let n : suc (length (value_words s.value ++ settings_words rest)) ≡ 0 = ap length none in absurd (omega (arith, n))

one_asked : {P : Type 0} (built : List Command) (words : List Argument) (c : Command) (plan : List OptionSetting → P) (p q : P) → Asks built words c (λ ss. p ≡ plan ss) → Asks built words c (λ ss. q ≡ plan ss) → q ≡ p
one_asked built words c plan p q a b = b.are ∙ ap plan (one_list c words b.settings a.settings b.list a.list) ∙ sym a.are

one_make : (words : List Argument) (p q : MakeOptions) → AsksToMake words p → AsksToMake words q → q ≡ p
one_make words p q a b =
    let same = sym b.written ∙ a.written in
    let number = decimal_injective q.number p.number b.number_to a.number_to (ap (λ ws. get_or ws 1 []) same) in
    let count = decimal_injective q.count p.count (omega (arith, b.count_to)) (omega (arith, a.count_to)) (ap (λ ws. get_or ws 2 []) same) in
    let mk : ℕ → ℕ → MakeOptions = λ n k. record { number = n; count = k } in
    ap (λ n. mk n q.count) number ∙ ap (λ k. mk p.number k) count

same_plan : (built : List Command) (words : List Argument) (p q : Plan) → command_of p ≡ command_of q → Says built words p → Says built words q → q ≡ p
unfolding Says
same_plan built words (Create p) (Create q) e a b = ap (λ x. Create x) (one_asked built words command.Create create_plan p q a b)
same_plan built words (Step p) (Step q) e a b = ap (λ x. Step x) (one_asked built words command.Step step_plan p q a b)
same_plan built words (Run p) (Run q) e a b = ap (λ x. Run x) (one_asked built words command.Run run_plan p q a b)
same_plan built words (Drill p) (Drill q) e a b = ap (λ x. Drill x) (one_asked built words command.Drill drill_plan p q a b)
same_plan built words (Recover p) (Recover q) e a b = ap (λ x. Recover x) (one_asked built words command.Recover key_plan p q a b)
same_plan built words (Report p) (Report q) e a b = ap (λ x. Report x) (one_asked built words command.Report key_plan p q a b)
same_plan built words (Make p) (Make q) e a b = ap (λ x. Make x) (one_make words p q a.1 b.1)
same_plan built words (Create p) _ e a b = cc e
same_plan built words (Step p) _ e a b = cc e
same_plan built words (Run p) _ e a b = cc e
same_plan built words (Drill p) _ e a b = cc e
same_plan built words (Recover p) _ e a b = cc e
same_plan built words (Report p) _ e a b = cc e
same_plan built words (Make p) _ e a b = cc e

-- words say one plan
pub one_plan : (built : List Command) (words : List Argument) (p q : Plan) → Says built words p → Says built words q → q ≡ p
one_plan built words p q a b = same_plan built words p q (one_start (command_of p) (command_of q) words (said_start built words p a) (said_start built words q b)) a b

-- What a command's options are refused for

pub words_fault : (built : List Command) (c : Command) (words : List Argument) (f : WordsFault) → Contains built c → StartsWith c words → IsWordsFault (IsListWith c) words f → IsWordsFault (IsValid built) words f
words_fault built c words (fault.Usage i) known starts is = usage_of built c words i known starts is
words_fault built c words fault.OutOfMemory known starts is = tt

-- what a draft asks for
pub asked : {P : Type 0} (built : List Command) (c d : Command) (words : List Argument) (draft : Draft) (plan : List OptionSetting → P) (p : P) → c ≡ d → Contains built c → IsDraftOf c words draft → ((ss : List OptionSetting) → TellsOptions draft ss → p ≡ plan ss) → Asks built words d (λ ss. p ≡ plan ss)
asked built c d words draft plan p same known is told = record {
  known = subst (Contains built) same known;
  settings = is.settings;
  list = subst (λ e. IsListOf e words is.settings) same is.list;
  are = told is.settings is.tells;
}
