use Rattle.std.proofs.Common.{rules, ◌≡◌, ◌≤◌, ◌++◌, length, map, string_bytes, arith, sym, ◌∙◌, subst, [], ◌∷◌, true, false, is_some}
use Rattle.std.proofs.lemmas.List.{length-map}
use Rattle.keyd_words.specs.Settings.{names_of, spaces_of, HasNeeded, IsSettingFault, MayFollow}
use Rattle.keyd_words.specs.declared.fault.SettingFault.TheVariants as fault
use Rattle.keyd_words.proofs.AllowedLemmas.{none_allowed, allowed_more}
use Rattle.keyd_words.proofs.PlanLemmas.{told_more}
use Rattle.keyd_words.proofs.ReadLemmas.{word_is, usage_name, usage_value, usage_needed, step_setting, at_both, fit_draft, few_draft, reads_none, whole_draft}
use Rattle.keyd_words.proofs.reading.read_options.Goals as goal
use Rattle.keyd_words.proofs.reading.read_options.Goals.{then-is_some, else-is_some}

pub loop-at-init : goal.loop-at-init
loop-at-init c =
    let ws = map string_bytes c.args.words.now in
    let some : 1 ≤ length ws = subst (λ xs. 1 ≤ length xs) (sym c.requires.1) (omega arith) in
    let reads = reads_none c.args.command ws c.empty-draft.result c.empty-draft.ensures c.requires in
    record { read = reads; fit = fit_draft c.args.command [] c.empty-draft.result c.empty-draft.ensures (none_allowed c.args.command); from = omega arith; to = omega (arith, some, length-map c.args.words.now string_bytes) }

pub loop-at-preserved : goal.loop-at-preserved
loop-at-preserved c =
    let strings = c.args.words.now in
    let ws = map string_bytes strings in
    let at = c.loop-at.at in
    let reads = c.loop-at.invariant.read in
    let ss = reads.settings in
    let s = c.in-Ok.setting in
    let size = length-map strings string_bytes in
    let word = word_is string_bytes strings at c.index-words-at.result c.as_str-word.result.now c.loop-at-test.true c.index-words-at.is c.as_str-word.ensures.value in
    let two : is_some s.value ≡ true → c.if-is_some.at ≡ 2 = λ e. elim c.if-is_some.branch [
      | then-is_some w ↦ w.at-is
      | else-is_some w ↦ let both : true ≡ false = sym e ∙ sym c.is_some.ensures ∙ w.if-is_some.false in cc both
    ] in
    let one : is_some s.value ≡ false → c.if-is_some.at ≡ 1 = λ e. elim c.if-is_some.branch [
      | then-is_some w ↦ let both : false ≡ true = sym e ∙ sym c.is_some.ensures ∙ w.if-is_some.true in cc both
      | else-is_some w ↦ w.at-is
    ] in
    let step = step_setting c.args.command ws at (length strings) c.if-is_some.at ss c.as_str-word.result.now c.word_at-next.result s reads.written size c.loop-at-test.true word c.word_at-next.ensures c.in-Ok.ensures.ok.0 c.in-Ok.ensures.ok.1 two one in
    let more = c.in_ok-note-in-Ok.ensures in
    let told = told_more c.loop-at.draft c.note.new.self ss s reads.tells more.names more.key_files more.filekey more.digest more.algorithm more.spaces more.first more.second more.numbers in
    let follows = at_both (λ names spaces. MayFollow c.args.command names spaces s) c.deref.result.now (names_of ss) c.spaces.result.now (spaces_of ss) (c.deref.ensures.value ∙ reads.tells.names) (c.spaces.ensures ∙ reads.tells.spaces) c.in-Ok.ensures.ok.2 in
    let allowed = allowed_more c.args.command ss s reads.allowed follows in
    record {
      read = record { settings = ss ++ (s ∷ []); tells = told; written = step.0; allowed = allowed };
      fit = fit_draft c.args.command (ss ++ (s ∷ [])) c.note.new.self told allowed;
      from = omega (arith, c.loop-at.invariant.from);
      to = step.1;
    }

pub returns-in-Err-Name-clause-err : goal.returns-in-Err-Name-clause-err
returns-in-Err-Name-clause-err c =
    let strings = c.args.words.now in
    let ws = map string_bytes strings in
    let at = c.loop-at.at in
    let reads = c.loop-at.invariant.read in
    let ss = reads.settings in
    let size = length-map strings string_bytes in
    let word = word_is string_bytes strings at c.index-words-at.result c.as_str-word.result.now c.loop-at-test.true c.index-words-at.is c.as_str-word.ensures.value in
    let is = subst (IsSettingFault c.args.command c.deref.result.now c.spaces.result.now c.as_str-word.result.now c.word_at-next.result) c.in-Err-Name.field-0-is c.in-Err-Name.ensures.err in
    usage_name c.args.command ws at ss c.as_str-word.result.now reads.written reads.allowed (omega (arith, size, c.loop-at-test.true)) word
    (at_both (λ names spaces. IsSettingFault c.args.command names spaces c.as_str-word.result.now c.word_at-next.result fault.Name) c.deref.result.now (names_of ss) c.spaces.result.now (spaces_of ss) (c.deref.ensures.value ∙ reads.tells.names) (c.spaces.ensures ∙ reads.tells.spaces) is)

pub returns-in-Err-Value-clause-err : goal.returns-in-Err-Value-clause-err
returns-in-Err-Value-clause-err c =
    let strings = c.args.words.now in
    let ws = map string_bytes strings in
    let at = c.loop-at.at in
    let reads = c.loop-at.invariant.read in
    let ss = reads.settings in
    let size = length-map strings string_bytes in
    let word = word_is string_bytes strings at c.index-words-at.result c.as_str-word.result.now c.loop-at-test.true c.index-words-at.is c.as_str-word.ensures.value in
    let is = subst (IsSettingFault c.args.command c.deref.result.now c.spaces.result.now c.as_str-word.result.now c.word_at-next.result) c.in-Err-Value.field-0-is c.in-Err-Value.ensures.err in
    usage_value c.args.command ws at (length strings) ss c.as_str-word.result.now c.word_at-next.result reads.written reads.allowed size c.loop-at-test.true word c.word_at-next.ensures
    (at_both (λ names spaces. IsSettingFault c.args.command names spaces c.as_str-word.result.now c.word_at-next.result fault.Value) c.deref.result.now (names_of ss) c.spaces.result.now (spaces_of ss) (c.deref.ensures.value ∙ reads.tells.names) (c.spaces.ensures ∙ reads.tells.spaces) is)

pub returns-then-not-has_needed-clause-err : goal.returns-then-not-has_needed-clause-err
returns-then-not-has_needed-clause-err c =
    let strings = c.args.words.now in
    let ws = map string_bytes strings in
    let reads = c.loop-at.invariant.read in
    let size = length-map strings string_bytes in
    usage_needed c.args.command ws c.loop-at.at (length strings) reads.settings reads.written reads.allowed size (omega (arith, c.loop-at-test.false))
    (λ has. let there : HasNeeded c.args.command c.deref-2.result.now = subst (HasNeeded c.args.command) (sym (c.deref-2.ensures.value ∙ reads.tells.names)) has in search (rules, c.has_needed.ensures.1 there, c.if-not-has_needed.true))

pub returns-clause-ok : goal.returns-clause-ok
returns-clause-ok c =
    let strings = c.args.words.now in
    let needed : HasNeeded c.args.command c.deref-2.result.now = c.has_needed.ensures.0 (search (rules, c.if-not-has_needed.false)) in
    whole_draft c.args.command (map string_bytes strings) c.loop-at.at c.loop-at.draft c.loop-at.invariant.read (omega (arith, length-map strings string_bytes, c.loop-at-test.false)) (subst (HasNeeded c.args.command) c.deref-2.ensures.value needed)

pub returns-clause-few : goal.returns-clause-few
returns-clause-few c =
    let reads = c.loop-at.invariant.read in
    few_draft c.args.command reads.settings c.loop-at.draft reads.tells reads.allowed
