-- The crash of a session's disk, and when it was stopped.
use Rattle.std.proofs.Common.{◌≡◌, ◌≢◌, ◌⊎◌, ℕ, ◌+◌, ◌-◌, ◌<◌, ◌≤◌, min, Bool, true, false, true≢false, nat_le, if◌then◌else◌, List, [], ◌∷◌, length, take, Option, Some, None, MatchOption, refl, sym, ◌∙◌, ap, subst, inl, inr, arith}
use Rattle.std.proofs.lemmas.List.Elements.{All-get_or}
use Rattle.disk_model.specs.Event.{Event, Open, has_file, file_in, is_there, reads, marks, record_of, same_file}
use Rattle.disk_model.specs.Memory.{replay}
use Rattle.disk_model.specs.Contents.{events, calls_since, first_files}
use Rattle.disk_model.specs.Crash.{Pending, IsCrash, choice_at, chosen, left_of, with_choices, crash_image, synced_bytes, unsynced_writes}
use Rattle.disk_model.specs.Image.{InFile}
use Rattle.disk_model.specs.declared.names.FileName.{FileName}
use Rattle.disk_model.specs.declared.names.FileName.TheVariants.{Log}
use Rattle.disk_model.specs.declared.contents.DiskContents.{DiskContents}
use Rattle.disk_model.specs.declared.calls.Choice.{Choice}
use Rattle.disk_model.specs.declared.calls.Choice.TheVariants.{Lost}
use Rattle.disk_model.proofs.FilesLemmas.{file_in-none}
use Rattle.plain_engine.specs.declared.journal.Entry.{Entry}
use Rattle.plain_engine.specs.Log.{IsRunFrom}
use Rattle.plain_engine.specs.Stands.{AllStand, AllRefusable, LogStands}
use Rattle.plain_engine.specs.Kept.{IsExact}
use Rattle.plain_engine.proofs.Crashes.{crash-stands}
use Rattle.plain_engine.proofs.RunLength.{settled-scan}
use Rattle.std.proofs.lemmas.Bool.Decides.{nat_tests}
use Rattle.disk_model.specs.Log.{IsLaterLog}
use Rattle.disk_model.specs.Marks.{acked as acked_of}
use Rattle.disk_model.specs.Turns.{later_turn, turns_in, faults_in, are_planned}
use Rattle.disk_model.specs.Image.{IsLucky}
use Rattle.disk_model.specs.declared.calls.DiskCall.{DiskCall}
use Rattle.plain_engine.specs.declared.fault.State.{State}
use Rattle.plain_engine.specs.declared.fault.State.TheVariants.{Up, OutOfMemory}
use Rattle.plain_engine.specs.Stands.{AllRecover, LogKeeps, passes}
use Rattle.keyd_cli.specs.declared.act.DrillStatement.{DrillStatement}
use Rattle.keyd_cli.specs.declared.plan.DrillPlan.{DrillPlan}
use Rattle.keyd_cli.specs.declared.drill.Drilled.{Drilled}
use Rattle.keyd_cli.specs.Session.{HasRun, AreAckedWithin}
use Rattle.keyd_cli.specs.Drill.{AreLost, DrillBegins, IsDrilled, stop_after, stopped_by}
use Rattle.keyd_cli.proofs.Stops.{none-fails, fails-late}

-- a disk that just began has the files that it reads as
there_once : (origin : List (FileName × List ℕ)) (b : Bool) → has_file Log origin ≡ b → length (file_in Log origin) ≡ 1060864 → has_file Log origin ≡ true
there_once origin true is size = is
there_once origin false is size = let none : 0 ≡ 1060864 = sym (ap length (file_in-none Log origin is)) ∙ size in absurd (omega (arith, none))

pub begun-there : (c : DiskContents) → calls_since c ≡ [] → length (reads Log (events c)) ≡ 1060864 → is_there Log (events c) ≡ true
begun-there c none size =
    let first = replay [] (take c.log.began c.log.calls.items) in
    let opened : List Event = Open (first_files c) (marks first) (record_of first) ∷ [] in
    let is : events c ≡ opened = ap (λ cs. replay opened cs) none in
    ap (is_there Log) is ∙ there_once (first_files c) (has_file Log (first_files c)) refl (sym (ap (λ es. length (reads Log es)) is) ∙ size)

-- what lost writes leave of a file
choice-lost : (choices : List Choice) (i : ℕ) → 0 < length choices → AreLost choices → choice_at choices i ≡ Lost
choice-lost choices i some lost = All-get_or (λ c. c ≡ Lost) choices (min i (length choices - 1)) Lost (omega (arith, some)) lost

left-lost : (choices : List Choice) → 0 < length choices → AreLost choices → (f : FileName) (ws : List Pending) (file : List ℕ) → left_of f (with_choices choices ws) file ≡ file
left-lost choices some lost f [] file = refl
left-lost choices some lost f (w ∷ older) file = by (left-lost choices some lost f older file) (same_file f w.file)
  where
    by : left_of f (with_choices choices older) file ≡ file → (b : Bool)
        → (if b then chosen (choice_at choices (length older)) w.at w.bytes (left_of f (with_choices choices older) file) else left_of f (with_choices choices older) file) ≡ file
    by rest true = ap (λ how. chosen how w.at w.bytes (left_of f (with_choices choices older) file)) (choice-lost choices (length older) some lost) ∙ rest
    by rest false = rest

module _ (journal : List Entry) (choices : List Choice) (es : List Event) (after : DiskContents) (refusable : AllRefusable es) (crash : IsCrash choices es (events after)) where
  -- the image has the log that a scan reads
  pub crash-inside : calls_since after ≡ [] → AllStand journal es → InFile Log 0 1060864 (events after)
  crash-inside none all =
      let s : LogStands journal (crash_image choices es) = crash-stands journal choices es (events after) refusable crash all in
      let size : length (reads Log (events after)) ≡ 1060864 = ap length (crash.reads_as Log) ∙ s.recovers.size in
      record { there = begun-there after none size; within = omega (arith, size) }

  pub crash-lost : (settled acked : ℕ) → settled ≤ length journal → 0 < length choices → AreLost choices → IsExact journal settled acked es → (texts : List (List ℕ)) → IsRunFrom 2 (reads Log (events after)) texts → length texts ≡ settled
  crash-lost settled acked le some lost exact texts run =
      let same : reads Log (events after) ≡ synced_bytes Log es = crash.reads_as Log ∙ left-lost choices some lost Log (unsynced_writes es) (synced_bytes Log es) in
      settled-scan journal settled acked es texts le exact (subst (λ (file : List ℕ). IsRunFrom 2 file texts) same run)

up_not_out_of_memory : Up ≡ OutOfMemory → ⊥
up_not_out_of_memory is = subst IsUp is tt
  where
    IsUp : State → Type 0
    IsUp Up = Unit {0}
    IsUp _ = ⊥

-- where the stop's turn wasn't made, no turn failed
pub none-failed : (begun : ℕ) (stop : Option ℕ) (cs : List DiskCall) → are_planned [] (stop_after begun stop) 0 cs ≡ true → stopped_by begun (turns_in cs) stop ≡ None → 1 ≤ faults_in cs → ⊥
none-failed begun None cs planned is some = let none : faults_in cs ≡ 0 = none-fails 0 cs planned in omega (arith, some, none)
none-failed begun (Some turn) cs planned is some =
    let late : later_turn begun turn ≤ 0 + turns_in cs = fails-late (later_turn begun turn) 0 cs planned some in
    by (nat_le (later_turn begun turn) (turns_in cs)) refl is (omega (arith, late))
  where
    by : (b : Bool) → nat_le (later_turn begun turn) (turns_in cs) ≡ b → (if b then Some turn else None) ≡ None → later_turn begun turn ≤ turns_in cs → ⊥
    by true made is late = subst (λ (o : Option ℕ). MatchOption o (Unit {0}) (λ _. ⊥)) (sym is) tt
    by false not is late = let le : nat_le (later_turn begun turn) (turns_in cs) ≡ true = grind (arith, nat_tests) in absurd (true≢false (sym le ∙ not))

-- the facts of a session and of its disk's crash, together
module _ (plan : DrillPlan) (statements : List DrillStatement) (first : DiskContents) (begins : DrillBegins plan.space plan.stop first) (d : Drilled) (later : IsLaterLog first.log d.end.disk.contents.log) where
  planned : are_planned [] first.log.stop 0 (calls_since d.end.disk.contents) ≡ true
  planned =
      let log = d.end.disk.contents.log in
      subst (λ (stop : Option ℕ). are_planned [] stop 0 (calls_since d.end.disk.contents) ≡ true) later.plan.stop
      (subst (λ (failing : List ℕ). are_planned failing log.stop 0 (calls_since d.end.disk.contents) ≡ true) (later.plan.failing ∙ begins.failing) log.as_planned)

  pub drilled : (settled : ℕ) (state : State) (is_whole : Bool)
      → HasRun statements is_whole d.journal d.replies.items
      → AreAckedWithin d.end.acked d.replies.items
      → ((begun : ℕ) → d.end.disk.contents.log.stop ≡ stop_after begun plan.stop → d.end.stopped ≡ stopped_by begun (turns_in (calls_since d.end.disk.contents)) plan.stop)
      → (is_whole ≡ false → (1 ≤ d.end.disk.contents.log.faults) × (state ≢ OutOfMemory))
      → (is_whole ≡ true → state ≡ Up)
      → IsExact d.journal settled d.end.acked (events d.end.disk.contents)
      → settled ≤ length d.journal
      → (state ≡ Up → AllRecover d.journal settled (events d.end.disk.contents))
      → (state ≢ OutOfMemory → d.end.acked ≡ settled)
      → LogKeeps d.journal (crash_image plan.choices.items (events d.end.disk.contents)) d.end.kept
      → IsLucky passes (crash_image plan.choices.items (events d.end.disk.contents))
      → ((settled : ℕ) → settled ≤ length d.journal → AllRecover d.journal settled (events d.end.disk.contents) → d.end.kept ≡ settled)
      → ((settled acked : ℕ) → settled ≤ length d.journal → AreLost plan.choices.items → IsExact d.journal settled acked (events d.end.disk.contents) → d.end.kept ≡ settled)
      → d.end.journal ≡ length d.journal
      → d.end.rest ≡ None
      → IsDrilled plan statements d
  drilled settled state is_whole run replied stopped_is cause up exact order all even keeps lucky if_settled if_lost count rest =
      let stopped : d.end.stopped ≡ stopped_by first.log.turns (turns_in (calls_since d.end.disk.contents)) plan.stop = stopped_is first.log.turns (later.plan.stop ∙ begins.stop) in
      let fed : state ≢ OutOfMemory = not_out_of_memory is_whole refl in
      let same : d.end.acked ≡ settled = even fed in
      let told : acked_of (marks (events d.end.disk.contents)) ≡ d.end.acked = omega (arith, exact.least, exact.most, same) in
      record {
        first = first;
        begins = begins;
        later = later;
        planned = planned;
        stopped = stopped;
        is_whole = is_whole;
        run = run;
        whole = λ none. whole (stopped_none stopped none) is_whole refl;
        replied = replied;
        count = count;
        keeps = keeps;
        lucky = lucky;
        acked = told;
        order = omega (arith, told, keeps.acked);
        within = omega (arith, keeps.within, count);
        kept_is_acked = λ cases. by cases stopped same is_whole refl;
        rest = rest;
      }
    where
      not_out_of_memory : (b : Bool) → is_whole ≡ b → state ≢ OutOfMemory
      not_out_of_memory true is = λ no_memory. up_not_out_of_memory (sym (up is) ∙ no_memory)
      not_out_of_memory false is = (cause is).1

      stopped_none : d.end.stopped ≡ stopped_by first.log.turns (turns_in (calls_since d.end.disk.contents)) plan.stop → d.end.stopped ≡ None → stopped_by first.log.turns (turns_in (calls_since d.end.disk.contents)) plan.stop ≡ None
      stopped_none stopped none = sym stopped ∙ none

      whole : stopped_by first.log.turns (turns_in (calls_since d.end.disk.contents)) plan.stop ≡ None → (b : Bool) → is_whole ≡ b → is_whole ≡ true
      whole none true is = is
      whole none false is =
          let log = d.end.disk.contents.log in
          absurd (none-failed first.log.turns plan.stop (calls_since d.end.disk.contents) (subst (λ (stop : Option ℕ). are_planned [] stop 0 (calls_since d.end.disk.contents) ≡ true) begins.stop planned) none (omega (arith, (cause is).0, log.faults_counted)))

      by : (d.end.stopped ≡ None) ⊎ AreLost plan.choices.items → d.end.stopped ≡ stopped_by first.log.turns (turns_in (calls_since d.end.disk.contents)) plan.stop → d.end.acked ≡ settled → (b : Bool) → is_whole ≡ b → d.end.kept ≡ d.end.acked
      by (inl none) stopped same b is = if_settled settled order (all (up (whole (stopped_none stopped none) b is))) ∙ sym same
      by (inr lost) stopped same b is = if_lost settled d.end.acked order lost exact ∙ sym same

-- a fact of the one pair is one of an equal pair
pub moved : {A B : Type 0} (P : A → B → Type 0) {a x : A} {b y : B} → x ≡ a → y ≡ b → P a b → P x y
moved P {a} {x} {b} {y} p q fact = subst (λ u. P u y) (sym p) (subst (λ v. P a v) (sym q) fact)
