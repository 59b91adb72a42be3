-- The statements of a schedule can be run, and the log has room for them.
use Rattle.std.proofs.Common.{◌≡◌, ℕ, ◌+◌, ◌<◌, ◌≤◌, ◌^◌, ◌++◌, length, arith, ap, List, [], ◌∷◌, refl, if◌then◌else◌}
use Rattle.std.proofs.lemmas.List.{append-nil}
use Rattle.redo_text.specs.declared.change.Change.TheVariants.{Put}
use Rattle.plain_engine.specs.Text.{mtr_text}
use Rattle.keyd_cli.specs.declared.act.DrillAct.{DrillAct}
use Rattle.keyd_cli.specs.declared.act.DrillAct.TheVariants.{Mtr, Sync}
use Rattle.keyd_cli.specs.declared.act.DrillStatement.{DrillStatement}
use Rattle.keyd_cli.specs.Schedule.{IsAct, IsSync, IsMtr}
use Rattle.keyd_cli.specs.Reads.{ReadsLines, ReadNone, ReadSkipped, ReadAct, is_mtr, mtr_count, HasRoom, IsSchedule}
use Rattle.keyd_cli.specs.Session.{IsSmallAct, AreRunnable}
use Rattle.keyd_cli.proofs.ReadsLemmas.{count_more}

length-put_text : (space page at : ℕ) (bytes : List ℕ) → length (mtr_text (Put space page at bytes ∷ [])) ≡ 17 + length bytes
length-put_text space page at bytes = omega (arith, ap length (append-nil bytes))

small_act : (space pages : ℕ) (line : List ℕ) (act : DrillAct) → space < 2 ^ 32 → pages < 2 ^ 32 → IsAct space pages line act → IsSmallAct act
small_act space pages line act space_to pages_to (IsSync is) = tt
small_act space pages line act space_to pages_to (IsMtr session page at bytes is) =
    let size = length-put_text space page at bytes in
    record {
      allowed = ((space_to, omega (arith, is.numbers.page_from), omega (arith, is.numbers.page_to, pages_to), record { some = omega (arith, is.some); from = is.numbers.at_from; to = is.within }), tt);
      some = omega (arith, size);
      most = omega (arith, size, is.short);
    }

runnable-push : (xs : List DrillStatement) (x : DrillStatement) → AreRunnable xs → IsSmallAct x.act → AreRunnable (xs ++ (x ∷ []))
runnable-push [] x are small = (small, tt)
runnable-push (y ∷ xs) x are small = (are.0, runnable-push xs x are.1 small)

one_more : (mtrs : ℕ) (act : DrillAct) → mtrs ≤ 256 → HasRoom mtrs act → mtrs + (if is_mtr act then 1 else 0) ≤ 256
one_more mtrs (Mtr session mtr) few room = let low : mtrs ≤ 255 = room refl in omega (arith, low)
one_more mtrs Sync few room = omega (arith, few)

reads-runnable : (space pages : ℕ) (lines : List (List ℕ)) (statements : List DrillStatement) → space < 2 ^ 32 → pages < 2 ^ 32 → ReadsLines space pages lines statements → AreRunnable statements × (mtr_count statements ≤ 256)
reads-runnable space pages lines statements space_to pages_to ReadNone = (tt, omega arith)
reads-runnable space pages lines statements space_to pages_to (ReadSkipped before done line reads is) = reads-runnable space pages before done space_to pages_to reads
reads-runnable space pages lines statements space_to pages_to (ReadAct before done line act reads is room) =
    let so_far = reads-runnable space pages before done space_to pages_to reads in
    let last : DrillStatement = record { line = length before + 1; act = act } in (
      runnable-push done last so_far.0 (small_act space pages line act space_to pages_to is),
      omega (arith, count_more done (done ++ (last ∷ [])) (length before + 1) act refl, one_more (mtr_count done) act so_far.1 room),
    )

-- each statement of a schedule can be run, and its mini-transactions have room in one log
pub schedule-runnable : (space pages : ℕ) (text : List ℕ) (statements : List DrillStatement) → space < 2 ^ 32 → pages < 2 ^ 32 → IsSchedule space pages text statements
    → AreRunnable statements × (mtr_count statements ≤ 256)
schedule-runnable space pages text statements space_to pages_to reads = reads-runnable space pages _ statements space_to pages_to reads
