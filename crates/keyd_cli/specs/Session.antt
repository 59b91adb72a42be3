-- What a session of a drill does with its statements.
use Rattle.std.specs.Prelude.{◌≡◌, ℕ, ◌+◌, ◌*◌, ◌≤◌, ◌<◌, Bool, true, false, List, [], ◌∷◌, ◌++◌, length, take, Option, Some, None}
use Rattle.plain_engine.specs.declared.journal.Entry.{Entry}
use Rattle.plain_engine.specs.Text.{IsSmall}
use Rattle.keyd_cli.specs.declared.act.DrillAct.{DrillAct}
use Rattle.keyd_cli.specs.declared.act.DrillAct.TheVariants.{Mtr, Sync}
use Rattle.keyd_cli.specs.declared.act.DrillStatement.{DrillStatement}
use Rattle.keyd_cli.specs.declared.outcome.Reply.{Reply}
use Rattle.keyd_cli.specs.declared.outcome.Answer.{Answer}
use Rattle.keyd_cli.specs.declared.outcome.Answer.TheVariants.{Place, Acked}

-- the LSN of the entry that follows on so many
abbrev pub lsn_after : ℕ → ℕ
lsn_after count = (count + 3) * 4096

-- what a statement adds to a journal of so many entries
abbrev pub entry_of : ℕ → ℕ → DrillAct → List Entry
entry_of count line (Mtr session mtr) = record { by = Some (record { session = session; line = line }); lsn = lsn_after count; mtr = mtr } ∷ []
entry_of count line Sync = []

-- the entries of statements, behind so many
abbrev pub entries_of : ℕ → List DrillStatement → List Entry
entries_of count [] = []
entries_of count (s ∷ ss) = entry_of count s.line s.act ++ entries_of (count + length (entry_of count s.line s.act)) ss

-- the answer to a statement, with so many entries before it
abbrev pub answer_to : ℕ → DrillAct → Answer
answer_to count (Mtr session mtr) = Place (count + 1) (lsn_after count)
answer_to count Sync = Acked count

-- the reply to a statement: the place is the journal's length then
abbrev pub reply_to : ℕ → DrillStatement → Reply
reply_to count s = record { line = s.line; place = count + length (entry_of count s.line s.act); answer = answer_to count s.act }

-- the replies to statements, behind so many entries
abbrev pub replies_to : ℕ → List DrillStatement → List Reply
replies_to count [] = []
replies_to count (s ∷ ss) = reply_to count s ∷ replies_to (count + length (entry_of count s.line s.act)) ss

-- so many are acknowledged at the reply at most
abbrev pub AckedWithin : ℕ → Answer → Type 0
AckedWithin acked (Acked n) = n ≤ acked
AckedWithin acked (Place place lsn) = Unit {0}

abbrev pub acked_by : Answer → ℕ → ℕ → ℕ
acked_by (Acked n) acked count = count
acked_by (Place place lsn) acked count = acked

-- each of the replies that acknowledges says no more than this
abbrev pub AreAckedWithin : ℕ → List Reply → Type 0
AreAckedWithin acked [] = Unit {0}
AreAckedWithin acked (r ∷ rs) = AckedWithin acked r.answer × AreAckedWithin acked rs

-- How many are acknowledged after a reply, of which so many were before it, with a journal of so many entries. No reply acknowledges none.
abbrev pub acked_after : Option Reply → ℕ → ℕ → ℕ
acked_after None acked count = acked
acked_after (Some r) acked count = acked_by r.answer acked count

-- a mini-transaction that one block holds, or no mini-transaction
abbrev pub IsSmallAct : DrillAct → Type 0
IsSmallAct (Mtr session mtr) = IsSmall mtr
IsSmallAct Sync = Unit {0}

-- each of the statements can be run
abbrev pub AreRunnable : List DrillStatement → Type 0
AreRunnable [] = Unit {0}
AreRunnable (s ∷ ss) = IsSmallAct s.act × AreRunnable ss

-- The statements were done in order, all of them or those before one more: the journal has their entries, and each has its reply.
pub record HasRun (statements : List DrillStatement) (is_whole : Bool) (journal : List Entry) (replies : List Reply) : Type 0 where
  pub done : ℕ
  pub within : done ≤ length statements
  pub whole : is_whole ≡ true → done ≡ length statements
  pub partly : is_whole ≡ false → done < length statements
  pub entries : journal ≡ entries_of 0 (take done statements)
  pub replied : replies ≡ replies_to 0 (take done statements)
