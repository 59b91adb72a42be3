-- Fronts of a text that were given to a sink.
use Rattle.std.proofs.Common.{◌≡◌, ◌+◌, ℕ, min, List, [], ◌++◌, length, take, refl, sym, ap, ◌∙◌, Option, Some, None, Result, Ok, Err, OnErr, IsErrAnd, MatchResult, arith}
use Rattle.std.proofs.Math.Seq.{take-append-add}
use Rattle.std.proofs.lemmas.List.{append-nil, take-append-le, take_at, take_min}
use Rattle.io_core.specs.Stream.{IsPartlyGiven, extended}
use Rattle.innochecksum_cli.specs.Inspection.{Agrees, Report}
use Rattle.innochecksum_cli.specs.Stops.{IsOutsideStatus}
use Rattle.innochecksum_cli.specs.declared.status.CheckStatus.{CheckStatus}
use Rattle.innochecksum_cli.specs.declared.status.CheckStatus.TheVariants.{Done, FileFault, Head, Mismatch, Missing, OutFault, OutOfMemory, Short, Truncated, Usage}
use Rattle.io_core.proofs.Streams.{given_then, extended-nil}

-- nothing was given yet
pub none_given : (text : List ℕ) (given : Option (List ℕ)) → IsPartlyGiven text given given
none_given text given = (0, extended-nil given)

-- a fact that holds at hand holds at an error
pub at_err : {T E : Type 0} (r : Result T E) (P : Type 0) → P → OnErr r P
at_err (Ok x) P p = tt
at_err (Err e) P p = p

-- a call that stopped agrees with a report of whose text a front was given
pub stop_agrees_by : (report : Report) (before now : Option (List ℕ)) (status : CheckStatus) → IsOutsideStatus status → IsPartlyGiven report.text before now → Agrees report before now status
stop_agrees_by report before now FileFault stop part = part
stop_agrees_by report before now OutFault stop part = part
stop_agrees_by report before now OutOfMemory stop part = part
stop_agrees_by report before now Done stop part = absurd stop
stop_agrees_by report before now Mismatch stop part = absurd stop
stop_agrees_by report before now Truncated stop part = absurd stop
stop_agrees_by report before now (Short length) stop part = absurd stop
stop_agrees_by report before now (Head fault) stop part = absurd stop
stop_agrees_by report before now Usage stop part = absurd stop
stop_agrees_by report before now Missing stop part = absurd stop

pub stopped : {T : Type 0} (r : Result T CheckStatus) (P : T → Type 0) (report : Report) (before now : Option (List ℕ)) → IsErrAnd r IsOutsideStatus → IsPartlyGiven report.text before now
    → MatchResult r P (Agrees report before now)
stopped (Ok x) P report before now stop part = absurd stop
stopped (Err status) P report before now stop part = stop_agrees_by report before now status stop part
