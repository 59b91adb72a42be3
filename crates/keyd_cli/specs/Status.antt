-- The numbers of the statuses.
use Rattle.std.specs.Prelude.{ℕ}
use Rattle.keyd_cli.specs.declared.status.Status.{Status}
use Rattle.keyd_cli.specs.declared.status.Status.TheVariants.{Done, Usage, KeyFile, Missing, ScriptTooLarge, NotBuilt, InputFault, FileFault, OutFault, OutOfMemory}

-- what the program ends with
abbrev pub keyd_exit_code : Status → ℕ
keyd_exit_code Done = 0
keyd_exit_code (Usage index) = 2
keyd_exit_code (KeyFile index fault) = 3
keyd_exit_code (Missing name) = 3
keyd_exit_code ScriptTooLarge = 4
keyd_exit_code (NotBuilt line) = 4
keyd_exit_code InputFault = 7
keyd_exit_code FileFault = 7
keyd_exit_code OutFault = 7
keyd_exit_code OutOfMemory = 8
