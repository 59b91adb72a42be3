-- The commands of `keyd`, and the table of their options.
use Rattle.std.specs.Prelude.{ℕ, Bool, true, false, List, Option, Some, None, codes}
use Rattle.keyd_words.specs.declared.command.Command.{Command}
use Rattle.keyd_words.specs.declared.command.Command.TheVariants as command
use Rattle.keyd_words.specs.declared.table.OptionName.{OptionName}
use Rattle.keyd_words.specs.declared.table.OptionName.TheVariants as name
use Rattle.keyd_words.specs.declared.table.ValueForm.{ValueForm}
use Rattle.keyd_words.specs.declared.table.ValueForm.TheVariants.{FileName, FileKey, Number, Digest, Algorithm, Space, FirstChoices, SecondChoices}
use Rattle.keyd_words.specs.declared.table.OptionUse.{OptionUse}
use Rattle.keyd_words.specs.declared.table.OptionUse.TheVariants.{No, May, Must}
use Rattle.keyd_words.specs.declared.table.OptionUses.{OptionUses}

abbrev pub Argument : Type 0
Argument = List ℕ

-- a command's word
unfoldable pub command_word : Command → Argument
command_word command.Create = codes "create"
command_word command.Step = codes "step"
command_word command.Run = codes "run"
command_word command.Drill = codes "drill"
command_word command.Recover = codes "recover"
command_word command.Report = codes "report"
command_word command.Make = codes "make"

-- the option may stand
unfoldable pub is_taken : OptionUse → Bool
is_taken No = false
is_taken May = true
is_taken Must = true

-- it must
unfoldable pub is_needed : OptionUse → Bool
is_needed No = false
is_needed May = false
is_needed Must = true

-- whether a command takes an option; `make` takes none
unfoldable pub use_by : OptionUses → Command → OptionUse
use_by u command.Create = u.create
use_by u command.Step = u.step
use_by u command.Run = u.run
use_by u command.Drill = u.drill
use_by u command.Recover = u.recover
use_by u command.Report = u.report
use_by u command.Make = No

-- the columns: create, step, run, drill, recover, report
abbrev pub uses : OptionUse → OptionUse → OptionUse → OptionUse → OptionUse → OptionUse → OptionUses
uses create step run drill recover report = record { create = create; step = step; run = run; drill = drill; recover = recover; report = report }

-- what the table says of an option
pub record TableRow : Type 0 where
  pub word : Argument
  -- how its value reads, the next word; None where it has none
  pub form : Option ValueForm
  -- how often it may stand
  pub most : ℕ
  -- which commands take it
  pub uses : OptionUses

abbrev pub row : Argument → Option ValueForm → ℕ → OptionUses → TableRow
row word form most columns = record { word = word; form = form; most = most; uses = columns }

-- the most tablespaces of a store, and the least and the most blocks of its log's ring
abbrev pub spaces_allowed : ℕ
spaces_allowed = 16

abbrev pub log_blocks_least : ℕ
log_blocks_least = 32

abbrev pub log_blocks_most : ℕ
log_blocks_most = 4096

-- the table: an option's word, the form of its value, how often it may stand, and whether create, step, run, drill, recover and report take it
unfoldable pub row_of : OptionName → TableRow
row_of name.KeyFile = row (codes "--key-file") (Some FileName) 64 (uses Must Must Must Must Must Must)
row_of name.FileKey = row (codes "--filekey") (Some FileKey) 1 (uses May May May May May May)
row_of name.Digest = row (codes "--digest") (Some Digest) 1 (uses May May May May May May)
row_of name.Space = row (codes "--space") (Some Space) spaces_allowed (uses Must No No Must No No)
row_of name.Log = row (codes "--log") (Some (Number log_blocks_least log_blocks_most)) 1 (uses May No No May No No)
row_of name.Algorithm = row (codes "--algorithm") (Some Algorithm) 1 (uses May No No May No No)
row_of name.Active = row (codes "--active") (Some (Number 1 4294967295)) 1 (uses May May May May May May)
row_of name.Age = row (codes "--age") (Some (Number 0 2147483648)) 1 (uses No May May May No No)
row_of name.Binlog = row (codes "--binlog") None 1 (uses No May May No No No)
row_of name.Flushers = row (codes "--flushers") (Some (Number 1 4)) 1 (uses No No May No No No)
row_of name.Rotators = row (codes "--rotators") (Some (Number 1 4)) 1 (uses No No May No No No)
row_of name.Stop = row (codes "--stop") (Some (Number 1 1000000)) 1 (uses No No No May No No)
row_of name.Choice = row (codes "--choice") (Some FirstChoices) 1 (uses No No No May No No)
row_of name.Reopen = row (codes "--reopen") (Some (Number 1 1000000)) 1 (uses No No No May No No)
row_of name.Stop2 = row (codes "--stop2") (Some (Number 1 1000000)) 1 (uses No No No May No No)
row_of name.Choice2 = row (codes "--choice2") (Some SecondChoices) 1 (uses No No No May No No)

-- the command takes the option, and it needs it
abbrev pub takes : OptionName → Command → Bool
takes f c = is_taken (use_by (row_of f).uses c)

abbrev pub needs : OptionName → Command → Bool
needs f c = is_needed (use_by (row_of f).uses c)
