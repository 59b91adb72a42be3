-- The names are text.
use Rattle.std.proofs.Common.{rules}
use Rattle.std.specs.Str.{IsUtf8}
use Rattle.script_core.specs.Names.{name_of, change_name_of}
use Rattle.script_core.specs.declared.names.StatementName.{StatementName}
use Rattle.script_core.specs.declared.names.StatementName.TheVariants.{Mtr, Read, Sync, Flush, Check, Take, Put, Activate, Encrypt, Rotate, Report}
use Rattle.script_core.specs.declared.names.ChangeName.{ChangeName}
use Rattle.script_core.specs.declared.names.ChangeName.TheVariants as change

pub IsUtf8-name_of : (name : StatementName) → IsUtf8 (name_of name)
unfolding name_of
IsUtf8-name_of Mtr = search rules
IsUtf8-name_of Read = search rules
IsUtf8-name_of Sync = search rules
IsUtf8-name_of Flush = search rules
IsUtf8-name_of Check = search rules
IsUtf8-name_of Take = search rules
IsUtf8-name_of Put = search rules
IsUtf8-name_of Activate = search rules
IsUtf8-name_of Encrypt = search rules
IsUtf8-name_of Rotate = search rules
IsUtf8-name_of Report = search rules

pub IsUtf8-change_name_of : (name : ChangeName) → IsUtf8 (change_name_of name)
unfolding change_name_of
IsUtf8-change_name_of change.Put = search rules
IsUtf8-change_name_of change.Fill = search rules
IsUtf8-change_name_of change.Kind = search rules
