use Rattle.std.proofs.Common.{rules, subst, sym}
use Rattle.std.specs.Str.{IsUtf8}
use Rattle.script_core.proofs.NameLemmas.{IsUtf8-change_name_of}
use Rattle.script_core.proofs.names.ChangeName.named.Goals as goal

pub returns-in_default : goal.returns-in_default
returns-in_default c name is =
    let text = subst IsUtf8 (sym is) (IsUtf8-change_name_of name) in search (rules, text)
