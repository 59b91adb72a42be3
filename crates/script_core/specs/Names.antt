-- The names of statements and of changes, and the fields that follow each.
use Rattle.std.specs.Prelude.{ℕ, List, [], ◌∷◌, codes}
use Rattle.redo_text.specs.Text.{page_body_bytes}
use Rattle.script_core.specs.Words.{Word}
use Rattle.script_core.specs.Fields.{Field, Numeral, PageType, Bytes, Byte, FreeBatch, HeldBatch, End}
use Rattle.script_core.specs.declared.names.StatementName.{StatementName}
use Rattle.script_core.specs.declared.names.StatementName.TheVariants.{Mtr, Read, Sync, Flush, Check, Take, Put, Activate, Encrypt, Rotate, Report}
use Rattle.script_core.specs.declared.names.ChangeName.{ChangeName}
use Rattle.script_core.specs.declared.names.ChangeName.TheVariants as change

unfoldable pub name_of : StatementName → Word
name_of Mtr = codes "mtr"
name_of Read = codes "read"
name_of Sync = codes "sync"
name_of Flush = codes "flush"
name_of Check = codes "check"
name_of Take = codes "take"
name_of Put = codes "put"
name_of Activate = codes "activate"
name_of Encrypt = codes "encrypt"
name_of Rotate = codes "rotate"
name_of Report = codes "report"

unfoldable pub change_name_of : ChangeName → Word
change_name_of change.Put = codes "put"
change_name_of change.Fill = codes "fill"
change_name_of change.Kind = codes "kind"

-- a number of a u32
abbrev pub any_u32 : Field
any_u32 = Numeral 0 4294967295

-- the fields behind a statement's name; those of a mini-transaction go on with its changes
unfoldable pub fields_of : StatementName → List Field
fields_of Mtr = Numeral 1 16 ∷ []
fields_of Read = Numeral 1 16 ∷ any_u32 ∷ any_u32 ∷ any_u32 ∷ Numeral 1 page_body_bytes ∷ End ∷ []
fields_of Sync = End ∷ []
fields_of Flush = End ∷ []
fields_of Check = End ∷ []
fields_of Take = FreeBatch ∷ any_u32 ∷ Numeral 1 64 ∷ End ∷ []
fields_of Put = HeldBatch ∷ End ∷ []
fields_of Activate = any_u32 ∷ End ∷ []
fields_of Encrypt = any_u32 ∷ End ∷ []
fields_of Rotate = any_u32 ∷ End ∷ []
fields_of Report = any_u32 ∷ End ∷ []

-- the fields behind a change's name
unfoldable pub change_fields_of : ChangeName → List Field
change_fields_of change.Put = any_u32 ∷ any_u32 ∷ any_u32 ∷ Bytes ∷ []
change_fields_of change.Fill = any_u32 ∷ any_u32 ∷ any_u32 ∷ any_u32 ∷ Byte ∷ []
change_fields_of change.Kind = any_u32 ∷ any_u32 ∷ PageType ∷ []
