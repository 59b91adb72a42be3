-- The line that the program prints on standard error.
use Rattle.std.specs.Prelude.{ℕ, List, [], ◌++◌, codes}
use Rattle.std.specs.Fmt.{decimal}
use Rattle.space_head.specs.declared.fault.HeadFault.{HeadFault}
use Rattle.space_head.specs.declared.fault.HeadFault.TheVariants.{FlagBits, Length, Mode, NoMarker, PageSize, RecordLength, RecordType}
use Rattle.innochecksum_cli.specs.declared.status.CheckStatus.{CheckStatus}
use Rattle.innochecksum_cli.specs.declared.status.CheckStatus.TheVariants.{Done, FileFault, Head, Mismatch, Missing, OutFault, OutOfMemory, Short, Truncated, Usage}

-- the variant's name and its numbers in order, in decimal
abbrev pub head_text : HeadFault → List ℕ
head_text (NoMarker flags) = codes "NoMarker " ++ decimal flags
head_text (FlagBits flags) = codes "FlagBits " ++ decimal flags
head_text (PageSize code) = codes "PageSize " ++ decimal code
head_text (Length wanted found) = codes "Length " ++ (decimal wanted ++ (codes " " ++ decimal found))
head_text (RecordType kind) = codes "RecordType " ++ decimal kind
head_text (RecordLength length) = codes "RecordLength " ++ decimal length
head_text (Mode mode) = codes "Mode " ++ decimal mode

-- the line of a status, with the file's name where it helps
abbrev pub status_line : CheckStatus → List ℕ → List ℕ
status_line Done name = []
status_line Mismatch name = codes "innochecksum: mismatch " ++ (name ++ codes "\n")
status_line Truncated name = codes "innochecksum: truncated " ++ (name ++ codes "\n")
status_line (Short bytes) name = codes "innochecksum: short " ++ (decimal bytes ++ codes "\n")
status_line (Head fault) name = codes "innochecksum: head " ++ (head_text fault ++ codes "\n")
status_line Usage name = codes "innochecksum: usage\n"
status_line Missing name = codes "innochecksum: missing " ++ (name ++ codes "\n")
status_line FileFault name = codes "innochecksum: file fault " ++ (name ++ codes "\n")
status_line OutFault name = codes "innochecksum: output fault\n"
status_line OutOfMemory name = codes "innochecksum: out of memory\n"
