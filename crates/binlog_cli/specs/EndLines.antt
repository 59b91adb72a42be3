-- The line that the program prints on standard error.
use Rattle.std.specs.Prelude.{ℕ, List, [], ◌++◌, codes, Option, Some, None}
use Rattle.std.specs.Fmt.{decimal}
use Rattle.key_file.specs.declared.fault.KeyFault.{KeyFault}
use Rattle.key_file.specs.declared.fault.KeyFault.TheVariants as key
use Rattle.key_file.specs.declared.load_fault.LoadFault.{LoadFault}
use Rattle.key_file.specs.declared.load_fault.LoadFault.TheVariants as load
use Rattle.binlog_text.specs.declared.fault.BinlogFault.{BinlogFault}
use Rattle.binlog_text.specs.declared.fault.BinlogFault.TheVariants as log
use Rattle.binlog_cli.specs.declared.status.ListStatus.{ListStatus}
use Rattle.binlog_cli.specs.declared.status.ListStatus.TheVariants.{Done, FileFault, Key, Log, OutFault, OutOfMemory, Usage}

-- the variant's name and its numbers in order, in decimal
abbrev pub log_fault_text : BinlogFault → List ℕ
log_fault_text log.Missing = codes "Missing"
log_fault_text log.BadMagic = codes "BadMagic"
log_fault_text (log.ShortEvent at wanted found) = codes "ShortEvent " ++ (decimal at ++ (codes " " ++ (decimal wanted ++ (codes " " ++ decimal found))))
log_fault_text (log.BadLength at length) = codes "BadLength " ++ (decimal at ++ (codes " " ++ decimal length))
log_fault_text (log.NoFormat kind) = codes "NoFormat " ++ decimal kind
log_fault_text (log.Algorithm number) = codes "Algorithm " ++ decimal number
log_fault_text (log.Scheme number) = codes "Scheme " ++ decimal number
log_fault_text (log.MissingKey version) = codes "MissingKey " ++ decimal version
log_fault_text (log.Checksum at stored computed) = codes "Checksum " ++ (decimal at ++ (codes " " ++ (decimal stored ++ (codes " " ++ decimal computed))))
log_fault_text log.FileFault = codes "FileFault"
log_fault_text log.OutOfMemory = codes "OutOfMemory"

abbrev pub key_fault_text : KeyFault → List ℕ
key_fault_text (key.NoDigits line) = codes "NoDigits " ++ decimal line
key_fault_text (key.IdRange line) = codes "IdRange " ++ decimal line
key_fault_text (key.NoSemicolon line) = codes "NoSemicolon " ++ decimal line
key_fault_text (key.KeyLength line digits) = codes "KeyLength " ++ (decimal line ++ (codes " " ++ decimal digits))
key_fault_text key.NoKeyOne = codes "NoKeyOne"
key_fault_text key.TooLarge = codes "TooLarge"
key_fault_text key.NoSecret = codes "NoSecret"
key_fault_text key.SecretTooLarge = codes "SecretTooLarge"
key_fault_text (key.BadSecret bytes) = codes "BadSecret " ++ decimal bytes
key_fault_text (key.ShortSalted bytes) = codes "ShortSalted " ++ decimal bytes
key_fault_text (key.CipherLength bytes) = codes "CipherLength " ++ decimal bytes
key_fault_text key.Padding = codes "Padding"
key_fault_text key.OutOfMemory = codes "OutOfMemory"

-- the place of the log that was reached
abbrev pub place_text : Option ℕ → List ℕ
place_text None = []
place_text (Some place) = codes " at " ++ decimal place

-- the line of a refusal of the log, with its place
abbrev pub refusal_line : BinlogFault → Option ℕ → List ℕ
refusal_line fault reached = codes "binlog: log" ++ (place_text reached ++ (codes ": " ++ (log_fault_text fault ++ codes "\n")))

-- the line of a fault of the log, which is named where it is missing
abbrev pub log_fault_line : BinlogFault → Option ℕ → List ℕ → List ℕ
log_fault_line log.Missing reached name = codes "binlog: missing " ++ (name ++ codes "\n")
log_fault_line fault reached name = refusal_line fault reached

-- the file that failed, where its name is known; else the log, once that was reached
abbrev pub failed_file : Option (List ℕ) → Option ℕ → List ℕ → List ℕ
failed_file (Some failed) reached name = failed
failed_file None None name = codes "the key files"
failed_file None (Some place) name = name

-- the line of a fault of a file, with the place of the log, once that was reached
abbrev pub file_fault_line : Option (List ℕ) → Option ℕ → List ℕ → List ℕ
file_fault_line failed reached name = codes "binlog: file fault in " ++ (failed_file failed reached name ++ (place_text reached ++ codes "\n"))

-- the line of a fault of the key files, which are counted from 0
abbrev pub key_fault_line : LoadFault → List ℕ
key_fault_line (load.Missing name) = codes "binlog: missing " ++ (name ++ codes "\n")
key_fault_line load.FileFault = codes "binlog: file fault in the key files\n"
key_fault_line (load.KeyFile index fault) = codes "binlog: key file " ++ (decimal index ++ (codes ": " ++ (key_fault_text fault ++ codes "\n")))
key_fault_line load.OutOfMemory = codes "binlog: out of memory\n"

-- the line of a status, the place being the one that was reached in the log; the name is the log's, and the other that of the file that
-- failed
abbrev pub list_status_line : ListStatus → Option ℕ → List ℕ → Option (List ℕ) → List ℕ
list_status_line Done reached name failed = []
list_status_line (Log fault) reached name failed = log_fault_line fault reached name
list_status_line Usage reached name failed = codes "binlog: usage\n"
list_status_line (Key fault) reached name failed = key_fault_line fault
list_status_line FileFault reached name failed = file_fault_line failed reached name
list_status_line OutFault reached name failed = codes "binlog: output fault" ++ (place_text reached ++ codes "\n")
list_status_line OutOfMemory reached name failed = codes "binlog: out of memory" ++ (place_text reached ++ codes "\n")
