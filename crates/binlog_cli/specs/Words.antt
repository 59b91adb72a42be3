-- The words of the command line, as `clap` reads them, and what they ask for.
use Rattle.std.specs.Prelude.{◌≡◌, ◌≤◌, ◌&&◌, ℕ, Bool, true, false, List, [], ◌∷◌, codes, length, map, nat_le, is_some, String, string_bytes, unwrap_or, vec_len, if◌then◌else◌}
use Rattle.std.specs.Prelude.{Option, Some, None, Result, Ok, Err}
use Rattle.std.specs.Option.{option_copied}
use Rattle.std.specs.Str.{bytes_eq}
use Rattle.clap.specs.Words.{App, Rule, Text, all_of, first_of, matches_of, new_rule}
use Rattle.clap.specs.Simple.{new_shape}
use Rattle.clap.specs.declared.builder.action.ArgAction.TheVariants.{Append, SetTrue}
use Rattle.io_core.specs.Files.{Files}
use Rattle.key_ring.specs.Ring.{RingEntry}
use Rattle.key_file.specs.Loaded.{IsDue, LoadsFrom}
use Rattle.key_file.specs.declared.derivation.KeyDigest.{KeyDigest}
use Rattle.key_file.specs.declared.derivation.KeyDigest.TheVariants.{Sha1, Sha256}
use Rattle.key_file.specs.declared.load_fault.LoadFault.{LoadFault}
use Rattle.binlog_cli.specs.Listing.{IsLogListing, IsStoppedAt, Listing}
use Rattle.binlog_cli.specs.declared.status.ListStatus.{ListStatus}
use Rattle.binlog_cli.specs.declared.status.ListStatus.TheVariants.{Done, FileFault, Key, Log, OutFault, OutOfMemory, Usage}
use Rattle.binlog_cli.specs.declared.words.ListRequest.{ListRequest}

-- ---- the command

-- an option with a value, whose long name is its id
abbrev pub valued_rule : Text → Rule
valued_rule id = record (new_rule id) { long = Some id; value_names = 1 }

-- the key files, the digest, whether bytes are printed, and the log
abbrev pub key_files_rule : Rule
key_files_rule = record (valued_rule (codes "key-file")) { action = Some Append }

abbrev pub digest_rule : Rule
digest_rule = record (valued_rule (codes "digest")) { defaults = codes "sha1" ∷ [] }

abbrev pub hex_rule : Rule
hex_rule = record (new_rule (codes "hex")) { long = Some (codes "hex"); action = Some SetTrue }

abbrev pub log_rule : Rule
log_rule = record (new_rule (codes "FILE")) { required = true }

-- the simple command
abbrev pub list_rules : List Rule
list_rules = key_files_rule ∷ valued_rule (codes "filekey") ∷ digest_rule ∷ hex_rule ∷ log_rule ∷ []

abbrev pub list_command : App
list_command = record {
  top = record (new_shape (codes "binlog")) { rules = list_rules; no_binary_name = true; has_version = true };
  subs = [];
}

-- ---- what its matches say

-- the first value and all values of an option or argument
pub record ListValues : Type 0 where
  pub first : Text → Option Text
  pub all : Text → List Text

-- the values that the command's matches on these words have
abbrev pub list_values_in : {Z : Type 0} → List (String Z) → ListValues
list_values_in words = record {
  first = λ id. first_of id (matches_of list_command (map string_bytes words));
  all = λ id. unwrap_or (all_of id (matches_of list_command (map string_bytes words))) [];
}

abbrev pub is_true_text : Option Text → Bool
is_true_text None = false
is_true_text (Some text) = bytes_eq text (codes "true")

-- each event's bytes are printed too
abbrev pub asks_hex : ListValues → Bool
asks_hex values = is_true_text (values.first (codes "hex"))

abbrev pub log_name_of : ListValues → Text
log_name_of values = unwrap_or (values.first (codes "FILE")) []

abbrev pub key_names_of : ListValues → List Text
key_names_of values = values.all (codes "key-file")

abbrev pub filekey_of : ListValues → Option Text
filekey_of values = values.first (codes "filekey")

-- the digest of a name
abbrev pub digest_by_name : Text → Option KeyDigest
digest_by_name name = if bytes_eq name (codes "sha1") then Some Sha1 else if bytes_eq name (codes "sha256") then Some Sha256 else None

abbrev pub asked_digest : ListValues → Option KeyDigest
asked_digest values = digest_by_name (unwrap_or (values.first (codes "digest")) [])

-- the digest is one of the two, and there are at most 64 key files
abbrev pub is_within_limits : ListValues → Bool
is_within_limits values = is_some (asked_digest values) && nat_le (length (key_names_of values)) 64

-- ---- the listing

-- what the key files give: a ring, or the first fault
abbrev pub GivesKeys : ListValues → Files → Result (List RingEntry) LoadFault → Type 0
GivesKeys values files keys = LoadsFrom files (filekey_of values) (unwrap_or (asked_digest values) Sha1) 0 (key_names_of values) [] keys

-- a log is listed under the keys; without them nothing is printed
abbrev pub IsKeyedListing : Bool → Result (List RingEntry) LoadFault → Option (List ℕ) → Listing → Type 0
IsKeyedListing is_hex (Ok ring) file listing = IsLogListing is_hex ring file listing
IsKeyedListing is_hex (Err fault) file listing = listing ≡ record { text = []; status = Key fault }

-- The listing of the log that the words name, under the keys of the key files that they name.
pub record IsWordsListing (values : ListValues) (files : Files) (listing : Listing) : Type 0 where
  pub keys : Result (List RingEntry) LoadFault
  pub loads : GivesKeys values files keys
  pub is : IsKeyedListing (asks_hex values) keys (files (log_name_of values)) listing

-- a file that is read: before the log is reached one that the key files call for, and then, once they gave their keys, the log
abbrev pub IsDueAt : ListValues → Files → Option ℕ → List ℕ → Type 0
IsDueAt values files None due = IsDue files (filekey_of values) (unwrap_or (asked_digest values) Sha1) 0 (key_names_of values) due
IsDueAt values files (Some reached) due = (ring : List RingEntry) × GivesKeys values files (Ok ring) × (due ≡ log_name_of values)

-- before the log is reached nothing is done, and neither the log nor the output has a fault
abbrev pub IsBeforeLog : ListStatus → Type 0
IsBeforeLog Usage = Unit {0}
IsBeforeLog (Key fault) = Unit {0}
IsBeforeLog FileFault = Unit {0}
IsBeforeLog OutOfMemory = Unit {0}
IsBeforeLog Done = ⊥
IsBeforeLog (Log fault) = ⊥
IsBeforeLog OutFault = ⊥

-- Where the listing of the log that the words name stopped, under the keys of the key files that they name; or that it wasn't reached.
abbrev pub IsEndedAt : ListValues → Files → ListStatus → Option ℕ → Type 0
IsEndedAt values files status None = IsBeforeLog status
IsEndedAt values files status (Some place) = (ring : List RingEntry) × GivesKeys values files (Ok ring) × IsStoppedAt ring (files (log_name_of values)) status place

-- what is asked for is what the values say
pub record IsAskedBy (values : ListValues) (asked : ListRequest) : Type 0 where
  pub name : asked.name.now ≡ log_name_of values
  pub key_files : map string_bytes asked.key_files.items ≡ key_names_of values
  pub few : vec_len asked.key_files ≤ 64
  pub filekey : option_copied asked.filekey ≡ filekey_of values
  pub digest : Some asked.digest ≡ asked_digest values
  pub hex : asked.is_hex ≡ asks_hex values
