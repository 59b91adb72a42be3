-- The listing that the words ask for, and what a status says of it.
use Rattle.std.proofs.Common.{◌≡◌, ◌⊎◌, inl, inr, ℕ, Bool, List, [], length, map, refl, sym, ap, ap₂, subst, ◌∙◌, string_bytes, unwrap_or, Option, Some, None, Result, Ok, Err}
use Rattle.std.specs.Option.{option_copied}
use Rattle.cause_core.specs.Counts.{Rose}
use Rattle.io_core.specs.Files.{Files}
use Rattle.key_ring.specs.Ring.{RingEntry}
use Rattle.key_file.specs.Loaded.{IsDue, IsSameAnswer}
use Rattle.key_file.specs.declared.derivation.KeyDigest.{KeyDigest}
use Rattle.key_file.specs.declared.derivation.KeyDigest.TheVariants.{Sha1}
use Rattle.key_file.specs.declared.load_fault.LoadFault.{LoadFault}
use Rattle.binlog_text.specs.declared.stage.Stage.TheVariants.{Start}
use Rattle.binlog_cli.specs.Keys.{IsOneLoad}
use Rattle.binlog_cli.specs.Listing.{AgreesWith, HasLogListing, IsLogListing, IsOnlyListing, IsStoppedAt, Listing, ListsOne, listing_of}
use Rattle.binlog_cli.specs.Stops.{FileCauses, IsKeyStop, IsListStop, PrintCauses}
use Rattle.binlog_cli.specs.Words.{IsAskedBy, IsBeforeLog, IsDueAt, IsEndedAt, IsKeyedListing, IsWordsListing, ListValues, asked_digest, asks_hex, filekey_of, key_names_of, log_name_of}
use Rattle.binlog_cli.specs.declared.status.ListStatus.{ListStatus}
use Rattle.binlog_cli.specs.declared.status.ListStatus.TheVariants.{Done, FileFault, Key, Log, OutFault, OutOfMemory, Usage}
use Rattle.binlog_cli.specs.declared.words.ListRequest.{ListRequest}
use Rattle.binlog_cli.proofs.OneList.{SameKeys, lists_one}
use Rattle.io_core.proofs.Streams.{extended-nil}

-- ---- there is one

same_log : (is_hex : Bool) (ring other : List RingEntry) (file : Option (List ℕ)) (l m : Listing) → SameKeys ring other → IsLogListing is_hex ring file l → IsLogListing is_hex other file m → m ≡ l
same_log is_hex ring other file l m same a b =
    let one = lists_one ring other file Start a.events b.events a.end b.end same a.lists b.lists in
    b.is ∙ sym (ap₂ (listing_of is_hex (length (unwrap_or file []))) one.0 one.1) ∙ sym a.is

same_keyed : (is_hex : Bool) (keys others : Result (List RingEntry) LoadFault) (file : Option (List ℕ)) (l m : Listing) → IsSameAnswer keys others
    → IsKeyedListing is_hex keys file l → IsKeyedListing is_hex others file m → m ≡ l
same_keyed is_hex (Ok ring) (Ok other) file l m same a b = same_log is_hex ring other file l m (record { keys = same }) a b
same_keyed is_hex (Ok ring) (Err fault) file l m same a b = absurd same
same_keyed is_hex (Err fault) (Ok ring) file l m same a b = absurd same
same_keyed is_hex (Err fault) (Err other) file l m same a b = b ∙ ap (λ (f : LoadFault). record { text = []; status = Key f }) (sym same) ∙ sym a

-- the keys that are asked for are those of the words
one_load : (values : ListValues) (asked : ListRequest) (files : Files) (keys : Result (List RingEntry) LoadFault) → IsAskedBy values asked
    → IsOneLoad files (option_copied asked.filekey) asked.digest (map string_bytes asked.key_files.items) keys
    → IsOneLoad files (filekey_of values) (unwrap_or (asked_digest values) Sha1) (key_names_of values) keys
one_load values asked files keys is load =
    let digest : asked.digest ≡ unwrap_or (asked_digest values) Sha1 = ap (λ (d : Option KeyDigest). unwrap_or d Sha1) is.digest in
    subst (λ (names : List (List ℕ)). IsOneLoad files (filekey_of values) (unwrap_or (asked_digest values) Sha1) names keys) is.key_files
    (subst (λ (d : KeyDigest). IsOneLoad files (filekey_of values) d (map string_bytes asked.key_files.items) keys) digest
    (subst (λ (f : Option (List ℕ)). IsOneLoad files f asked.digest (map string_bytes asked.key_files.items) keys) is.filekey load))

only_listing : (values : ListValues) (files : Files) (keys : Result (List RingEntry) LoadFault) (listing : Listing)
    → IsOneLoad files (filekey_of values) (unwrap_or (asked_digest values) Sha1) (key_names_of values) keys
    → IsKeyedListing (asks_hex values) keys (files (log_name_of values)) listing → IsOnlyListing (IsWordsListing values files) listing
only_listing values files keys listing load is = record {
  is = record { keys = keys; loads = load.loads; is = is };
  only = λ other o. same_keyed (asks_hex values) keys o.keys (files (log_name_of values)) listing other (load.only o.keys o.loads) is o.is;
}

-- ---- what is answered

-- the keys don't load
pub keys_end : (values : ListValues) (asked : ListRequest) (files : Files) (status : ListStatus) (given : Option (List ℕ)) → IsAskedBy values asked
    → IsListStop status ⊎ ((fault : LoadFault) × (status ≡ Key fault) × IsOneLoad files (option_copied asked.filekey) asked.digest (map string_bytes asked.key_files.items) (Err fault))
    → ListsOne (IsWordsListing values files) given given status
keys_end values asked files status given is (inl stop) = inl (stop, refl)
keys_end values asked files status given is (inr refused) =
    let listing : Listing = record { text = []; status = Key refused.0 } in
    inr (record {
      listing = listing;
      is = only_listing values files (Err refused.0) listing (one_load values asked files (Err refused.0) is refused.2) refl;
      agrees = subst (AgreesWith listing given given) (sym refused.1) (refl, extended-nil given);
    })

-- the log was listed under the keys
pub log_end : (values : ListValues) (asked : ListRequest) (files : Files) (ring : List RingEntry) (status : ListStatus) (before now : Option (List ℕ)) → IsAskedBy values asked
    → IsOneLoad files (option_copied asked.filekey) asked.digest (map string_bytes asked.key_files.items) (Ok ring)
    → HasLogListing asked.is_hex ring (files asked.name.now) before now status → ListsOne (IsWordsListing values files) before now status
log_end values asked files ring status before now is load has =
    let keyed : IsLogListing (asks_hex values) ring (files (log_name_of values)) has.listing =
    subst (λ (h : Bool). IsLogListing h ring (files (log_name_of values)) has.listing) is.hex
    (subst (λ (n : List ℕ). IsLogListing asked.is_hex ring (files n) has.listing) is.name has.is) in
    inr (record { listing = has.listing; is = only_listing values files (Ok ring) has.listing (one_load values asked files (Ok ring) is load) keyed; agrees = has.agrees })

-- a file that was due
pub key_due : (values : ListValues) (asked : ListRequest) (files : Files) (due : List ℕ) → IsAskedBy values asked
    → IsDue files (option_copied asked.filekey) asked.digest 0 (map string_bytes asked.key_files.items) due → IsDueAt values files None due
key_due values asked files due is calls =
    let digest : asked.digest ≡ unwrap_or (asked_digest values) Sha1 = ap (λ (d : Option KeyDigest). unwrap_or d Sha1) is.digest in
    subst (λ (names : List (List ℕ)). IsDue files (filekey_of values) (unwrap_or (asked_digest values) Sha1) 0 names due) is.key_files
    (subst (λ (d : KeyDigest). IsDue files (filekey_of values) d 0 (map string_bytes asked.key_files.items) due) digest
    (subst (λ (f : Option (List ℕ)). IsDue files f asked.digest 0 (map string_bytes asked.key_files.items) due) is.filekey calls))

pub log_due : (values : ListValues) (asked : ListRequest) (files : Files) (ring : List RingEntry) (place : ℕ) → IsAskedBy values asked
    → IsOneLoad files (option_copied asked.filekey) asked.digest (map string_bytes asked.key_files.items) (Ok ring) → IsDueAt values files (Some place) asked.name.now
log_due values asked files ring place is load = let one = one_load values asked files (Ok ring) is load in (ring, one.loads, is.name)

-- where the listing of the log stopped
pub log_ended : (values : ListValues) (asked : ListRequest) (files : Files) (ring : List RingEntry) (status : ListStatus) (reached : Option ℕ) (place : ℕ) → IsAskedBy values asked
    → reached ≡ Some place → IsOneLoad files (option_copied asked.filekey) asked.digest (map string_bytes asked.key_files.items) (Ok ring)
    → IsStoppedAt ring (files asked.name.now) status place → IsEndedAt values files status reached
log_ended values asked files ring status reached place is at load stopped =
    let one = one_load values asked files (Ok ring) is load in
    subst (IsEndedAt values files status) (sym at)
    (ring, one.loads, subst (λ (n : List ℕ). IsStoppedAt ring (files n) status place) is.name stopped)

-- the keys were not loaded
pub keys_ended : (status : ListStatus) → IsKeyStop status → IsBeforeLog status
keys_ended FileFault stop = tt
keys_ended OutOfMemory stop = tt
keys_ended (Key fault) stop = tt
keys_ended Usage stop = tt
keys_ended Done stop = absurd stop
keys_ended (Log fault) stop = absurd stop
keys_ended OutFault stop = absurd stop

-- where no count rose
not_stopped : (Is : Listing → Type 0) (before now : Option (List ℕ)) (status : ListStatus) → (IsListStop status → ⊥) → ((listing : Listing) → AgreesWith listing before now status → status ≡ listing.status)
    → ListsOne Is before now status → (listing : Listing) × IsOnlyListing Is listing × (status ≡ listing.status)
not_stopped Is before now status stop own (inl stopped) = absurd (stop stopped.0)
not_stopped Is before now status stop own (inr has) = (has.listing, has.is, own has.listing has.agrees)

pub completes : (Is : Listing → Type 0) (before now : Option (List ℕ)) (status : ListStatus) (faults faults' absences absences' outs outs' : ℕ) → ListsOne Is before now status
    → FileCauses {T = Unit {0}} faults faults' absences absences' (Err status) → PrintCauses {T = Unit {0}} outs outs' (Err status) → (status ≡ Usage → ⊥)
    → (Rose faults faults' → ⊥) → (Rose outs outs' → ⊥) → (status ≡ OutOfMemory) ⊎ ((listing : Listing) × IsOnlyListing Is listing × (status ≡ listing.status))
completes Is before now FileFault faults faults' absences absences' outs outs' lists files sink taken calm quiet = absurd (calm (files.fault refl))
completes Is before now OutFault faults faults' absences absences' outs outs' lists files sink taken calm quiet = absurd (quiet (sink.fault refl))
completes Is before now OutOfMemory faults faults' absences absences' outs outs' lists files sink taken calm quiet = inl refl
completes Is before now Usage faults faults' absences absences' outs outs' lists files sink taken calm quiet = absurd (taken refl)
completes Is before now Done faults faults' absences absences' outs outs' lists files sink taken calm quiet = inr (not_stopped Is before now Done (λ stop. stop) (λ listing agrees. agrees.0) lists)
completes Is before now (Log fault) faults faults' absences absences' outs outs' lists files sink taken calm quiet = inr (not_stopped Is before now (Log fault) (λ stop. stop) (λ listing agrees. agrees.0) lists)
completes Is before now (Key fault) faults faults' absences absences' outs outs' lists files sink taken calm quiet = inr (not_stopped Is before now (Key fault) (λ stop. stop) (λ listing agrees. agrees.0) lists)
