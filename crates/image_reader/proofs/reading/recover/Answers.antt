use Rattle.std.proofs.Common.{rules, ◌≢◌, ℕ, List, ◌≡◌, ◌+◌, subst, arith}
use Rattle.std.specs.Prelude.{IsErrAnd}
use Rattle.key_ring.specs.Ring.{RingEntry}
use Rattle.places.specs.Places.{place}
use Rattle.redo_text.specs.declared.change.Change.{Change}
use Rattle.store_image.specs.Places.{LogView}
use Rattle.store_model.specs.declared.contents.SpaceContents.{SpaceContents}
use Rattle.store_files.specs.Header.{HeldHeader}
use Rattle.store_files.specs.Run.{IsLogOf, IsClear}
use Rattle.store_files.proofs.ContentsOnce.{header_order}
use Rattle.crash_image.specs.Recovers.{HasHeader, AreLong, RunIsOfStore, RecoversBy, Recovers}
use Rattle.image_reader.specs.Files.{ImageFiles, image_of}
use Rattle.image_log.specs.Late.{IsLateBlock}
use Rattle.image_log.specs.declared.blocks.LateBlock.{LateBlock as Late}
use Rattle.image_reader.specs.Homes.{AreHomesRight}
use Rattle.image_reader.specs.Refusals.{HasLog, HasStoreRun, HasContents, IsRefusalOf}
use Rattle.image_reader.specs.Spaces.{AllGive}
use Rattle.image_reader.specs.declared.refusal.Refusal.{Refusal}
use Rattle.image_reader.specs.declared.refusal.Refusal.TheVariants.{OtherPages, LateBlock, OutOfMemory as NoMemory}
use Rattle.store_files.proofs.HeaderBounds.{header_blocks}
use Rattle.image_reader.proofs.Recovery.{spaces_of, view_recovers}
use Rattle.image_reader.proofs.Refused.{never_refused, contents_refused, home_refused, homes_of, length_refused}
use Rattle.image_reader.proofs.reading.recover.Goals as goal
use Rattle.cause_core.proofs.Causes.{handed}

log_of : (files : ImageFiles) (keys : List RingEntry) (header : HeldHeader) (text : LogView (List Change)) (bytes : List ℕ) → HasHeader (image_of files) header → AreLong (image_of files) header → bytes ≡ files.log → IsLogOf header keys bytes text → HasLog (image_of files) keys header text
log_of files keys header text bytes is long same run = record { files = record { is_header = is; long = long }; is = subst (λ (b : List ℕ). IsLogOf header keys b text) same run }

clear_same : (a b : ℕ) (f g : List ℕ) (n m : ℕ) → a ≡ b → f ≡ g → n ≡ m → IsClear a f n → IsClear b g m
clear_same a b f g n m ab fg nm clear = subst (λ (k : ℕ). IsClear b g k) nm (subst (λ (h : List ℕ). IsClear b h n) fg (subst (λ (k : ℕ). IsClear k f n) ab clear))

run_of : (files : ImageFiles) (keys : List RingEntry) (header : HeldHeader) (text : LogView (List Change)) (bytes : List ℕ) → HasHeader (image_of files) header → AreLong (image_of files) header → bytes ≡ files.log → IsLogOf header keys bytes text → RunIsOfStore header.spaces text.run → HasStoreRun (image_of files) keys header text
run_of files keys header text bytes is long same run of_store = record { log = log_of files keys header text bytes is long same run; of_store = of_store }

contents_of : (files : ImageFiles) (keys : List RingEntry) (header : HeldHeader) (text : LogView (List Change)) (xs : List SpaceContents) → HasStoreRun (image_of files) keys header text → AreHomesRight files header.spaces → AllGive header keys text files header.spaces xs → HasContents (image_of files) keys header text xs
contents_of files keys header text xs run homes all = record { homes = homes_of files keys header text run homes; spaces = spaces_of header keys text files header.spaces xs all; pages = view_recovers header keys text files xs all }

abbrev Never : ImageFiles → List RingEntry → Refusal → Type 0
Never files keys refusal = refusal ≢ NoMemory → (xs : List SpaceContents) (last : ℕ) → Recovers (image_of files) keys xs last → ⊥

never : (files : ImageFiles) (keys : List RingEntry) (refusal : Refusal) → IsRefusalOf (image_of files) keys refusal → Never files keys refusal
never files keys refusal is = λ some xs last r. never_refused (image_of files) keys xs last r refusal is some

recovers_by : (files : ImageFiles) (keys : List RingEntry) (header : HeldHeader) (text : LogView (List Change)) (xs : List SpaceContents) → HasContents (image_of files) keys header text xs → IsClear header.blocks files.log (text.end + header.blocks) → RecoversBy (image_of files) keys header text xs
recovers_by files keys header text xs has clear = record {
  reading = record {
    long = has.homes.run.log.files.long;
    run = has.homes.run.log.is;
    of_store = has.homes.run.of_store;
    placed = has.homes.placed;
    spaces = has.spaces;
    clear = clear;
  };
  pages = has.pages;
}

pub read_log-requires-clause-least : goal.read_log-requires-clause-least
read_log-requires-clause-least c = (header_blocks (place 4096 0 c.args.files.now.log) c.in_ok-header.header c.in_ok-header.ensures.ok).0

pub read_log-requires-clause-most : goal.read_log-requires-clause-most
read_log-requires-clause-most c = (header_blocks (place 4096 0 c.args.files.now.log) c.in_ok-header.header c.in_ok-header.ensures.ok).1

pub returns-in_err-check_lengths-clause-fault : goal.returns-in_err-check_lengths-clause-fault
returns-in_err-check_lengths-clause-fault c =
    let is : IsErrAnd c.from_residual-in_err-check_lengths.result (λ e. e ≡ c.in_err-check_lengths.field-0.0) = search rules in
    handed (IsRefusalOf (image_of c.args.files.now) c.args.keys.now) c.from_residual-in_err-check_lengths.result c.in_err-check_lengths.field-0.0 is
    (length_refused (image_of c.args.files.now) c.args.keys.now c.in_ok-header.header c.in_ok-header.ensures.ok c.in_ok-header.ensures.long c.in_err-check_lengths.field-0.0 c.in_err-check_lengths.ensures.fault)

pub returns-in_err-check_lengths-clause-never : goal.returns-in_err-check_lengths-clause-never
returns-in_err-check_lengths-clause-never c =
    let is : IsErrAnd c.from_residual-in_err-check_lengths.result (λ e. e ≡ c.in_err-check_lengths.field-0.0) = search rules in
    let refused = length_refused (image_of c.args.files.now) c.args.keys.now c.in_ok-header.header c.in_ok-header.ensures.ok c.in_ok-header.ensures.long c.in_err-check_lengths.field-0.0 c.in_err-check_lengths.ensures.fault in
    handed (Never c.args.files.now c.args.keys.now) c.from_residual-in_err-check_lengths.result c.in_err-check_lengths.field-0.0 is (never c.args.files.now c.args.keys.now c.in_err-check_lengths.field-0.0 refused)

pub returns-in-Some-clause-fault : goal.returns-in-Some-clause-fault
returns-in-Some-clause-fault c =
    let has = log_of c.args.files.now c.args.keys.now c.in_ok-header.header c.in_ok-log.log c.log.result.now c.in_ok-header.ensures.ok c.in_ok-check_lengths.ensures.ok c.log.ensures c.in_ok-log.ensures.ok in
    (c.in_ok-header.header, c.in_ok-log.log, has, c.in-Some.ensures.some)

pub returns-in-Some-clause-never : goal.returns-in-Some-clause-never
returns-in-Some-clause-never c =
    let has = log_of c.args.files.now c.args.keys.now c.in_ok-header.header c.in_ok-log.log c.log.result.now c.in_ok-header.ensures.ok c.in_ok-check_lengths.ensures.ok c.log.ensures c.in_ok-log.ensures.ok in
    never c.args.files.now c.args.keys.now (OtherPages c.in-Some.first) (c.in_ok-header.header, c.in_ok-log.log, has, c.in-Some.ensures.some)

pub returns-in_err-check_homes-clause-fault : goal.returns-in_err-check_homes-clause-fault
returns-in_err-check_homes-clause-fault c =
    let is : IsErrAnd c.from_residual-in_err-check_homes.result (λ e. e ≡ c.in_err-check_homes.field-0.0) = search rules in
    let run = run_of c.args.files.now c.args.keys.now c.in_ok-header.header c.in_ok-log.log c.log.result.now c.in_ok-header.ensures.ok c.in_ok-check_lengths.ensures.ok c.log.ensures c.in_ok-log.ensures.ok c.in_default.ensures.none in
    handed (IsRefusalOf (image_of c.args.files.now) c.args.keys.now) c.from_residual-in_err-check_homes.result c.in_err-check_homes.field-0.0 is
    (home_refused c.args.files.now c.args.keys.now c.in_ok-header.header c.in_ok-log.log run c.in_err-check_homes.field-0.0 c.in_err-check_homes.ensures.fault)

pub returns-in_err-check_homes-clause-never : goal.returns-in_err-check_homes-clause-never
returns-in_err-check_homes-clause-never c =
    let is : IsErrAnd c.from_residual-in_err-check_homes.result (λ e. e ≡ c.in_err-check_homes.field-0.0) = search rules in
    let run = run_of c.args.files.now c.args.keys.now c.in_ok-header.header c.in_ok-log.log c.log.result.now c.in_ok-header.ensures.ok c.in_ok-check_lengths.ensures.ok c.log.ensures c.in_ok-log.ensures.ok c.in_default.ensures.none in
    let refused = home_refused c.args.files.now c.args.keys.now c.in_ok-header.header c.in_ok-log.log run c.in_err-check_homes.field-0.0 c.in_err-check_homes.ensures.fault in
    handed (Never c.args.files.now c.args.keys.now) c.from_residual-in_err-check_homes.result c.in_err-check_homes.field-0.0 is (never c.args.files.now c.args.keys.now c.in_err-check_homes.field-0.0 refused)

pub contents_of-requires-clause-order : goal.contents_of-requires-clause-order
contents_of-requires-clause-order c = header_order (place 4096 0 c.args.files.now.log) c.in_ok-header.header c.in_ok-header.ensures.ok

pub returns-in_err-contents-clause-fault : goal.returns-in_err-contents-clause-fault
returns-in_err-contents-clause-fault c =
    let is : IsErrAnd c.from_residual-in_err-contents.result (λ e. e ≡ c.in_err-contents.field-0.0) = search rules in
    let run = run_of c.args.files.now c.args.keys.now c.in_ok-header.header c.in_ok-log.log c.log.result.now c.in_ok-header.ensures.ok c.in_ok-check_lengths.ensures.ok c.log.ensures c.in_ok-log.ensures.ok c.in_default.ensures.none in
    let homes = homes_of c.args.files.now c.args.keys.now c.in_ok-header.header c.in_ok-log.log run c.in_ok-check_homes.ensures.ok in
    handed (IsRefusalOf (image_of c.args.files.now) c.args.keys.now) c.from_residual-in_err-contents.result c.in_err-contents.field-0.0 is
    (contents_refused c.args.files.now c.args.keys.now c.in_ok-header.header c.in_ok-log.log homes c.in_err-contents.field-0.0 c.in_err-contents.ensures.fault)

pub returns-in_err-contents-clause-never : goal.returns-in_err-contents-clause-never
returns-in_err-contents-clause-never c =
    let is : IsErrAnd c.from_residual-in_err-contents.result (λ e. e ≡ c.in_err-contents.field-0.0) = search rules in
    let run = run_of c.args.files.now c.args.keys.now c.in_ok-header.header c.in_ok-log.log c.log.result.now c.in_ok-header.ensures.ok c.in_ok-check_lengths.ensures.ok c.log.ensures c.in_ok-log.ensures.ok c.in_default.ensures.none in
    let homes = homes_of c.args.files.now c.args.keys.now c.in_ok-header.header c.in_ok-log.log run c.in_ok-check_homes.ensures.ok in
    let refused = contents_refused c.args.files.now c.args.keys.now c.in_ok-header.header c.in_ok-log.log homes c.in_err-contents.field-0.0 c.in_err-contents.ensures.fault in
    handed (Never c.args.files.now c.args.keys.now) c.from_residual-in_err-contents.result c.in_err-contents.field-0.0 is (never c.args.files.now c.args.keys.now c.in_err-contents.field-0.0 refused)

late_same : (a b : ℕ) (f g : List ℕ) (n m : ℕ) (late : Late) → a ≡ b → f ≡ g → n ≡ m → IsLateBlock a f n late → IsLateBlock b g m late
late_same a b f g n m late ab fg nm is = subst (λ (X : Type 0). X) (λ i. IsLateBlock (ab i) (fg i) (nm i) late) is

pub returns-in-Some-late_block-clause-fault : goal.returns-in-Some-late_block-clause-fault
returns-in-Some-late_block-clause-fault c =
    let run = run_of c.args.files.now c.args.keys.now c.in_ok-header.header c.in_ok-log.log c.log.result.now c.in_ok-header.ensures.ok c.in_ok-check_lengths.ensures.ok c.log.ensures c.in_ok-log.ensures.ok c.in_default.ensures.none in
    let has = contents_of c.args.files.now c.args.keys.now c.in_ok-header.header c.in_ok-log.log c.in_ok-contents.contents run c.in_ok-check_homes.ensures.ok c.in_ok-contents.ensures.ok in
    let end = c.end.ensures.value in
    let from = c.from.ensures in
    let blocks = c.blocks-2.ensures in
    let at : c.end.result + c.from.result ≡ c.in_ok-log.log.end + c.in_ok-header.header.blocks = omega (arith, end, from, blocks) in
    let late = late_same _ _ _ _ _ _ c.in-Some-late_block.late c.blocks-3.ensures c.log-3.ensures at c.in-Some-late_block.ensures.some in
    (c.in_ok-header.header, c.in_ok-log.log, c.in_ok-contents.contents, has, late)

pub returns-in-Some-late_block-clause-never : goal.returns-in-Some-late_block-clause-never
returns-in-Some-late_block-clause-never c =
    let run = run_of c.args.files.now c.args.keys.now c.in_ok-header.header c.in_ok-log.log c.log.result.now c.in_ok-header.ensures.ok c.in_ok-check_lengths.ensures.ok c.log.ensures c.in_ok-log.ensures.ok c.in_default.ensures.none in
    let has = contents_of c.args.files.now c.args.keys.now c.in_ok-header.header c.in_ok-log.log c.in_ok-contents.contents run c.in_ok-check_homes.ensures.ok c.in_ok-contents.ensures.ok in
    let end = c.end.ensures.value in
    let from = c.from.ensures in
    let blocks = c.blocks-2.ensures in
    let at : c.end.result + c.from.result ≡ c.in_ok-log.log.end + c.in_ok-header.header.blocks = omega (arith, end, from, blocks) in
    let late = late_same _ _ _ _ _ _ c.in-Some-late_block.late c.blocks-3.ensures c.log-3.ensures at c.in-Some-late_block.ensures.some in
    never c.args.files.now c.args.keys.now (LateBlock c.in-Some-late_block.late.place c.in-Some-late_block.late.number) (c.in_ok-header.header, c.in_ok-log.log, c.in_ok-contents.contents, has, late)

pub returns-clause-ok : goal.returns-clause-ok
returns-clause-ok c =
    let run = run_of c.args.files.now c.args.keys.now c.in_ok-header.header c.in_ok-log.log c.log.result.now c.in_ok-header.ensures.ok c.in_ok-check_lengths.ensures.ok c.log.ensures c.in_ok-log.ensures.ok c.in_default.ensures.none in
    let has = contents_of c.args.files.now c.args.keys.now c.in_ok-header.header c.in_ok-log.log c.in_ok-contents.contents run c.in_ok-check_homes.ensures.ok c.in_ok-contents.ensures.ok in
    let end = c.end.ensures.value in
    let from = c.from.ensures in
    let blocks = c.blocks-2.ensures in
    let at : c.end.result + c.from.result ≡ c.in_ok-log.log.end + c.in_ok-header.header.blocks = omega (arith, end, from, blocks) in
    let clear = clear_same _ _ _ _ _ _ c.blocks-3.ensures c.log-3.ensures at c.in_default-late_block.ensures.none in
    let value = c.end-last.ensures.value in
    let least = c.end-last.ensures.least in
    record {
      is_header = c.in_ok-header.ensures.ok;
      by = recovers_by c.args.files.now c.args.keys.now c.in_ok-header.header c.in_ok-log.log c.in_ok-contents.contents has clear;
      is_last = omega (arith, value, least);
    }

pub returns-clause-recovers : goal.returns-clause-recovers
returns-clause-recovers c =
    let run = run_of c.args.files.now c.args.keys.now c.in_ok-header.header c.in_ok-log.log c.log.result.now c.in_ok-header.ensures.ok c.in_ok-check_lengths.ensures.ok c.log.ensures c.in_ok-log.ensures.ok c.in_default.ensures.none in
    let has = contents_of c.args.files.now c.args.keys.now c.in_ok-header.header c.in_ok-log.log c.in_ok-contents.contents run c.in_ok-check_homes.ensures.ok c.in_ok-contents.ensures.ok in
    let end = c.end.ensures.value in
    let from = c.from.ensures in
    let blocks = c.blocks-2.ensures in
    let at : c.end.result + c.from.result ≡ c.in_ok-log.log.end + c.in_ok-header.header.blocks = omega (arith, end, from, blocks) in
    let clear = clear_same _ _ _ _ _ _ c.blocks-3.ensures c.log-3.ensures at c.in_default-late_block.ensures.none in
    let value = c.end-last.ensures.value in
    let least = c.end-last.ensures.least in
    record {
      header = c.in_ok-header.header;
      is_header = c.in_ok-header.ensures.ok;
      log = c.in_ok-log.log;
      is_last = omega (arith, value, least);
      by = recovers_by c.args.files.now c.args.keys.now c.in_ok-header.header c.in_ok-log.log c.in_ok-contents.contents has clear;
    }
