-- What a file's report comes to, and what was given of it.
use Rattle.std.proofs.Common.{◌≡◌, ◌≤◌, ◌<◌, ◌/◌, ◌%◌, ℕ, Bool, true, false, List, [], ◌++◌, length, cond, refl, sym, ap, ap₂, subst, ◌∙◌, Option, Some, None, Result, Ok, Err, OnOk, OnErr, IfErr, IsErrAnd, ◌⊎◌, inl, inr, arith}
use Rattle.std.proofs.lemmas.Bool.{le-ltb, lt-ltb}
use Rattle.std.proofs.lemmas.List.{append-nil}
use Rattle.io_core.specs.Stream.{IsPartlyGiven, extended}
use Rattle.io_core.proofs.Streams.{given_then, extended-nil, front_given, part_given}
use Rattle.byte_list.specs.Fields.{be32_at}
use Rattle.space_head.specs.Sizes.{page_size}
use Rattle.space_head.specs.declared.fault.HeadFault.{HeadFault}
use Rattle.innochecksum_cli.specs.Pages.{FilePage, whole_pages}
use Rattle.innochecksum_cli.specs.Lines.{pages_line}
use Rattle.innochecksum_cli.specs.Looks.{IsPageScan}
use Rattle.innochecksum_cli.specs.Stops.{IsOutsideStatus, status_of}
use Rattle.innochecksum_cli.specs.Inspection.{Agrees, Report, ending, inspected, is_cut, refused, report_of, selected, sized_report}
use Rattle.innochecksum_cli.specs.declared.options.Options.{Options}
use Rattle.innochecksum_cli.specs.declared.looks.PageScan.{PageScan}
use Rattle.innochecksum_cli.specs.declared.status.CheckStatus.{CheckStatus}
use Rattle.innochecksum_cli.specs.declared.status.CheckStatus.TheVariants.{Done, Head, Missing, Short, Truncated}
use Rattle.innochecksum_cli.proofs.Fronts.{none_given, stop_agrees_by}
use Rattle.innochecksum_cli.proofs.Reports.{lines, report_end}

pub sized_short : (o : Options) (file : List ℕ) (size : ℕ) → length file < size → sized_report o file size ≡ refused (Short (length file))
unfolding sized_report
sized_short o file size short = rw (lt-ltb (length file) size short) refl

pub sized_count : (o : Options) (file : List ℕ) (size : ℕ) → size ≤ length file → o.count ≡ true → sized_report o file size ≡ record { text = pages_line (length file / size); status = Done }
unfolding sized_report
sized_count o file size fits counts = rw (le-ltb (length file) size fits, counts) refl

pub sized_pages : (o : Options) (file : List ℕ) (size : ℕ) → size ≤ length file → o.count ≡ false
    → sized_report o file size ≡ report_of o (selected o (whole_pages size file)) (length file / size) (length file % size)
unfolding sized_report
sized_pages o file size fits counts = rw (le-ltb (length file) size fits, counts) refl

pub inspected_none : (o : Options) → inspected o None ≡ refused Missing
unfolding inspected
inspected_none o = refl

pub inspected_short : (o : Options) (file : List ℕ) → length file < 4096 → inspected o (Some file) ≡ refused (Short (length file))
unfolding inspected
inspected_short o file short = rw (lt-ltb (length file) 4096 short) refl

pub inspected_head : (o : Options) (file : List ℕ) (fault : HeadFault) → 4096 ≤ length file → page_size (be32_at file 54) ≡ Err fault → inspected o (Some file) ≡ refused (Head fault)
unfolding inspected
inspected_head o file fault fits named = rw (le-ltb (length file) 4096 fits, named) refl

pub inspected_sized : (o : Options) (file : List ℕ) (size : ℕ) → 4096 ≤ length file → page_size (be32_at file 54) ≡ Ok size → inspected o (Some file) ≡ sized_report o file size
unfolding inspected
inspected_sized o file size fits named = rw (le-ltb (length file) 4096 fits, named) refl

-- what agrees with a report agrees with the same report
pub agrees_same : (r s : Report) (before now : Option (List ℕ)) (status : CheckStatus) → r ≡ s → Agrees s before now status → Agrees r before now status
agrees_same r s before now status same agrees = subst (λ (t : Report). Agrees t before now status) (sym same) agrees

pub status_is : (r : Result (Unit {0}) CheckStatus) (status : CheckStatus) → IsErrAnd r (λ s. s ≡ status) → status_of r ≡ status
status_is (Ok u) status is = absurd is
status_is (Err s) status is = is

-- a call that ends with one give of a whole text
pub give_agrees : (r : Result (Unit {0}) CheckStatus) (text : List ℕ) (before now : Option (List ℕ)) → OnOk r (now ≡ extended text before)
    → OnErr r (IsPartlyGiven text before now) → IfErr r IsOutsideStatus → Agrees (record { text = text; status = Done }) before now (status_of r)
give_agrees (Ok u) text before now given part stop = (refl, given)
give_agrees (Err status) text before now given part stop = stop_agrees_by (record { text = text; status = Done }) before now status stop part

pub stopped_status : (r : Result (Unit {0}) CheckStatus) (report : Report) (before now : Option (List ℕ)) → IsErrAnd r IsOutsideStatus → IsPartlyGiven report.text before now
    → Agrees report before now (status_of r)
stopped_status (Ok u) report before now stop part = absurd stop
stopped_status (Err status) report before now stop part = stop_agrees_by report before now status stop part

-- the pages were looked at, and the ending isn't given yet
pub looked_partly : (o : Options) (pages : List FilePage) (count rest : ℕ) (before now : Option (List ℕ)) (looked : PageScan) → IsPageScan pages count rest o.allowed before now looked
    → IsPartlyGiven (report_of o pages count rest).text before now
looked_partly o pages count rest before now looked is =
    front_given (lines pages) (ending o pages count rest) (report_of o pages count rest).text before now
    (ap (λ (r : Report). r.text) (report_end o pages count rest is.few)) is.given

ending_same : (o : Options) (pages : List FilePage) (count rest : ℕ) (before now : Option (List ℕ)) (looked : PageScan) → IsPageScan pages count rest o.allowed before now looked
    → ending o pages looked.whole looked.rest ≡ ending o pages count rest
ending_same o pages count rest before now looked is = ap₂ (ending o pages) is.whole is.rest_is

-- a part of the ending was given
pub ending_partly : (o : Options) (pages : List FilePage) (count rest : ℕ) (before mid now : Option (List ℕ)) (looked : PageScan) (text : List ℕ) → IsPageScan pages count rest o.allowed before mid looked
    → text ≡ ending o pages looked.whole looked.rest → IsPartlyGiven text mid now → IsPartlyGiven (report_of o pages count rest).text before now
ending_partly o pages count rest before mid now looked text is end part =
    let whole = ap (λ (r : Report). r.text) (report_end o pages count rest is.few) in
    let same = end ∙ ending_same o pages count rest before mid looked is in
    part_given (lines pages) (ending o pages count rest) [] (report_of o pages count rest).text before mid now
    (whole ∙ ap (λ (t : List ℕ). lines pages ++ t) (sym (append-nil (ending o pages count rest)))) is.given
    (subst (λ (t : List ℕ). IsPartlyGiven t mid now) same part)

-- the ending was given, and the status is its own
pub ending_given : (o : Options) (pages : List FilePage) (count rest : ℕ) (before mid now : Option (List ℕ)) (looked : PageScan) (text : List ℕ) (status : CheckStatus) → IsPageScan pages count rest o.allowed before mid looked
    → text ≡ ending o pages looked.whole looked.rest → now ≡ extended text mid → status ≡ cond (is_cut o looked.whole looked.rest) Truncated Done
    → (status ≡ (report_of o pages count rest).status) × (now ≡ extended (report_of o pages count rest).text before)
ending_given o pages count rest before mid now looked text status is end given ends =
    let whole = report_end o pages count rest is.few in
    let same = end ∙ ending_same o pages count rest before mid looked is in
    let cut : is_cut o looked.whole looked.rest ≡ is_cut o count rest = ap₂ (is_cut o) is.whole is.rest_is in
    let said = given_then before mid now (lines pages) text is.given given in (
      ends ∙ ap (λ (b : Bool). cond b Truncated Done) cut ∙ sym (ap (λ (r : Report). r.status) whole),
      said ∙ ap (λ (t : List ℕ). extended t before) (ap (λ (t : List ℕ). lines pages ++ t) same ∙ sym (ap (λ (r : Report). r.text) whole)),
    )

-- the first call on the library answered no length
pub length_agrees : (o : Options) (found : Option (List ℕ)) (status : CheckStatus) (given : Option (List ℕ)) → ((status ≡ Missing) × (found ≡ None)) ⊎ IsOutsideStatus status
    → Agrees (inspected o found) given given status
length_agrees o found status given (inl absent) =
    subst (λ (s : CheckStatus). Agrees (inspected o found) given given s) (sym absent.0)
    (agrees_same (inspected o found) (refused Missing) given given Missing (ap (inspected o) absent.1 ∙ inspected_none o) (refl, extended-nil given))
length_agrees o found status given (inr stop) = stop_agrees_by (inspected o found) given given status stop (none_given (inspected o found).text given)

-- the file has fewer bytes than the least page
pub short_agrees : (o : Options) (found : Option (List ℕ)) (file : List ℕ) (bytes : ℕ) (given : Option (List ℕ)) → found ≡ Some file → bytes ≡ length file → bytes < 4096
    → Agrees (inspected o found) given given (Short bytes)
short_agrees o found file bytes given is same short =
    agrees_same (inspected o found) (refused (Short (length file))) given given (Short bytes) (ap (inspected o) is ∙ inspected_short o file (omega (arith, same, short)))
    (ap Short same, extended-nil given)

-- the flags name no size
pub size_agrees : (o : Options) (found : Option (List ℕ)) (file : List ℕ) (status : CheckStatus) (given : Option (List ℕ)) → found ≡ Some file → 4096 ≤ length file
    → ((fault : HeadFault) × (status ≡ Head fault) × (page_size (be32_at file 54) ≡ Err fault)) ⊎ IsOutsideStatus status → Agrees (inspected o found) given given status
size_agrees o found file status given is fits (inl head) =
    subst (λ (s : CheckStatus). Agrees (inspected o found) given given s) (sym head.1)
    (agrees_same (inspected o found) (refused (Head head.0)) given given (Head head.0) (ap (inspected o) is ∙ inspected_head o file head.0 fits head.2) (refl, extended-nil given))
size_agrees o found file status given is fits (inr stop) = stop_agrees_by (inspected o found) given given status stop (none_given (inspected o found).text given)

-- the size is known
pub sized_agrees : (o : Options) (found : Option (List ℕ)) (file : List ℕ) (size long : ℕ) (before now : Option (List ℕ)) (status : CheckStatus) → found ≡ Some file → 4096 ≤ length file
    → page_size (be32_at file 54) ≡ Ok size → long ≡ size → Agrees (sized_report o file long) before now status → Agrees (inspected o found) before now status
sized_agrees o found file size long before now status is fits named same agrees =
    agrees_same (inspected o found) (sized_report o file long) before now status (ap (inspected o) is ∙ inspected_sized o file size fits named ∙ ap (sized_report o file) (sym same)) agrees
