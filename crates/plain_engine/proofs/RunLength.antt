-- How many entries an image keeps, as a scan counts them.
use Rattle.std.proofs.Common.{◌≡◌, ℕ, ◌≤◌, List, length, map, take, sym, ◌∙◌, ap, subst, arith}
use Rattle.std.proofs.lemmas.List.{length-take-le, length-map}
use Rattle.disk_model.specs.Event.{Event}
use Rattle.disk_model.specs.Image.{Image}
use Rattle.disk_model.specs.declared.names.FileName.TheVariants.{Log}
use Rattle.plain_engine.specs.declared.journal.Entry.{Entry}
use Rattle.plain_engine.specs.Text.{mtr_text}
use Rattle.plain_engine.specs.Log.{IsRunFrom, LogRecovers}
use Rattle.plain_engine.specs.Stands.{mtrs, LogStands, LogKeeps}
use Rattle.disk_model.specs.Crash.{synced_bytes}
use Rattle.plain_engine.specs.Kept.{IsExact}
use Rattle.plain_engine.proofs.BlocksRead.{run_once}

length-mtrs : (journal : List Entry) → length (mtrs journal) ≡ length journal
length-mtrs journal = length-map journal (λ (e : Entry). e.mtr)

-- a run of the first so many entries has so many texts
pub run-length : (file : List ℕ) (journal : List Entry) (count : ℕ) (texts : List (List ℕ)) → count ≤ length journal → LogRecovers file (take count (mtrs journal)) → IsRunFrom 2 file texts → length texts ≡ count
run-length file journal count texts le r is =
    let long = length-mtrs journal in
    ap length (run_once 2 file texts (map mtr_text (take count (mtrs journal))) is r.blocks)
    ∙ length-map (take count (mtrs journal)) mtr_text ∙ length-take-le count (mtrs journal) (omega (arith, long))

-- The texts that a scan of a standing image gives are as many as the entries that it keeps.
pub kept-scan : (journal : List Entry) (image : Image) (texts : List (List ℕ)) → LogStands journal image → IsRunFrom 2 (image.bytes Log) texts → LogKeeps journal image (length texts)
kept-scan journal image texts s is =
    subst (LogKeeps journal image) (sym (run-length (image.bytes Log) journal s.count texts s.within s.recovers is)) (record { within = s.within; recovers = s.recovers; acked = s.acked })

-- Where each later write is lost, the settled entries are kept.
pub settled-scan : (journal : List Entry) (settled acked : ℕ) (es : List Event) (texts : List (List ℕ)) → settled ≤ length journal → IsExact journal settled acked es → IsRunFrom 2 (synced_bytes Log es) texts → length texts ≡ settled
settled-scan journal settled acked es texts le x is = run-length (synced_bytes Log es) journal settled texts le x.recovers is
