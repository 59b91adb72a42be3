-- Rings with the same keys have the same list of events of a log, and there is one.
use Rattle.std.proofs.Common.{◌≡◌, ℕ, List, [], ◌∷◌, take, refl, sym, ap, subst, ◌∙◌, Option, Some, None, Result, Ok, Err}
use Rattle.key_ring.specs.Ring.{RingEntry, ring_key}
use Rattle.binlog_text.specs.Header.{whole}
use Rattle.binlog_text.specs.Events.{BinlogEvent, Found, Lists, answered, event_in, opened, opened_by, opened_event, placed, placed_event, taken_event, unlocked}
use Rattle.binlog_text.specs.declared.fault.BinlogFault.{BinlogFault}
use Rattle.binlog_text.specs.declared.format.EventCipher.{EventCipher}
use Rattle.binlog_text.specs.declared.format.LogFormat.{LogFormat}
use Rattle.binlog_text.specs.declared.stage.Position.{Position}
use Rattle.binlog_text.specs.declared.stage.Stage.{Stage}
use Rattle.binlog_text.specs.declared.stage.Stage.TheVariants.{Events}

-- ---- the same keys

-- two rings with the same keys
pub record SameKeys (ring other : List RingEntry) : Type 0 where
  pub keys : (id version : ℕ) → ring_key ring id version ≡ ring_key other id version

opened_by-same : (ring other : List RingEntry) (cipher : Option EventCipher) (format : LogFormat) (place : ℕ) (event : List ℕ) → SameKeys ring other
    → opened_by cipher ring format place event ≡ opened_by cipher other format place event
opened_by-same ring other None format place event same = refl
opened_by-same ring other (Some cipher) format place event same = ap (λ (k : Option (List ℕ)). unlocked k cipher format place event) (same.keys 1 cipher.version)

opened-same : (ring other : List RingEntry) (format : LogFormat) (place : ℕ) (event : List ℕ) → SameKeys ring other → opened ring format place event ≡ opened other format place event
unfolding opened
opened-same ring other format place event same = opened_by-same ring other format.cipher format place event same

taken-same : (ring other : List RingEntry) (left : List ℕ) (position : Position) (frame : Result (Option ℕ) BinlogFault) → SameKeys ring other
    → taken_event ring left position frame ≡ taken_event other left position frame
taken-same ring other left position (Err fault) same = refl
taken-same ring other left position (Ok None) same = refl
taken-same ring other left position (Ok (Some long)) same = ap (opened_event position) (opened-same ring other position.format position.place (take long left) same)

event_in-same : (ring other : List RingEntry) (left : List ℕ) (position : Position) → SameKeys ring other → event_in ring left position ≡ event_in other left position
unfolding event_in
event_in-same ring other left position same = taken-same ring other left position (whole position.format position.place left) same

placed-same : (ring other : List RingEntry) (file : Option (List ℕ)) (r : Result Position BinlogFault) → SameKeys ring other → placed_event ring file r ≡ placed_event other file r
placed-same ring other file (Err fault) same = refl
placed-same ring other None (Ok position) same = refl
placed-same ring other (Some file) (Ok position) same = event_in-same ring other _ position same

answered-same : (ring other : List RingEntry) (file : Option (List ℕ)) (stage : Stage) → SameKeys ring other → answered ring file stage ≡ answered other file stage
answered-same ring other file stage same = placed-same ring other file (placed file stage) same

-- ---- the same list

found_or : Found → Result (Option Found) BinlogFault → Found
found_or f (Ok (Some g)) = g
found_or f (Ok None) = f
found_or f (Err fault) = f

same_found : (f g : Found) → ◌≡◌ {A = Result (Option Found) BinlogFault} (Ok (Some f)) (Ok (Some g)) → f ≡ g
unfolding found_or
same_found f g e = ap (found_or f) e

pub lists_one : (ring other : List RingEntry) (file : Option (List ℕ)) (stage : Stage) (es fs : List BinlogEvent) (x y : Result (Unit {0}) BinlogFault) → SameKeys ring other
    → Lists ring file stage es x → Lists other file stage fs y → (es ≡ fs) × (x ≡ y)
lists_one ring other file stage [] [] (Ok u) (Ok v) same h k = (refl, refl)
lists_one ring other file stage [] [] (Ok u) (Err f) same h k = let e = sym h ∙ answered-same ring other file stage same ∙ k in absurd (cc)
lists_one ring other file stage [] [] (Err f) (Ok v) same h k = let e = sym h ∙ answered-same ring other file stage same ∙ k in absurd (cc)
lists_one ring other file stage [] [] (Err f) (Err g) same h k = let e = sym h ∙ answered-same ring other file stage same ∙ k in (refl, cc)
lists_one ring other file stage [] (b ∷ fs) (Ok u) y same h k = let e = sym h ∙ answered-same ring other file stage same ∙ k.1 in absurd (cc)
lists_one ring other file stage [] (b ∷ fs) (Err f) y same h k = let e = sym h ∙ answered-same ring other file stage same ∙ k.1 in absurd (cc)
lists_one ring other file stage (a ∷ es) [] x (Ok v) same h k = let e = sym h.1 ∙ answered-same ring other file stage same ∙ k in absurd (cc)
lists_one ring other file stage (a ∷ es) [] x (Err g) same h k = let e = sym h.1 ∙ answered-same ring other file stage same ∙ k in absurd (cc)
lists_one ring other file stage (a ∷ es) (b ∷ fs) x y same h k =
    let f : Found = record { event = a; next = h.0 } in
    let g : Found = record { event = b; next = k.0 } in
    let e : f ≡ g = same_found f g (sym h.1 ∙ answered-same ring other file stage same ∙ k.1) in
    let next : h.0 ≡ k.0 = ap (λ (i : Found). i.next) e in
    let event : a ≡ b = ap (λ (i : Found). i.event) e in
    let rest = lists_one ring other file (Events h.0) es fs x y same h.2 (subst (λ (p : Position). Lists other file (Events p) fs y) (sym next) k.2) in
    ((λ i. event i ∷ rest.0 i), rest.1)
