-- The first position of a file.
use Rattle.std.proofs.Common.{◌≡◌, ℕ, ◌≤◌, min, Bool, true, false, rules, List, [], length, drop, sym, ap, ◌∙◌, subst, arith, if◌then◌else◌, Option, Some, Result, Ok, Err, unwrap_or}
use Rattle.binlog_text.specs.Held.{IsFront}
use Rattle.binlog_text.specs.Events.{first_position, is_log, placed}
use Rattle.binlog_text.specs.Reading.{Holds, Keeps, Starts}
use Rattle.binlog_text.specs.declared.fault.BinlogFault.{BinlogFault}
use Rattle.binlog_text.specs.declared.fault.BinlogFault.TheVariants.{BadMagic}
use Rattle.binlog_text.specs.declared.stage.Position.{Position}
use Rattle.binlog_text.specs.declared.stage.Stage.TheVariants.{Events, Start}
use Rattle.binlog_text.proofs.FrontLaws.{is_log-front}
use Rattle.binlog_text.proofs.Kept.{front_behind, front_within}

-- the answer at the start, by the file's first bytes
abbrev of_file : List ℕ → Bool → Result Position BinlogFault
of_file file b = if b then Ok (first_position (length file)) else Err BadMagic

-- bytes that aren't those of a log
pub started_bad : (found : Option (List ℕ)) (file bytes rest : List ℕ) → found ≡ Some file → IsFront bytes (drop 0 (unwrap_or found []))
    → min 4 (length file) ≤ length bytes → is_log bytes ≡ false → Starts found rest (Err BadMagic)
started_bad found file bytes rest is front enough other_bytes =
    let here : IsFront bytes file = subst (λ (f : Option (List ℕ)). IsFront bytes (drop 0 (unwrap_or f []))) is front in
    let other : is_log file ≡ false = sym (is_log-front bytes file here enough) ∙ other_bytes in
    record {
      answer = ap (λ (f : Option (List ℕ)). placed f Start) is ∙ ap (of_file file) other;
      keeps = search rules;
    }

-- those of a log
pub started : (found : Option (List ℕ)) (file bytes rest : List ℕ) (size : ℕ) → found ≡ Some file → size ≡ length file → IsFront bytes (drop 0 (unwrap_or found []))
    → min 4 (length file) ≤ length bytes → 4 ≤ length bytes → is_log bytes ≡ true → rest ≡ drop 4 bytes → Starts found rest (Ok (first_position size))
started found file bytes rest size is long front enough four shows behind =
    let here : IsFront bytes file = subst (λ (f : Option (List ℕ)). IsFront bytes (drop 0 (unwrap_or f []))) is front in
    let log : is_log file ≡ true = sym (is_log-front bytes file here enough) ∙ shows in
    let within : length bytes ≤ length file = front_within bytes file here in
    let holds : Holds file (first_position size) (drop 4 bytes) = record { size = long; inside = omega (arith, within, four); front = front_behind 4 bytes file here } in
    record {
      answer = ap (λ (f : Option (List ℕ)). placed f Start) is ∙ ap (of_file file) log ∙ ap (λ (n : ℕ). Ok (first_position n)) (sym long);
      keeps = subst (λ (f : Option (List ℕ)). Keeps f (Events (first_position size)) rest) (sym is) (subst (Holds file (first_position size)) (sym behind) holds);
    }
