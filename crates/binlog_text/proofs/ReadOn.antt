-- Bytes of a file that are read on behind those that are held.
use Rattle.std.proofs.Common.{◌≡◌, ℕ, ◌+◌, ◌-◌, ◌≤◌, min, List, [], ◌++◌, length, take, drop, sym, ap, ◌∙◌, subst, arith, length-append, length-take, take-append-drop, Option, unwrap_or, Result, Ok, Err, OnOk, OnErr}
use Rattle.std.proofs.lemmas.List.{drop-drop}
use Rattle.std.proofs.Math.Seq.{take-append-add}
use Rattle.byte_list.specs.Bytes.{part_of}
use Rattle.io_core.specs.Files.{Files, bytes_from}
use Rattle.io_core.specs.Told.{Told}
use Rattle.binlog_text.specs.Held.{IsFront, IsReadOn}

-- a front, and then the front of what is left
pub front_more : (before added all : List ℕ) → IsFront before all → IsFront added (drop (length before) all) → IsFront (before ++ added) all
front_more before added all first then =
    let whole : all ≡ before ++ drop (length before) all =
    sym (take-append-drop (length before) all) ∙ ap (λ (l : List ℕ). l ++ drop (length before) all) (sym first.front) in
    record {
      front =
          ap (λ (l : List ℕ). before ++ l) then.front
          ∙ sym (take-append-add before (drop (length before) all) (length added))
          ∙ ap (take (length before + length added)) (sym whole)
          ∙ ap (λ (n : ℕ). take n all) (sym (length-append before added));
    }

pub front_read_on : (before now all : List ℕ) (want : ℕ) → IsFront before all → IsReadOn before now (drop (length before) all) want → IsFront now all
front_read_on before now all want first more =
    subst (λ (l : List ℕ). IsFront l all) (sym more.is) (front_more before more.added all first more.front)

-- bytes that were read behind the first ones of a buffer
pub read_behind_is : (before bytes others : List ℕ) (held n want : ℕ) → take held bytes ≡ before → length before ≡ held → held ≤ want → held + n ≤ length bytes
    → IsFront (part_of bytes held (held + n)) others → min (want - held) (length others) ≤ n → IsReadOn before (part_of bytes 0 (held + n)) others want
read_behind_is before bytes others held n want kept size order long front enough =
    let whole : bytes ≡ before ++ drop held bytes = sym (take-append-drop held bytes) ∙ ap (λ (l : List ℕ). l ++ drop held bytes) kept in
    let one : (held + n) - held ≡ n = omega arith in
    let all : (held + n) - 0 ≡ held + n = omega arith in
    record {
      added = part_of bytes held (held + n);
      is =
          ap (λ (k : ℕ). take k bytes) all
          ∙ ap (take (held + n)) whole
          ∙ ap (λ (k : ℕ). take (k + n) (before ++ drop held bytes)) (sym size)
          ∙ take-append-add before (drop held bytes) n
          ∙ ap (λ (k : ℕ). before ++ take k (drop held bytes)) (sym one);
      front = front;
      enough = omega (arith, size, order, enough, long, length-take ((held + n) - 0) bytes);
    }

-- bytes were read behind those that are held at a place of the file, or none
pub filled_front : {E : Type 0} (before now : List ℕ) (held : Option Files) (name : List ℕ) (place : ℕ) (lent : List ℕ) (want : ℕ) (r : Result (Unit {0}) E) → lent ≡ before
    → OnOk r (Told (λ fs. IsReadOn before now (bytes_from (place + length lent) name fs) want) held) → OnErr r (now ≡ before)
    → Told (λ fs. IsFront before (bytes_from place name fs) → IsFront now (bytes_from place name fs)) held
filled_front before now held name place lent want (Err e) same more kept = record { here = λ fs told first. subst (λ (l : List ℕ). IsFront l (bytes_from place name fs)) (sym kept) first }
filled_front before now held name place lent want (Ok u) same more kept = record {
  here = λ fs told first.
      let all : List ℕ = bytes_from place name fs in
      let at : bytes_from (place + length lent) name fs ≡ drop (length before) all =
      ap (λ (l : List ℕ). bytes_from (place + length l) name fs) same ∙ sym (drop-drop (length before) place (unwrap_or (fs name) [])) in
      front_read_on before now all want first (subst (λ (l : List ℕ). IsReadOn before now l want) at (more.here fs told));
}
