-- Fronts of a text that were given to a sink.
use Rattle.std.proofs.Common.{◌≡◌, ℕ, min, List, [], ◌++◌, length, take, sym, ap, ◌∙◌, append_assoc, Option, Result, Ok, Err, IsErrAnd, MatchResult, OnErr, OnOk, arith}
use Rattle.std.proofs.lemmas.List.{append-nil, take-append-le, take_min}
use Rattle.io_core.specs.Stream.{IsPartlyGiven, extended}
use Rattle.io_core.proofs.Streams.{given_then, front_given, part_given}
use Rattle.binlog_cli.specs.Printed.{IsPrinted}

-- a part of a text is a part of one that goes on
pub part_of_more : (a t text : List ℕ) (before now : Option (List ℕ)) → text ≡ a ++ t → IsPartlyGiven a before now → IsPartlyGiven text before now
part_of_more a t text before now is part =
    let k = part.0 in
    let j = min k (length a) in
    let here : take j text ≡ take k a = ap (take j) is ∙ take-append-le j a t (omega arith) ∙ take_min k a in
    (j, part.1 ∙ ap (λ (l : List ℕ). extended l before) (sym here))

-- nothing of what was gathered was given
pub gathered_front : (text lines gathered : List ℕ) (before now : Option (List ℕ)) → IsPrinted text before now gathered → IsPartlyGiven (text ++ lines) before now
gathered_front text lines gathered before now printed =
    front_given printed.front (gathered ++ lines) (text ++ lines) before now
    (ap (λ (t : List ℕ). t ++ lines) printed.is ∙ append_assoc printed.front gathered lines) printed.given

pub gathered_part : (text gathered : List ℕ) (before now : Option (List ℕ)) → IsPrinted text before now gathered → IsPartlyGiven text before now
gathered_part text gathered before now printed = front_given printed.front gathered text before now printed.is printed.given

-- lines were put behind what was gathered
pub gathered_more : (text lines gathered now_gathered : List ℕ) (before now : Option (List ℕ)) → IsPrinted text before now gathered → now_gathered ≡ gathered ++ lines
    → IsPrinted (text ++ lines) before now now_gathered
gathered_more text lines gathered now_gathered before now printed more = record {
  front = printed.front;
  given = printed.given;
  is = ap (λ (t : List ℕ). t ++ lines) printed.is ∙ append_assoc printed.front gathered lines ∙ ap (λ (t : List ℕ). printed.front ++ t) (sym more);
}

-- what was gathered was given in part, or whole
pub gathered_given : (text gathered whole : List ℕ) (before mid now : Option (List ℕ)) → IsPrinted text before mid gathered → whole ≡ gathered → IsPartlyGiven whole mid now
    → IsPartlyGiven text before now
gathered_given text gathered whole before mid now printed same part =
    part_given printed.front whole [] text before mid now
    (printed.is ∙ ap (λ (t : List ℕ). printed.front ++ t) (sym same ∙ sym (append-nil whole))) printed.given part

pub gathered_whole : (text gathered whole : List ℕ) (before mid now : Option (List ℕ)) → IsPrinted text before mid gathered → whole ≡ gathered → now ≡ extended whole mid
    → now ≡ extended text before
gathered_whole text gathered whole before mid now printed same given =
    given_then before mid now printed.front whole printed.given given
    ∙ ap (λ (t : List ℕ). extended t before) (ap (λ (t : List ℕ). printed.front ++ t) same ∙ sym printed.is)

-- and then nothing is gathered
pub gathered_none : (text : List ℕ) (before now : Option (List ℕ)) → now ≡ extended text before → IsPrinted text before now []
gathered_none text before now given = record { front = text; given = given; is = sym (append-nil text) }

-- an error, at which this holds
pub stopped_by : {T E : Type 0} (r : Result T E) (P : T → Type 0) (Q : Type 0) (S : E → Type 0) → IsErrAnd r S → Q → MatchResult r P (λ e. Q)
stopped_by (Ok x) P Q S is q = absurd is
stopped_by (Err e) P Q S is q = q

-- one give of what was gathered
pub give_ends : {T E : Type 0} (r : Result T E) (text gathered whole : List ℕ) (before mid now : Option (List ℕ)) → IsPrinted text before mid gathered → whole ≡ gathered
    → OnOk r (now ≡ extended whole mid) → OnErr r (IsPartlyGiven whole mid now) → MatchResult r (λ x. now ≡ extended text before) (λ e. IsPartlyGiven text before now)
give_ends (Ok x) text gathered whole before mid now printed same given part = gathered_whole text gathered whole before mid now printed same given
give_ends (Err e) text gathered whole before mid now printed same given part = gathered_given text gathered whole before mid now printed same part
