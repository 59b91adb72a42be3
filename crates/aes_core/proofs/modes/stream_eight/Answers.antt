use Rattle.std.proofs.Common.{◌≡◌, ℕ, List, [], ◌∷◌, ◌+◌, ◌%◌, ◌^◌, get_or, ap, refl, ◌∙◌, arith}
use Rattle.std.specs.Int.{to_be_bytes, w128}
use Rattle.aes_core.specs.Cipher.{IsCipherBlock, encrypted}
use Rattle.aes_core.proofs.ModeLaws.{block_of_number}
use Rattle.aes_core.proofs.PlaneLists.{all_eight, are_planes, each_of_eight}
use Rattle.aes_core.proofs.modes.stream_eight.Goals as goal

counter_is : (n : ℕ) (s : List ℕ) → s ≡ to_be_bytes w128 n → IsCipherBlock s
counter_is n s e = rw e (block_of_number n)

pub encrypt_eight-requires : goal.encrypt_eight-requires
encrypt_eight-requires c =
    record {
      key = c.requires.key;
      blocks = are_planes _ refl
          (all_eight IsCipherBlock
          (counter_is _ _ c.counter_lanes.ensures) (counter_is _ _ c.counter_lanes-2.ensures)
          (counter_is _ _ c.counter_lanes-3.ensures) (counter_is _ _ c.counter_lanes-4.ensures)
          (counter_is _ _ c.counter_lanes-5.ensures) (counter_is _ _ c.counter_lanes-6.ensures)
          (counter_is _ _ c.counter_lanes-7.ensures) (counter_is _ _ c.counter_lanes-8.ensures));
    }

pub returns-clause-value : goal.returns-clause-value
returns-clause-value c k lt =
    let i : ℕ = c.args.i in
    let f = λ (n : ℕ). to_be_bytes w128 ((c.args.start + n) % 2 ^ 128) in
    let counters : List (List ℕ) =
    c.counter_lanes.result ∷ c.counter_lanes-2.result ∷ c.counter_lanes-3.result ∷ c.counter_lanes-4.result
    ∷ c.counter_lanes-5.result ∷ c.counter_lanes-6.result ∷ c.counter_lanes-7.result ∷ c.counter_lanes-8.result ∷ [] in
    let first : i ≡ i + 0 = omega arith in
    c.encrypt_eight.ensures.value k lt
    ∙ ap (encrypted c.args.key.now)
    (each_of_eight (λ (k : ℕ). get_or counters k [] ≡ f (i + k))
    (c.counter_lanes.ensures ∙ ap f first) c.counter_lanes-2.ensures c.counter_lanes-3.ensures c.counter_lanes-4.ensures
    c.counter_lanes-5.ensures c.counter_lanes-6.ensures c.counter_lanes-7.ensures c.counter_lanes-8.ensures k lt)
