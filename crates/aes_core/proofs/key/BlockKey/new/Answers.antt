use Rattle.std.proofs.Common.{◌≡◌, ℕ, List, length, ◌+◌, ◌*◌, ◌/◌, take, refl, sym, ap, ◌∙◌, arith}
use Rattle.aes_core.specs.Cipher.{AreBytes, IsKeyLength, IsWordSchedule, bytes_of, round_key, schedule, inv_mix_columns}
use Rattle.aes_core.specs.Modes.{joined}
use Rattle.aes_core.proofs.BlockLoop.{AreBlocks}
use Rattle.aes_core.proofs.Schedule.{begins, key_from, ready}
use Rattle.aes_core.proofs.WordKeys.{turned_at}
use Rattle.aes_core.proofs.key.BlockKey.new.Goals as goal

ready_words : (keys key words back : List ℕ) → IsKeyLength (length key) → AreBytes key → take (16 * (length key / 4 + 7)) keys ≡ schedule key
    → bytes_of words ≡ keys → AreBlocks (λ j. inv_mix_columns (round_key keys j)) 15 → bytes_of back ≡ joined (λ j. inv_mix_columns (round_key keys j)) 15 → length words ≡ 60 → length back ≡ 60 → IsWordSchedule words back (length key)
ready_words keys key words back h b e ew blocks eb lw lb = record {
  ready = rw ew (ready keys key h b e);
  back_long = lb;
  words_long = lw;
  turned = λ r lt. turned_at (λ j. inv_mix_columns (round_key keys j)) back r lb lt blocks eb ∙ ap (λ (k : List ℕ). inv_mix_columns (round_key k r)) (sym ew);
}

pub invariant_of-result : goal.invariant_of-result
invariant_of-result c =
    let key : List ℕ = c.args.key.now in
    let bytes : AreBytes key = λ i. omega (arith, c.type_inv.key i) in
    let h : IsKeyLength (length key) = c.is_key_length.ensures.yes c.if-not-is_key_length.false in
    ready_words c.expand.new.keys key c.words_of-words.result c.back_of-back.result h bytes c.expand.ensures c.words_of-words.ensures (record { long = λ j lt. refl }) c.back_of-back.ensures (omega arith) (omega arith)

pub returns : goal.returns
returns c =
    let key : List ℕ = c.args.key.now in
    let bytes : AreBytes key = λ i. omega (arith, c.type_inv.key i) in
    let h : IsKeyLength (length key) = c.is_key_length.ensures.yes c.if-not-is_key_length.false in
    (ap (take (length key)) c.words_of-words.ensures ∙ begins c.expand.new.keys key (key_from key h bytes) c.expand.ensures, h)
