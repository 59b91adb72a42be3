use Rattle.std.proofs.Common.{◌≡◌, ℕ, ◌≤◌, List, length, drop, sym, ap, ◌∙◌, arith, length-drop}
use Rattle.aes_core.specs.Modes.{cbc_tail, uncbc_tail}
use Rattle.byte_list.specs.Bytes.{range}
use Rattle.byte_list.proofs.RangeLaws.{length-range}
use Rattle.binlog_text.specs.Cipher.{deciphered_event, enciphered_event, event_iv, with_length, without_length}
use Rattle.binlog_text.proofs.CipherLaws.{behind, bytes_without, range-with, rest_long, with-without, without-with}
use Rattle.binlog_text.proofs.cipher.decipher_event.Goals as goal

pub returns-clause-value : goal.returns-clause-value
unfolding deciphered_event
returns-clause-value c =
    let hidden : drop 4 c.hide_length.new.event ≡ without_length c.args.event.now = behind c.args.event.now c.hide_length.new.event (omega arith) c.hide_length.ensures in
    let left : c.show_length.new.event ≡ with_length (drop 4 c.decipher_rest.new.event) (range 9 4 c.args.event.now) =
    c.show_length.ensures ∙ ap (with_length (drop 4 c.decipher_rest.new.event)) c.four_at-bytes.ensures in
    left
    ∙ ap (λ (x : List ℕ). with_length x (range 9 4 c.args.event.now)) (c.decipher_rest.ensures.value ∙ (λ j. uncbc_tail c.args.key.now (c.event_iv-iv.ensures j) (hidden j)))

pub returns-clause-inverse : goal.returns-clause-inverse
unfolding enciphered_event
returns-clause-inverse c =
    let hidden : drop 4 c.hide_length.new.event ≡ without_length c.args.event.now = behind c.args.event.now c.hide_length.new.event (omega arith) c.hide_length.ensures in
    let left : c.show_length.new.event ≡ with_length (drop 4 c.decipher_rest.new.event) (range 9 4 c.args.event.now) =
    c.show_length.ensures ∙ ap (with_length (drop 4 c.decipher_rest.new.event)) c.four_at-bytes.ensures in
    let e : List ℕ = c.args.event.now in
    let x : List ℕ = drop 4 c.decipher_rest.new.event in
    let l : List ℕ = range 9 4 e in
    let long : 9 ≤ length x = omega (arith, length-drop 4 c.decipher_rest.new.event, c.decipher_rest.auto.event, c.hide_length.auto.event) in
    let four : length l ≡ 4 = length-range 9 4 e (omega arith) in
    let redone : cbc_tail c.args.key.now (event_iv c.args.nonce.now c.args.place) x ≡ without_length e =
    ap (λ (v : List ℕ). cbc_tail c.args.key.now v x) (sym c.event_iv-iv.ensures) ∙ c.decipher_rest.ensures.inverse ∙ hidden in
    ap (enciphered_event c.args.key.now c.args.nonce.now c.args.place) left
    ∙ (λ i. with_length (cbc_tail c.args.key.now (event_iv c.args.nonce.now c.args.place) (without-with x l long four i)) (range-with x l long four i))
    ∙ ap (λ (y : List ℕ). with_length y l) redone
    ∙ with-without e (omega arith)

pub returns-clause-undoes : goal.returns-clause-undoes
unfolding enciphered_event
returns-clause-undoes c = λ p b some is.
    let hidden : drop 4 c.hide_length.new.event ≡ without_length c.args.event.now = behind c.args.event.now c.hide_length.new.event (omega arith) c.hide_length.ensures in
    let left : c.show_length.new.event ≡ with_length (drop 4 c.decipher_rest.new.event) (range 9 4 c.args.event.now) =
    c.show_length.ensures ∙ ap (with_length (drop 4 c.decipher_rest.new.event)) c.four_at-bytes.ensures in
    let e : List ℕ = c.args.event.now in
    let l : List ℕ = range 9 4 p in
    let x : List ℕ = cbc_tail c.args.key.now (event_iv c.args.nonce.now c.args.place) (without_length p) in
    let four : length l ≡ 4 = length-range 9 4 p (omega arith) in
    let more : 19 ≤ length (with_length x l) = omega (arith, ap length is) in
    let long : 9 ≤ length x = omega (arith, rest_long x l four more) in
    let cipher : without_length e ≡ x = ap without_length is ∙ without-with x l long four in
    let same : range 9 4 e ≡ l = ap (range 9 4) is ∙ range-with x l long four in
    let back : drop 4 c.decipher_rest.new.event ≡ without_length p =
    c.decipher_rest.ensures.undoes (without_length p) (bytes_without p b)
    (hidden ∙ cipher ∙ ap (λ (v : List ℕ). cbc_tail c.args.key.now v (without_length p)) (sym c.event_iv-iv.ensures)) in
    left ∙ (λ i. with_length (back i) (same i)) ∙ with-without p (omega arith)
