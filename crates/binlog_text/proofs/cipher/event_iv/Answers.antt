use Rattle.std.proofs.Common.{◌≡◌, ℕ, List, [], ◌∷◌, ◌++◌, length, drop, ap, ◌∙◌, append-nil}
use Rattle.std.proofs.lemmas.List.{take_at, drop_at}
use Rattle.binlog_text.proofs.cipher.event_iv.Goals as goal

pub returns : goal.returns
returns c =
    let a : List ℕ = c.copy_from_slice.new.self in
    let b : List ℕ = c.copy_from_slice-2.new.self in
    let z : List ℕ = 0 ∷ 0 ∷ 0 ∷ 0 ∷ [] in
    let twelve : length a ≡ 12 = ap length c.copy_from_slice.ensures.after ∙ c.told-nonce in
    (λ i. take_at a z 12 twelve i ++ (b ++ drop 4 (drop_at a z 12 twelve i)))
    ∙ ap (λ (x : List ℕ). a ++ x) (append-nil b)
    ∙ (λ i. c.copy_from_slice.ensures.after i ++ (c.copy_from_slice-2.ensures.after ∙ c.to_le_bytes.ensures) i)
