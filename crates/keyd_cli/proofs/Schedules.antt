-- A line of a put is read in one way.
use Rattle.std.proofs.Common.{◌≡◌, ℕ, ◌+◌, ◌<◌, ◌≤◌, length, get_or, arith, sym, ◌∙◌, ap, subst, List, [], ◌∷◌, Result, Ok, Err, inl, inr, codes}
use Rattle.std.proofs.lemmas.Fmt.{decimal_injective}
use Rattle.hex.specs.Hex.{decode_of}
use Rattle.redo_text.specs.declared.change.Change.{Change}
use Rattle.redo_text.specs.declared.change.Change.TheVariants.{Put}
use Rattle.keyd_cli.specs.Schedule.{AreNumbers, IsPutLine, IsAct, IsSync, IsMtr, IsNoStatement}
use Rattle.keyd_cli.specs.declared.act.DrillAct.{DrillAct}
use Rattle.keyd_cli.specs.declared.act.DrillAct.TheVariants.{Mtr}

ok_or_none : {E : Type 0} → Result (List ℕ) E → List ℕ
ok_or_none (Ok bytes) = bytes
ok_or_none (Err e) = []

same_ok : {E : Type 0} (r : Result (List ℕ) E) (a b : List ℕ) → r ≡ Ok a → r ≡ Ok b → a ≡ b
unfolding ok_or_none
same_ok r a b p q = ap ok_or_none (sym p ∙ q)

pub same_place : (space pages : ℕ) (line : List ℕ) (k p at : ℕ) (hex : List ℕ) (l q to : ℕ) (more : List ℕ) → AreNumbers space pages line k p at hex → AreNumbers space pages line l q to more → at ≡ to
same_place space pages line k p at hex l q to more a b =
    decimal_injective at to (omega (arith, a.at_to)) (omega (arith, b.at_to)) (ap (λ ws. get_or ws 5 []) (sym a.words ∙ b.words))

pub same_digits : (space pages : ℕ) (line : List ℕ) (k p at : ℕ) (hex : List ℕ) (l q to : ℕ) (more : List ℕ) → AreNumbers space pages line k p at hex → AreNumbers space pages line l q to more → hex ≡ more
same_digits space pages line k p at hex l q to more a b = ap (λ ws. get_or ws 6 []) (sym a.words ∙ b.words)

-- where the numbers and the bytes of a line are these, each reading of it as a put has their place and their length
pub put_fits : (space pages : ℕ) (line : List ℕ) (k p at : ℕ) (hex bytes : List ℕ) (l q to : ℕ) (more : List ℕ) → AreNumbers space pages line k p at hex → decode_of hex ≡ Ok bytes
    → IsPutLine space pages line l q to more → (1 ≤ length bytes) × (at + length bytes ≤ 16376) × (17 + length bytes ≤ 4076)
put_fits space pages line k p at hex bytes l q to more a decoded is =
    let place = same_place space pages line k p at hex l q to is.hex a is.numbers in
    let digits = same_digits space pages line k p at hex l q to is.hex a is.numbers in
    let same : bytes ≡ more = same_ok (decode_of hex) bytes more decoded (ap decode_of digits ∙ is.digits) in
    let size : length bytes ≡ length more = ap length same in
    (omega (arith, size, is.some), omega (arith, size, place, is.within), omega (arith, size, is.short))

pub put_is : (space pages : ℕ) (line : List ℕ) (k p at : ℕ) (hex bytes : List ℕ) (mtr : List Change) → AreNumbers space pages line k p at hex → decode_of hex ≡ Ok bytes
    → (1 ≤ length bytes) × (at + length bytes ≤ 16376) × (17 + length bytes ≤ 4076) → mtr ≡ Put space p at bytes ∷ [] → IsAct space pages line (Mtr k mtr)
put_is space pages line k p at hex bytes mtr a decoded fits is =
    subst (λ m. IsAct space pages line (Mtr k m)) (sym is)
    (IsMtr k p at bytes (record { hex = hex; numbers = a; digits = decoded; some = fits.0; within = fits.1; short = fits.2 }))

pub not_skipped : (line : List ℕ) → 0 < length line → (get_or line 0 0 ≡ 35 → ⊥) → IsNoStatement line → ⊥
not_skipped line some other (inl empty) = let n : length line ≡ 0 = ap length empty in omega (arith, some, n)
not_skipped line some other (inr comment) = other (ap (λ t. get_or t 0 0) comment.1)

pub no_act : (space pages : ℕ) (line : List ℕ) → (line ≡ codes "sync" → ⊥) → ((k p at : ℕ) (bytes : List ℕ) → IsPutLine space pages line k p at bytes → ⊥) → (act : DrillAct) → IsAct space pages line act → ⊥
no_act space pages line no_sync no_put act (IsSync is) = no_sync is
no_act space pages line no_sync no_put act (IsMtr k p at bytes is) = no_put k p at bytes is
