use Rattle.std.proofs.Common.{◌≡◌, ℕ, sym, subst}
use Rattle.std.specs.Fmt.{decimal}
use Rattle.keyd_cli.specs.Words.{CommandWord, IsSpace, AreParts}
use Rattle.keyd_cli.proofs.Spaces.{one_way, parts_of_space}
use Rattle.keyd_cli.proofs.words.space_of.Goals as goal

pub returns-in_err-parts : goal.returns-in_err-parts
returns-in_err-parts c =
    rw c.from_residual.ensures (λ id pages key is.
    let are = parts_of_space c.args.value.now id pages key is in
    c.in_err-parts.ensures (decimal id) (decimal pages) (decimal key) (subst (λ t. AreParts t (decimal id) (decimal pages) (decimal key)) (sym c.as_bytes.ensures.value) are))

-- the parts that were found are the numbers' texts
same_parts : (text value a b d : CommandWord) (id pages key : ℕ) → text ≡ value → AreParts text a b d → IsSpace value id pages key → (a ≡ decimal id) × (b ≡ decimal pages) × (d ≡ decimal key)
same_parts text value a b d id pages key same are is =
    one_way value a b d (decimal id) (decimal pages) (decimal key) (subst (λ t. AreParts t a b d) same are) (parts_of_space value id pages key is)

pub returns-in_err-space : goal.returns-in_err-space
returns-in_err-space c =
    rw c.from_residual-in_err-space.ensures (λ id pages key is.
    let parts = c.in_ok-parts.parts in
    let same = same_parts c.as_bytes.result.now c.args.value.now parts.space.now parts.pages.now parts.key_id.now id pages key c.as_bytes.ensures.value c.in_ok-parts.ensures is in
    c.in_err-space.ensures id (record { spelled = same.0; from = is.id_from; to = is.id_to }))

pub returns-in_err-pages : goal.returns-in_err-pages
returns-in_err-pages c =
    rw c.from_residual-in_err-pages.ensures (λ id pages key is.
    let parts = c.in_ok-parts.parts in
    let same = same_parts c.as_bytes.result.now c.args.value.now parts.space.now parts.pages.now parts.key_id.now id pages key c.as_bytes.ensures.value c.in_ok-parts.ensures is in
    c.in_err-pages.ensures pages (record { spelled = same.1; from = is.pages_from; to = is.pages_to }))

pub returns-in_err-key_id : goal.returns-in_err-key_id
returns-in_err-key_id c =
    rw c.from_residual-in_err-key_id.ensures (λ id pages key is.
    let parts = c.in_ok-parts.parts in
    let same = same_parts c.as_bytes.result.now c.args.value.now parts.space.now parts.pages.now parts.key_id.now id pages key c.as_bytes.ensures.value c.in_ok-parts.ensures is in
    c.in_err-key_id.ensures key (record { spelled = same.2; from = is.key_from; to = is.key_to }))
