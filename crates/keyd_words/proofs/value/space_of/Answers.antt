use Rattle.std.proofs.Common.{◌≡◌, sym, ◌∙◌}
use Rattle.std.specs.Fmt.{decimal}
use Rattle.keyd_words.specs.declared.text.NewSpace.{NewSpace}
use Rattle.keyd_words.specs.Parts.{AreFourParts}
use Rattle.keyd_words.specs.Values.{IsNewSpace, space_text, kind_word}
use Rattle.keyd_words.specs.Table.{Argument}
use Rattle.keyd_words.proofs.SpaceLemmas.{one_way, parts_of_space, space_of_parts}
use Rattle.keyd_words.proofs.value.space_of.Goals as goal

-- the parts that were found are those of the space
same_parts : (text value a b d k : Argument) (s : NewSpace) → text ≡ value → AreFourParts text a b d k → value ≡ space_text s → IsNewSpace s
    → (a ≡ decimal s.space) × (b ≡ decimal s.pages) × (d ≡ decimal s.key_id) × (k ≡ kind_word s.ciphered)
same_parts text value a b d k s same are spelled is =
    one_way text a b d k (decimal s.space) (decimal s.pages) (decimal s.key_id) (kind_word s.ciphered) are (parts_of_space text s (same ∙ spelled) is)

pub returns-in_err-parts : goal.returns-in_err-parts
returns-in_err-parts c =
    rw c.from_residual.ensures (λ s spelled is.
    c.in_err-parts.ensures (decimal s.space) (decimal s.pages) (decimal s.key_id) (kind_word s.ciphered) (parts_of_space c.as_bytes.result.now s (c.as_bytes.ensures.value ∙ spelled) is))

pub returns-in_err-space : goal.returns-in_err-space
returns-in_err-space c =
    rw c.from_residual-in_err-space.ensures (λ s spelled is.
    let parts = c.in_ok-parts.parts in
    let same = same_parts c.as_bytes.result.now c.args.value.now parts.space.now parts.pages.now parts.key_id.now parts.kind.now s c.as_bytes.ensures.value c.in_ok-parts.ensures spelled is in
    c.in_err-space.ensures s.space (record { spelled = same.0; from = is.id_from; to = is.id_to }))

pub returns-in_err-pages : goal.returns-in_err-pages
returns-in_err-pages c =
    rw c.from_residual-in_err-pages.ensures (λ s spelled is.
    let parts = c.in_ok-parts.parts in
    let same = same_parts c.as_bytes.result.now c.args.value.now parts.space.now parts.pages.now parts.key_id.now parts.kind.now s c.as_bytes.ensures.value c.in_ok-parts.ensures spelled is in
    c.in_err-pages.ensures s.pages (record { spelled = same.1; from = is.pages_from; to = is.pages_to }))

pub returns-in_err-key_id : goal.returns-in_err-key_id
returns-in_err-key_id c =
    rw c.from_residual-in_err-key_id.ensures (λ s spelled is.
    let parts = c.in_ok-parts.parts in
    let same = same_parts c.as_bytes.result.now c.args.value.now parts.space.now parts.pages.now parts.key_id.now parts.kind.now s c.as_bytes.ensures.value c.in_ok-parts.ensures spelled is in
    c.in_err-key_id.ensures s.key_id (record { spelled = same.2; from = is.key_from; to = is.key_to }))

pub returns-in_err-ciphered : goal.returns-in_err-ciphered
returns-in_err-ciphered c =
    rw c.from_residual-in_err-ciphered.ensures (λ s spelled is.
    let parts = c.in_ok-parts.parts in
    let same = same_parts c.as_bytes.result.now c.args.value.now parts.space.now parts.pages.now parts.key_id.now parts.kind.now s c.as_bytes.ensures.value c.in_ok-parts.ensures spelled is in
    c.in_err-ciphered.ensures s.ciphered same.3)

pub returns : goal.returns
returns c =
    let parts = c.in_ok-parts.parts in
    let read = space_of_parts c.as_bytes.result.now parts.space.now parts.pages.now parts.key_id.now parts.kind.now
    (record { space = c.in_ok-space.space; pages = c.in_ok-pages.pages; key_id = c.in_ok-key_id.key_id; ciphered = c.in_ok-ciphered.ciphered })
    c.in_ok-parts.ensures c.in_ok-space.ensures c.in_ok-pages.ensures c.in_ok-key_id.ensures c.in_ok-ciphered.ensures in
    (sym c.as_bytes.ensures.value ∙ read.0, read.1)
