use Rattle.std.proofs.Common.{◌≡◌, [], ◌∷◌, ◌/◌, ◌%◌, ap, ◌∙◌, arith}
use Rattle.std.specs.Int.{byte_at, to_le_bytes, w32}
use Rattle.std.proofs.lemmas.Nat.{and_mask}
use Rattle.aes_core.specs.Field.{inv_sub_byte}
use Rattle.aes_core.specs.Cipher.{xored}
use Rattle.aes_core.proofs.WordsAt.{loaded}
use Rattle.aes_core.proofs.words.first_column.Goals as goal

pub returns : goal.returns
returns c =
    let top : c.args.d / 16777216 ≡ c.args.d / 16777216 % 256 = omega arith in
    let e0 : c.inv_sub_byte.result ≡ inv_sub_byte (byte_at 0 c.args.a) = c.inv_sub_byte.ensures ∙ ap inv_sub_byte (and_mask c.args.a 8) in
    let e1 : c.inv_sub_byte-2.result ≡ inv_sub_byte (byte_at 1 c.args.b) = c.inv_sub_byte-2.ensures ∙ ap inv_sub_byte (and_mask (c.args.b / 256) 8) in
    let e2 : c.inv_sub_byte-3.result ≡ inv_sub_byte (byte_at 2 c.args.c) = c.inv_sub_byte-3.ensures ∙ ap inv_sub_byte (and_mask (c.args.c / 65536) 8) in
    let e3 : c.inv_sub_byte-4.result ≡ inv_sub_byte (byte_at 3 c.args.d) = c.inv_sub_byte-4.ensures ∙ ap inv_sub_byte top in
    loaded c.inv_sub_byte.result c.inv_sub_byte-2.result c.inv_sub_byte-3.result c.inv_sub_byte-4.result c.from_le_bytes.result c.args.key
    c.inv_sub_byte.type_inv c.inv_sub_byte-2.type_inv c.inv_sub_byte-3.type_inv c.inv_sub_byte-4.type_inv c.from_le_bytes.ensures
    ∙ (λ i. xored (e0 i ∷ e1 i ∷ e2 i ∷ e3 i ∷ []) (to_le_bytes w32 c.args.key))
