use Rattle.std.proofs.Common.{◌≡◌, ℕ, ◌-◌, List, length, sym, ap, ◌∙◌, arith}
use Rattle.std.specs.Prelude.{Option}
use Rattle.byte_list.specs.Fields.{be32_at, be64_at}
use Rattle.byte_list.specs.Bytes.{put}
use Rattle.byte_list.proofs.RangeLaws.{length-range}
use Rattle.byte_list.proofs.PutLaws.{put_written}
use Rattle.page_text.specs.Opening.{unciphered}
use Rattle.page_text.specs.Parts.{cipher_part}
use Rattle.page_text.specs.Text.{enciphered, key_lent, page_key, page_iv}
use Rattle.page_text.specs.declared.key.PageKey.{PageKey}
use Rattle.page_text.proofs.opening.decipher_part.Goals as goal

pub returns : goal.returns
returns c =
    let o : List ℕ = c.args.page.now in
    let d : List ℕ = c.decipher.new.bytes in
    let key : Option PageKey = page_key (be32_at o 0) (key_lent c.args.key) in
    let iv : List ℕ = page_iv c.args.space c.args.number (be64_at o 16) in
    let key_is : key_lent c.page_key.result ≡ key = c.page_key.ensures ∙ ap (λ (v : ℕ). page_key v (key_lent c.args.key)) c.be32_at-version.ensures in
    let iv_is : c.page_iv-iv.result ≡ iv = c.page_iv-iv.ensures ∙ ap (λ (l : ℕ). page_iv c.args.space c.args.number l) c.be64_at.ensures in
    let d_is : d ≡ unciphered key iv (cipher_part o) = c.decipher.ensures.value ∙ (λ i. unciphered (key_is i) (iv_is i) (cipher_part o)) in
    let long : length d ≡ length o - 4 - 26 = c.decipher.auto.bytes ∙ length-range 26 (length o - 4 - 26) o (omega arith) in
    record {
      value = put_written 26 (length o - 4 - 26) d o (sym long) ∙ ap (λ (x : List ℕ). put 26 x o) d_is;
      undoes = record {
        long = ap length (sym d_is) ∙ c.decipher.auto.bytes;
        inverse = (λ i. enciphered (sym key_is i) (sym iv_is i) (sym d_is i)) ∙ c.decipher.ensures.inverse;
        undoes = λ x are e. sym d_is ∙ c.decipher.ensures.undoes x are (e ∙ (λ i. enciphered (sym key_is i) (sym iv_is i) x));
      };
    }
