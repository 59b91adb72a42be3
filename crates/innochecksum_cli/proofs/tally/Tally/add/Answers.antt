use Rattle.std.proofs.Common.{◌≡◌, ◌<◌, ◌^◌, Bool, not, length, get_or, ap, ◌∙◌, arith}
use Rattle.std.proofs.lemmas.List.{get_or_read, length_push}
use Rattle.innochecksum_cli.specs.Pages.{FilePage, is_ciphered_page, is_mismatch, is_zero}
use Rattle.innochecksum_cli.proofs.StateLemmas.{bad_is, zero_is}
use Rattle.innochecksum_cli.proofs.TallyLemmas.{counted_push, kinds_push}
use Rattle.innochecksum_cli.proofs.tally.Tally.add.Goals as goal

pub returns : goal.returns
unfolding is_ciphered_page
returns c = λ pages number short old.
    let x : FilePage = record { number = number; bytes = c.args.page.now } in
    let zero = zero_is c.args.page.now number c.args.state c.requires.known in
    let bad = bad_is c.args.page.now number c.args.state c.requires.known in
    let used : c.is_zero-is_used.result ≡ is_zero x = c.is_zero-is_used.ensures ∙ zero in
    let long = length_push pages x in
    record {
      checked = omega (arith, c.counted-self.ensures, old.checked, long);
      mismatches = counted_push is_mismatch pages x _ _ _ short old.mismatches (c.is_bad.ensures ∙ bad) c.counted-self-2.ensures;
      unused = counted_push is_zero pages x _ _ _ short old.unused (c.is_zero.ensures ∙ zero) c.counted-self-3.ensures;
      ciphered = counted_push is_ciphered_page pages x _ _ _ short old.ciphered (rw zero at c.is_ciphered.ensures) c.counted-self-4.ensures;
      kinds =
          let long_kinds : length c.args.self.now.kinds.items ≡ 65536 = omega (arith, c.args.self.now.kinds.ok.0) in
          let below : c.from-kind.result < 2 ^ 16 = omega arith in
          let here : c.index.result.now ≡ get_or c.args.self.now.kinds.items c.from-kind.result 0 = get_or_read c.args.self.now.kinds.items c.from-kind.result c.index.result.now (omega arith) c.index.ensures 0 in
          kinds_push pages x c.args.self.now.kinds.items c.from-kind.result c.counted-of_kind.result _ short old.kinds (omega arith) below
          (ap (λ (b : Bool). not b) used) (c.from-kind.ensures ∙ c.be16_at.ensures) (rw here at c.counted-of_kind.ensures);
    }
