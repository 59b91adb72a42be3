use Rattle.std.proofs.Common.{◌≡◌, ◌≤◌, List, ℕ, length, take, drop, ap, refl, sym, ◌∙◌, arith}
use Rattle.std.proofs.lemmas.List.{length-take-le}
use Rattle.byte_list.specs.Fields.{be32_at}
use Rattle.redo_text.specs.Text.{IsRange}
use Rattle.redo_text.proofs.ChangeReads.{four_words, same_32, put_allowed, put_joined, put_room}
use Rattle.redo_text.proofs.changes.put.Goals as goal

pub returns-in_err-bytes-clause-none : goal.returns-in_err-bytes-clause-none
returns-in_err-bytes-clause-none c = rw c.from_residual-in_err-bytes.ensures (λ change rest b.
    let old : List ℕ = c.args.cursor.now in
    let room : 16 ≤ length old = c.in_ok-fields.ensures.some.0 refl in
    let size : c.be32_at-size.result ≡ be32_at old 12 = c.be32_at-size.ensures ∙ sym (same_32 old c.in_ok-fields.fields.now c.take.new.self 16 c.in_ok-fields.ensures.value c.known_bytes.ensures room c.in_ok-fields.ensures.rest 12 (omega arith)) in
    let there : c.be32_at-size.result ≤ length c.take.new.self = omega (arith, size, put_room old change rest b, ap length c.in_ok-fields.ensures.rest) in
    let some = c.in_err-bytes.ensures.some.1 there in
    cc)

pub returns-then-not-may_put-clause-none : goal.returns-then-not-may_put-clause-none
returns-then-not-may_put-clause-none c = λ change rest b.
    let old : List ℕ = c.args.cursor.now in
    let room : 16 ≤ length old = c.in_ok-fields.ensures.some.0 refl in
    let allowed = put_allowed old change rest b in
    let field = same_32 old c.in_ok-fields.fields.now c.take.new.self 16 c.in_ok-fields.ensures.value c.known_bytes.ensures room c.in_ok-fields.ensures.rest in
    let page : c.be32_at-page.result ≡ be32_at old 4 = c.be32_at-page.ensures ∙ sym (field 4 (omega arith)) in
    let at : c.be32_at-at.result ≡ be32_at old 8 = c.be32_at-at.ensures ∙ sym (field 8 (omega arith)) in
    let size : c.be32_at-size.result ≡ be32_at old 12 = c.be32_at-size.ensures ∙ sym (field 12 (omega arith)) in
    let long : length (take (be32_at old 12) (drop 16 old)) ≡ be32_at old 12 = length-take-le (be32_at old 12) (drop 16 old) (put_room old change rest b) in
    let range : IsRange c.be32_at-at.result c.be32_at-size.result =
    record { some = omega (arith, size, long, allowed.3.some); from = omega (arith, at, allowed.3.from); to = omega (arith, at, size, long, allowed.3.to) } in
    c.may_put.ensures.no c.if-not-may_put.true (omega (arith, page, allowed.1)) range

pub returns-clause-some : goal.returns-clause-some
returns-clause-some c =
    let may = c.may_put.ensures.yes c.if-not-may_put.false in
    let old : List ℕ = c.args.cursor.now in
    let f : List ℕ = c.in_ok-fields.fields.now in
    let words = four_words old f c.take.new.self 16 c.in_ok-fields.ensures.value c.known_bytes.ensures (c.in_ok-fields.ensures.some.0 refl) c.in_ok-fields.ensures.rest refl in
    let room : c.be32_at-size.result ≤ length c.take.new.self = c.in_ok-bytes.ensures.some.0 refl in
    let long : length c.in_ok-bytes.bytes.now ≡ c.be32_at-size.result = ap length c.in_ok-bytes.ensures.value ∙ length-take-le c.be32_at-size.result c.take.new.self room in
    record {
      allowed = (omega arith, may.0, omega arith, record { some = omega (arith, long, may.1.some); from = may.1.from; to = omega (arith, long, may.1.to) });
      is = put_joined old f c.take.new.self c.take-2.new.self c.be32_at-size.result c.in_ok-bytes.bytes.now c.be32_at-space.result c.be32_at-page.result c.be32_at-at.result
          (rw (c.be32_at-space.ensures, c.be32_at-page.ensures, c.be32_at-at.ensures, c.be32_at-size.ensures) words) c.in_ok-bytes.ensures.value c.in_ok-bytes.ensures.rest room;
    }
