use Rattle.std.proofs.Common.{◌≡◌, ℕ, ◌+◌, ◌≤◌, List, length, refl, sym, ap, ◌∙◌, subst, arith, length-take}
use Rattle.binlog_text.specs.Header.{sum_length}
use Rattle.binlog_text.specs.Reading.{Moves}
use Rattle.binlog_text.specs.declared.stage.StageStep.{StageStep}
use Rattle.binlog_text.proofs.reading.take_event.Goals as goal

pub returns-clause-moves : goal.returns-clause-moves
returns-clause-moves c =
    let event : List ℕ = c.read.new.self.event in
    let within : c.in-Some.length ≤ length c.rest.result.now = rw c.in-Some.is at c.in_ok-length.ensures.within in
    let header : 19 ≤ c.in-Some.length = rw c.in-Some.is at c.in_ok-length.ensures.header in
    let same : length c.rest.result.now ≡ length c.args.buffer.now.rest = ap length c.rest.ensures in
    let long : length event ≡ c.in-Some.length =
    c.read.ensures.long ∙ ap length c.take.ensures.event ∙ (let e : length c.args.buffer.now.rest ≡ length c.rest.result.now = sym same in omega (arith, length-take c.in-Some.length c.args.buffer.now.rest, within, e)) in
    let sum : 19 + sum_length c.in_ok-format.format.checksum ≤ length c.take.new.self.event = c.in_ok-format.ensures.sum in
    let back : length event ≡ length c.take.new.self.event = c.read.ensures.long in
    subst (λ (s : StageStep). Moves c.args.position.now event s) (sym c.step_of.ensures)
    (record {
      place = refl;
      next = ap (λ (n : ℕ). c.args.position.now.place + n) (sym long);
      size = refl;
      inside = omega (arith, c.requires, within, header, same);
      long = omega (arith, sum, back);
    })
