use Rattle.std.proofs.Common.{◌≡◌, ◌-◌, length, drop, ap, ◌∙◌, arith, length-take, length-drop}
use Rattle.binlog_text.specs.Held.{HeldEvent}
use Rattle.binlog_text.proofs.ReadOn.{read_behind_is}
use Rattle.binlog_text.proofs.buffer.EventBuffer.load.Goals as goal

pub returns-clause-more : goal.returns-clause-more
returns-clause-more g c =
    let held = c.self.inside.end - c.self.inside.rest in
    let items = c.self.inside.bytes.items in
    let is = ap (λ (h : HeldEvent). h.rest) c.self.view_is in
    let size : length c.args.self.now.rest ≡ held =
    omega (arith, ap length is, length-take held (drop c.self.inside.rest items), length-drop c.self.inside.rest items, c.self.invariant.1, c.self.invariant.2) in
    record {
      here = λ fs told.
          read_behind_is c.args.self.now.rest c.read_on-count.new.bytes.items _ held c.in_ok-self-inside.field-0 c.args.want (c.read_on-count.ensures.kept ∙ is) size
          (omega (arith, size, c.requires.order)) (omega (arith, c.in_ok-self-inside.ensures.long)) (c.in_ok-self-inside.ensures.front.here fs told)
          (c.in_ok-self-inside.ensures.enough.here fs told);
    }
