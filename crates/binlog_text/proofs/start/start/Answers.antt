use Rattle.std.proofs.Common.{◌≡◌, ℕ, ◌≤◌, List, [], length, drop, refl, sym, ap, ◌∙◌, arith, unwrap_or, Option}
use Rattle.io_core.specs.Files.{bytes_from}
use Rattle.io_core.proofs.WholeFiles.{present_file}
use Rattle.binlog_text.specs.Events.{is_log}
use Rattle.binlog_text.proofs.Kept.{front_none}
use Rattle.binlog_text.proofs.Started.{started, started_bad}
use Rattle.binlog_text.proofs.start.start.Goals as goal

pub returns-then-not-is_log-clause-position : goal.returns-then-not-is_log-clause-position
returns-then-not-is_log-clause-position g c = record {
  here = λ fs is inside.
      let found = fs c.args.name.now in
      let file = present_file c.in_ok-size.size found (sym (c.in_ok-size.ensures.size.here fs is refl)) in
      let same = c.in_ok-size.ensures.same ∙ is in
      let all : List ℕ = bytes_from 0 c.args.name.now fs in
      let front = c.in_ok-fill.ensures.front.here fs same (front_none c.clear.new.self.rest all c.clear.ensures.rest) in
      let long : length all ≡ c.in_ok-size.size = ap (λ (f : Option (List ℕ)). length (drop 0 (unwrap_or f []))) file.1 ∙ sym file.2 in
      let enough : c.min.result ≤ length c.fill.new.self.rest = c.in_ok-fill.ensures.enough.here fs same long in
      started_bad found file.0 c.fill.new.self.rest c.fill.new.self.rest file.1 front (omega (arith, enough, c.min.ensures, file.2))
      (ap is_log (sym c.rest.ensures) ∙ sym c.is_log.ensures.value ∙ c.if-not-is_log.true);
}

pub returns-clause-position : goal.returns-clause-position
returns-clause-position g c = record {
  here = λ fs is inside.
      let found = fs c.args.name.now in
      let file = present_file c.in_ok-size.size found (sym (c.in_ok-size.ensures.size.here fs is refl)) in
      let same = c.in_ok-size.ensures.same ∙ is in
      let all : List ℕ = bytes_from 0 c.args.name.now fs in
      let front = c.in_ok-fill.ensures.front.here fs same (front_none c.clear.new.self.rest all c.clear.ensures.rest) in
      let long : length all ≡ c.in_ok-size.size = ap (λ (f : Option (List ℕ)). length (drop 0 (unwrap_or f []))) file.1 ∙ sym file.2 in
      let enough : c.min.result ≤ length c.fill.new.self.rest = c.in_ok-fill.ensures.enough.here fs same long in
      let four : 4 ≤ length c.rest.result.now = c.is_log.ensures.long c.if-not-is_log.false in
      let size : length c.rest.result.now ≡ length c.fill.new.self.rest = ap length c.rest.ensures in
      started found file.0 c.fill.new.self.rest c.take.new.self.rest c.in_ok-size.size file.1 file.2 front (omega (arith, enough, c.min.ensures, file.2))
      (omega (arith, four, size))
      (ap is_log (sym c.rest.ensures) ∙ sym c.is_log.ensures.value ∙ c.if-not-is_log.false) c.take.ensures.rest;
}
