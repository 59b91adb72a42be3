use Rattle.std.proofs.Common.{◌≡◌, ◌≤◌, ◌<◌, ◌+◌, ◌*◌, ◌-◌, ◌/◌, ◌%◌, ◌^◌, ℕ, min, length, take, drop, IsErrAnd, sym, ap, subst, ◌∙◌, arith, rules}
use Rattle.std.proofs.Math.Nat.{div-le_self}
use Rattle.innochecksum_cli.specs.Stops.{IsOutsideStatus}
use Rattle.innochecksum_cli.proofs.Fronts.{none_given, stopped}
use Rattle.innochecksum_cli.proofs.SelectedPages.{look_next, look_partly, looks_on, page_room, seen_all, seen_partly, stop_agrees, stop_partly}
use Rattle.innochecksum_cli.proofs.looks.look.Goals as goal

pub returns-in_err-tally-clause-answer : goal.returns-in_err-tally-clause-answer
returns-in_err-tally-clause-answer g c =
    let stop : IsErrAnd c.from_residual.result IsOutsideStatus = search rules in
    record { here = λ fs file is found same. stopped c.from_residual.result _ _ _ _ stop (none_given _ _) }

pub returns-in_err-count-clause-answer : goal.returns-in_err-count-clause-answer
returns-in_err-count-clause-answer g c =
    let stop : IsErrAnd c.from_residual-in_err-count.result IsOutsideStatus = search rules in
    record {
      here = λ fs file is found same.
          stopped c.from_residual-in_err-count.result _ _ _ _ stop
          (seen_partly c.args.options.now (length c.args.page.now) file (c.loop-number.number - c.args.options.now.first) c.loop-number.tally _ _ _ _ (c.loop-number.invariant.seen.here fs file is found same));
    }

pub returns-then-count-page-clause-answer : goal.returns-then-count-page-clause-answer
returns-then-count-page-clause-answer g c = record {
  here = λ fs file is found same.
      let o = c.args.options.now in
      let size = length c.args.page.now in
      let n = c.loop-number.number in
      let k = n - o.first in
      let long : length c.loop-number.page ≡ size = c.loop-number.auto.page in
      let whole : c.args.bytes / size ≡ length file / size = ap (λ (b : ℕ). b / size) same in
      let place : o.first + k ≡ n = omega (arith, c.loop-number.auto.number) in
      let below : n < min (o.last + 1) (length file / size) = omega (arith, whole, c.min-end.ensures, c.saturating_add.ensures, c.loop-number-test.true) in
      let room : (n + 1) * length c.loop-number.page ≤ length file =
      subst (λ (s : ℕ). (n + 1) * s ≤ length file) (sym long) (page_room n size (length file) (omega (arith, below))) in
      let read = c.in_ok-count.ensures.bytes.here fs file (c.loop-number.invariant.same ∙ is) found room in
      absurd (omega (arith, read.0, c.if-count-page.true));
}

pub returns-in_err-look_at-clause-answer : goal.returns-in_err-look_at-clause-answer
returns-in_err-look_at-clause-answer g c =
    let stop : IsErrAnd c.from_residual-in_err-look_at.result IsOutsideStatus = search rules in
    record {
      here = λ fs file is found same.
          let o = c.args.options.now in
          let size = length c.args.page.now in
          let n = c.loop-number.number in
          let k = n - o.first in
          let long : length c.loop-number.page ≡ size = c.loop-number.auto.page in
          let whole : c.args.bytes / size ≡ length file / size = ap (λ (b : ℕ). b / size) same in
          let place : o.first + k ≡ n = omega (arith, c.loop-number.auto.number) in
          let below : n < min (o.last + 1) (length file / size) = omega (arith, whole, c.min-end.ensures, c.saturating_add.ensures, c.loop-number-test.true) in
          let room : (n + 1) * length c.loop-number.page ≤ length file =
          subst (λ (s : ℕ). (n + 1) * s ≤ length file) (sym long) (page_room n size (length file) (omega (arith, below))) in
          let read = c.in_ok-count.ensures.bytes.here fs file (c.loop-number.invariant.same ∙ is) found room in
          let bytes_is : c.read_page.new.page ≡ take size (drop (n * size) file) =
          subst (λ (s : ℕ). c.read_page.new.page ≡ take s (drop (n * s) file)) long read.1 in
          let seen = c.loop-number.invariant.seen.here fs file is found same in
          stopped c.from_residual-in_err-look_at.result _ _ _ _ stop
          (look_partly o size file k n c.read_page.new.page c.loop-number.tally _ _ _ _ _ seen place below bytes_is c.in_err-look_at.ensures.err);
    }

pub returns-in_err-stop-clause-answer : goal.returns-in_err-stop-clause-answer
returns-in_err-stop-clause-answer g c =
    let stop : IsErrAnd c.from_residual-in_err-stop.result IsOutsideStatus = search rules in
    record {
      here = λ fs file is found same.
          let o = c.args.options.now in
          let size = length c.args.page.now in
          let n = c.loop-number.number in
          let k = n - o.first in
          let long : length c.loop-number.page ≡ size = c.loop-number.auto.page in
          let whole : c.args.bytes / size ≡ length file / size = ap (λ (b : ℕ). b / size) same in
          let place : o.first + k ≡ n = omega (arith, c.loop-number.auto.number) in
          let below : n < min (o.last + 1) (length file / size) = omega (arith, whole, c.min-end.ensures, c.saturating_add.ensures, c.loop-number-test.true) in
          let room : (n + 1) * length c.loop-number.page ≤ length file =
          subst (λ (s : ℕ). (n + 1) * s ≤ length file) (sym long) (page_room n size (length file) (omega (arith, below))) in
          let read = c.in_ok-count.ensures.bytes.here fs file (c.loop-number.invariant.same ∙ is) found room in
          let bytes_is : c.read_page.new.page ≡ take size (drop (n * size) file) =
          subst (λ (s : ℕ). c.read_page.new.page ≡ take s (drop (n * s) file)) long read.1 in
          let seen = c.loop-number.invariant.seen.here fs file is found same in
          let fits : length file < 2 ^ 64 = omega (arith, same, c.ranges.bytes) in
          let looks = look_next o size file k n c.read_page.new.page c.loop-number.tally c.look_at.new.tally _ _ _ seen place below fits bytes_is
          c.in_ok-look_at.ensures.counts c.in_ok-look_at.ensures.ok in
          stopped c.from_residual-in_err-stop.result _ _ _ _ stop
          (stop_partly o size file (k + 1) c.look_at.new.tally _ _ _ _ _ looks c.if-tally-options.true c.in_err-stop.ensures.err);
    }

pub returns-then-tally-options-clause-answer : goal.returns-then-tally-options-clause-answer
returns-then-tally-options-clause-answer g c = record {
  here = λ fs file is found same.
      let o = c.args.options.now in
      let size = length c.args.page.now in
      let n = c.loop-number.number in
      let k = n - o.first in
      let long : length c.loop-number.page ≡ size = c.loop-number.auto.page in
      let whole : c.args.bytes / size ≡ length file / size = ap (λ (b : ℕ). b / size) same in
      let place : o.first + k ≡ n = omega (arith, c.loop-number.auto.number) in
      let below : n < min (o.last + 1) (length file / size) = omega (arith, whole, c.min-end.ensures, c.saturating_add.ensures, c.loop-number-test.true) in
      let room : (n + 1) * length c.loop-number.page ≤ length file =
      subst (λ (s : ℕ). (n + 1) * s ≤ length file) (sym long) (page_room n size (length file) (omega (arith, below))) in
      let read = c.in_ok-count.ensures.bytes.here fs file (c.loop-number.invariant.same ∙ is) found room in
      let bytes_is : c.read_page.new.page ≡ take size (drop (n * size) file) =
      subst (λ (s : ℕ). c.read_page.new.page ≡ take s (drop (n * s) file)) long read.1 in
      let seen = c.loop-number.invariant.seen.here fs file is found same in
      let fits : length file < 2 ^ 64 = omega (arith, same, c.ranges.bytes) in
      let looks = look_next o size file k n c.read_page.new.page c.loop-number.tally c.look_at.new.tally _ _ _ seen place below fits bytes_is
      c.in_ok-look_at.ensures.counts c.in_ok-look_at.ensures.ok in
      stop_agrees o size file (k + 1) c.look_at.new.tally _ _ _ _ _ looks c.if-tally-options.true c.in_ok-stop.ensures.ok;
}

pub loop-number-preserved : goal.loop-number-preserved
loop-number-preserved g c = record {
  seen = record {
    here = λ fs file is found same.
        let o = c.args.options.now in
        let size = length c.args.page.now in
        let n = c.loop-number.number in
        let k = n - o.first in
        let long : length c.loop-number.page ≡ size = c.loop-number.auto.page in
        let whole : c.args.bytes / size ≡ length file / size = ap (λ (b : ℕ). b / size) same in
        let place : o.first + k ≡ n = omega (arith, c.loop-number.auto.number) in
        let below : n < min (o.last + 1) (length file / size) = omega (arith, whole, c.min-end.ensures, c.saturating_add.ensures, c.loop-number-test.true) in
        let room : (n + 1) * length c.loop-number.page ≤ length file =
        subst (λ (s : ℕ). (n + 1) * s ≤ length file) (sym long) (page_room n size (length file) (omega (arith, below))) in
        let read = c.in_ok-count.ensures.bytes.here fs file (c.loop-number.invariant.same ∙ is) found room in
        let bytes_is : c.read_page.new.page ≡ take size (drop (n * size) file) =
        subst (λ (s : ℕ). c.read_page.new.page ≡ take s (drop (n * s) file)) long read.1 in
        let seen = c.loop-number.invariant.seen.here fs file is found same in
        let fits : length file < 2 ^ 64 = omega (arith, same, c.ranges.bytes) in
        let looks = look_next o size file k n c.read_page.new.page c.loop-number.tally c.look_at.new.tally _ _ _ seen place below fits bytes_is
        c.in_ok-look_at.ensures.counts c.in_ok-look_at.ensures.ok in
        looks_on o size file (k + 1) (n + 1 - o.first) c.look_at.new.tally _ _ looks c.if-tally-options.false (omega (arith, place));
  };
  same = c.in_ok-count.ensures.same ∙ c.loop-number.invariant.same;
  faults = omega (arith, c.loop-number.invariant.faults, c.in_ok-count.ensures.cause.faults_later);
  absences = omega (arith, c.loop-number.invariant.absences, c.in_ok-count.ensures.cause.absences_later);
  outs = omega (arith, c.loop-number.invariant.outs, c.in_ok-look_at.ensures.cause.later);
}

pub returns-clause-answer : goal.returns-clause-answer
returns-clause-answer g c = record {
  here = λ fs file is found same.
      let o = c.args.options.now in
      let size = length c.args.page.now in
      let n = c.loop-number.number in
      let k = n - o.first in
      let whole : c.args.bytes / size ≡ length file / size = ap (λ (b : ℕ). b / size) same in
      let rest : c.args.bytes % size ≡ length file % size = ap (λ (b : ℕ). b % size) same in
      let done : min (o.last + 1) (length file / size) ≤ o.first + k =
      omega (arith, whole, c.min-end.ensures, c.saturating_add.ensures, c.loop-number-test.false, c.loop-number.auto.number, div-le_self c.args.bytes size, c.ranges.bytes) in
      seen_all o size file k _ _ _ (c.loop-number.invariant.seen.here fs file is found same) done whole rest;
}
