use Rattle.std.proofs.Common.{◌≡◌, ◌∙◌, ℕ, ◌+◌, ◌<◌, List, [], ◌∷◌, ◌++◌, length, drop, slice_index_or, sym, ap, subst, false, arith}
use Rattle.std.proofs.lemmas.List.{drop_more}
use Rattle.space_head.specs.declared.space.SpaceInfo.{SpaceInfo}
use Rattle.store_form.specs.Made.{AreMadeInfos}
use Rattle.store_form.specs.Plan.{after_salts, infos_drawn}
use Rattle.store_form.specs.declared.plan.SpacePlan.{SpacePlan}
use Rattle.store_form.proofs.PlanLaws.{drawn_more, made_more, next_salt}
use Rattle.store_form.proofs.drawing.draw_spaces.Goals as goal

abbrev zero_plan : SpacePlan
zero_plan = record { space = 0; pages = 0; key_id = 0; ciphered = false }

pub loop-i-preserved : goal.loop-i-preserved
loop-i-preserved g c =
    let xs = c.args.plans.now in
    let i = c.loop-i.i in
    let lt : i < length xs = omega (arith, c.loop-i-test.true) in
    let p = slice_index_or xs i zero_plan in
    let rest : drop i xs ≡ p ∷ drop (i + 1) xs = drop_more xs i zero_plan lt in
    let items : c.push.new.self.items ≡ c.loop-i.spaces.items ++ c.info_of-info.result ∷ [] = c.in_ok-push.ensures.items in
    let step = drawn_more c.args.active c.loop-i.spaces.items p (drop (i + 1) xs) (g.R.Rng.stream c.loop-i.rng) (g.R.Rng.stream c.draw_salt-salt.new.rng) c.draw_salt-salt.result c.draw_salt-salt.ensures in
    record {
      drawn =
          ap (λ (l : List SpaceInfo). l ++ infos_drawn c.args.active (drop (i + 1) xs) (g.R.Rng.stream c.draw_salt-salt.new.rng)) (items ∙ ap (λ (s : SpaceInfo). c.loop-i.spaces.items ++ s ∷ []) c.info_of-info.ensures)
          ∙ sym step ∙ ap (λ (l : List SpacePlan). c.loop-i.spaces.items ++ infos_drawn c.args.active l (g.R.Rng.stream c.loop-i.rng)) (sym rest) ∙ c.loop-i.invariant.drawn;
      left = next_salt c.loop-i.i (g.R.Rng.stream c.args.rng.now) (g.R.Rng.stream c.loop-i.rng) (g.R.Rng.stream c.draw_salt-salt.new.rng) c.draw_salt-salt.result c.draw_salt-salt.ensures c.loop-i.invariant.left;
      made = subst AreMadeInfos (sym items) (made_more c.loop-i.spaces.items c.info_of-info.result c.loop-i.invariant.made c.known_space.ensures);
    }

pub returns-in_err-push-clause-left : goal.returns-in_err-push-clause-left
returns-in_err-push-clause-left g c = record {
  salts = c.loop-i.i + 1;
  few = omega (arith, c.loop-i-test.true);
  left = next_salt c.loop-i.i (g.R.Rng.stream c.args.rng.now) (g.R.Rng.stream c.loop-i.rng) (g.R.Rng.stream c.draw_salt-salt.new.rng) c.draw_salt-salt.result c.draw_salt-salt.ensures c.loop-i.invariant.left;
}

pub returns-clause-all : goal.returns-clause-all
returns-clause-all g c =
    let all : c.loop-i.i ≡ length c.args.plans.now = omega (arith, c.loop-i.auto.i-end, c.loop-i-test.false) in
    c.loop-i.invariant.left ∙ ap (λ (n : ℕ). after_salts n (g.R.Rng.stream c.args.rng.now)) all

pub returns-clause-left : goal.returns-clause-left
returns-clause-left g c = record { salts = c.loop-i.i; few = omega (arith, c.loop-i.auto.i-end); left = c.loop-i.invariant.left }
