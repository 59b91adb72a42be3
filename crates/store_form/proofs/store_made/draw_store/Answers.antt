use Rattle.std.proofs.Common.{◌≡◌, ◌∙◌, ℕ, ◌+◌, ◌≤◌, List, length, sym, ap, ap₂, subst, arith, rules}
use Rattle.aes_core.specs.Cipher.{AreBytes}
use Rattle.rand_core.specs.Stream.{Stream, fill_bytes}
use Rattle.space_head.specs.declared.space.SpaceInfo.{SpaceInfo}
use Rattle.store_form.specs.Made.{AreMadeInfos}
use Rattle.store_form.specs.Plan.{IsDrawnTo, after_salts, in_id_order, infos_drawn, spaces_made}
use Rattle.store_form.specs.declared.plan.SpacePlan.{SpacePlan}
use Rattle.store_form.proofs.PlanLaws.{can_be_made, drawn_behind, length-drawn, length-ordered, next_salt, no_salt, salts_behind}
use Rattle.store_form.proofs.store_made.draw_store.Goals as goal

pub header_of-header-requires : goal.header_of-header-requires
header_of-header-requires g c =
    let few = c.requires.plan.few in
    let long = length-ordered c.args.plan.now.spaces in
    omega (arith, few, long, ap length c.requires.sorted)

pub returns-clause-can : goal.returns-clause-can
returns-clause-can g c =
    let plan = c.args.plan.now in
    let stream : Stream = g.R.Rng.stream c.args.rng.now in
    let drew = c.draw_salt-salt.ensures in
    let salt : c.draw_salt-salt.result ≡ (fill_bytes 16 stream).0 = ap (λ (x : List ℕ × Stream). x.0) drew in
    let left : g.R.Rng.stream c.draw_salt-salt.new.rng ≡ (fill_bytes 16 stream).1 = ap (λ (x : List ℕ × Stream). x.1) drew in
    let long : length c.draw_salt-salt.result ≡ 16 = search rules in
    let are : c.in_ok-spaces.spaces.items ≡ spaces_made plan stream = c.in_ok-spaces.ensures.drawn ∙ ap₂ (λ (ps : List SpacePlan) (s : Stream). infos_drawn plan.active ps s) c.requires.sorted left in
    can_be_made plan stream c.requires.plan (sym (ap length salt) ∙ long) (subst AreBytes salt c.known_bytes.ensures) (subst AreMadeInfos are c.in_ok-spaces.ensures.made)

pub returns-clause-few : goal.returns-clause-few
returns-clause-few g c =
    ap length c.of.ensures ∙ (ap length c.in_ok-spaces.ensures.drawn ∙ length-drawn c.args.plan.now.active c.args.plans.now (g.R.Rng.stream c.draw_salt-salt.new.rng) ∙ ap length c.requires.sorted ∙ length-ordered c.args.plan.now.spaces)

-- ---- what is drawn

pub returns-in_err-spaces-clause-left : goal.returns-in_err-spaces-clause-left
returns-in_err-spaces-clause-left g c =
    let first : Stream = g.R.Rng.stream c.args.rng.now in
    let mid : Stream = g.R.Rng.stream c.draw_salt-salt.new.rng in
    let one : mid ≡ after_salts 1 first = next_salt 0 first first mid c.draw_salt-salt.result c.draw_salt-salt.ensures (no_salt first) in
    let size : length c.args.plans.now ≡ length c.args.plan.now.spaces = ap length c.requires.sorted ∙ length-ordered c.args.plan.now.spaces in
    subst (λ (n : ℕ). IsDrawnTo (1 + n) first (g.R.Rng.stream c.draw_spaces.new.rng)) size (drawn_behind (length c.args.plans.now) first mid (g.R.Rng.stream c.draw_spaces.new.rng) one c.draw_spaces.ensures.left)

pub returns-in_err-homes-clause-left : goal.returns-in_err-homes-clause-left
returns-in_err-homes-clause-left g c =
    let first : Stream = g.R.Rng.stream c.args.rng.now in
    let mid : Stream = g.R.Rng.stream c.draw_salt-salt.new.rng in
    let one : mid ≡ after_salts 1 first = next_salt 0 first first mid c.draw_salt-salt.result c.draw_salt-salt.ensures (no_salt first) in
    let size : length c.args.plans.now ≡ length c.args.plan.now.spaces = ap length c.requires.sorted ∙ length-ordered c.args.plan.now.spaces in
    subst (λ (n : ℕ). IsDrawnTo (1 + n) first (g.R.Rng.stream c.draw_spaces.new.rng)) size (drawn_behind (length c.args.plans.now) first mid (g.R.Rng.stream c.draw_spaces.new.rng) one c.draw_spaces.ensures.left)

pub returns-clause-left : goal.returns-clause-left
returns-clause-left g c =
    let first : Stream = g.R.Rng.stream c.args.rng.now in
    let mid : Stream = g.R.Rng.stream c.draw_salt-salt.new.rng in
    let one : mid ≡ after_salts 1 first = next_salt 0 first first mid c.draw_salt-salt.result c.draw_salt-salt.ensures (no_salt first) in
    let size : length c.args.plans.now ≡ length c.args.plan.now.spaces = ap length c.requires.sorted ∙ length-ordered c.args.plan.now.spaces in
    subst (λ (n : ℕ). IsDrawnTo (1 + n) first (g.R.Rng.stream c.draw_spaces.new.rng)) size (drawn_behind (length c.args.plans.now) first mid (g.R.Rng.stream c.draw_spaces.new.rng) one c.draw_spaces.ensures.left)

pub returns-clause-all : goal.returns-clause-all
returns-clause-all g c =
    let first : Stream = g.R.Rng.stream c.args.rng.now in
    let mid : Stream = g.R.Rng.stream c.draw_salt-salt.new.rng in
    let one : mid ≡ after_salts 1 first = next_salt 0 first first mid c.draw_salt-salt.result c.draw_salt-salt.ensures (no_salt first) in
    let size : length c.args.plans.now ≡ length c.args.plan.now.spaces = ap length c.requires.sorted ∙ length-ordered c.args.plan.now.spaces in
    c.in_ok-spaces.ensures.all ∙ ap (after_salts (length c.args.plans.now)) one ∙ salts_behind (length c.args.plans.now) first ∙ ap (λ (n : ℕ). after_salts (1 + n) first) size
