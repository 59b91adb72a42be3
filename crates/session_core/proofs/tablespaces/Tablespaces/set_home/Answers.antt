use Rattle.std.proofs.Common.{List, ap, subst, sym, ◌∙◌}
use Rattle.space_head.specs.declared.space.Home.{Home}
use Rattle.space_head.specs.declared.space.SpaceInfo.{SpaceInfo}
use Rattle.store_form.specs.Said.{header_said}
use Rattle.session_core.specs.SpaceChanges.{with_home}
use Rattle.session_core.specs.Spaces.{HaveLists}
use Rattle.session_core.proofs.SpaceEdits.{have_home}
use Rattle.session_core.proofs.tablespaces.Tablespaces.set_home.Goals as goal

pub invariant_of-self : goal.invariant_of-self
invariant_of-self c =
    let held = (header_said c.self.inside.header).spaces in
    let spaces = c.self.inside.spaces in
    let homes = c.self.inside.homes in
    let is = c.put_home.ensures ∙ ap (λ (l : List SpaceInfo). with_home l homes c.args.space c.args.page c.args.home) c.as_slice.ensures in
    record {
      format = c.self.invariant.format;
      count = c.self.invariant.count;
      spaces = record {
        allowed = c.self.invariant.spaces.allowed;
        have = subst (λ (os : List (List Home)). HaveLists held spaces os) (sym is) (have_home held spaces homes c.args.space c.args.page c.args.home c.self.invariant.spaces.have);
      };
    }
