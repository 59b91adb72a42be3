use Rattle.std.proofs.Common.{List, refl, subst, sym}
use Rattle.space_head.specs.declared.space.SpaceInfo.{SpaceInfo}
use Rattle.store_form.specs.Said.{header_said}
use Rattle.store_model.specs.Fold.{floor_set}
use Rattle.session_core.specs.Spaces.{HaveLists}
use Rattle.session_core.proofs.SpaceEdits.{have_space}
use Rattle.session_core.proofs.tablespaces.Tablespaces.set_floor.Goals as goal

pub invariant_of-self : goal.invariant_of-self
invariant_of-self c =
    let held = (header_said c.self.inside.header).spaces in
    let homes = c.self.inside.homes in
    record {
      format = c.self.invariant.format;
      count = c.self.invariant.count;
      spaces = record {
        allowed = c.self.invariant.spaces.allowed;
        have = subst (λ (ss : List SpaceInfo). HaveLists held ss homes) (sym c.put_floor.ensures)
            (have_space held c.self.inside.spaces homes c.args.space (floor_set c.args.version) (record { space = λ x. refl; pages = λ x. refl; key_id = λ x. refl }) c.self.invariant.spaces.have);
      };
    }
