-- What an object of the outside holds, where it tells it.
use Rattle.std.specs.Prelude.{◌≡◌, Option, Some}

-- P of what is held, where it is told. An object that tells nothing meets it at once.
pub record Told {X : Type 0} (P : X → Type 0) (held : Option X) : Type 0 where
  pub here : (x : X) → held ≡ Some x → P x
