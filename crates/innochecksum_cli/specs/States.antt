-- The states of a page, as tests.
use Rattle.std.specs.Prelude.{Bool, true, false}
use Rattle.page_text.specs.declared.state.PageState.{PageState}
use Rattle.page_text.specs.declared.state.PageState.TheVariants.{Bad, Valid, Zero}

-- all bytes are zero
abbrev pub is_zero_state : PageState → Bool
is_zero_state Zero = true
is_zero_state Valid = false
is_zero_state (Bad stored computed) = false

-- the checksums differ
abbrev pub is_bad_state : PageState → Bool
is_bad_state Zero = false
is_bad_state Valid = false
is_bad_state (Bad stored computed) = true
