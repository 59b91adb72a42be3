-- The state of a page, by its bytes alone.
use Rattle.std.specs.Prelude.{◌≡◌, ◌≢◌, ℕ, ◌-◌, List, length, take}
use Rattle.std.specs.List.{All}
use Rattle.bytes_core.specs.Crc.{crc32c}
use Rattle.byte_list.specs.Fields.{be32_at}
use Rattle.page_text.specs.Parts.{page_sum_size}
use Rattle.page_text.specs.declared.state.PageState.{PageState}
use Rattle.page_text.specs.declared.state.PageState.TheVariants.{Bad, Valid, Zero}

abbrev pub IsZero : List ℕ → Type 0
IsZero page = All (λ byte. byte ≡ 0) page

-- the checksum in the last bytes
abbrev pub stored_sum : List ℕ → ℕ
stored_sum page = be32_at page (length page - page_sum_size)

-- the checksum of all bytes before them
abbrev pub computed_sum : List ℕ → ℕ
computed_sum page = crc32c (take (length page - page_sum_size) page)

-- zero exactly where all bytes are; else valid exactly where the checksums are equal, and bad with both where they aren't
abbrev pub IsState : List ℕ → PageState → Type 0
IsState page Zero = IsZero page
IsState page Valid = (¬ IsZero page) × (stored_sum page ≡ computed_sum page)
IsState page (Bad stored computed) = (¬ IsZero page) × (stored ≡ stored_sum page) × (computed ≡ computed_sum page) × (stored ≢ computed)
