-- What reading a page gives of the contents that a store is at rest with.
use Rattle.std.specs.Prelude.{◌≡◌, ℕ, true, List, Result, Ok, Err}
use Rattle.page_places.specs.Texts.{are_zero}
use Rattle.page_text.specs.Text.{plain_of}
use Rattle.space_head.specs.declared.space.Home.{Home}
use Rattle.space_head.specs.declared.space.Home.TheVariants as home
use Rattle.store_files.specs.Pages.{Page, Head, Unused, Used, head_page}
use Rattle.store_form.specs.declared.fault.RestFault.{RestFault}
use Rattle.store_form.specs.declared.fault.RestFault.TheVariants.{NoVersion, Damaged, DiskFault, OutOfMemory}

-- What a page of the contents is answered as, and what is left: zero bytes of an unused page, and else its plain page, that of page 0 being its space's head. The disk may refuse, and there is no other refusal.
abbrev pub IsReadOfPage : Page → List ℕ → Result Home RestFault → Type 0
IsReadOfPage x left (Err DiskFault) = Unit {0}
IsReadOfPage x left (Err OutOfMemory) = Unit {0}
IsReadOfPage x left (Err (NoVersion id version)) = ⊥
IsReadOfPage x left (Err (Damaged s p fault)) = ⊥
IsReadOfPage Unused left (Ok told) = (told ≡ home.Unused) × (are_zero left ≡ true)
IsReadOfPage (Used page) left (Ok told) = (version : ℕ) × (told ≡ home.Clean version) × (plain_of left ≡ record { kind = page.kind; bytes = page.body })
IsReadOfPage (Head info) left (Ok told) = (told ≡ home.Clean 0) × (plain_of left ≡ head_page info)
