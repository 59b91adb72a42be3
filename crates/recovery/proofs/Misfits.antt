-- Files of another length than they are to have.
use Rattle.std.proofs.Common.{◌≡◌, ℕ, ◌<◌, true, List, [], ◌∷◌, map, refl, sym, ◌∙◌, arith}
use Rattle.disk_model.specs.Event.{Event}
use Rattle.disk_model.specs.Past.{Past, At}
use Rattle.disk_model.proofs.Moments.{at_both}
use Rattle.doublewrite.specs.declared.refuse.OpenRefuse.{OpenRefuse}
use Rattle.doublewrite.specs.declared.refuse.OpenRefuse.TheVariants.{NotFormatted, Mixed, Damaged, MissingKey, BadRecord, VersionBelowFloor, Spent, DiskFault, OutOfMemory}
use Rattle.store_files.specs.Header.{are_in_order}
use Rattle.store_files.proofs.SpacesInOrder.{ordered}
use Rattle.store_form.specs.Said.{space_said}
use Rattle.store_form.specs.declared.header.HeaderSpace.{HeaderSpace}
use Rattle.recovery.specs.Files.{StoreFile, HasOtherLength, IsFirstMisfit, file_bytes_of}
use Rattle.recovery.specs.Stages.{IsLengthRefusal, IsOtherLength}
use Rattle.recovery.specs.Walks.{AllHave}

-- a space of a header has pages
pub some_pages : (id : ℕ) (xs : List HeaderSpace) → are_in_order id (map space_said xs) ≡ true → AllHave (λ space. 0 < space.pages) xs
some_pages id [] order = tt
some_pages id (x ∷ xs) order = let o = ordered id (space_said x) (map space_said xs) order in (let s = o.some in omega (arith, s), some_pages x.space xs o.rest)

-- what the check of one file refuses, as the answer for all
module _ (f : StoreFile) (wanted : ℕ) (past : Past) (files : List StoreFile) (size : wanted ≡ file_bytes_of f) (first : At (λ es. (found : ℕ) → HasOtherLength f found es f → IsFirstMisfit files f found es) past) where
  pub length_refused : (why : OpenRefuse) → IsOtherLength f.name wanted past why → IsLengthRefusal files past why
  length_refused (Mixed file at other found) (name, zero_at, is, differs, length_is) =
      (zero_at, f, name, is ∙ size, at_both (λ es leads found_is. leads found (record { file_is = refl; is = found_is; other = λ e. differs (e ∙ sym size) })) first length_is)
  length_refused DiskFault is = tt
  length_refused OutOfMemory is = tt
  length_refused NotFormatted is = absurd is
  length_refused (Damaged file at stored computed) is = absurd is
  length_refused (MissingKey id version) is = absurd is
  length_refused (BadRecord number at) is = absurd is
  length_refused (VersionBelowFloor space floor version) is = absurd is
  length_refused (Spent last) is = absurd is

-- a refusal of some files, as the answer for more
pub misfit_behind : (files whole : List StoreFile) (past : Past) → At (λ es. (f : StoreFile) (found : ℕ) → IsFirstMisfit files f found es → IsFirstMisfit whole f found es) past → (why : OpenRefuse) → IsLengthRefusal files past why → IsLengthRefusal whole past why
misfit_behind files whole past more (Mixed file at wanted found) (zero_at, f, name, size, is) = (zero_at, f, name, size, at_both (λ es m first. m f found first) more is)
misfit_behind files whole past more DiskFault is = tt
misfit_behind files whole past more OutOfMemory is = tt
misfit_behind files whole past more NotFormatted is = absurd is
misfit_behind files whole past more (Damaged file at stored computed) is = absurd is
misfit_behind files whole past more (MissingKey id version) is = absurd is
misfit_behind files whole past more (BadRecord number at) is = absurd is
misfit_behind files whole past more (VersionBelowFloor space floor version) is = absurd is
misfit_behind files whole past more (Spent last) is = absurd is
