use Rattle.std.proofs.Common.{◌≡◌, ℕ, ◌*◌, ap, ◌∙◌, false, arith}
use Rattle.byte_list.proofs.RangeLaws.{length-zeros}
use Rattle.disk_model.specs.Event.{Make, is_there}
use Rattle.disk_model.specs.Past.{At}
use Rattle.disk_model.specs.declared.names.FileName.TheVariants.{Double, Space}
use Rattle.disk_model.proofs.Moments.{at_grow, at_is}
use Rattle.page_places.specs.Texts.{pages, slots}
use Rattle.places.specs.Places.{HasPlaces}
use Rattle.places.proofs.Steps.{places_make}
use Rattle.bench.proofs.batches.make_files.Goals as goal

pub returns-clause-double : goal.returns-clause-double
returns-clause-double g c =
    let first : At (HasPlaces Double slots) (g.D.Disk.past c.make.new.self) =
    at_is c.in-Ok.ensures.ok (at_grow (Make Double 1081344) (λ es no. places_make Double slots 1081344 es (omega arith) (length-zeros 1081344)) c.requires.double) in
    at_is c.in-Ok-make.ensures.ok (at_grow (Make (Space 5) (c.from.result * 16384)) (λ es (h : HasPlaces Double slots es). record { some = h.some; there = h.there; size = h.size; whole = h.whole }) first)

pub returns-clause-space : goal.returns-clause-space
returns-clause-space g c =
    let m = c.from.result * 16384 in
    let first : At (λ es. is_there (Space 5) es ≡ false) (g.D.Disk.past c.make.new.self) = at_is c.in-Ok.ensures.ok (at_grow (Make Double 1081344) (λ es (no : is_there (Space 5) es ≡ false). no) c.requires.space) in
    at_is c.in-Ok-make.ensures.ok (at_grow (Make (Space 5) m) (λ es no. places_make (Space 5) (pages c.args.count) m es (omega arith) (length-zeros m ∙ ap (λ (n : ℕ). n * 16384) c.from.ensures)) first)
