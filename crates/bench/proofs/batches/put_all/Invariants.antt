use Rattle.disk_model.specs.Past.{At}
use Rattle.disk_model.specs.declared.names.FileName.TheVariants.{Double, Space}
use Rattle.places.specs.Places.{HasPlaces}
use Rattle.page_places.specs.Texts.{pages, slots}
use Rattle.bench.proofs.batches.put_all.Given as goal

abbrev pub invariant-loop-batch : goal.invariant-loop-batch
invariant-loop-batch g l = record {
  double : At (HasPlaces Double slots) (g.D.Disk.past l.disk);
  space : At (HasPlaces (Space 5) (pages l.fn.count)) (g.D.Disk.past l.disk);
}
