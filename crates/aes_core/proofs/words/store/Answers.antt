use Rattle.std.proofs.Common.{refl}
use Rattle.aes_core.proofs.words.store.Goals as goal

pub returns : goal.returns
returns c = rw (c.to_le_bytes-a.ensures, c.to_le_bytes-b.ensures, c.to_le_bytes-c.ensures, c.to_le_bytes-d.ensures) refl
