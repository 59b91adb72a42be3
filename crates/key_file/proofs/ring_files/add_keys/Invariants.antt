use Rattle.key_file.proofs.RingKeys.{HasFirst}
use Rattle.key_file.proofs.ring_files.add_keys.Given as goal

-- the ring has the keys before the i-th
abbrev pub invariant-loop-i : goal.invariant-loop-i
invariant-loop-i l = HasFirst l.initial.ring l.keys l.version l.i l.ring
