-- The key is the one at the start, the length of the name and the bytes so far.
use Rattle.std.proofs.Common.{◌≡◌, ◌∷◌, ◌++◌, length, take}
use Rattle.flow_program.proofs.equalities.put_name.Given as goal

abbrev pub invariant-loop-byte : goal.invariant-loop-byte
invariant-loop-byte l = l.key.items ≡ l.fn.key.items ++ length l.bytes ∷ take l.byte-index l.bytes
