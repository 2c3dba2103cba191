use Rattle.std.proofs.Common.{◌≡◌, map, take}
use Rattle.tsl_reader.proofs.text_names.levels_of.Given as goal

-- the levels so far
abbrev pub invariant-loop-size : goal.invariant-loop-size
invariant-loop-size l = l.levels.items ≡ map (λ s. s.levels) (take l.size-index l.sizes)
