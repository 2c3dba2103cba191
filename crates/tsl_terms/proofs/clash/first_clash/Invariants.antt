use Rattle.std.proofs.Common.{ℕ, ◌<◌, map}
use Rattle.tsl_terms.specs.Clashes.{name_use, alike_in, IsClash}
use Rattle.tsl_terms.proofs.clash.first_clash.Given as goal

-- no use before this place is a clash
abbrev pub invariant-loop-place : goal.invariant-loop-place
invariant-loop-place l = (i : ℕ) → i < l.place → IsClash (alike_in l.quality) (map name_use l.uses) i → ⊥
