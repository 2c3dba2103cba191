use Rattle.std.proofs.Common.{◌≡◌, [], ◌∷◌, Bool, false, length, map, take}
use Rattle.std.specs.Option.{option_map_or}
use Rattle.tsl_meaning.proofs.atom_truths.column_truths.Given as goal

-- the truths of the values so far
abbrev pub invariant-loop-i : goal.invariant-loop-i
invariant-loop-i g l = record {
  many : length l.truths.items ≡ length l.column;
  so_far : take l.i l.truths.items ≡ map (λ v. option_map_or (λ (holds : Bool). holds)
      ((g.J.Algebra.meanings l.judge).predicate l.predicate (g.J.Algebra.seen v ∷ [])) false) (take l.i l.column);
}
