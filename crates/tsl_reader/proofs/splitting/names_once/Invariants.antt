use Rattle.std.proofs.Common.{◌≡◌, ◌≤◌, length, map, drop}
use Rattle.tsl_terms.specs.Clashes.{with_uses}
use Rattle.tsl_reader.specs.ReadText.{names_once}
use Rattle.tsl_reader.proofs.Parameters.{signal_of}
use Rattle.tsl_reader.proofs.splitting.names_once.Given as goal

-- the parameters so far, and then those that are left
abbrev pub invariant-loop-parameter : goal.invariant-loop-parameter
invariant-loop-parameter l = record {
  names_are : with_uses l.names (map signal_of (map (λ p. p.now) (drop l.parameter-index l.parameters)))
      ≡ names_once (map (λ p. p.now) l.parameters);
  few : length l.names ≤ l.parameter-index;
}
