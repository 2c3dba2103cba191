use Rattle.std.proofs.Common.{◌≡◌, ◌≤◌, ℕ, List, length, map, take}
use Rattle.name_resolution.specs.Heads.{is_name, is_among}
use Rattle.name_resolution.specs.Occurrences.{is_repeated}
use Rattle.name_resolution.proofs.parameters.parameters_of.Given as goal

-- the parameters so far
abbrev pub invariant-loop-parameter : goal.invariant-loop-parameter
invariant-loop-parameter l = record {
  names : (x : List ℕ) → is_name l.names x ≡ is_among (map (λ p. p.now) (take l.parameter-index l.parameters)) x;
  repeated : (x : List ℕ) → is_name l.repeated x ≡ is_repeated (map (λ p. p.now) (take l.parameter-index l.parameters)) x;
  few_names : length l.names ≤ l.parameter-index;
  few_repeated : length l.repeated ≤ l.parameter-index;
}
