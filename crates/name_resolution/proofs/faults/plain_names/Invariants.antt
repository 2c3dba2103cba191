use Rattle.std.proofs.Common.{◌≡◌, ◌≤◌, length, map, drop}
use Rattle.tsl_terms.specs.Clashes.{with_uses, first_uses}
use Rattle.name_resolution.specs.Faults.{plain_names}
use Rattle.name_resolution.specs.OccurrenceView.{occurrence_of}
use Rattle.name_resolution.proofs.faults.plain_names.Given as goal

-- the names so far, and then those that are left
abbrev pub invariant-loop-occurrence : goal.invariant-loop-occurrence
invariant-loop-occurrence l = record {
  names_are : with_uses l.names (plain_names (map occurrence_of (drop l.occurrence-index l.occurrences)))
      ≡ first_uses (plain_names (map occurrence_of l.occurrences));
  few : length l.names ≤ l.occurrence-index;
}
