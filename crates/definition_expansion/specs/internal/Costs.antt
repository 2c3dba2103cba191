-- Internal: only private functions of this crate use these words.
-- How much is to be done to make an expansion: the measure by which its making ends.
use Rattle.std.specs.Prelude.{◌+◌}
use Rattle.definition_expansion.specs.Folds.{Fold}

abbrev pub costs : Fold
costs = record {
  of_alone = 0;
  of_applied = λ n. n;
  of_group = λ n. 5 + n;
  of_no_terms = 0;
  of_more_terms = λ m n. m + n;
  of_constant = 1;
  of_bare = 5;
  of_tested = λ n. 5;
  of_updated = λ n. 1;
  of_under = λ n. 1 + n;
  of_between = λ op m n. 1 + m + n;
  of_joined = λ n. 1 + n;
  of_no_members = 0;
  of_more_members = λ m n. 1 + m + n;
}
