-- Internal: only private functions of this crate use these words.
-- What a row may be refused for, as one test.
use Rattle.std.specs.Prelude.{ℕ, Bool, List, is_some}
use Rattle.std.specs.List.{find}
use Rattle.table_interp.specs.declared.inputs.Rule.{Rule}
use Rattle.table_interp.specs.declared.inputs.Rule.TheVariants as rule
use Rattle.table_interp.specs.Inputs.{has_other_width, is_no_value}

abbrev pub breaks : Rule → List ℕ → Bool
breaks (rule.Width inputs) = has_other_width inputs.now
breaks (rule.Values domain) = λ r. is_some (find (is_no_value domain) r)
