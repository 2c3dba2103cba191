-- Internal: only private functions of this crate use these words.
-- Conjunctions and disjunctions, member by member.
use Rattle.std.specs.Prelude.{Bool, true, false, ◌&&◌, ◌||◌}
use Rattle.tsl_terms.specs.declared.operator.ManyOperator.{ManyOperator}
use Rattle.tsl_terms.specs.declared.operator.ManyOperator.TheVariants.{Conjunction, Disjunction}

-- what two members and the members after them make together, and what none makes
abbrev pub joined : ManyOperator → Bool → Bool → Bool
joined Conjunction a b = a && b
joined Disjunction a b = a || b

abbrev pub of_none : ManyOperator → Bool
of_none Conjunction = true
of_none Disjunction = false
