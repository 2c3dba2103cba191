use Rattle.std.proofs.Common.{sym, ◌∙◌}
use Rattle.refutation_check.proofs.NumberLemmas.{other_than_zero}
use Rattle.refutation_check.proofs.numbers.ends_list.Goals as goal

pub returns-else-begins_with_zero-clause-value : goal.returns-else-begins_with_zero-clause-value
returns-else-begins_with_zero-clause-value c =
    sym (other_than_zero c.args.word.now (sym c.begins_with_zero.ensures ∙ c.if-begins_with_zero.false))
