use Rattle.std.proofs.Common.{◌∙◌, sym}
use Rattle.annotation_check.specs.Annotations.{number_of_pair}
use Rattle.annotation_check.proofs.annotating.least_annotation.Goals as goal

pub returns-clause-least : goal.returns-clause-least
returns-clause-least c other numbering s q n is =
    let least = rw c.in-Some.is at c.in_ok-numbers.ensures.least in
    least other numbering s q n ((λ i. number_of_pair c.args.pairs.now.automaton_states (sym c.from_vec.ensures i) s q) ∙ is)
