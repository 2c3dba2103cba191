use Rattle.std.proofs.Common.{◌∙◌, subst}
use Rattle.ltl_formula.specs.LtlTree.{ltl_tree}
use Rattle.underapprox.specs.LetterForm.{letter_form}
use Rattle.ltl_rewriting.specs.SameMeaning.{MeansSame}
use Rattle.judged_controllers.proofs.automata.small_form.Goals as goal

pub returns : goal.returns
returns c =
    subst (MeansSame (ltl_tree c.in_ok-small.small))
    (c.in_ok-form.ensures.form ∙ (λ i. letter_form (c.requires i) (c.in_ok-formula.ensures i))) c.in_ok-small.ensures
