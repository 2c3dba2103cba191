use Rattle.std.proofs.Common.{◌∙◌, ap}
use Rattle.tsl_terms.specs.FormulaTree.{formula_tree}
use Rattle.ltl_formula.specs.LetterLoop.{holds}
use Rattle.letter_space.specs.SpaceView.{space_tree}
use Rattle.underapprox.proofs.Agreement.{form_is_read}
use Rattle.underapprox.proofs.letter_form.to_letters.Goals as goal

pub returns-clause-meaning : goal.returns-clause-meaning
returns-clause-meaning c loop i =
    ap (λ f. holds loop f i) c.in_ok-made.ensures ∙ form_is_read (space_tree c.args.space.now) loop (formula_tree c.args.formula.now) i
