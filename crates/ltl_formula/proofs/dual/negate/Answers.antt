use Rattle.std.proofs.Common.{◌∙◌, ap}
use Rattle.ltl_formula.specs.LtlTree.{ltl_tree}
use Rattle.ltl_formula.specs.LetterLoop.{holds}
use Rattle.ltl_formula.proofs.DualLemmas.{dual_fails}
use Rattle.ltl_formula.proofs.dual.negate.Goals as goal

pub returns-clause-fails : goal.returns-clause-fails
returns-clause-fails c loop i = ap (λ f. holds loop f i) c.in_ok-made.ensures ∙ dual_fails loop (ltl_tree c.args.formula.now) i
