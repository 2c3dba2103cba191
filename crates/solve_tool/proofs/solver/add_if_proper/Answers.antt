use Rattle.std.proofs.Common.{◌++◌, ◌∷◌, [], sym, ap, ◌∙◌}
use Rattle.clause_core.proofs.Sets.{in_order_already}
use Rattle.solve_tool.specs.Outcome.{proper_clauses}
use Rattle.solve_tool.proofs.Proper.{left_out, kept_more}
use Rattle.solve_tool.proofs.solver.add_if_proper.Goals as goal

pub returns-then-have_pair : goal.returns-then-have_pair
returns-then-have_pair c = λ rest. left_out c.args.proper.now rest c.args.literals.now (sym c.have_pair.ensures ∙ c.if-have_pair.true)

pub returns : goal.returns
returns c = λ rest.
    ap (λ list. list ++ proper_clauses rest) (c.in_ok-push.ensures.ok
    ∙ ap (λ ls. c.args.proper.now ++ ls ∷ []) (in_order_already c.args.literals.now c.requires))
    ∙ kept_more c.args.proper.now rest c.args.literals.now (sym c.have_pair.ensures ∙ c.if-have_pair.false)
