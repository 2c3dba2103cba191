use Rattle.std.proofs.Common.{◌∙◌, ◌++◌, ◌∷◌, [], Bool, ap, cond, arith}
use Rattle.std.proofs.lemmas.List.{map-id}
use Rattle.cobuchi_automata.specs.Edges.{edge_tree}
use Rattle.bounded_encoding.proofs.Gathering.{gathered, gathered_all}
use Rattle.counterstrategy.specs.DualEncoding.{meets_choices}
use Rattle.counterstrategy.specs.internal.DualAsking.{dual_tree}
use Rattle.counterstrategy.proofs.environment_side.met_vectors.Goals as goal

pub loop-u-preserved : goal.loop-u-preserved
loop-u-preserved c =
    gathered _ _ _ _ _ (meets_choices (dual_tree c.args.question.now) (edge_tree c.args.edge)) (λ n. n)
    (omega (arith, c.loop-u-test.true, c.requires.asked.vectors)) c.loop-u.invariant
    (c.in_ok-push_number_if.ensures
    ∙ ap (λ (t : Bool). c.loop-u.met.items ++ cond t (c.loop-u.u ∷ []) []) c.meets_choices.ensures)

pub returns : goal.returns
returns c = gathered_all _ _ _ _ (meets_choices (dual_tree c.args.question.now) (edge_tree c.args.edge)) (λ n. n)
    (omega (arith, c.loop-u-test.false, c.requires.asked.vectors)) c.loop-u.invariant ∙ map-id _
