use Rattle.std.proofs.Common.{◌≡◌, ◌∙◌, ◌+◌, ◌++◌, ◌∷◌, [], not, cond}
use Rattle.ltl_formula.specs.Cubes.{has_bit}
use Rattle.bounded_encoding.proofs.Gathering.{gathered, gathered_all}
use Rattle.bounded_encoding.proofs.edge_literals.put_differing.Goals as goal

pub loop-b-preserved : goal.loop-b-preserved
loop-b-preserved c =
    gathered _ _ _ _ _ (λ b. has_bit (c.args.first_bit + b) c.args.edge.cube.care)
    (λ b. record { index = c.args.base + b; positive = not (has_bit (c.args.first_bit + b) c.args.edge.cube.want) })
    c.loop-b-test.true c.loop-b.invariant
    (c.in_ok-push_literal_if.ensures ∙ (λ i. c.loop-b.literals.items
    ++ cond (c.has_bit-in-loop-b.ensures i) ((c.literal-unwanted.ensures
    ∙ (λ j. record { index = c.args.base + c.loop-b.b; positive = not (c.has_bit.ensures j) })) i ∷ []) []))

pub returns : goal.returns
returns c = gathered_all _ _ _ _ (λ b. has_bit (c.args.first_bit + b) c.args.edge.cube.care)
    (λ b. record { index = c.args.base + b; positive = not (has_bit (c.args.first_bit + b) c.args.edge.cube.want) })
    c.loop-b-test.false c.loop-b.invariant
