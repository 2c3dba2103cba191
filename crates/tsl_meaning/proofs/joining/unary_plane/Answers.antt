use Rattle.std.proofs.Common.{◌+◌, subst, sym}
use Rattle.std.specs.Prelude.{IfOk}
use Rattle.position_planes.specs.Positions.{loop_of}
use Rattle.tsl_terms.specs.declared.operator.UnaryOperator.TheVariants.{Negation, Next}
use Rattle.tsl_meaning.proofs.OperatorPlanes.{MakesUnary, unary_known}
use Rattle.tsl_meaning.proofs.joining.unary_plane.Goals as goal

pub returns-in-Negation : goal.returns-in-Negation
returns-in-Negation g c = unary_known (c.args.run.now.start + c.args.run.now.length)
    (loop_of c.args.run.now.start c.args.run.now.length) _ Negation _ _ c.in-Negation.is
    (c.negated.ensures.truths (c.args.run.now.start + c.args.run.now.length))

pub returns-in-Next : goal.returns-in-Next
returns-in-Next g c = unary_known (c.args.run.now.start + c.args.run.now.length)
    (loop_of c.args.run.now.start c.args.run.now.length) _ Next _ _ c.in-Next.is c.next.ensures

pub returns-in-Finally : goal.returns-in-Finally
returns-in-Finally g c = subst (λ o. IfOk c.finally.result (λ made. MakesUnary (c.args.run.now.start + c.args.run.now.length)
    (loop_of c.args.run.now.start c.args.run.now.length) o c.args.plane.items made.items)) (sym c.in-Finally.is) c.finally.ensures

pub returns-in-Globally : goal.returns-in-Globally
returns-in-Globally g c = subst (λ o. IfOk c.globally.result (λ made. MakesUnary (c.args.run.now.start + c.args.run.now.length)
    (loop_of c.args.run.now.start c.args.run.now.length) o c.args.plane.items made.items)) (sym c.in-Globally.is) c.globally.ensures
