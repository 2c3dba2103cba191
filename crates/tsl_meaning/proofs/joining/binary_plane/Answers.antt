use Rattle.std.proofs.Common.{refl, ◌+◌}
use Rattle.lane_planes.specs.Planes.{same_bit}
use Rattle.position_planes.specs.Positions.{loop_of}
use Rattle.position_planes.proofs.PlaneLemmas.{same_truths}
use Rattle.tsl_terms.specs.declared.operator.BinaryOperator.TheVariants.{Implication, Equivalence, Until, WeakUntil, Release}
use Rattle.tsl_meaning.specs.Lasso.{agree}
use Rattle.tsl_meaning.proofs.OperatorPlanes.{binary_known}
use Rattle.tsl_meaning.proofs.RunTruths.{same_agree}
use Rattle.tsl_meaning.proofs.joining.binary_plane.Goals as goal

pub returns-in-Implication : goal.returns-in-Implication
returns-in-Implication g c = binary_known (c.args.run.now.start + c.args.run.now.length)
    (loop_of c.args.run.now.start c.args.run.now.length) _ Implication _ _ _ _ c.in-Implication.is c.deref.ensures.value
    (c.implied.ensures.truths (c.args.run.now.start + c.args.run.now.length))

pub returns-in-Equivalence : goal.returns-in-Equivalence
returns-in-Equivalence g c = binary_known (c.args.run.now.start + c.args.run.now.length)
    (loop_of c.args.run.now.start c.args.run.now.length) _ Equivalence _ _ _ _ c.in-Equivalence.is c.deref-in-Equivalence.ensures.value
    (λ a b on_a on_b. same_truths (c.args.run.now.start + c.args.run.now.length) (λ i. same_bit (a i) (b i)) (λ i. agree (a i) (b i))
    c.same.result.items (λ i. same_agree (a i) (b i)) (c.same.ensures.truths (c.args.run.now.start + c.args.run.now.length) a b on_a on_b))

pub returns-in-Until : goal.returns-in-Until
returns-in-Until g c = binary_known (c.args.run.now.start + c.args.run.now.length)
    (loop_of c.args.run.now.start c.args.run.now.length) _ Until _ _ _ _ c.in-Until.is c.deref-in-Until.ensures.value
    c.until.ensures.truths

pub returns-in-WeakUntil : goal.returns-in-WeakUntil
returns-in-WeakUntil g c = binary_known (c.args.run.now.start + c.args.run.now.length)
    (loop_of c.args.run.now.start c.args.run.now.length) _ WeakUntil _ _ _ _ c.in-WeakUntil.is refl c.weak_until.ensures

pub returns-in-Release : goal.returns-in-Release
returns-in-Release g c = binary_known (c.args.run.now.start + c.args.run.now.length)
    (loop_of c.args.run.now.start c.args.run.now.length) _ Release _ _ _ _ c.in-Release.is refl c.release.ensures
