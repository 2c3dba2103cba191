use Rattle.std.proofs.Common.{◌∙◌, ◌++◌, ◌∷◌, [], ℕ, ap, cond}
use Rattle.std.proofs.lemmas.List.{map-id}
use Rattle.ltl_formula.specs.Cubes.{cube_matches}
use Rattle.bounded_encoding.proofs.Gathering.{gathered, gathered_all}
use Rattle.bounded_encoding.proofs.controller_side.meeting_below.Goals as goal

pub loop-v-preserved : goal.loop-v-preserved
loop-v-preserved c = gathered _ _ _ _ _ (cube_matches c.args.care c.args.want) (λ n. n) c.loop-v-test.true c.loop-v.invariant
    (c.in_ok-push_number_if.ensures
    ∙ ap (λ (n : ℕ). c.loop-v.met.items ++ cond (cube_matches c.args.care c.args.want n) (c.loop-v.v ∷ []) []) c.from.ensures)

pub returns : goal.returns
returns c = gathered_all _ _ _ _ (cube_matches c.args.care c.args.want) (λ n. n) c.loop-v-test.false c.loop-v.invariant ∙ map-id _
