use Rattle.std.proofs.Common.{true, sym, ap, subst, ◌∙◌}
use Rattle.std.proofs.lemmas.Bool.{true≢false}
use Rattle.sat_trail.specs.States.{TrailState, IsSound}
use Rattle.sat_trail.proofs.Soundness.{sound_broken}
use Rattle.sat_trail.proofs.trail.Trail.propagate.Goals as goal

pub invariant_of-self-in-Err : goal.invariant_of-self-in-Err
invariant_of-self-in-Err c = (
  subst IsSound (sym c.give_up.ensures.value) (sound_broken c.propagate.new.stack true c.propagate.ensures.sound),
  λ usable. absurd (true≢false (sym (ap (λ (t : TrailState). t.broken) c.give_up.ensures.value) ∙ usable)),
)

pub returns-in-Err-clause-sound : goal.returns-in-Err-clause-sound
returns-in-Err-clause-sound c = (invariant_of-self-in-Err c).0
