use Rattle.std.proofs.Common.{◌≡◌, false, sym, subst}
use Rattle.sat_trail.specs.States.{TrailState, decided}
use Rattle.sat_trail.proofs.Stays.{answered, watched_decided}
use Rattle.sat_trail.proofs.trail.Trail.decide.Goals as goal

pub invariant_of-self : goal.invariant_of-self
invariant_of-self c =
    let t = c.self.inside.stack in
    let u = c.decide.new.self in (
      c.decide.ensures.sound,
      λ usable. watched_decided t u c.self.inside.watches c.args.literal
          (c.self.invariant.1 (subst (λ (s : TrailState). s.broken ≡ false) (sym c.self.view_is) c.requires.usable))
          (answered c.decide.result (u ≡ decided t c.args.literal) u.broken c.decide.ensures.ok c.decide.ensures.err usable),
    )
