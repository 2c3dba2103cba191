use Rattle.std.proofs.Common.{◌≡◌, false, sym, subst}
use Rattle.sat_trail.specs.States.{TrailState, with_clause}
use Rattle.sat_trail.proofs.Stays.{answered, watched_learnt}
use Rattle.sat_trail.proofs.trail.Trail.learn.Goals as goal

pub invariant_of-self : goal.invariant_of-self
invariant_of-self c =
    let t = c.self.inside.stack in
    let u = c.learn.new.self in (
      c.learn.ensures.sound,
      λ usable. watched_learnt t u c.self.inside.watches c.args.clause
          (c.self.invariant.1 (subst (λ (s : TrailState). s.broken ≡ false) (sym c.self.view_is) c.requires.usable))
          (answered c.learn.result (u ≡ with_clause t c.args.clause) u.broken c.learn.ensures.ok c.learn.ensures.err usable),
    )
