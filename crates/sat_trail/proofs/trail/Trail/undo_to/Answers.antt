use Rattle.std.proofs.Common.{◌≡◌, false, sym, subst}
use Rattle.sat_trail.specs.States.{TrailState}
use Rattle.sat_trail.proofs.Stays.{watched_undone}
use Rattle.sat_trail.proofs.trail.Trail.undo_to.Goals as goal

pub undo-requires : goal.undo-requires
undo-requires c = (c.self.invariant.1 (subst (λ (s : TrailState). s.broken ≡ false) (sym c.self.view_is) c.requires)).asides.few

pub invariant_of-self : goal.invariant_of-self
invariant_of-self c =
    let t = c.self.inside.stack in
    let w = c.self.inside.watches in (
      c.undo_to.ensures.sound,
      λ usable. watched_undone t c.undo_to.new.self w c.undo.new.self c.args.level c.set_count.result
          (c.self.invariant.1 (subst (λ (s : TrailState). s.broken ≡ false) (sym c.self.view_is) c.requires))
          c.undo_to.ensures.value c.undo_to.ensures.in_place c.set_count.ensures.value c.undo.ensures,
    )
