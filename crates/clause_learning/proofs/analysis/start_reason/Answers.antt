use Rattle.std.proofs.Common.{◌<◌, ap, sym, subst, ◌∙◌}
use Rattle.std.specs.Prelude.{option_map}
use Rattle.std.proofs.lemmas.Option.{same_Some}
use Rattle.base_library.proofs.Places.{slice_get_some}
use Rattle.clause_core.specs.Literals.{Lit}
use Rattle.sat_trail.specs.declared.entries.Entry.{Entry}
use Rattle.clause_learning.proofs.analysis.start_reason.Goals as goal

pub number_of-requires-clause-over : goal.number_of-requires-clause-over
number_of-requires-clause-over c =
    let t = c.args.trail.now in
    let r = slice_get_some t.entries c.args.place c.requires.within in
    subst (λ (l : Lit). l.index < t.variables) (same_Some r.0.literal c.set_at.result
    (ap (option_map (λ (x : Entry). x.literal)) (sym r.1) ∙ c.set_at.ensures)) (c.requires.trail.sound.stand c.args.place r.0 r.1).over
