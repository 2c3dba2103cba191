use Rattle.std.proofs.Common.{map, subst, sym}
use Rattle.tsl_terms.specs.SpecView.{spec_tree}
use Rattle.letter_space.specs.SpaceView.{space_tree}
use Rattle.machines.specs.MachineView.{round_tree}
use Rattle.refinement_loop.specs.declared.errors.RefineError.{RefineError}
use Rattle.refinement_loop.specs.Outcomes.{HasRefineCause}
use Rattle.synthesis_commands.proofs.HeldRounds.{rounds_held}
use Rattle.synthesis_commands.proofs.SynthStages.{too_large_outcome}
use Rattle.synthesis_commands.proofs.synthesis.reply_over_bits.Goals as goal

pub large-requires : goal.large-requires
large-requires c =
    let after = subst (λ (e : RefineError). HasRefineCause (spec_tree c.args.spec.now) c.args.search.now e) c.in-Err-Large.field-0-is
    c.in-Err-Large.ensures.cause in
    rw c.as_slice.ensures
    (rounds_held (spec_tree c.args.spec.now) c.requires.fits c.args.search.now (space_tree c.args.space.now)
    (map round_tree c.in-Err-Large.rounds) c.requires.space after.chain)

pub returns-in-Err-Large : goal.returns-in-Err-Large
returns-in-Err-Large c =
    let after = subst (λ (e : RefineError). HasRefineCause (spec_tree c.args.spec.now) c.args.search.now e) c.in-Err-Large.field-0-is
    c.in-Err-Large.ensures.cause in
    too_large_outcome c.args.search.now (spec_tree c.args.spec.now) c.in-Err-Large.limit c.in-Err-Large.rounds (space_tree c.args.space.now)
    c.large.result c.requires.space after c.large.ensures.status
    (rw (sym c.as_slice.ensures) c.large.ensures.text)
