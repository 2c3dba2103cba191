use Rattle.std.proofs.Common.{map, subst, sym}
use Rattle.tsl_terms.specs.SpecView.{spec_tree}
use Rattle.program_tree.specs.Writable.{IsWritable}
use Rattle.tsl_meaning.specs.Promise.{Realizes}
use Rattle.letter_space.specs.SpaceView.{space_tree}
use Rattle.machines.specs.MachineView.{round_tree}
use Rattle.machines.specs.Rounds.{windows_of}
use Rattle.program_check.specs.declared.verdict.Verdict.TheVariants.{Yes}
use Rattle.program_check.specs.Verdicts.{IsVerdict}
use Rattle.refinement_loop.specs.declared.outcome.Outcome.{Outcome}
use Rattle.refinement_loop.specs.Outcomes.{IsOutcome, IsLastBound, IfWritten}
use Rattle.synthesis_commands.proofs.HeldRounds.{rounds_held, reason_fits}
use Rattle.synthesis_commands.proofs.SynthStages.{written_outcome, none_outcome}
use Rattle.synthesis_commands.proofs.synthesis.reply_to_outcome.Goals as goal

pub written-requires : goal.written-requires
written-requires c =
    subst (λ (o : Outcome). IfWritten o (IsWritable c.args.spec.now.names)) c.in-Written.is c.requires.writable

pub returns-in-Written : goal.returns-in-Written
returns-in-Written c =
    let spec = spec_tree c.args.spec.now in
    let search = c.args.search.now in
    let number = c.args.searched.bound in
    written_outcome search spec c.in-Written.rounds c.in-Written.program number c.written.result
    (subst (λ (o : Outcome). IsOutcome spec search o) c.in-Written.is c.requires.outcome)
    (subst (λ (o : Outcome). IsLastBound spec search o number) c.in-Written.is c.requires.bound)
    (subst (λ (o : Outcome). IfWritten o (λ p. IsVerdict spec p number Yes)) c.in-Written.is c.requires.accepted)
    (subst (λ (o : Outcome). IfWritten o (Realizes spec)) c.in-Written.is c.requires.realized)
    c.written.ensures.status c.written.ensures.text

pub none-requires-clause-rounds : goal.none-requires-clause-rounds
none-requires-clause-rounds c =
    let spec = spec_tree c.args.spec.now in
    let search = c.args.search.now in
    let outcome = subst (λ (o : Outcome). IsOutcome spec search o) c.in-None.is c.requires.outcome in
    rw c.as_slice.ensures
    (rounds_held spec c.requires.fits search (space_tree c.args.space.now) (map round_tree c.in-None.rounds) c.requires.space
    outcome.chain)

pub none-requires-clause-reason : goal.none-requires-clause-reason
none-requires-clause-reason c =
    let spec = spec_tree c.args.spec.now in
    let search = c.args.search.now in
    let outcome = subst (λ (o : Outcome). IsOutcome spec search o) c.in-None.is c.requires.outcome in
    reason_fits spec c.requires.fits search (windows_of (map round_tree c.in-None.rounds)) (space_tree c.args.space.now)
    c.in-None.reason c.requires.space outcome.answer.1

pub returns-in-None : goal.returns-in-None
returns-in-None c =
    let spec = spec_tree c.args.spec.now in
    let search = c.args.search.now in
    let number = c.args.searched.bound in
    none_outcome search spec c.in-None.rounds c.in-None.reason number (space_tree c.args.space.now) c.none.result c.requires.space
    (subst (λ (o : Outcome). IsOutcome spec search o) c.in-None.is c.requires.outcome)
    (subst (λ (o : Outcome). IsLastBound spec search o number) c.in-None.is c.requires.bound)
    c.none.ensures.status (rw (sym c.as_slice.ensures) c.none.ensures.text)

pub spent-requires : goal.spent-requires
spent-requires c =
    let spec = spec_tree c.args.spec.now in
    let search = c.args.search.now in
    let outcome = subst (λ (o : Outcome). IsOutcome spec search o) c.in-Spent.is c.requires.outcome in
    rw c.as_slice-in-Spent.ensures
    (rounds_held spec c.requires.fits search (space_tree c.args.space.now) (map round_tree c.in-Spent.rounds) c.requires.space
    outcome.chain)
