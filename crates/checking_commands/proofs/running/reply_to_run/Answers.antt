use Rattle.std.proofs.Common.{◌≡◌, true, refl}
use Rattle.program_tree.specs.ProgramView.{program_tree}
use Rattle.tsl_meaning.specs.RunTree.{run_tree}
use Rattle.checking_commands.specs.Run.{HasGivenSignals}
use Rattle.checking_commands.specs.internal.RunView.{given_spec, interpretation_read, meanings_read}
use Rattle.checking_commands.proofs.RunLaws.{can_run_seen, input_of, first_run_seen, too_long_seen, run_held, judged_seen, traced_seen, other_seen}
use Rattle.checking_commands.proofs.running.reply_to_run.Goals as goal

pub closed_run-requires : goal.closed_run-requires
closed_run-requires c = record {
  can = can_run_seen (given_spec c.args.spec) c.args.names.now (program_tree c.args.program.now) (interpretation_read c.args.meaning.now) c.args.inputs.now
      (meanings_read c.args.meaning.now) (c.requires.means (program_tree c.args.program.now) refl) c.requires.ready;
}

pub returns-then-not-branch : goal.returns-then-not-branch
returns-then-not-branch c =
    let first = first_run_seen (given_spec c.args.spec) c.args.names.now (program_tree c.args.program.now) (interpretation_read c.args.meaning.now)
    c.args.inputs.now (meanings_read c.args.meaning.now) (c.requires.means (program_tree c.args.program.now) refl) (run_tree (λ v. v) c.in-Ok.run') c.in-Ok.ensures.run c.in-Ok.ensures.first in
    other_seen (given_spec c.args.spec) c.args.names.now (program_tree c.args.program.now) (interpretation_read c.args.meaning.now) c.args.inputs.now
    (meanings_read c.args.meaning.now) (c.requires.means (program_tree c.args.program.now) refl) c.other_signals.result (run_tree (λ v. v) c.in-Ok.run')
    (record { is_first = first; within = c.in-Ok.ensures.within })
    (λ (same : HasGivenSignals (given_spec c.args.spec) (program_tree c.args.program.now)).
    let e : c.in_ok-has_given_signals-in-Ok.field-0 ≡ true = c.in_ok-has_given_signals-in-Ok.ensures.1 same in
    let n = c.if-not-branch.true in cc)
    c.other_signals.ensures

pub trace_reply-requires-clause-held : goal.trace_reply-requires-clause-held
trace_reply-requires-clause-held c =
    let first = first_run_seen (given_spec c.args.spec) c.args.names.now (program_tree c.args.program.now) (interpretation_read c.args.meaning.now)
    c.args.inputs.now (meanings_read c.args.meaning.now) (c.requires.means (program_tree c.args.program.now) refl) (run_tree (λ v. v) c.in-Ok.run') c.in-Ok.ensures.run c.in-Ok.ensures.first in
    run_held
    (input_of
    (given_spec c.args.spec) c.args.names.now (program_tree c.args.program.now) (interpretation_read c.args.meaning.now) c.args.inputs.now (meanings_read c.args.meaning.now) (c.requires.means (program_tree c.args.program.now) refl))
    c.requires.ready (run_tree (λ v. v) c.in-Ok.run') first

pub trace_reply-requires-clause-judged : goal.trace_reply-requires-clause-judged
trace_reply-requires-clause-judged c =
    let first = first_run_seen (given_spec c.args.spec) c.args.names.now (program_tree c.args.program.now) (interpretation_read c.args.meaning.now)
    c.args.inputs.now (meanings_read c.args.meaning.now) (c.requires.means (program_tree c.args.program.now) refl) (run_tree (λ v. v) c.in-Ok.run') c.in-Ok.ensures.run c.in-Ok.ensures.first in
    let e : c.in_ok-has_given_signals-in-Ok.field-0 ≡ true = (let n = c.if-not-branch.false in cc) in
    judged_seen (given_spec c.args.spec) c.args.names.now (program_tree c.args.program.now) (interpretation_read c.args.meaning.now) c.args.inputs.now
    (meanings_read c.args.meaning.now) (c.requires.means (program_tree c.args.program.now) refl) c.requires.ready (run_tree (λ v. v) c.in-Ok.run') first (c.in_ok-has_given_signals-in-Ok.ensures.0 e)

pub returns-else-not-branch : goal.returns-else-not-branch
returns-else-not-branch c =
    let first = first_run_seen (given_spec c.args.spec) c.args.names.now (program_tree c.args.program.now) (interpretation_read c.args.meaning.now)
    c.args.inputs.now (meanings_read c.args.meaning.now) (c.requires.means (program_tree c.args.program.now) refl) (run_tree (λ v. v) c.in-Ok.run') c.in-Ok.ensures.run c.in-Ok.ensures.first in
    let e : c.in_ok-has_given_signals-in-Ok.field-0 ≡ true = (let n = c.if-not-branch.false in cc) in
    traced_seen (given_spec c.args.spec) c.args.names.now (program_tree c.args.program.now) (interpretation_read c.args.meaning.now) c.args.inputs.now
    (meanings_read c.args.meaning.now) (c.requires.means (program_tree c.args.program.now) refl) c.trace_reply.result c.requires.ready (run_tree (λ v. v) c.in-Ok.run')
    (record { is_first = first; within = c.in-Ok.ensures.within }) (c.in_ok-has_given_signals-in-Ok.ensures.0 e) c.trace_reply.ensures

pub returns-in-Err-NoLoop : goal.returns-in-Err-NoLoop
returns-in-Err-NoLoop c =
    too_long_seen (given_spec c.args.spec) c.args.names.now (program_tree c.args.program.now) (interpretation_read c.args.meaning.now) c.args.inputs.now
    (meanings_read c.args.meaning.now) (c.requires.means (program_tree c.args.program.now) refl) c.fault_reply.result (c.in-Err-NoLoop.ensures.no_loop c.in-Err-NoLoop.field-0-is) c.fault_reply.ensures
