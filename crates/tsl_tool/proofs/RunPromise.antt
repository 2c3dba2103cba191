-- What the replies of `run` promise.
use Rattle.std.proofs.Common.{◌≡◌, ℕ, List, refl, sym, subst}
use Rattle.command_words.specs.declared.task.Task.TheVariants.{Run}
use Rattle.tsl_meaning.specs.Lasso.{meets}
use Rattle.tsl_meaning.specs.RunTree.{RunTree}
use Rattle.tsl_meaning.specs.RunLasso.{shape_of}
use Rattle.tsl_report.specs.declared.fault.Fault.TheVariants.{Parts, Large}
use Rattle.tsl_report.specs.declared.fault.LimitName.TheVariants.{Run as RunLimit}
use Rattle.tool_io.specs.declared.status.Status.{Status}
use Rattle.tool_io.specs.declared.reply.Reply.{Reply}
use Rattle.tool_io.specs.declared.status.Status.TheVariants.{Done, No}
use Rattle.checking_commands.specs.RunParts.{RunParts, AreParts}
use Rattle.checking_commands.specs.Run.{RunInput, SpellRunInput, HasGivenSignals, IsRunTrace, one_fails, signals_differ, judged_formulas}
use Rattle.checking_commands.specs.Run.{verdicts_of, run_reply, lasso_of, most_configurations, Closes}
use Rattle.checking_commands.specs.Run.{InputOutcome, runs_on, other_signals, traced, part_refused, spelled}
use Rattle.checking_commands.specs.Run.{RunOutcome, missing, of_all_parts}
use Rattle.checking_commands.proofs.RunVerdicts.{each_holds, some_no, all_of_done, not_all_of_no}
use Rattle.tsl_tool.specs.Promise.{Promise}
use Rattle.tsl_tool.proofs.FaultPromises.{fault_keeps}

module _ (bytes : List ℕ) (parts : RunParts) (are : AreParts bytes parts) (input : RunInput) (spells : SpellRunInput parts input) where
  abbrev is_trace : (run : RunTree ℕ) → Closes input run → HasGivenSignals input.given input.program →
      IsRunTrace bytes (run_reply input run).text
  is_trace run closes same = record {
    parts = parts;
    are_parts = are;
    input = input;
    spelled = spells;
    run = run;
    is_first = closes.is_first;
    signals = same;
    text_is = refl;
  }

  traced_keeps : (run : RunTree ℕ) (status : Status) → Closes input run → HasGivenSignals input.given input.program →
      (run_reply input run).status ≡ status → Promise Run status bytes (run_reply input run).text
  traced_keeps run Done closes same is = record {
    trace = is_trace run closes same;
    all_hold = each_holds (judged_formulas input) (λ f. meets (lasso_of input (shape_of run)) f 0)
        (all_of_done (verdicts_of input (shape_of run)) is);
  }
  traced_keeps run No closes same is =
      one_fails (is_trace run closes same) (some_no (verdicts_of input (shape_of run)) (not_all_of_no (verdicts_of input
      (shape_of run)) is))
  traced_keeps run _ closes same is = tt

  input_keeps : (reply : Reply) → InputOutcome input reply → Promise Run reply.status bytes reply.text
  input_keeps reply (runs_on different is) = fault_keeps Run (Large RunLimit most_configurations) bytes reply is
  input_keeps reply (other_signals run closes other is) =
      subst (λ (r : Reply). Promise Run r.status bytes r.text) (sym is)
      (signals_differ parts are input spells other refl)
  input_keeps reply (traced run closes same is) =
      subst (λ (r : Reply). Promise Run r.status bytes r.text) (sym is)
      (traced_keeps run (run_reply input run).status closes same refl)

pub run_keeps : (bytes : List ℕ) (reply : Reply) → RunOutcome bytes reply → Promise Run reply.status bytes reply.text
run_keeps bytes reply (missing head lacks is) = fault_keeps Run (Parts head) bytes reply is
run_keeps bytes reply (of_all_parts parts are (part_refused fault h is)) = fault_keeps Run fault bytes reply is
run_keeps bytes reply (of_all_parts parts are (spelled input h outcome)) = input_keeps bytes parts are input h reply outcome
