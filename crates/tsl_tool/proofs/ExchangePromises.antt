-- What the replies of `circuit`, `automaton` and `accepts` promise.
use Rattle.std.proofs.Common.{◌≡◌, ◌≢◌, ℕ, true, false, List, refl, sym, subst}
use Rattle.command_words.specs.declared.task.Task.TheVariants.{Check, Circuit, Automaton, Accepts}
use Rattle.tsl_report.specs.declared.fault.Head.TheVariants.{Letters}
use Rattle.tsl_report.specs.declared.fault.Fault.TheVariants.{Parts, LettersForm}
use Rattle.tool_io.specs.declared.status.Status.{Status}
use Rattle.tool_io.specs.declared.status.Status.TheVariants.{Done, No}
use Rattle.tool_io.specs.declared.reply.Reply.{Reply}
use Rattle.command_faults.specs.Refusals.{fault_at_limit}
use Rattle.exchange_commands.specs.Circuit.{CircuitOutcome, not_accepted, accepted}
use Rattle.exchange_commands.specs.Automaton.{AutomatonOutcome, refused, of_spec, too_large, told}
use Rattle.exchange_commands.specs.Accepts.{AcceptsOutcome, without_letters, of_parts, automaton_refused, letters_refused, both_spelled}
use Rattle.tsl_tool.specs.Promise.{Promise}
use Rattle.tsl_tool.proofs.CheckPromise.{check_keeps}
use Rattle.tsl_tool.proofs.FaultPromises.{fault_keeps}

-- what is no holds is promised as by `check`
as_check : (bound : ℕ) (bytes text : List ℕ) (status : Status) → status ≢ Done → Promise (Check bound) status bytes text →
    Promise (Circuit bound) status bytes text
as_check bound bytes text Done other h = absurd (other refl)
as_check bound bytes text No other h = h
as_check bound bytes text _ other h = tt

pub circuit_keeps : (bound : ℕ) (bytes : List ℕ) (reply : Reply) → CircuitOutcome bound bytes reply →
    Promise (Circuit bound) reply.status bytes reply.text
circuit_keeps bound bytes reply (not_accepted outcome other) =
    as_check bound bytes reply.text reply.status other (check_keeps bound bytes reply outcome)
circuit_keeps bound bytes reply (accepted spec program pair tells) =
    subst (λ (r : Reply). Promise (Circuit bound) r.status bytes r.text) (sym tells.is) (record {
      spec = spec;
      program = program;
      accepted = pair;
      circuit = tells.circuit;
      of_program = tells.of_program;
      text_is = refl;
    })

pub automaton_keeps : (bytes : List ℕ) (reply : Reply) → AutomatonOutcome bytes reply → Promise Automaton reply.status bytes reply.text
automaton_keeps bytes reply (refused fault h is) = fault_keeps Automaton fault bytes reply is
automaton_keeps bytes reply (of_spec spec spells (too_large limit h is)) = fault_keeps Automaton (fault_at_limit limit) bytes reply is
automaton_keeps bytes reply (of_spec spec spells (told h)) =
    subst (λ (s : Status). Promise Automaton s bytes reply.text) (sym h.status) (spec, spells, h.written)

pub accepts_keeps : (bytes : List ℕ) (reply : Reply) → AcceptsOutcome bytes reply → Promise Accepts reply.status bytes reply.text
accepts_keeps bytes reply (without_letters none is) = fault_keeps Accepts (Parts Letters) bytes reply is
accepts_keeps bytes reply (of_parts parts are (automaton_refused error fault h is_fault is)) = fault_keeps Accepts fault bytes reply is
accepts_keeps bytes reply (of_parts parts are (letters_refused bits states edges line there small wrong is)) =
    fault_keeps Accepts (LettersForm line) bytes reply is
accepts_keeps bytes reply (of_parts parts are (both_spelled input spelled small true exactly is)) =
    subst (λ (r : Reply). Promise Accepts r.status bytes r.text) (sym is)
    (record { parts = parts; are_parts = are; input = input; spelled = spelled; holds = exactly.0 refl }, refl)
accepts_keeps bytes reply (of_parts parts are (both_spelled input spelled small false exactly is)) =
    subst (λ (r : Reply). Promise Accepts r.status bytes r.text) (sym is) (
      record {
        parts = parts;
        are_parts = are;
        input = input;
        spelled = spelled;
        holds = λ accepts. let e : false ≡ true = exactly.1 accepts in cc;
      },
      refl,
    )
