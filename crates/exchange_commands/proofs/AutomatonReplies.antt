-- Which status and which text the replies of `automaton` have.
use Rattle.std.proofs.Common.{◌≡◌, ◌≢◌, ℕ, true, List, [], ap, sym, ◌∙◌}
use Rattle.tool_io.specs.declared.reply.Reply.{Reply}
use Rattle.command_faults.specs.Refusals.{fault_at_limit}
use Rattle.tool_io.proofs.Replying.{comes_of_bytes, status_of}
use Rattle.command_faults.proofs.Statuses.{refusal_comes, limit_comes, fault_says}
use Rattle.exchange_commands.specs.Automaton.{AutomatonOutcome, refused, of_spec, too_large, told}

pub automaton_comes : (bytes : List ℕ) (reply : Reply) → AutomatonOutcome bytes reply → comes_of_bytes reply.status ≡ true
automaton_comes bytes reply (refused fault h is) =
    ap comes_of_bytes (status_of is) ∙ refusal_comes bytes h.error fault h.is_fault
automaton_comes bytes reply (of_spec spec spells (too_large limit h is)) = ap comes_of_bytes (status_of is) ∙ limit_comes limit
automaton_comes bytes reply (of_spec spec spells (told h)) = ap comes_of_bytes h.status

pub automaton_says : (bytes : List ℕ) (reply : Reply) → AutomatonOutcome bytes reply → reply.text ≢ []
automaton_says bytes reply (refused fault h is) = fault_says fault reply is
automaton_says bytes reply (of_spec spec spells (too_large limit h is)) = fault_says (fault_at_limit limit) reply is
automaton_says bytes reply (of_spec spec spells (told h)) = λ e. let none = sym h.written.text_is ∙ e in cc
