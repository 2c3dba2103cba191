-- Which status and which text the replies of `accepts` have.
use Rattle.std.proofs.Common.{◌≡◌, ◌≢◌, ℕ, Bool, true, false, List, [], refl, ap, sym, ◌∙◌}
use Rattle.automaton_text.specs.declared.hoa_error.HoaError.{HoaError}
use Rattle.automaton_text.specs.declared.hoa_error.HoaError.TheVariants.{Form, Bits, States, Edges, NoMemory}
use Rattle.tsl_report.specs.declared.fault.Head.TheVariants.{Letters}
use Rattle.tsl_report.specs.declared.fault.Fault.{Fault}
use Rattle.tsl_report.specs.declared.fault.Fault.TheVariants.{Parts, LettersForm}
use Rattle.tool_io.specs.declared.reply.Reply.{Reply}
use Rattle.command_faults.specs.Replies.{fault_status}
use Rattle.tool_io.proofs.Replying.{comes_of_bytes, status_of, text_of}
use Rattle.command_faults.proofs.Statuses.{fault_says}
use Rattle.exchange_commands.specs.Accepts.{IsAutomatonFault, verdict_reply, AcceptsOutcome, without_letters, of_parts}
use Rattle.exchange_commands.specs.Accepts.{automaton_refused, letters_refused, both_spelled}

automaton_fault_comes : (error : HoaError) (fault : Fault) → IsAutomatonFault error fault → comes_of_bytes (fault_status fault) ≡ true
automaton_fault_comes (Form line) fault h = ap (λ f. comes_of_bytes (fault_status f)) h
automaton_fault_comes Bits fault h = ap (λ f. comes_of_bytes (fault_status f)) h
automaton_fault_comes States fault h = ap (λ f. comes_of_bytes (fault_status f)) h
automaton_fault_comes Edges fault h = ap (λ f. comes_of_bytes (fault_status f)) h
automaton_fault_comes NoMemory fault h = absurd h

verdict_comes : (holds : Bool) → comes_of_bytes (verdict_reply holds).status ≡ true
verdict_comes true = refl
verdict_comes false = refl

pub accepts_comes : (bytes : List ℕ) (reply : Reply) → AcceptsOutcome bytes reply → comes_of_bytes reply.status ≡ true
accepts_comes bytes reply (without_letters none is) = ap comes_of_bytes (status_of is)
accepts_comes bytes reply (of_parts parts are (automaton_refused error fault h is_fault is)) =
    ap comes_of_bytes (status_of is) ∙ automaton_fault_comes error fault is_fault
accepts_comes bytes reply (of_parts parts are (letters_refused bits states edges line there small wrong is)) = ap comes_of_bytes (status_of is)
accepts_comes bytes reply (of_parts parts are (both_spelled input spelled small holds exactly is)) =
    ap comes_of_bytes (status_of is) ∙ verdict_comes holds

verdict_says : (holds : Bool) → (verdict_reply holds).text ≢ []
verdict_says true e = cc
verdict_says false e = cc

pub accepts_says : (bytes : List ℕ) (reply : Reply) → AcceptsOutcome bytes reply → reply.text ≢ []
accepts_says bytes reply (without_letters none is) = fault_says (Parts Letters) reply is
accepts_says bytes reply (of_parts parts are (automaton_refused error fault h is_fault is)) = fault_says fault reply is
accepts_says bytes reply (of_parts parts are (letters_refused bits states edges line there small wrong is)) =
    fault_says (LettersForm line) reply is
accepts_says bytes reply (of_parts parts are (both_spelled input spelled small holds exactly is)) =
    λ e. verdict_says holds (sym (text_of is) ∙ e)
