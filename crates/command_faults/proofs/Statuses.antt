-- The statuses and texts of replies at faults.
use Rattle.std.proofs.Common.{◌≡◌, ◌≢◌, ℕ, true, false, List, [], refl, ap, sym, ◌∙◌}
use Rattle.program_check.specs.declared.verdict.Limit.{Limit}
use Rattle.program_check.specs.declared.verdict.Limit.TheVariants.{Predicates, Bits, Choices, States, Edges, Vectors, Clauses, Branches}
use Rattle.tsl_reader.specs.declared.SpecError.{SpecError}
use Rattle.tsl_reader.specs.declared.SpecError.TheVariants.{Byte, OpenComment, Form, Deep, Defined, Cycle, Kind, Arity}
use Rattle.tsl_reader.specs.declared.SpecError.TheVariants.{DeepUse, Nodes, NoMemory}
use Rattle.tsl_report.specs.declared.fault.Fault.{Fault}
use Rattle.tsl_report.specs.declared.fault.Fault.TheVariants as faults
use Rattle.tsl_report.specs.FaultText.{fault_line, fault_text}
use Rattle.tool_io.specs.declared.status.Status.TheVariants.{Done, No, Large}
use Rattle.tool_io.specs.declared.reply.Reply.{Reply}
use Rattle.command_faults.specs.Refusals.{IsFaultOf, fault_at_limit}
use Rattle.command_faults.specs.Replies.{fault_status, fault_reply}
use Rattle.tool_io.specs.Statuses.{is_answer}
use Rattle.tool_io.proofs.Replying.{status_of, text_of, comes_of_bytes, some_byte}

pub refusal_comes : (bytes : List ℕ) (error : SpecError) (fault : Fault) → IsFaultOf bytes error fault →
    comes_of_bytes (fault_status fault) ≡ true
refusal_comes bytes (Byte at) fault h = ap (λ f. comes_of_bytes (fault_status f)) h.2
refusal_comes bytes (OpenComment at) fault h = ap (λ f. comes_of_bytes (fault_status f)) h.2
refusal_comes bytes (Form at) fault h = ap (λ f. comes_of_bytes (fault_status f)) h.2
refusal_comes bytes (Deep at) fault h = ap (λ f. comes_of_bytes (fault_status f)) h.2
refusal_comes bytes (Defined start end) fault h = ap (λ f. comes_of_bytes (fault_status f)) h.2
refusal_comes bytes (Cycle start end) fault h = ap (λ f. comes_of_bytes (fault_status f)) h.2
refusal_comes bytes (Kind start end) fault h = ap (λ f. comes_of_bytes (fault_status f)) h.2
refusal_comes bytes (Arity start end) fault h = ap (λ f. comes_of_bytes (fault_status f)) h.2
refusal_comes bytes (DeepUse start end) fault h = ap (λ f. comes_of_bytes (fault_status f)) h.2
refusal_comes bytes Nodes fault h = ap (λ f. comes_of_bytes (fault_status f)) h
refusal_comes bytes NoMemory fault h = absurd h

-- the fault of a limit
pub limit_status : (limit : Limit) → fault_status (fault_at_limit limit) ≡ Large
limit_status Predicates = refl
limit_status Bits = refl
limit_status Choices = refl
limit_status States = refl
limit_status Edges = refl
limit_status Vectors = refl
limit_status Clauses = refl
limit_status Branches = refl

pub limit_comes : (limit : Limit) → comes_of_bytes (fault_status (fault_at_limit limit)) ≡ true
limit_comes limit = ap comes_of_bytes (limit_status limit)

pub limit_is_large : (limit : Limit) → is_answer (fault_status (fault_at_limit limit)) ≡ false
limit_is_large limit = ap is_answer (limit_status limit)

-- each reply has a text
pub line_says : (fault : Fault) → fault_text fault ≢ []
line_says fault = some_byte (fault_line fault) 10

pub fault_says : (fault : Fault) (reply : Reply) → reply ≡ fault_reply fault → reply.text ≢ []
fault_says fault reply is e = line_says fault (sym (text_of is) ∙ e)

-- no fault is an answer
pub fault_is_no_answer : (fault : Fault) → is_answer (fault_status fault) ≡ false
fault_is_no_answer faults.Usage = refl
fault_is_no_answer faults.Read = refl
fault_is_no_answer (faults.Large name limit) = refl
fault_is_no_answer _ = refl

pub fault_not_done : (fault : Fault) (reply : Reply) → reply ≡ fault_reply fault → reply.status ≢ Done
fault_not_done fault reply is done =
    let e : false ≡ true = sym (fault_is_no_answer fault) ∙ ap is_answer (sym (status_of is) ∙ done) in cc

pub fault_not_no : (fault : Fault) (reply : Reply) → reply ≡ fault_reply fault → reply.status ≢ No
fault_not_no fault reply is says =
    let e : false ≡ true = sym (fault_is_no_answer fault) ∙ ap is_answer (sym (status_of is) ∙ says) in cc
