-- What a reply to a text says, and what the end of a run promises.
use Rattle.std.proofs.Common.{◌≡◌, ◌≢◌, ℕ, Bool, true, false, List, [], ◌++◌, length, refl, ap, sym, ◌∙◌, subst, arith, length-append}
use Rattle.std.specs.Prelude.{Some, Result, IfOk, codes}
use Rattle.std.proofs.lemmas.Result.{IfOk-weaker}
use Rattle.tsl_io.specs.Told.{with_added}
use Rattle.tsl_io.specs.Effects.{Effect}
use Rattle.clause_core.specs.Literals.{Lit}
use Rattle.cnf_reader.specs.declared.reader.CnfReader.{CnfReader}
use Rattle.cnf_reader.specs.Pieces.{HasRead}
use Rattle.cnf_reader.specs.CnfText.{CnfAnswer, is_cnf, form_at, too_many_variables, too_many_clauses, cnf_answer}
use Rattle.refutation_check.specs.declared.limits.TheConstants.{MOST_VARIABLES, MOST_CLAUSES}
use Rattle.tool_io.specs.declared.status.Status.{Status}
use Rattle.tool_io.specs.declared.status.Status.TheVariants.{Done as Satisfiable, No as Unsatisfiable, Spent as Unknown}
use Rattle.tool_io.specs.declared.reply.Reply.{Reply}
use Rattle.tool_io.specs.Statuses.{is_answer}
use Rattle.tool_io.proofs.Ending.{answer_told}
use Rattle.tool_io.proofs.Replying.{status_of, text_of, comes_of_bytes, some_byte}
use Rattle.solve_tool.specs.declared.refusal.Refusal.{Refusal}
use Rattle.solve_tool.specs.declared.refusal.Refusal.TheVariants.{OtherWords, Unread, MalformedAt, TooManyBytes}
use Rattle.solve_tool.specs.declared.refusal.Refusal.TheVariants.{TooManyVariables, TooManyClauses}
use Rattle.solve_tool.specs.declared.request.Request.{Request}
use Rattle.solve_tool.specs.declared.request.TheConstants.{MOST_BYTES}
use Rattle.solve_tool.specs.Ends.{IsSolverReply, SolverEnds}
use Rattle.solve_tool.specs.Outcome.{TellsUnsatisfiable, IsRightReply, IsReplyOn, SolverOutcome, proper_clauses}
use Rattle.solve_tool.specs.Outcome.{usage, source_failed, too_long, on_bytes}
use Rattle.solve_tool.specs.Promise.{IsSolved}
use Rattle.solve_tool.specs.Replies.{refusal_status, refusal_reply, refusal_words}
use Rattle.solve_tool.specs.Requests.{request_of}

-- the reply to a text that is no formula
pub refused_reply : {E : Type 0} (r : Result Reply E) (request : Request) (reader : CnfReader) (answer : CnfAnswer) (refusal : Refusal) →
    ((text : List ℕ) → HasRead reader text → cnf_answer text ≡ answer) →
    ((reply : Reply) → reply ≡ refusal_reply refusal → IsReplyOn request answer reply) → IfOk r (λ reply. reply ≡ refusal_reply refusal) →
    IfOk r (λ reply. (text : List ℕ) → HasRead reader text → IsReplyOn request (cnf_answer text) reply)
refused_reply r request reader answer refusal given on = IfOk-weaker r _ _ (λ reply is text read.
    subst (λ (a : CnfAnswer). IsReplyOn request a reply) (sym (given text read)) (on reply is))

-- ---- what a reply says: bytes may lead to its status, and it has a text

pub record Says (reply : Reply) : Type 0 where
  pub comes : comes_of_bytes reply.status ≡ true
  pub text : reply.text ≢ []

refusal_says : (refusal : Refusal) {reply : Reply} → reply ≡ refusal_reply refusal → reply.text ≢ []
refusal_says refusal is e = some_byte (refusal_words refusal) 10 (sym (text_of is) ∙ e)

refusal_comes : (refusal : Refusal) {reply : Reply} → comes_of_bytes (refusal_status refusal) ≡ true →
    reply ≡ refusal_reply refusal → Says reply
refusal_comes refusal comes is = record { comes = ap comes_of_bytes (status_of is) ∙ comes; text = refusal_says refusal is }

tells_unsatisfiable : (log : Bool) (variables : ℕ) (clauses : List (List Lit)) (text : List ℕ) →
    TellsUnsatisfiable log variables clauses text → text ≢ []
tells_unsatisfiable false variables clauses text h e = let never : [] ≡ codes "s UNSATISFIABLE\n" = sym e ∙ h in absurd cc
tells_unsatisfiable true variables clauses text h e =
    let whole = sym e ∙ h.line.split in
    absurd (omega (arith, ap length whole, length-append h.line.before (codes "lrat" ++ h.line.after), length-append (codes "lrat") h.line.after))

solution_says : (request : Request) (variables : ℕ) (clauses : List (List Lit)) (status : Status) (text : List ℕ) →
    IsRightReply request variables clauses status text → Says (record { status = status; text = text })
solution_says request variables clauses Satisfiable text h = record { comes = refl; text = λ e. let never = sym e ∙ h.2 in absurd cc }
solution_says request variables clauses Unsatisfiable text h = record {
  comes = refl;
  text = tells_unsatisfiable request.log variables (proper_clauses clauses) text h.1;
}
solution_says request variables clauses Unknown text h = record { comes = refl; text = λ e. let never = sym e ∙ h.2 in absurd cc }
solution_says request variables clauses _ text h = absurd h

pub answer_says : (request : Request) (answer : CnfAnswer) (reply : Reply) → IsReplyOn request answer reply → Says reply
answer_says request (is_cnf variables clauses) reply h = solution_says request variables clauses reply.status reply.text h
answer_says request (form_at line) reply h = refusal_comes (MalformedAt line) refl h
answer_says request too_many_variables reply h = refusal_comes (TooManyVariables MOST_VARIABLES) refl h
answer_says request too_many_clauses reply h = refusal_comes (TooManyClauses MOST_CLAUSES) refl h

outcome_says : (words : List (List ℕ)) (bytes : List ℕ) (reply : Reply) → SolverOutcome words bytes reply → reply.text ≢ []
outcome_says words bytes reply (usage none is) = refusal_says OtherWords is
outcome_says words bytes reply (source_failed request asked is) = refusal_says Unread is
outcome_says words bytes reply (too_long request asked many is) = refusal_says (TooManyBytes MOST_BYTES) is
outcome_says words bytes reply (on_bytes request asked few h) = (answer_says request (cnf_answer bytes) reply h).text

pub reply_says : (words : List (List ℕ)) (source : Effect) (reply : Reply) → IsSolverReply words source reply → reply.text ≢ []
reply_says words source reply h = outcome_says words h.bytes reply h.outcome

-- ---- what an answer promises

module _ (words : List (List ℕ)) (source out : Effect) (result : Status) (reply : Reply) (h : IsSolverReply words source reply)
    (is : result ≡ reply.status) (added : out.new ≡ with_added reply.text out.old) (answer : is_answer result ≡ true) where
  refused : {fixed : Reply} → reply ≡ fixed → is_answer fixed.status ≡ false → IsSolved words source out result
  refused same none = let never : true ≡ false = sym answer ∙ (ap is_answer (is ∙ status_of same) ∙ none) in absurd cc

  by_text : (request : Request) → request_of words ≡ Some request → (told : CnfAnswer) → cnf_answer h.bytes ≡ told →
      IsReplyOn request told reply → IsSolved words source out result
  by_text request asked (is_cnf variables clauses) spelled on = record {
    request = request;
    asked = asked;
    bytes = h.bytes;
    told = h.told;
    variables = variables;
    clauses = clauses;
    spelled = spelled;
    text = reply.text;
    solution = subst (λ (status : Status). IsRightReply request variables clauses status reply.text) (sym is) on;
    added = added;
  }
  by_text request asked (form_at line) spelled on = refused on refl
  by_text request asked too_many_variables spelled on = refused on refl
  by_text request asked too_many_clauses spelled on = refused on refl

  by_outcome : SolverOutcome words h.bytes reply → IsSolved words source out result
  by_outcome (usage none same) = refused same refl
  by_outcome (source_failed request asked same) = refused same refl
  by_outcome (too_long request asked many same) = refused same refl
  by_outcome (on_bytes request asked few on) = by_text request asked (cnf_answer h.bytes) refl on

pub solved_at : (words : List (List ℕ)) (source out err : Effect) (result : Status) → SolverEnds words source out err result →
    is_answer result ≡ true → IsSolved words source out result
solved_at words source out err result ends answer =
    let told = answer_told ends answer in by_outcome words source out result told.0 told.1 told.2 told.3 answer told.1.outcome
