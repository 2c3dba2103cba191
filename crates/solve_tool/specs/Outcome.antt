-- What the words and the bytes of the source may lead to: a reply, which is a status and one text.
use Rattle.std.specs.Prelude.{◌≡◌, ℕ, ◌<◌, ◌≤◌, Bool, true, false, not, List, filter, length, codes, Some, None}
use Rattle.clause_core.specs.Literals.{Lit}
use Rattle.clause_core.specs.Clauses.{AreUnsatisfiable, has_pair}
use Rattle.refutation_check.specs.declared.limits.TheConstants.{MOST_VARIABLES, MOST_CLAUSES}
use Rattle.cnf_reader.specs.CnfText.{CnfAnswer, is_cnf, form_at, too_many_variables, too_many_clauses, cnf_answer}
use Rattle.refutation_text.specs.Parted.{SpellsRefutation}
use Rattle.sat_core.specs.Answers.{AreSatisfying, IsWholeTrace}
use Rattle.tool_io.specs.declared.status.Status.{Status}
use Rattle.tool_io.specs.declared.status.Status.TheVariants.{Done as Satisfiable, No as Unsatisfiable, Spent as Unknown}
use Rattle.solve_tool.specs.declared.refusal.Refusal.TheVariants.{OtherWords, Unread, MalformedAt, TooManyBytes, TooManyVariables, TooManyClauses}
use Rattle.tool_io.specs.declared.reply.Reply.{Reply}
use Rattle.solve_tool.specs.declared.request.Request.{Request}
use Rattle.solve_tool.specs.declared.request.TheConstants.{MOST_BYTES}
use Rattle.solve_tool.specs.Requests.{request_of}
use Rattle.solve_tool.specs.Replies.{refusal_reply}
use Rattle.solve_tool.specs.Values.{satisfiable_text}

-- the clauses that are solved: those without a literal together with its negation, which each assignment meets
abbrev pub proper_clauses : List (List Lit) → List (List Lit)
proper_clauses clauses = filter (λ clause. not (has_pair clause)) clauses

-- What is written of clauses that no assignment meets: one line, or where a log is asked for a text that spells a refutation of them.
abbrev pub TellsUnsatisfiable : Bool → ℕ → List (List Lit) → List ℕ → Type 0
TellsUnsatisfiable false variables clauses text = text ≡ codes "s UNSATISFIABLE\n"
TellsUnsatisfiable true variables clauses text = SpellsRefutation text variables clauses

-- The status and the text are right for a formula. Where it is satisfiable, the text is that of an assignment that meets all
-- clauses; where it is not, no assignment does; where nothing is known, as many clauses as the budget were learnt, which are a trace.
abbrev pub IsRightReply : Request → ℕ → List (List Lit) → Status → List ℕ → Type 0
IsRightReply request variables clauses Satisfiable text =
    (truths : List Bool) × AreSatisfying variables clauses truths × (text ≡ satisfiable_text truths)
IsRightReply request variables clauses Unsatisfiable text =
    AreUnsatisfiable clauses × TellsUnsatisfiable request.log variables (proper_clauses clauses) text
IsRightReply request variables clauses Unknown text =
    (trace : List (List Lit)) × IsWholeTrace variables (proper_clauses clauses) request.budget trace × (text ≡ codes "s UNKNOWN\n")
IsRightReply request variables clauses _ text = ⊥

-- the reply is right for what a text is
abbrev pub IsReplyOn : Request → CnfAnswer → Reply → Type 0
IsReplyOn request (is_cnf variables clauses) reply = IsRightReply request variables clauses reply.status reply.text
IsReplyOn request (form_at line) reply = reply ≡ refusal_reply (MalformedAt line)
IsReplyOn request too_many_variables reply = reply ≡ refusal_reply (TooManyVariables MOST_VARIABLES)
IsReplyOn request too_many_clauses reply = reply ≡ refusal_reply (TooManyClauses MOST_CLAUSES)

pub data SolverOutcome (words : List (List ℕ)) (bytes : List ℕ) (reply : Reply) : Type 0 where
  -- the words ask for nothing
  usage : request_of words ≡ None → reply ≡ refusal_reply OtherWords → SolverOutcome words bytes reply
  -- the source failed, which it may on all bytes
  source_failed : (request : Request) → request_of words ≡ Some request → reply ≡ refusal_reply Unread →
      SolverOutcome words bytes reply
  -- there are more bytes than are read
  too_long : (request : Request) → request_of words ≡ Some request → MOST_BYTES < length bytes →
      reply ≡ refusal_reply (TooManyBytes MOST_BYTES) → SolverOutcome words bytes reply
  -- the reply to the bytes
  on_bytes : (request : Request) → request_of words ≡ Some request → length bytes ≤ MOST_BYTES →
      IsReplyOn request (cnf_answer bytes) reply → SolverOutcome words bytes reply
