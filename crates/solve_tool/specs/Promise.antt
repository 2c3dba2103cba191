-- What the answers promise.
use Rattle.std.specs.Prelude.{◌≡◌, ℕ, List, Some}
use Rattle.clause_core.specs.Literals.{Lit}
use Rattle.cnf_reader.specs.CnfText.{is_cnf, cnf_answer}
use Rattle.tsl_io.specs.Told.{with_added}
use Rattle.tsl_io.specs.Effects.{Effect, ContentsAre}
use Rattle.tool_io.specs.declared.status.Status.{Status}
use Rattle.solve_tool.specs.declared.request.Request.{Request}
use Rattle.solve_tool.specs.Requests.{request_of}
use Rattle.solve_tool.specs.Outcome.{IsRightReply}

-- The words are a request, the bytes of the source spell a formula, and the text that was added is a solution of it by the status.
pub record IsSolved (words : List (List ℕ)) (source out : Effect) (result : Status) : Type 0 where
  pub request : Request
  pub asked : request_of words ≡ Some request
  pub bytes : List ℕ
  pub told : ContentsAre source.old bytes
  pub variables : ℕ
  pub clauses : List (List Lit)
  pub spelled : cnf_answer bytes ≡ is_cnf variables clauses
  pub text : List ℕ
  pub solution : IsRightReply request variables clauses result text
  pub added : out.new ≡ with_added text out.old
