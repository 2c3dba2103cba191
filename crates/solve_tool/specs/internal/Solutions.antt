-- Internal: only private functions of this crate use these words.
use Rattle.std.specs.Prelude.{◌≡◌, ℕ, Bool, List, codes}
use Rattle.clause_core.specs.Literals.{Lit}
use Rattle.tool_io.specs.declared.status.Status.TheVariants.{Done as Satisfiable, No as Unsatisfiable, Spent as Unknown}
use Rattle.tool_io.specs.declared.reply.Reply.{Reply}
use Rattle.solve_tool.specs.Outcome.{TellsUnsatisfiable}
use Rattle.solve_tool.specs.Values.{satisfiable_text}

-- the replies of the three answers
pub record IsSatisfiableReply (truths : List Bool) (reply : Reply) : Type 0 where
  pub status : reply.status ≡ Satisfiable
  pub text : reply.text ≡ satisfiable_text truths

pub record IsUnsatisfiableReply (log : Bool) (variables : ℕ) (clauses : List (List Lit)) (reply : Reply) : Type 0 where
  pub status : reply.status ≡ Unsatisfiable
  pub tells : TellsUnsatisfiable log variables clauses reply.text

pub record IsUnknownReply (reply : Reply) : Type 0 where
  pub status : reply.status ≡ Unknown
  pub text : reply.text ≡ codes "s UNKNOWN\n"
