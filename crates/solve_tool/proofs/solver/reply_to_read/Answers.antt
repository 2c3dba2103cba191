use Rattle.std.proofs.Common.{◌≡◌, ℕ, subst}
use Rattle.std.specs.Prelude.{Err, IfOk}
use Rattle.cnf_reader.specs.declared.dimacs.CnfError.{CnfError}
use Rattle.refutation_check.specs.declared.limits.TheConstants.{MOST_VARIABLES, MOST_CLAUSES}
use Rattle.cnf_reader.specs.CnfText.{cnf_answer, form_at, too_many_variables, too_many_clauses}
use Rattle.cnf_reader.specs.Pieces.{IsGiven}
use Rattle.solve_tool.specs.declared.refusal.Refusal.TheVariants.{MalformedAt, TooManyVariables, TooManyClauses}
use Rattle.solve_tool.specs.Replies.{refusal_reply}
use Rattle.solve_tool.proofs.Reacting.{refused_reply}
use Rattle.solve_tool.proofs.Within.{within_limits}
use Rattle.solve_tool.proofs.solver.reply_to_read.Goals as goal

pub reply_to_formula-requires-clause-few_variables : goal.reply_to_formula-requires-clause-few_variables
reply_to_formula-requires-clause-few_variables c =
    let read = c.requires.read in
    (within_limits read.0 c.in-Ok.cnf.variables c.in-Ok.cnf.clauses (c.in-Ok.ensures read.0 read.1)).0

pub reply_to_formula-requires-clause-few_clauses : goal.reply_to_formula-requires-clause-few_clauses
reply_to_formula-requires-clause-few_clauses c =
    let read = c.requires.read in
    (within_limits read.0 c.in-Ok.cnf.variables c.in-Ok.cnf.clauses (c.in-Ok.ensures read.0 read.1)).1

pub returns-in-Err-Form : goal.returns-in-Err-Form
returns-in-Err-Form c =
    refused_reply c.reply.result c.args.request c.args.reader (form_at c.in-Err-Form.line) (MalformedAt c.in-Err-Form.line)
    (λ text read. subst (λ (e : CnfError). IsGiven (cnf_answer text) (Err e)) c.in-Err-Form.field-0-is (c.in-Err-Form.ensures text read))
    (λ reply is. is)
    (subst (λ (line : ℕ). IfOk c.reply.result (λ reply. reply ≡ refusal_reply (MalformedAt line))) c.in-Err-Form.line-is c.reply.ensures)

pub returns-in-Err-Variables : goal.returns-in-Err-Variables
returns-in-Err-Variables c =
    refused_reply c.reply-in-Err-Variables.result c.args.request c.args.reader too_many_variables (TooManyVariables MOST_VARIABLES)
    (λ text read. subst (λ (e : CnfError). IsGiven (cnf_answer text) (Err e)) c.in-Err-Variables.field-0-is (c.in-Err-Variables.ensures text read))
    (λ reply is. is) c.reply-in-Err-Variables.ensures

pub returns-in-Err-Clauses : goal.returns-in-Err-Clauses
returns-in-Err-Clauses c =
    refused_reply c.reply-in-Err-Clauses.result c.args.request c.args.reader too_many_clauses (TooManyClauses MOST_CLAUSES)
    (λ text read. subst (λ (e : CnfError). IsGiven (cnf_answer text) (Err e)) c.in-Err-Clauses.field-0-is (c.in-Err-Clauses.ensures text read))
    (λ reply is. is) c.reply-in-Err-Clauses.ensures
