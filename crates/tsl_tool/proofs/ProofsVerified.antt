-- `recheck` verifies a text that spells a refutation.
use Rattle.std.proofs.Common.{ℕ, List, ap, sym, ◌∙◌}
use Rattle.std.specs.Prelude.{None}
use Rattle.clause_core.specs.Literals.{Lit}
use Rattle.refutation_check.specs.LogText.{log_answer}
use Rattle.refutation_text.specs.Parted.{SpellsRefutation}
use Rattle.checking_commands.specs.Recheck.{RecheckOutcome, of_parts, verdict, parts_reply, log_reply, log_part}

pub spelled_verified : (text : List ℕ) (variables : ℕ) (clauses : List (List Lit)) → SpellsRefutation text variables clauses →
    RecheckOutcome text (verdict None)
spelled_verified text variables clauses h =
    of_parts h.at (record { is_line = h.line; first = h.first })
    (ap verdict (sym h.accepted)
    ∙ (ap (log_reply variables clauses) (sym h.log)
    ∙ ap (λ formula. parts_reply formula (log_answer (log_part text h.at))) (sym h.formula)))
