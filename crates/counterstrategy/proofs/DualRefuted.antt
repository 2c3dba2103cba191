-- Where no assignment meets the clauses there is no environment.
use Rattle.std.proofs.Common.{sym, ◌∙◌}
use Rattle.std.proofs.lemmas.Bool.{false≢true}
use Rattle.clause_core.specs.Clauses.{AreUnsatisfiable}
use Rattle.bounded_encoding.specs.Question.{QuestionTree, IsPosed}
use Rattle.counterstrategy.specs.EnvironmentQuestion.{HasNoEnvironment}
use Rattle.counterstrategy.specs.DualEncoding.{dual_encoding}
use Rattle.counterstrategy.proofs.EnvironmentEncoded.{dual_assignment, dual_encoding_is_met}

pub no_environment : (q : QuestionTree) → IsPosed q → AreUnsatisfiable (dual_encoding q) → HasNoEnvironment q
no_environment q posed never environment number solution =
    false≢true (sym (never (dual_assignment q posed environment number solution))
    ∙ dual_encoding_is_met q posed environment number solution)
