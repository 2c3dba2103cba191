use Rattle.std.proofs.Common.{None}
use Rattle.tsl_terms.proofs.PlainWindows.{congruent_is_plain, plain_is_congruent}
use Rattle.tsl_terms.proofs.laws.plain_windows_are_congruent.Goals as goal

pub returns-clause-plain : goal.returns-clause-plain
returns-clause-plain c cells w = (congruent_is_plain cells w, plain_is_congruent cells None w)

pub returns-clause-whatever : goal.returns-clause-whatever
returns-clause-whatever c = plain_is_congruent
