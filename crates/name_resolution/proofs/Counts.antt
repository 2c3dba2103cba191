-- How many names a term has.
use Rattle.std.proofs.Common.{ℕ, ◌≤◌, length, arith, length-append}
use Rattle.spec_syntax.specs.Syntax.{TermSyntax, alone, applied, grouped_term, TermsSyntax, no_terms, more_terms}
use Rattle.definition_expansion.specs.Occurrences.{count_of}
use Rattle.name_resolution.specs.Occurrences.{Scope, term_occurrences, terms_occurrences}

term_is_one : (s : Scope) (level : ℕ) (t : TermSyntax) → 1 ≤ length (term_occurrences s level t)
term_is_one s level (alone x) = omega arith
term_is_one s level (applied f ts) = omega arith
term_is_one s level (grouped_term t) = term_is_one s level t

-- a list of terms has not more members than names
pub count_within : (s : Scope) (level : ℕ) (ts : TermsSyntax) → count_of ts ≤ length (terms_occurrences s level ts)
count_within s level no_terms = omega arith
count_within s level (more_terms t ts) =
    omega (arith, term_is_one s level t, count_within s level ts, length-append (term_occurrences s level t) (terms_occurrences s level ts))
