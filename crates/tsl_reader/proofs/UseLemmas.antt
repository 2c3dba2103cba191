-- How many uses a term has, and first uses among the names that get numbers.
use Rattle.std.proofs.Common.{◌≡◌, ℕ, ◌≤◌, false, List, [], ◌∷◌, map, length, refl}
use Rattle.std.proofs.Common.{arith, length-append}
use Rattle.std.proofs.lemmas.Grind.{common_steps}
use Rattle.std.specs.Prelude.{flat_map}
use Rattle.std.specs.Str.{bytes_eq}
use Rattle.tsl_terms.specs.Name.{question}
use Rattle.tsl_terms.proofs.FirstUses.{first_of}
use Rattle.spec_syntax.specs.Syntax.{TermSyntax, alone, applied, grouped_term, TermsSyntax, no_terms, more_terms}
use Rattle.tsl_reader.specs.Naming.{Use, count_of_arguments, term_uses, terms_uses, named_by}

term_is_one : (t : TermSyntax) → 1 ≤ length (term_uses t)
term_is_one (alone x) = omega arith
term_is_one (applied f ts) = omega arith
term_is_one (grouped_term t) = term_is_one t

-- a list of terms has not more members than uses
pub count_within : (ts : TermsSyntax) → count_of_arguments ts ≤ length (terms_uses ts)
count_within no_terms = omega arith
count_within (more_terms t ts) = omega (arith, term_is_one t, count_within ts, length-append (term_uses t) (terms_uses ts))

-- a text that is not `?` has its first use among those in the text
pub first_other : (us : List Use) (text : List ℕ) → bytes_eq text question ≡ false →
    first_of (flat_map named_by us) text ≡ first_of (map (λ u. u.name) us) text
first_other [] text other = refl
first_other (u ∷ us) text other = grind (arith, common_steps, first_other us text other)
