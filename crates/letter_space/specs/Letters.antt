-- Letters: the truth of each predicate term, and one choice of each signal.
use Rattle.std.specs.Prelude.{ℕ, ◌+◌, ◌<◌, ◌^◌, ◌==◌, Bool, false, List, [], ◌∷◌, length, bit_or, Option, None, slice_get, ⊤}
use Rattle.std.specs.Prelude.{if◌then◌else◌}
use Rattle.std.specs.Option.{option_map_or}
use Rattle.tsl_terms.specs.TermTree.{TermTree}
use Rattle.tsl_terms.specs.FormulaTree.{Atom, test, update}
use Rattle.tsl_terms.specs.SameTree.{same_tree}
use Rattle.ltl_formula.specs.Cubes.{has_bit}
use Rattle.letter_space.specs.SpaceTree.{ControlledTree, SpaceTree}
use Rattle.letter_space.specs.Bits.{bit_of_probe}

-- how many valuations there are: a valuation is a number below that, whose bits are the truths of the predicate terms
abbrev pub valuation_count : SpaceTree → ℕ
valuation_count space = 2 ^ length space.predicates

-- one choice of each signal, by their places among the signal's choices
abbrev pub ArePicks : List ControlledTree → List ℕ → Type 0
ArePicks [] [] = ⊤
ArePicks (c ∷ cs) (pick ∷ picks) = (pick < length c.choices) × ArePicks cs picks
ArePicks [] (pick ∷ picks) = ⊥
ArePicks (c ∷ cs) [] = ⊥

-- a letter with one more bit
abbrev pub with_bit : ℕ → ℕ → ℕ
with_bit letter b = bit_or letter (2 ^ b)

-- a letter with the bit of each pick
abbrev pub with_picks : ℕ → List ControlledTree → List ℕ → ℕ
with_picks letter (c ∷ cs) (pick ∷ picks) = with_picks (with_bit letter (c.first + pick)) cs picks
with_picks letter [] picks = letter
with_picks letter (c ∷ cs) [] = letter

-- the letter of a valuation and a choice of each signal
abbrev pub letter_of : SpaceTree → ℕ → List ℕ → ℕ
letter_of space valuation picks = with_picks valuation space.controlled picks

-- the term that a signal takes
abbrev pub term_taken : List ControlledTree → List ℕ → ℕ → Option TermTree
term_taken (c ∷ cs) (pick ∷ picks) s = if c.signal == s then slice_get c.choices pick else term_taken cs picks s
term_taken [] picks s = None
term_taken (c ∷ cs) [] s = None

-- whether an atom holds of a valuation and a choice of each signal: a probe where its bit of the valuation is set, an update
-- where the signal takes that tree
abbrev pub atom_holds_of : SpaceTree → ℕ → List ℕ → Atom → Bool
atom_holds_of space valuation picks (test probe) = option_map_or (λ b. has_bit b valuation) (bit_of_probe space probe) false
atom_holds_of space valuation picks (update s term) =
    option_map_or (λ taken. same_tree taken term) (term_taken space.controlled picks s) false
