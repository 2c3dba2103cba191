-- The definitions on small examples, which compute.
use Rattle.std.specs.Prelude.{◌≡◌, ℕ, ◌==◌, Bool, true, false, List, [], ◌∷◌, Option, Some, None, slice_get, unwrap_or, if◌then◌else◌, refl}
use Rattle.std.specs.Prelude.{codes}
use Rattle.std.proofs.Common.{lit≤}
use Rattle.tsl_terms.specs.declared.names.NameKind.TheVariants.{Predicate}
use Rattle.tsl_terms.specs.Name.{Name}
use Rattle.tsl_terms.specs.TermTree.{TermTree, signal, apply, no_terms, more_terms}
use Rattle.tsl_terms.specs.declared.operator.UnaryOperator.TheVariants.{Negation, Next, Finally, Globally}
use Rattle.tsl_terms.specs.declared.operator.BinaryOperator.TheVariants.{Implication, Equivalence, Until, WeakUntil, Release}
use Rattle.tsl_terms.specs.declared.operator.ManyOperator.TheVariants.{Conjunction, Disjunction}
use Rattle.tsl_terms.specs.FormulaTree.{Atom, test, update, FormulaTree, atom, unary, binary, many, no_formulas, more_formulas}
use Rattle.tsl_terms.specs.Value.{value, beside}
use Rattle.program_tree.specs.NodeTree.{branch, assign}
use Rattle.program_tree.specs.ProgramTree.{ProgramTree}
use Rattle.tsl_meaning.specs.Interpretation.{Interpretation, InputRows, place_of_arguments, entry_at, meanings_in}
use Rattle.tsl_meaning.specs.Run.{Closed, configuration_at, place_after}
use Rattle.tsl_meaning.specs.Lasso.{Lasso, meets, closed_run}

-- Two cells that exchange their values: each takes the value that the other had before the step.
exchange : ProgramTree
exchange = record {
  inputs = [];
  cells = 0 ∷ 1 ∷ [];
  outputs = [];
  windows = [];
  nodes = assign (signal 1 ∷ signal 0 ∷ []) 0 ∷ [];
  states = 0 ∷ [];
}

five_and_seven : Interpretation
five_and_seven = record { domain = 8; tables = []; initial = 5 ∷ 7 ∷ [] }

one_row : InputRows ℕ
one_row = record { stem = []; cycle = [] ∷ [] }

exchanged_once : configuration_at (meanings_in [] exchange five_and_seven) exchange one_row 1
    ≡ Some (record { place = 0; state = 0; cells = 7 ∷ 5 ∷ [] })
unfolding exchange five_and_seven one_row
exchanged_once = refl

exchanged_three_times : configuration_at (meanings_in [] exchange five_and_seven) exchange one_row 3
    ≡ Some (record { place = 0; state = 0; cells = 7 ∷ 5 ∷ [] })
unfolding exchange five_and_seven one_row
exchanged_three_times = refl

-- The run closes at its first pair, and at later ones too: here after one step, and four steps later again.
closes_late : Closed (meanings_in [] exchange five_and_seven) exchange one_row (record { start = 1; length = 4 })
unfolding exchange five_and_seven one_row
closes_late = record {
  goes_on = lit≤ tt;
  seam = record { place = 0; state = 0; cells = 7 ∷ 5 ∷ [] };
  at_start = refl;
  at_end = refl;
}

-- no signals, for the values of terms alone
no_program : ProgramTree
no_program = record { inputs = []; cells = []; outputs = []; windows = []; nodes = []; states = [] }

-- A term's value: 2 applied to 3 applied to the signals 0 and 1, in base 3.
nested : TermTree
nested = apply 2 (more_terms (apply 3 (more_terms (signal 0) (more_terms (signal 1) no_terms))) no_terms)

-- tables by number: function 2 turns the three values round, function 3 adds modulo 3
by_tables : Interpretation
by_tables = record {
  domain = 3;
  initial = [];
  tables = [] ∷ [] ∷ (1 ∷ 2 ∷ 0 ∷ []) ∷ (0 ∷ 1 ∷ 2 ∷ 1 ∷ 2 ∷ 0 ∷ 2 ∷ 0 ∷ 1 ∷ []) ∷ [];
}

two_then_one : ℕ → Option ℕ
two_then_one s = beside s (0 ∷ 1 ∷ []) (2 ∷ 1 ∷ [])

value_of_nested : value (meanings_in [] no_program by_tables) two_then_one nested ≡ Some 1
unfolding no_program nested by_tables two_then_one
value_of_nested = refl

-- the first argument is the most significant digit
first_is_most_significant : place_of_arguments 10 (4 ∷ 0 ∷ 7 ∷ []) ≡ 407
first_is_most_significant = refl

a_table_is_for_its_number_of_arguments : entry_at by_tables 2 (1 ∷ 1 ∷ []) ≡ None
unfolding by_tables
a_table_is_for_its_number_of_arguments = refl

what_is_no_value_has_the_entry_0 : entry_at by_tables 3 (0 ∷ 3 ∷ []) ≡ Some 0
unfolding by_tables
what_is_no_value_has_the_entry_0 = refl

no_value_without_the_signal : value (meanings_in [] no_program by_tables) (λ s. None) nested ≡ None
unfolding no_program nested by_tables
no_value_without_the_signal = refl

-- `eq` with two arguments has no table: it holds of two that are the same
equality_alone : List Name
equality_alone = record { text = codes "eq"; kind = Predicate; arity = 2 } ∷ []

the_same_are_equal : (meanings_in equality_alone no_program by_tables).predicate 0 (2 ∷ 2 ∷ []) ≡ Some true
unfolding equality_alone no_program by_tables
the_same_are_equal = refl

others_are_not : (meanings_in equality_alone no_program by_tables).predicate 0 (2 ∷ 1 ∷ []) ≡ Some false
unfolding equality_alone no_program by_tables
others_are_not = refl

-- with another number of arguments it has one, as any predicate
one_argument : List Name
one_argument = record { text = codes "eq"; kind = Predicate; arity = 1 } ∷ []

by_its_table : Interpretation
by_its_table = record { domain = 2; initial = []; tables = (0 ∷ 1 ∷ []) ∷ [] }

holds_where_its_entry_is_1 : (meanings_in one_argument no_program by_its_table).predicate 0 (1 ∷ []) ≡ Some true
unfolding one_argument no_program by_its_table
holds_where_its_entry_is_1 = refl

-- Runs of four positions: 0 and 1 once, then 2 and 3 again and again.
p : FormulaTree
p = atom (test (record { predicate = 9; arguments = no_terms }))

q : FormulaTree
q = atom (test (record { predicate = 8; arguments = no_terms }))

-- the truths of p and of q, position by position
shown : List Bool → List Bool → Lasso
shown ps qs = record { shape = record { start = 2; length = 2 }; holds = shows } where
  at : ℕ → List Bool → Bool
  at i bs = unwrap_or (slice_get bs i) false

  shows : ℕ → Atom → Bool
  shows i (test probe) = at i (if probe.predicate == 9 then ps else qs)
  shows i (update s t) = false

next_of_the_last_position_is_the_seam : meets (shown (false ∷ false ∷ true ∷ false ∷ []) []) (unary Next p) 3 ≡ true
unfolding p shown
next_of_the_last_position_is_the_seam = refl

next_does_not_stay : meets (shown (false ∷ false ∷ false ∷ true ∷ []) []) (unary Next p) 3 ≡ false
unfolding p shown
next_does_not_stay = refl

finally_sees_the_whole_loop : meets (shown (false ∷ false ∷ true ∷ false ∷ []) []) (unary Finally p) 3 ≡ true
unfolding p shown
finally_sees_the_whole_loop = refl

finally_never_goes_back_to_the_stem : meets (shown (true ∷ true ∷ false ∷ false ∷ []) []) (unary Finally p) 2 ≡ false
unfolding p shown
finally_never_goes_back_to_the_stem = refl

globally_begins_here : meets (shown (false ∷ true ∷ true ∷ true ∷ []) []) (unary Globally p) 1 ≡ true
unfolding p shown
globally_begins_here = refl

globally_asks_each_position : meets (shown (true ∷ true ∷ true ∷ false ∷ []) []) (unary Globally p) 0 ≡ false
unfolding p shown
globally_asks_each_position = refl

-- q holds at position 2 alone, so from position 3 it comes only across the seam
until_across_the_seam : meets (shown (false ∷ false ∷ false ∷ true ∷ []) (false ∷ false ∷ true ∷ false ∷ [])) (binary Until p q) 3 ≡ true
unfolding p q shown
until_across_the_seam = refl

until_wants_its_right_side : meets (shown (true ∷ true ∷ true ∷ true ∷ []) []) (binary Until p q) 0 ≡ false
unfolding p q shown
until_wants_its_right_side = refl

until_wants_its_left_side_before : meets (shown (true ∷ false ∷ true ∷ true ∷ []) (false ∷ false ∷ true ∷ false ∷ [])) (binary Until p q) 0
    ≡ false
unfolding p q shown
until_wants_its_left_side_before = refl

weak_until_that_is_never_fulfilled : meets (shown (true ∷ true ∷ true ∷ true ∷ []) []) (binary WeakUntil p q) 0 ≡ true
unfolding p q shown
weak_until_that_is_never_fulfilled = refl

weak_until_that_breaks : meets (shown (true ∷ false ∷ true ∷ true ∷ []) []) (binary WeakUntil p q) 0 ≡ false
unfolding p q shown
weak_until_that_breaks = refl

-- p releases q at position 1, where both hold
release_with_both : meets (shown (false ∷ true ∷ false ∷ false ∷ []) (true ∷ true ∷ false ∷ false ∷ [])) (binary Release p q) 0 ≡ true
unfolding p q shown
release_with_both = refl

release_too_late : meets (shown (false ∷ false ∷ true ∷ false ∷ []) (true ∷ true ∷ false ∷ false ∷ [])) (binary Release p q) 0 ≡ false
unfolding p q shown
release_too_late = refl

implication_of_what_fails : meets (shown [] []) (binary Implication p q) 0 ≡ true
unfolding p q shown
implication_of_what_fails = refl

equivalence_of_two_that_differ : meets (shown (true ∷ []) []) (binary Equivalence p q) 0 ≡ false
unfolding p q shown
equivalence_of_two_that_differ = refl

both_of_two : meets (shown (true ∷ []) (true ∷ [])) (many Conjunction (more_formulas p (more_formulas q no_formulas))) 0 ≡ true
unfolding p q shown
both_of_two = refl

none_of_two : meets (shown [] []) (many Disjunction (more_formulas p (more_formulas q no_formulas))) 0 ≡ false
unfolding p q shown
none_of_two = refl

not_what_holds : meets (shown (true ∷ []) []) (unary Negation p) 0 ≡ false
unfolding p shown
not_what_holds = refl

-- One output 1 takes `c()`, whose value is that of the input 0 in every row: the update to `c()` holds, and
-- the update to the input, which has an equal value, does not.
constant : TermTree
constant = apply 2 no_terms

takes_the_constant : ProgramTree
takes_the_constant = record {
  inputs = 0 ∷ [];
  cells = [];
  outputs = 1 ∷ [];
  windows = [];
  nodes = assign (constant ∷ []) 0 ∷ [];
  states = 0 ∷ [];
}

constant_is_one : Interpretation
constant_is_one = record { domain = 2; tables = [] ∷ [] ∷ (1 ∷ []) ∷ []; initial = [] }

always_one : InputRows ℕ
always_one = record { stem = []; cycle = (1 ∷ []) ∷ [] }

equal_values : (value (meanings_in [] takes_the_constant constant_is_one) (λ s. beside s (0 ∷ []) (1 ∷ [])) constant ≡ Some 1)
    × (value (meanings_in [] takes_the_constant constant_is_one) (λ s. beside s (0 ∷ []) (1 ∷ [])) (signal 0) ≡ Some 1)
unfolding constant takes_the_constant constant_is_one
equal_values = (refl, refl)

the_assigned_tree_holds : meets
    (closed_run (meanings_in [] takes_the_constant constant_is_one) takes_the_constant always_one (record { start = 0; length = 1 }))
    (atom (update 1 constant)) 0 ≡ true
unfolding constant takes_the_constant constant_is_one always_one
the_assigned_tree_holds = refl

an_equal_value_does_not : meets
    (closed_run (meanings_in [] takes_the_constant constant_is_one) takes_the_constant always_one (record { start = 0; length = 1 }))
    (atom (update 1 (signal 0))) 0 ≡ false
unfolding constant takes_the_constant constant_is_one always_one
an_equal_value_does_not = refl

-- The stem's rows come once and the cycle's again and again.
stem_then_cycle : (place_after {V = ℕ} (record { stem = [] ∷ []; cycle = [] ∷ [] ∷ [] }) 0 ≡ 1)
    × (place_after {V = ℕ} (record { stem = [] ∷ []; cycle = [] ∷ [] ∷ [] }) 2 ≡ 1)
stem_then_cycle = (refl, refl)

-- A program that tests a Boolean input goes its two ways, and reads the stem's row before the cycle's.
remembers : ProgramTree
remembers = record {
  inputs = 0 ∷ [];
  cells = 1 ∷ [];
  outputs = [];
  windows = [];
  nodes = assign (signal 0 ∷ []) 0 ∷ assign (signal 1 ∷ []) 0
      ∷ branch (record { predicate = 2; arguments = more_terms (signal 0) no_terms }) 0 1 ∷ [];
  states = 2 ∷ [];
}

truth_is_one : Interpretation
truth_is_one = record { domain = 2; tables = [] ∷ [] ∷ (0 ∷ 1 ∷ []) ∷ []; initial = 0 ∷ [] }

one_then_zeros : InputRows ℕ
one_then_zeros = record { stem = (1 ∷ []) ∷ []; cycle = (0 ∷ []) ∷ [] }

keeps_the_one : configuration_at (meanings_in [] remembers truth_is_one) remembers one_then_zeros 3
    ≡ Some (record { place = 1; state = 0; cells = 1 ∷ [] })
unfolding remembers truth_is_one one_then_zeros
keeps_the_one = refl
