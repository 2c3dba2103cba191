-- The definitions on worked examples, each of which computes.
use Rattle.std.proofs.Common.{
  ◌≡◌,
  ℕ,
  zero,
  suc,
  ◌+◌,
  ◌*◌,
  Bool,
  true,
  false,
  ◌==◌,
  cond,
  List,
  [],
  ◌∷◌,
  slice_get,
  Option,
  Some,
  None,
  refl,
}
use Rattle.std.specs.Prelude.{codes}
use Rattle.tsl_terms.specs.declared.names.NameKind.{NameKind}
use Rattle.tsl_terms.specs.declared.names.NameKind.TheVariants.{Signal, Function, Predicate}
use Rattle.tsl_text.specs.Names.{is_usable}
use Rattle.tsl_terms.specs.Name.{Name, number_of}
use Rattle.tsl_terms.specs.TermTree.{TermTree, signal, apply, TermTrees, no_terms, more_terms, ProbeTree}
use Rattle.tsl_terms.specs.declared.operator.UnaryOperator.TheVariants.{Next, Globally}
use Rattle.tsl_terms.specs.declared.operator.BinaryOperator.TheVariants.{Implication, Equivalence, Until, WeakUntil}
use Rattle.tsl_terms.specs.declared.operator.ManyOperator.TheVariants.{Conjunction, Disjunction}
use Rattle.tsl_terms.specs.FormulaTree.{FormulaTree, test, update, constant, atom, unary, binary, many, no_formulas, more_formulas}
use Rattle.tsl_terms.specs.SameTree.{same_tree, same_probe_tree}
use Rattle.tsl_terms.specs.SpecTree.{SpecTree, whole_formula}
use Rattle.tsl_terms.specs.Signals.{inputs_of, cells_of, outputs_of, choices_of}
use Rattle.tsl_terms.specs.Predicates.{predicates_of}
use Rattle.tsl_terms.specs.WindowTree.{WindowTree, window_formula_of, window_probes, equality_probes}
use Rattle.tsl_terms.specs.Nodes.{nodes}
use Rattle.tsl_terms.specs.Value.{Meanings, value, truth}
use Rattle.tsl_terms.specs.WellFormed.{brackets, formula_fits}

abbrev name : List ℕ → NameKind → ℕ → Name
name text kind arity = record { text = text; kind = kind; arity = arity }

-- 0 y, 1 x, 2 p, 3 f, 4 g, 5 c, 6 ?, 7 z, 8 G
abbrev names : List Name
names =
    name (codes "y") Signal 0 ∷ name (codes "x") Signal 0 ∷ name (codes "p") Predicate 1
    ∷ name (codes "f") Function 2 ∷ name (codes "g") Function 1 ∷ name (codes "c") Function 0
    ∷ name (codes "?") Predicate 1 ∷ name (codes "z") Signal 0 ∷ name (codes "G") Signal 0 ∷ []

abbrev y : TermTree
y = signal 0

abbrev x : TermTree
x = signal 1

abbrev one : TermTree → TermTrees
one t = more_terms t no_terms

abbrev two : TermTree → TermTree → TermTrees
two t u = more_terms t (more_terms u no_terms)

abbrev g_of : TermTree → TermTree
g_of t = apply 4 (one t)

abbrev f_of : TermTree → TermTree → TermTree
f_of t u = apply 3 (two t u)

abbrev c : TermTree
c = apply 5 no_terms

abbrev probe : ℕ → TermTree → ProbeTree
probe p t = record { predicate = p; arguments = one t }

-- names

text_has_number : number_of names (codes "x") ≡ Some 1
text_has_number = refl

text_has_no_number : number_of names (codes "xy") ≡ None
text_has_no_number = refl

apostrophe_goes_on : is_usable (codes "x'") ≡ true
apostrophe_goes_on = refl

digit_begins_no_name : is_usable (codes "1x") ≡ false
digit_begins_no_name = refl

reserved_word_is_unusable : is_usable (codes "G") ≡ false
reserved_word_is_unusable = refl

-- values: numbers below 2, by tables whose first argument goes slowest

abbrev table : List ℕ → List ℕ → Option ℕ
table entries [] = slice_get entries 0
table entries (a ∷ []) = slice_get entries a
table entries (a ∷ b ∷ []) = slice_get entries (2 * a + b)
table entries (a ∷ b ∷ d ∷ rest) = None

abbrev function : ℕ → List ℕ → Option ℕ
function f = cond (f == 3) (table (0 ∷ 1 ∷ 1 ∷ 0 ∷ [])) (cond (f == 4) (table (1 ∷ 0 ∷ [])) (λ _. None))

abbrev predicate : ℕ → List ℕ → Option Bool
predicate p (a ∷ []) = cond (p == 2) (Some (a == 1)) None
predicate p _ = None

abbrev meanings : Meanings ℕ
meanings = record { function = function; predicate = predicate; initial = λ _. Some 0 }

-- y is 1 and x is 0; z is not had
abbrev at : ℕ → Option ℕ
at zero = Some 1
at (suc zero) = Some 0
at (suc (suc s)) = None

value_of_nested_term : value meanings at (f_of (g_of x) y) ≡ Some 0
value_of_nested_term = refl

value_goes_by_place : value meanings at (f_of x (g_of x)) ≡ Some 1
value_goes_by_place = refl

no_value_without_signal : value meanings at (f_of (g_of x) (signal 7)) ≡ None
no_value_without_signal = refl

no_value_without_function : value meanings at (g_of c) ≡ None
no_value_without_function = refl

truth_of_probe : truth meanings at (probe 2 (g_of x)) ≡ Some true
truth_of_probe = refl

no_truth_without_predicate : truth meanings at (probe 6 y) ≡ None
no_truth_without_predicate = refl

-- whole formulas

abbrev spec_of : List FormulaTree → List FormulaTree → List FormulaTree → List FormulaTree → SpecTree
spec_of assume_first assume_always guarantee_first guarantee_always = record {
  names = names;
  assume_first = assume_first;
  assume_always = assume_always;
  guarantee_first = guarantee_first;
  guarantee_always = guarantee_always;
}

abbrev px : FormulaTree
px = atom (test (probe 2 x))

abbrev py : FormulaTree
py = atom (test (probe 2 y))

abbrev y_takes_x : FormulaTree
y_takes_x = atom (update 0 x)

whole_of_nothing : whole_formula (spec_of [] [] [] []) ≡ constant true
whole_of_nothing = refl

whole_of_one : whole_formula (spec_of [] [] [] (y_takes_x ∷ [])) ≡ unary Globally y_takes_x
whole_of_one = refl

whole_of_two : whole_formula (spec_of [] [] (px ∷ []) (y_takes_x ∷ []))
    ≡ many Conjunction (more_formulas px (more_formulas (unary Globally y_takes_x) no_formulas))
whole_of_two = refl

whole_under_one : whole_formula (spec_of [] (py ∷ []) (px ∷ []) []) ≡ binary Implication (unary Globally py) px
whole_under_one = refl

whole_under_two : whole_formula (spec_of (px ∷ []) (py ∷ []) [] [])
    ≡ binary Implication (many Conjunction (more_formulas px (more_formulas (unary Globally py) no_formulas))) (constant true)
whole_under_two = refl

-- signals: y is updated and read by a bare name alone, z is updated and never read, x is only read

abbrev mixed : SpecTree
mixed = spec_of [] [] (atom (test (probe 6 y)) ∷ []) (y_takes_x ∷ atom (update 7 (g_of x)) ∷ [])

bare_name_makes_a_cell : cells_of mixed ≡ 0 ∷ []
bare_name_makes_a_cell = refl

unread_signal_is_an_output : outputs_of mixed ≡ 7 ∷ []
unread_signal_is_an_output = refl

-- G, which is only named, is an input too
signal_that_no_update_names_is_an_input : inputs_of mixed ≡ 1 ∷ 8 ∷ []
signal_that_no_update_names_is_an_input = refl

-- an update reads its right side alone
updated_signal_does_not_read_itself : cells_of (spec_of [] [] [] (y_takes_x ∷ [])) ≡ []
updated_signal_does_not_read_itself = refl

-- choices

abbrev named_first : SpecTree
named_first = spec_of [] [] []
    (many Disjunction (more_formulas (atom (update 0 y)) (more_formulas y_takes_x (more_formulas (atom (update 0 y)) no_formulas))) ∷ [])

cell_that_is_named_stays_in_its_place : choices_of named_first 0 ≡ y ∷ x ∷ []
cell_that_is_named_stays_in_its_place = refl

abbrev named_later : SpecTree
named_later = spec_of (py ∷ []) [] [] (y_takes_x ∷ atom (update 0 (g_of x)) ∷ y_takes_x ∷ [])

cell_that_is_not_named_comes_last : choices_of named_later 0 ≡ x ∷ g_of x ∷ y ∷ []
cell_that_is_not_named_comes_last = refl

output_is_no_choice_of_itself : choices_of mixed 7 ≡ g_of x ∷ []
output_is_no_choice_of_itself = refl

-- brackets

brackets_stand_round_arguments : brackets (f_of (g_of x) y) ≡ 1
brackets_stand_round_arguments = refl

brackets_nest : brackets (g_of (g_of (g_of x))) ≡ 2
brackets_nest = refl

constants_stand_alone : brackets (f_of c y) ≡ 0
constants_stand_alone = refl

-- what fits

update_fits : formula_fits names (atom (update 0 (f_of (g_of x) c))) ≡ true
update_fits = refl

two_members_fit : formula_fits names (many Conjunction (more_formulas px (more_formulas (unary Next py) no_formulas))) ≡ true
two_members_fit = refl

bare_name_fits : formula_fits names (atom (test (probe 6 y))) ≡ true
bare_name_fits = refl

wrong_arity_does_not_fit : formula_fits names (atom (update 0 (apply 3 (one x)))) ≡ false
wrong_arity_does_not_fit = refl

wrong_kind_does_not_fit : formula_fits names (atom (update 2 x)) ≡ false
wrong_kind_does_not_fit = refl

unknown_number_does_not_fit : formula_fits names (atom (update 0 (signal 9))) ≡ false
unknown_number_does_not_fit = refl

reserved_word_does_not_fit : formula_fits names (atom (update 8 x)) ≡ false
reserved_word_does_not_fit = refl

bare_term_does_not_fit : formula_fits names (atom (test (probe 6 (g_of x)))) ≡ false
bare_term_does_not_fit = refl

one_member_does_not_fit : formula_fits names (many Conjunction (more_formulas px no_formulas)) ≡ false
one_member_does_not_fit = refl

no_member_does_not_fit : formula_fits names (many Disjunction no_formulas) ≡ false
no_member_does_not_fit = refl

-- terms that are the same, and terms that are not

term_is_itself : same_tree (f_of x (g_of y)) (f_of x (g_of y)) ≡ true
term_is_itself = refl

arguments_have_an_order : same_tree (f_of x y) (f_of y x) ≡ false
arguments_have_an_order = refl

constant_is_no_signal : same_tree c (signal 5) ≡ false
constant_is_no_signal = refl

argument_is_not_dropped : same_tree (apply 4 (one x)) (apply 4 (two x x)) ≡ false
argument_is_not_dropped = refl

predicates_differ : same_probe_tree (probe 2 x) (probe 6 x) ≡ false
predicates_differ = refl

-- predicates: each stands where it stood first in the whole formula, where what holds always comes after what holds at first

predicates_have_no_repeats : predicates_of (spec_of [] (py ∷ []) (px ∷ []) (binary Equivalence py (atom (test (probe 6 y))) ∷ px ∷ []))
    ≡ probe 2 y ∷ probe 2 x ∷ probe 6 y ∷ []
predicates_have_no_repeats = refl

update_has_no_predicate : predicates_of (spec_of [] [] [] (y_takes_x ∷ [])) ≡ []
update_has_no_predicate = refl

-- windows

-- y takes x at first, and x equals y at the second step, by the predicate 6
abbrev equal : ProbeTree
equal = record { predicate = 6; arguments = two x y }

abbrev window_of : Option ProbeTree → WindowTree
window_of left = record {
  left = left;
  left_at = 0;
  right = probe 2 y;
  length = 1;
  updates = record { signal = 0; term = x; offset = 0 } ∷ [];
  equalities = record { probe = equal; offset = 1 } ∷ [];
}

abbrev listed_of_window : FormulaTree
listed_of_window = many Conjunction (more_formulas y_takes_x (more_formulas (unary Next (atom (test equal))) no_formulas))

sides_are_as_each_other : window_formula_of (window_of (Some (probe 2 x)))
    ≡ unary Globally (binary Implication listed_of_window (binary Equivalence px (unary Next py)))
sides_are_as_each_other = refl

right_side_holds_alone : window_formula_of (window_of None) ≡ unary Globally (binary Implication listed_of_window (unary Next py))
right_side_holds_alone = refl

window_tests_its_equalities_first : window_probes (window_of (Some (probe 2 x))) ≡ equal ∷ probe 2 x ∷ probe 2 y ∷ []
window_tests_its_equalities_first = refl

right_side_alone_has_to_be_an_equality : equality_probes (window_of None) ≡ equal ∷ probe 2 y ∷ []
right_side_alone_has_to_be_an_equality = refl

-- nodes

test_counts_itself_and_its_arguments : nodes px ≡ 2
test_counts_itself_and_its_arguments = refl

update_counts_itself_and_its_term : nodes (atom (update 0 (f_of (g_of x) c))) ≡ 5
update_counts_itself_and_its_term = refl

conjunction_counts_its_members : nodes
    (many Conjunction (more_formulas px (more_formulas (constant true) (more_formulas y_takes_x no_formulas)))) ≡ 6
conjunction_counts_its_members = refl

equivalence_counts_both_sides_twice : nodes (binary Equivalence px (unary Next py)) ≡ 11
equivalence_counts_both_sides_twice = refl

weak_until_counts_its_right_side_twice : nodes (binary WeakUntil px (unary Next py)) ≡ 9
weak_until_counts_its_right_side_twice = refl

until_counts_each_side_once : nodes (binary Until px (unary Next py)) ≡ 6
until_counts_each_side_once = refl
