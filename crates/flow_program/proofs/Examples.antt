-- Worked examples: walks and texts that compute.
use Rattle.std.proofs.Common.{◌≡◌, ℕ, zero, suc, Bool, true, false, List, [], ◌∷◌, ◌++◌, codes, Option, Some, None, slice_get, refl, sym}
use Rattle.std.proofs.Common.{ap, ◌<◌, ◌∙◌, length, arith}
use Rattle.std.specs.Fmt.{digits}
use Rattle.std.specs.List.{list_all}
use Rattle.std.proofs.lemmas.Bool.{false≢true}
use Rattle.tsl_terms.specs.declared.names.NameKind.{NameKind}
use Rattle.tsl_terms.specs.declared.names.NameKind.TheVariants.{Signal, Function, Predicate}
use Rattle.tsl_terms.specs.Name.{Name}
use Rattle.tsl_terms.specs.TermTree.{TermTree, signal, apply, no_terms, more_terms, ProbeTree}
use Rattle.tsl_terms.specs.WindowTree.{WindowTree}
use Rattle.term_text.specs.WindowText.{window_text}
use Rattle.program_tree.specs.NodeTree.{branch, assign}
use Rattle.program_tree.specs.ProgramTree.{ProgramTree}
use Rattle.program_tree.specs.Walk.{walk}
use Rattle.base_library.specs.Numbers.{IsDistinct}
use Rattle.tsl_terms.specs.OnlyThese.{reads_only}
use Rattle.program_tree.specs.Fits.{BranchesFit, AssignmentsFit, window_is_shaped, window_reads_only}
use Rattle.program_tree.specs.Fits.{IsProgram}
use Rattle.program_tree.specs.Writable.{IsWritable}
use Rattle.flow_program.specs.ProgramText.{program_text, ProgramText}

abbrev named : List ℕ → NameKind → ℕ → Name
named text kind arity = record { text = text; kind = kind; arity = arity }

-- ---- walks

-- the signal 0
abbrev x : TermTree
x = signal 0

-- a test of the predicate 2 on it
abbrev positive : ProbeTree
positive = record { predicate = 2; arguments = more_terms x no_terms }

abbrev two_nodes : ProgramTree
two_nodes = record {
  inputs = 0 ∷ [];
  cells = [];
  outputs = 1 ∷ [];
  windows = [];
  nodes = assign (x ∷ []) 0 ∷ branch positive 0 0 ∷ [];
  states = 1 ∷ [];
}

-- the value 3
abbrev none : TermTree
none = apply 3 no_terms

abbrev three_nodes : ProgramTree
three_nodes = record {
  inputs = 0 ∷ [];
  cells = [];
  outputs = 1 ∷ [];
  windows = [];
  nodes = assign (x ∷ []) 1 ∷ assign (none ∷ []) 0 ∷ branch positive 0 1 ∷ [];
  states = 2 ∷ 1 ∷ [];
}

abbrev all_true : ProbeTree → Option Bool
all_true p = Some true

abbrev all_false : ProbeTree → Option Bool
all_false p = Some false

abbrev unknown : ProbeTree → Option Bool
unknown p = None

both_ways_true : walk two_nodes all_true 0 ≡ Some (record { updates = x ∷ []; go = 0 })
both_ways_true = refl

both_ways_false : walk two_nodes all_false 0 ≡ Some (record { updates = x ∷ []; go = 0 })
both_ways_false = refl

then_branch : walk three_nodes all_true 0 ≡ Some (record { updates = x ∷ []; go = 1 })
then_branch = refl

else_branch : walk three_nodes all_false 0 ≡ Some (record { updates = none ∷ []; go = 0 })
else_branch = refl

without_test : walk three_nodes unknown 1 ≡ Some (record { updates = none ∷ []; go = 0 })
without_test = refl

missing_truth : walk three_nodes unknown 0 ≡ None
missing_truth = refl

missing_state : walk three_nodes all_true 2 ≡ None
missing_state = refl

-- ---- texts

abbrev two_names : List Name
two_names = named (codes "x") Signal 0 ∷ named (codes "y") Signal 0 ∷ []

abbrev one_node : ProgramTree
one_node = record {
  inputs = 0 ∷ [];
  cells = [];
  outputs = 1 ∷ [];
  windows = [];
  nodes = assign (x ∷ []) 0 ∷ [];
  states = 0 ∷ [];
}

one_node_text : program_text two_names one_node ≡ codes "tslprogram 1\ninput x\noutput y\nnode 0 set [y <- x] go 0\nstate 0 at 0\nend\n"
unfolding digits
one_node_text = refl

-- an input `a`, a cell `c`, an output `y`; a test of the Boolean signal `a`, the predicate `at`, a
-- constant and brackets
abbrev more_names : List Name
more_names =
    named (codes "a") Signal 0 ∷ named (codes "c") Signal 0 ∷ named (codes "y'") Signal 0 ∷ named (codes "?") Predicate 1
    ∷ named (codes "at") Predicate 2 ∷ named (codes "none") Function 0 ∷ named (codes "f") Function 2 ∷ []

-- `f c (f a none())`
abbrev nested : TermTree
nested = apply 6 (more_terms (signal 1) (more_terms (apply 6 (more_terms (signal 0) (more_terms (apply 5 no_terms) no_terms))) no_terms))

abbrev asks_a : ProbeTree
asks_a = record { predicate = 3; arguments = more_terms (signal 0) no_terms }

abbrev compares : ProbeTree
compares = record { predicate = 4; arguments = more_terms nested (more_terms (signal 1) no_terms) }

abbrev window_of_two : WindowTree
window_of_two = record {
  left = Some asks_a;
  left_at = 0;
  right = compares;
  length = 2;
  updates = record { signal = 1; term = nested; offset = 0 } ∷ record { signal = 1; term = signal 0; offset = 1 } ∷ [];
  equalities = [];
}

abbrev two_states : ProgramTree
two_states = record {
  inputs = 0 ∷ [];
  cells = 1 ∷ [];
  outputs = 2 ∷ [];
  windows = window_of_two ∷ [];
  nodes =
      assign (nested ∷ signal 0 ∷ []) 1 ∷ assign (apply 5 no_terms ∷ nested ∷ []) 0 ∷ branch asks_a 0 1 ∷ branch compares 2 0 ∷ [];
  states = 3 ∷ 1 ∷ [];
}

two_states_text : program_text more_names two_states
    ≡ codes "tslprogram 1\ninput a\ncell c\noutput y'\n"
    ++ codes "window a at 0 is at (f c (f a none())) c at 2 when [c <- f c (f a none())] at 0 when [c <- a] at 1\n"
    ++ codes "node 0 set [c <- f c (f a none())] [y' <- a] go 1\n"
    ++ codes "node 1 set [c <- none()] [y' <- f c (f a none())] go 0\nnode 2 if a then 0 else 1\n"
    ++ codes "node 3 if at (f c (f a none())) c then 2 else 0\nstate 0 at 3\nstate 1 at 1\nend\n"
unfolding digits
two_states_text = refl

-- equality, and a window that has no left test and lists an equality
abbrev equal_names : List Name
equal_names = named (codes "c") Signal 0 ∷ named (codes "eq") Predicate 2 ∷ named (codes "f") Function 1 ∷ []

-- `eq c (f c)`, and `eq (f c) c`
abbrev once_more : ProbeTree
once_more = record { predicate = 1; arguments = more_terms (signal 0) (more_terms (apply 2 (more_terms (signal 0) no_terms)) no_terms) }

abbrev turned : ProbeTree
turned = record { predicate = 1; arguments = more_terms (apply 2 (more_terms (signal 0) no_terms)) (more_terms (signal 0) no_terms) }

abbrev window_of_equality : WindowTree
window_of_equality = record {
  left = None;
  left_at = 0;
  right = turned;
  length = 1;
  updates = record { signal = 0; term = signal 0; offset = 0 } ∷ [];
  equalities = record { probe = once_more; offset = 0 } ∷ record { probe = turned; offset = 0 } ∷ [];
}

equality_text : window_text equal_names window_of_equality
    ≡ codes "window true is eq (f c) c at 1 when [c <- c] at 0 when eq c (f c) at 0 when eq (f c) c at 0\n"
unfolding digits
equality_text = refl

-- ---- what is spelled and what is not

zero_is_one : ◌≡◌ {A = Option ℕ} (Some 0) (Some 1) → ⊥
zero_is_one h = let same : ◌≡◌ {A = ℕ} 0 1 = cc in omega arith

one_signal_each : IsDistinct ((0 ∷ []) ++ (1 ∷ []))
one_signal_each zero zero s h k = refl
one_signal_each zero (suc zero) s h k = absurd (zero_is_one (h ∙ sym k))
one_signal_each zero (suc (suc j)) s h k = absurd (cc)
one_signal_each (suc zero) zero s h k = absurd (zero_is_one (k ∙ sym h))
one_signal_each (suc zero) (suc zero) s h k = refl
one_signal_each (suc zero) (suc (suc j)) s h k = absurd (cc)
one_signal_each (suc (suc i)) j s h k = absurd (cc)

no_branches : BranchesFit ((0 ∷ []) ++ []) one_node.nodes
no_branches zero a b t e = absurd (cc)
no_branches (suc i) a b t e = absurd (cc)

one_assignment : AssignmentsFit ((0 ∷ []) ++ []) 1 1 one_node.nodes
one_assignment zero go ts e =
    let same : assign (x ∷ []) 0 ≡ assign ts go = cc in
    let terms : x ∷ [] ≡ ts = cc in
    let state : 0 ≡ go = cc in
    (ap length (sym terms), omega arith, ap (list_all (reads_only ((0 ∷ []) ++ []))) (sym terms))
one_assignment (suc i) go ts e = absurd (cc)

one_state : (s i : ℕ) → slice_get one_node.states s ≡ Some i → i < 1
one_state zero i e = let same : 0 ≡ i = cc in omega arith
one_state (suc s) i e = absurd (cc)

-- the first text above is that of its program
one_node_spelled : ProgramText (codes "tslprogram 1\ninput x\noutput y\nnode 0 set [y <- x] go 0\nstate 0 at 0\nend\n") two_names one_node
one_node_spelled = record {
  is_program = record {
    signals_distinct = one_signal_each;
    branches_fit = no_branches;
    assignments_fit = one_assignment;
    states_fit = (omega arith, one_state);
    windows_fit = refl;
  };
  is_writable = record {
    signals = refl;
    windows = refl;
    equalities = tt;
    nodes = refl;
    few_windows = omega arith;
    few_nodes = omega arith;
    few_states = omega arith;
  };
  text = sym one_node_text;
}

two_states_writable : IsWritable more_names two_states
two_states_writable = record {
  signals = refl;
  windows = refl;
  equalities = (tt, tt);
  nodes = refl;
  few_windows = omega arith;
  few_nodes = omega arith;
  few_states = omega arith;
}

-- a test that leads to its own node makes no program
abbrev turns_round : ProgramTree
turns_round = record one_node { nodes = branch positive 0 0 ∷ [] }

no_program : IsProgram turns_round → ⊥
no_program h = let fits = h.branches_fit 0 0 0 positive refl in let less = fits.0 in omega arith

-- a word of the grammar is no name that can be written
abbrev reserved_names : List Name
reserved_names = named (codes "X") Signal 0 ∷ named (codes "y") Signal 0 ∷ []

not_writable : IsWritable reserved_names one_node → ⊥
not_writable h = false≢true h.signals

-- a text without its last line spells no such program
cut_short : ProgramText (codes "tslprogram 1\ninput x\noutput y\nnode 0 set [y <- x] go 0\nstate 0 at 0\n") two_names one_node → ⊥
cut_short h =
    let shorter : length (codes "tslprogram 1\ninput x\noutput y\nnode 0 set [y <- x] go 0\nstate 0 at 0\n")
    ≡ length (codes "tslprogram 1\ninput x\noutput y\nnode 0 set [y <- x] go 0\nstate 0 at 0\nend\n") =
    ap length (h.text ∙ one_node_text) in
    omega arith

-- ---- windows

-- the window above is shaped over its cell, and reads its input and its cell
window_shaped : window_is_shaped (1 ∷ []) window_of_two ≡ true
window_shaped = refl

-- over no cell it is not, and neither is it of four steps, or with its left probe after its end
window_of_no_cell : window_is_shaped [] window_of_two ≡ false
window_of_no_cell = refl

longer_window : window_is_shaped (1 ∷ []) (record window_of_two { length = 4 }) ≡ false
longer_window = refl

left_too_late : window_is_shaped (1 ∷ []) (record window_of_two { left_at = 3 }) ≡ false
left_too_late = refl

-- a window of equalities is shaped, but not with one of them twice, or with one after its end
equalities_shaped : window_is_shaped (0 ∷ []) window_of_equality ≡ true
equalities_shaped = refl

one_twice : window_is_shaped (0 ∷ []) (record window_of_equality {
  equalities = record { probe = turned; offset = 1 } ∷ record { probe = turned; offset = 1 } ∷ [];
}) ≡ false
one_twice = refl

one_too_late : window_is_shaped (0 ∷ []) (record window_of_equality { equalities = record { probe = turned; offset = 2 } ∷ [] }) ≡ false
one_too_late = refl

reads_both : window_reads_only (0 ∷ 1 ∷ []) window_of_two ≡ true
reads_both = refl

reads_more : window_reads_only (0 ∷ []) window_of_two ≡ false
reads_more = refl
