-- One program that meets every premise of what every run promises, with an input, a cell, a function and a predicate.
-- Where p x is true, y takes f x, and else y stays.
use Rattle.std.proofs.Common.{◌≡◌, ◌∙◌, ℕ, zero, suc, ◌<◌, true, false, List, [], ◌∷◌, length, Some, slice_get, refl, ap, arith, codes}
use Rattle.std.proofs.Common.{lit<, lit≤}
use Rattle.std.specs.Prelude.{All, ◌≢◌}
use Rattle.std.proofs.lemmas.List.Elements.{All-from_recursion}
use Rattle.std.proofs.lemmas.Option.{same_Some}
use Rattle.base_library.proofs.Numbers.{distinct_from_apart}
use Rattle.loop_shape.specs.LoopShape.{LoopShape}
use Rattle.tsl_terms.specs.declared.names.NameKind.{NameKind}
use Rattle.tsl_terms.specs.declared.names.NameKind.TheVariants.{Signal, Function, Predicate}
use Rattle.tsl_terms.specs.declared.operator.UnaryOperator.TheVariants.{Negation, Globally}
use Rattle.tsl_terms.specs.declared.operator.BinaryOperator.TheVariants.{Implication}
use Rattle.tsl_terms.specs.declared.operator.ManyOperator.TheVariants.{Conjunction}
use Rattle.tsl_terms.specs.Name.{Name}
use Rattle.tsl_terms.specs.Equality.{is_equality}
use Rattle.tsl_terms.specs.TermTree.{TermTree, signal, apply, no_terms, more_terms, ProbeTree}
use Rattle.tsl_terms.specs.FormulaTree.{test, update, FormulaTree, atom, unary, binary, many, no_formulas, more_formulas}
use Rattle.program_tree.specs.NodeTree.{branch, assign}
use Rattle.program_tree.specs.ProgramTree.{ProgramTree}
use Rattle.program_tree.specs.Fits.{BranchesFit, AssignmentsFit}
use Rattle.tsl_meaning.specs.OverNames.{IsProgramOver, IsFormulaOver}
use Rattle.tsl_meaning.specs.Interpretation.{Interpretation, InputRows, IsInterpretation, IsInputLoop, IsRow, IsTable, meanings_in}
use Rattle.tsl_meaning.specs.Run.{Closed, truth_at, assigned_at}
use Rattle.tsl_meaning.specs.Lasso.{Meets, closed_run}

abbrev x : Name
x = record { text = codes "x"; kind = Signal; arity = 0 }

abbrev y : Name
y = record { text = codes "y"; kind = Signal; arity = 0 }

abbrev f : Name
f = record { text = codes "f"; kind = Function; arity = 1 }

abbrev p : Name
p = record { text = codes "p"; kind = Predicate; arity = 1 }

abbrev names : List Name
names = x ∷ y ∷ f ∷ p ∷ []

abbrev f_of_x : TermTree
f_of_x = apply 2 (more_terms (signal 0) no_terms)

abbrev p_of_x : ProbeTree
p_of_x = record { predicate = 3; arguments = more_terms (signal 0) no_terms }

abbrev program : ProgramTree
program = record {
  inputs = 0 ∷ [];
  cells = 1 ∷ [];
  outputs = [];
  windows = [];
  nodes = assign (f_of_x ∷ []) 0 ∷ assign (signal 1 ∷ []) 0 ∷ branch p_of_x 0 1 ∷ [];
  states = 2 ∷ [];
}

-- f turns three values round, and p is true of all but the first
abbrev interpretation : Interpretation
interpretation = record { domain = 3; tables = [] ∷ [] ∷ (1 ∷ 2 ∷ 0 ∷ []) ∷ (0 ∷ 1 ∷ 1 ∷ []) ∷ []; initial = 0 ∷ [] }

-- 0 once, and then 1 and 2 again and again
abbrev rows : InputRows ℕ
rows = record { stem = (0 ∷ []) ∷ []; cycle = (1 ∷ []) ∷ (2 ∷ []) ∷ [] }

abbrev shape : LoopShape
shape = record { start = 1; length = 2 }

-- always: where p x, y takes f x, and where not, it stays
abbrev formula : FormulaTree
formula = unary Globally (many Conjunction
    (more_formulas (binary Implication (atom (test p_of_x)) (atom (update 1 f_of_x)))
    (more_formulas (binary Implication (unary Negation (atom (test p_of_x))) (atom (update 1 (signal 1)))) no_formulas)))

branches : BranchesFit (0 ∷ 1 ∷ []) program.nodes
branches zero a b t is = absurd cc
branches (suc zero) a b t is = absurd cc
branches (suc (suc zero)) a b t is =
    let same : branch p_of_x 0 1 ≡ branch t a b = cc in
    let left : 0 ≡ a = cc in
    let right : 1 ≡ b = cc in
    let probe : p_of_x ≡ t = cc in
    (omega arith, omega arith, rw (← probe) refl)
branches (suc (suc (suc i))) a b t is = absurd cc

assignments : AssignmentsFit (0 ∷ 1 ∷ []) 1 1 program.nodes
assignments zero go ts is =
    let same : assign (f_of_x ∷ []) 0 ≡ assign ts go = cc in
    let terms : f_of_x ∷ [] ≡ ts = cc in
    let state : 0 ≡ go = cc in
    rw (← terms) (refl, omega arith, refl)
assignments (suc zero) go ts is =
    let same : assign (signal 1 ∷ []) 0 ≡ assign ts go = cc in
    let terms : signal 1 ∷ [] ≡ ts = cc in
    let state : 0 ≡ go = cc in
    rw (← terms) (refl, omega arith, refl)
assignments (suc (suc zero)) go ts is = absurd cc
assignments (suc (suc (suc i))) go ts is = absurd cc

one_state : (s i : ℕ) → slice_get program.states s ≡ Some i → i < 3
one_state zero i is = let same : 2 ≡ i = cc in omega arith
one_state (suc s) i is = absurd cc

is_over : IsProgramOver names program
is_over = record {
  is_program = record {
    signals_distinct = distinct_from_apart (0 ∷ 1 ∷ []) (refl, (refl, tt));
    branches_fit = branches;
    assignments_fit = assignments;
    states_fit = (lit< tt, one_state);
    windows_fit = refl;
  };
  signals = refl;
  windows = refl;
  nodes = refl;
}

speaks_of_it : IsFormulaOver names program formula
speaks_of_it = record { names_fit = refl; reads = refl; updates = refl }

f_table : IsTable 3 1 3 (1 ∷ 2 ∷ 0 ∷ [])
f_table = (refl, All-from_recursion (λ entry. entry < 3) (1 ∷ 2 ∷ 0 ∷ []) (lit< tt, (lit< tt, (lit< tt, tt))))

p_table : IsTable 3 1 2 (0 ∷ 1 ∷ 1 ∷ [])
p_table = (refl, All-from_recursion (λ entry. entry < 2) (0 ∷ 1 ∷ 1 ∷ []) (lit< tt, (lit< tt, (lit< tt, tt))))

-- a place has one name, of one kind
kind_at : (n m : Name) (kind : NameKind) → Some n ≡ Some m → m.kind ≡ kind → n.kind ≡ kind
kind_at n m kind at is = ap (λ (k : Name). k.kind) (same_Some n m at) ∙ is

functions : (f : ℕ) (name : Name) → slice_get names f ≡ Some name → name.kind ≡ Function →
    (table : List ℕ) × (slice_get interpretation.tables f ≡ Some table) × IsTable 3 name.arity 3 table
functions zero name at kind = let never : Signal ≡ Function = kind_at x name Function at kind in absurd cc
functions (suc zero) name at kind = let never : Signal ≡ Function = kind_at y name Function at kind in absurd cc
functions (suc (suc zero)) name at kind = rw (← same_Some f name at) (1 ∷ 2 ∷ 0 ∷ [], refl, f_table)
functions (suc (suc (suc zero))) name at kind = let never : Predicate ≡ Function = kind_at p name Function at kind in absurd cc
functions (suc (suc (suc (suc i)))) name at kind = absurd cc

predicates : (p : ℕ) (name : Name) → slice_get names p ≡ Some name → name.kind ≡ Predicate → is_equality names p ≡ false →
    (table : List ℕ) × (slice_get interpretation.tables p ≡ Some table) × IsTable 3 name.arity 2 table
predicates zero name at kind other = let never : Signal ≡ Predicate = kind_at x name Predicate at kind in absurd cc
predicates (suc zero) name at kind other = let never : Signal ≡ Predicate = kind_at y name Predicate at kind in absurd cc
predicates (suc (suc zero)) name at kind other = let never : Function ≡ Predicate = kind_at f name Predicate at kind in absurd cc
predicates (suc (suc (suc zero))) name at kind other = rw (← same_Some p name at) (0 ∷ 1 ∷ 1 ∷ [], refl, p_table)
predicates (suc (suc (suc (suc i)))) name at kind other = absurd cc

interprets : IsInterpretation names (1 ∷ []) interpretation
interprets = record {
  domain = lit≤ tt;
  functions = functions;
  predicates = predicates;
  initial = (refl, All-from_recursion (λ v. v < 3) (0 ∷ []) (lit< tt, tt));
}

some_rows : rows.cycle ≢ []
some_rows is = cc

row : (v : ℕ) → v < 3 → (length (v ∷ []) ≡ 1) × All (λ w. w < 3) (v ∷ [])
row v below = (refl, All-from_recursion (λ w. w < 3) (v ∷ []) (below, tt))

loops : IsInputLoop 3 (0 ∷ []) rows
loops = record {
  repeats = some_rows;
  stem = All-from_recursion (IsRow 3 (0 ∷ [])) rows.stem (row 0 (lit< tt), tt);
  cycle = All-from_recursion (IsRow 3 (0 ∷ [])) rows.cycle (row 1 (lit< tt), (row 2 (lit< tt), tt));
}

-- after the first step y is 0 again each second step: f 1 is 2, and f 2 is 0
closes : Closed (meanings_in names program interpretation) program rows shape
closes = record {
  goes_on = lit≤ tt;
  seam = record { place = 1; state = 0; cells = 0 ∷ [] };
  at_start = refl;
  at_end = refl;
}

-- so the premises are all met, and the formula holds
holds : Meets (closed_run (meanings_in names program interpretation) program rows shape) formula 0
holds = refl

-- p x is false at first, where y stays, and true from then on, where y takes f x
its_truths : (truth_at (meanings_in names program interpretation) program rows 0 p_of_x ≡ Some false)
    × (truth_at (meanings_in names program interpretation) program rows 1 p_of_x ≡ Some true)
    × (assigned_at (meanings_in names program interpretation) program rows 0 1 ≡ Some (signal 1))
    × (assigned_at (meanings_in names program interpretation) program rows 1 1 ≡ Some f_of_x)
its_truths = (refl, refl, refl, refl)
