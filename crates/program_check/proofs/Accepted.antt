-- An accepted program realizes the specification.
use Rattle.std.proofs.Common.{◌≡◌, ◌∙◌, ℕ, ◌≤◌, Bool, true, not, List, [], ◌∷◌, ◌++◌, length, Option, Some, None, slice_get}
use Rattle.std.proofs.Common.{sym, ap, subst, inl, inr, arith}
use Rattle.std.specs.List.{list_all, AllByRecursion, position}
use Rattle.std.proofs.lemmas.Bool.{and_parts}
use Rattle.std.proofs.lemmas.List.{length-map}
use Rattle.base_library.proofs.Booleans.{not_not}
use Rattle.base_library.proofs.Each.{each_weaker}
use Rattle.base_library.proofs.Finds.{find_none_at}
use Rattle.base_library.proofs.Options.{none_never_some}
use Rattle.base_library.proofs.Passes.{list_all_from_places}
use Rattle.tsl_terms.specs.SpecTree.{SpecTree, whole_formula}
use Rattle.tsl_terms.specs.Signals.{cells_of, outputs_of, choices_of}
use Rattle.tsl_terms.specs.Predicates.{predicates_of}
use Rattle.tsl_terms.specs.Name.{Name}
use Rattle.tsl_terms.specs.WindowTree.{WindowTree, window_formula_of, under_windows}
use Rattle.tsl_terms.specs.Congruence.{IsCongruent}
use Rattle.tsl_terms.specs.Equality.{equality_in}
use Rattle.tsl_terms.specs.Laws.{FormulasFit}
use Rattle.program_tree.specs.NodeTree.{NodeTree, branch, assign}
use Rattle.program_tree.specs.ProgramTree.{ProgramTree}
use Rattle.program_tree.specs.Fits.{IsProgram, window_is_shaped, window_reads_only, window_fits}
use Rattle.tsl_meaning.specs.OverNames.{window_is_over, IsProgramOver}
use Rattle.tsl_meaning.specs.Interpretation.{meanings_in}
use Rattle.tsl_meaning.specs.Lasso.{closed_run, Meets}
use Rattle.tsl_meaning.specs.Promise.{EveryRunMeets, Realizes}
use Rattle.letter_space.specs.SpaceTree.{SpaceTree}
use Rattle.letter_space.specs.SpecSpace.{spec_space}
use Rattle.letter_space.proofs.Places.{position_tells}
use Rattle.letter_space.proofs.SpecSpaces.{spec_is_space}
use Rattle.cobuchi_automata.specs.declared.automaton.Edge.{Edge}
use Rattle.cobuchi_automata.specs.Automata.{StateTree, IsAutomaton}
use Rattle.cobuchi_automata.specs.Edges.{edge_tree, edge_trees}
use Rattle.cobuchi_automata.specs.Refusals.{most_automaton_states, most_automaton_edges}
use Rattle.machines.specs.declared.side.Side.TheVariants.{Controller}
use Rattle.machines.specs.MachineTree.{ControllerTree}
use Rattle.machines.specs.Moves.{controller_moves}
use Rattle.annotation_check.specs.Annotations.{edges_from, IsAnnotation}
use Rattle.control_flow_model.specs.ProgramBits.{node_has_bits, ProgramHasBits}
use Rattle.control_flow_model.specs.ControllerOf.{IsControllerOf}
use Rattle.control_flow_model.proofs.OneController.{one_controller}
use Rattle.program_check.specs.declared.verdict.Verdict.{Verdict}
use Rattle.program_check.specs.Verdicts.{HasFewBits, HasSignals, IsOverBits, HasAnnotation, HasNoAnnotation, IsQuestion, IsVerdict}
use Rattle.program_check.specs.Verdicts.{window_has_bits, form_for}
use Rattle.program_check.specs.internal.NodeVerdicts.{node_verdict, IsNodeVerdict}
use Rattle.program_check.proofs.AnnotatedRuns.{annotated_program_meets}
use Rattle.annotation_check.proofs.OtherNumbers.{annotated_there}
use Rattle.program_check.proofs.ProgramNames.{program_over}
use Rattle.program_check.proofs.SpaceTerms.{signals_of}
use Rattle.term_congruence.proofs.CongruentWindows.{congruent_windows_hold}
use Rattle.program_check.proofs.UnderWindows.{met_without, under_has_bits}

-- where none fails, each passes
none_fails : {X : Type 0} (passes : X → Bool) (xs : List X) → position (λ x. not (passes x)) xs ≡ None → list_all passes xs ≡ true
none_fails passes xs none = elim (position_tells (λ x. not (passes x)) xs) [
  | inl found ↦ absurd (none_never_some _ found.0 none found.2)
  | inr missing ↦ list_all_from_places passes xs (λ i x at.
      sym (not_not (passes x)) ∙ ap not (find_none_at (λ y. not (passes y)) xs i x missing.1 at))
]

-- the congruent windows of a program over names hold in every run
pub sound_windows_hold : (names : List Name) (program : ProgramTree) → IsProgramOver names program →
    AllByRecursion (IsCongruent program.cells (equality_in names)) program.windows →
    AllByRecursion (λ w. EveryRunMeets names program (window_formula_of w)) program.windows
sound_windows_hold names program over sound = each program.windows over.windows over.is_program.windows_fit sound
  where
    each : (ws : List WindowTree) → list_all (window_is_over names) ws ≡ true →
        list_all (window_fits (program.inputs ++ program.cells) program.cells) ws ≡ true →
        AllByRecursion (IsCongruent program.cells (equality_in names)) ws →
        AllByRecursion (λ w. EveryRunMeets names program (window_formula_of w)) ws
    each [] named fit congruent = tt
    each (w ∷ ws) named fit congruent =
        let is_named = and_parts (window_is_over names w) (list_all (window_is_over names) ws) named in
        let fits = and_parts (window_fits (program.inputs ++ program.cells) program.cells w) _ fit in
        let reads = and_parts (window_is_shaped program.cells w) (window_reads_only (program.inputs ++ program.cells) w) fits.0 in (
          congruent_windows_hold names program w over is_named.0 reads.1 congruent.0,
          each ws is_named.1 fits.1 congruent.1,
        )

-- where no node is refused, the program has the bits of the specification
pub over_bits : (spec : SpecTree) (program : ProgramTree) → IsOverBits spec program → ProgramHasBits (spec_space spec) program
over_bits spec program over = record {
  signals = signals_of (choices_of spec) (length (predicates_of spec)) (cells_of spec ++ outputs_of spec)
      ∙ (λ i. sym over.signals.cells i ++ sym over.signals.outputs i);
  nodes = none_fails (node_has_bits (spec_space spec)) program.nodes over.nodes;
}

module _ (spec : SpecTree) (program : ProgramTree) (bound : ℕ) where
  pub realized : FormulasFit spec → IsProgram program → HasFewBits spec → IsOverBits spec program →
      HasAnnotation spec program bound → Realizes spec program
  realized fits is_program few over found =
      let bits = over_bits spec program over in
      let windows = none_fails (window_has_bits (spec_space spec)) program.windows over.foreign in
      let over_names = program_over spec fits program is_program over.signals windows bits.nodes in
      let hold = sound_windows_hold spec.names program over_names over.sound in
      record {
        over_names = over_names;
        inputs = over.signals.inputs;
        cells = over.signals.cells;
        outputs = over.signals.outputs;
        runs = λ interpretation rows shape is is_rows closed.
            let run = closed_run (meanings_in spec.names program interpretation) program rows shape in
            met_without run 0 program.windows (whole_formula spec)
            (each_weaker (λ w. EveryRunMeets spec.names program (window_formula_of w)) (λ w. Meets run (window_formula_of w) 0)
            (λ w holds. holds interpretation rows shape is is_rows closed) program.windows hold)
            (annotated_program_meets (spec_space spec) program found.controller
            (under_windows program.windows (whole_formula spec)) found.question.states found.edges bound
            found.number (spec_is_space spec few.few_predicates few.few_bits) bits found.question.controller
            (under_has_bits spec fits program.windows windows) found.question.automaton found.annotation spec.names
            interpretation rows shape is is_rows closed);
        congruent = over.sound;
        windows = hold;
      }

-- the verdict on a node that lacks bits is that on the program
pub refused_verdict : (spec : SpecTree) (program : ProgramTree) (bound : ℕ) (verdict : Verdict) → HasSignals spec program →
    IsNodeVerdict (spec_space spec) program.nodes verdict → IsVerdict spec program bound verdict
refused_verdict spec program bound verdict same refused =
    subst (IsVerdict spec program bound) (sym refused.is) (by refused.node refused.there)
  where
    by : (node : NodeTree) → slice_get program.nodes refused.place ≡ Some node →
        IsVerdict spec program bound (node_verdict node refused.place)
    by (branch t a b) there =
        (same, record { first = refused.first; test = t; then_node = a; else_node = b; is_test = there })
    by (assign ts go) there = (same, record { first = refused.first; terms = ts; go = go; are_terms = there })

-- the question that is asked, and its answers
module _ (spec : SpecTree) (program : ProgramTree) (space : SpaceTree) (same : space ≡ spec_space spec) (controller : ControllerTree)
    (is_controller : IsControllerOf space program controller) (states : List StateTree) (edges : List Edge) (count : ℕ)
    (counted : length states ≡ count) (automaton : IsAutomaton (form_for Controller spec program.windows) states (edge_trees edges))
    (few_states : count ≤ most_automaton_states) (few_edges : length edges ≤ most_automaton_edges) where
  question : IsQuestion spec program controller (edge_trees edges)
  question = record {
    controller = subst (λ s. IsControllerOf s program controller) same is_controller;
    states = states;
    automaton = automaton;
    few_states = omega (arith, counted, few_states);
    few_edges = omega (arith, few_edges, length-map edges edge_tree);
  }

  abbrev Annotates : ℕ → (ℕ → ℕ → Option ℕ) → SpaceTree → Type 0
  Annotates bound number s = IsAnnotation (edges_from (edge_trees edges)) (controller_moves s controller) bound number

  pub annotated : (bound : ℕ) (number : ℕ → ℕ → Option ℕ) → Annotates bound number space → HasAnnotation spec program bound
  annotated bound number annotation = record {
    controller = controller;
    edges = edge_trees edges;
    question = question;
    number = number;
    annotation = subst (Annotates bound number) same annotation;
  }

  -- an annotation of any controller of the program for any such automaton gives one of this controller for this automaton
  pub not_annotated : (bound : ℕ) → HasFewBits spec → ((number : ℕ → ℕ → Option ℕ) → Annotates bound number space → ⊥) →
      HasNoAnnotation spec program bound
  not_annotated bound few none = record {
    controller = controller;
    edges = edge_trees edges;
    question = question;
    none = λ found.
        let one = one_controller (spec_space spec) program found.controller controller
        (spec_is_space spec few.few_predicates few.few_bits) found.question.controller question.controller in
        let there = annotated_there (form_for Controller spec program.windows) found.question.states found.edges found.question.automaton
        states (edge_trees edges) automaton (controller_moves (spec_space spec) found.controller) bound found.number found.annotation in
        none there.0 (subst (Annotates bound there.0) (sym same)
        (subst (λ c. IsAnnotation (edges_from (edge_trees edges)) (controller_moves (spec_space spec) c) bound there.0) one there.1));
  }
