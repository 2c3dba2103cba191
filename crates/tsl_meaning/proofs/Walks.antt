-- A walk through a program over names ends, where each of its probes has a truth.
use Rattle.std.proofs.Common.{◌≡◌, ◌∙◌, ℕ, zero, suc, ◌+◌, ◌<◌, Bool, true, false, cond, List, ◌++◌, length, Option, Some, slice_get, ap}
use Rattle.std.proofs.Common.{arith}
use Rattle.std.specs.Prelude.{option_and_then}
use Rattle.std.specs.List.{list_all}
use Rattle.base_library.proofs.Places.{slice_get_some}
use Rattle.base_library.proofs.Passes.{passes_at}
use Rattle.tsl_terms.specs.Name.{Name}
use Rattle.tsl_terms.specs.TermTree.{ProbeTree}
use Rattle.program_tree.specs.NodeTree.{NodeTree, branch, assign}
use Rattle.program_tree.specs.ProgramTree.{ProgramTree}
use Rattle.tsl_terms.specs.OnlyThese.{reads_only, read_only}
use Rattle.program_tree.specs.Walk.{Action, done_at, walk_from, walk}
use Rattle.tsl_meaning.specs.OverNames.{term_is_over, probe_is_over, node_is_over, IsProgramOver}

module _ (names : List Name) (program : ProgramTree) (over : IsProgramOver names program) where
  -- a term for each cell and output, which reads inputs and cells, and a state to go to
  pub record Acts (action : Action) : Type 0 where
    pub count : length action.updates ≡ length program.cells + length program.outputs
    pub go : action.go < length program.states
    pub reads : list_all (reads_only (program.inputs ++ program.cells)) action.updates ≡ true
    pub over_names : list_all (term_is_over names) action.updates ≡ true

  -- what is done, and that it acts
  pub record IsDone (found : Option Action) : Type 0 where
    pub action : Action
    pub is : found ≡ Some action
    pub acts : Acts action

  module _ (truths : ProbeTree → Option Bool)
      (judged : (t : ProbeTree) → probe_is_over names t ≡ true → read_only (program.inputs ++ program.cells) t.arguments ≡ true →
      (b : Bool) × (truths t ≡ Some b)) where
    done_from : (n i : ℕ) → i < n → i < length program.nodes → IsDone (walk_from program.nodes truths n i)
    done_from zero i below within = absurd (omega arith)
    done_from (suc n) i below within =
        let node = slice_get_some program.nodes i within in
        here node.0 node.1 (λ j. done_from n j)
      where
        here : (node : NodeTree) → slice_get program.nodes i ≡ Some node →
            ((j : ℕ) → j < n → j < length program.nodes → IsDone (walk_from program.nodes truths n j)) →
            IsDone (walk_from program.nodes truths (suc n) i)
        here (assign ts go) there smaller =
            let fits = over.is_program.assignments_fit i go ts there in
            record {
              action = record { updates = ts; go = go };
              is = ap (option_and_then (done_at truths (walk_from program.nodes truths n))) there;
              acts = record {
                count = fits.0;
                go = fits.1;
                reads = fits.2;
                over_names = passes_at (node_is_over names) program.nodes i (assign ts go) over.nodes there;
              };
            }
        here (branch t a b) there smaller =
            let fits = over.is_program.branches_fit i a b t there in
            let truth = judged t (passes_at (node_is_over names) program.nodes i (branch t a b) over.nodes there) fits.2 in
            let rest = smaller (cond truth.0 a b) (chosen truth.0 fits.0 fits.1)
            (omega (arith, chosen_below truth.0 fits.0 fits.1, within)) in
            record {
              action = rest.action;
              is =
                  ap (option_and_then (done_at truths (walk_from program.nodes truths n))) there
                  ∙ ap (option_and_then (λ holds. walk_from program.nodes truths n (cond holds a b))) truth.1
                  ∙ rest.is;
              acts = rest.acts;
            }
          where
            chosen : (holds : Bool) → a < i → b < i → cond holds a b < n
            chosen true left right = omega (arith, left, below)
            chosen false left right = omega (arith, right, below)

            chosen_below : (holds : Bool) → a < i → b < i → cond holds a b < i
            chosen_below true left right = left
            chosen_below false left right = right

    pub done_in : (state : ℕ) → state < length program.states → IsDone (walk program truths state)
    done_in state within =
        let node = slice_get_some program.states state within in
        let below = over.is_program.states_fit.1 state node.0 node.1 in
        let done = done_from (length program.nodes) node.0 below below in
        record {
          action = done.action;
          is = ap (option_and_then (walk_from program.nodes truths (length program.nodes))) node.1 ∙ done.is;
          acts = done.acts;
        }
