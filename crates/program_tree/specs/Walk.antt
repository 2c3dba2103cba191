-- What a program does in a state, given the truths of its tests.
use Rattle.std.specs.Prelude.{ℕ, zero, suc, Bool, List, length, Option, Some, None, slice_get, option_and_then, if◌then◌else◌}
use Rattle.tsl_terms.specs.TermTree.{TermTree, ProbeTree}
use Rattle.program_tree.specs.NodeTree.{NodeTree, branch, assign}
use Rattle.program_tree.specs.ProgramTree.{ProgramTree}

-- what a step does: a term for each cell and then each output, and the state to go to
pub record Action : Type 0 where
  pub updates : List TermTree
  pub go : ℕ

-- what is done at a node, where `rest` says what is done at another one
abbrev pub done_at : (ProbeTree → Option Bool) → (ℕ → Option Action) → NodeTree → Option Action
done_at truths rest (branch t then_node else_node) =
    option_and_then (λ holds. rest (if holds then then_node else else_node)) (truths t)
done_at truths rest (assign ts go) = Some (record { updates = ts; go = go })

-- from a node on through so many nodes at most: the then branch of a true test, the else branch of a false one
abbrev pub walk_from : List NodeTree → (ProbeTree → Option Bool) → ℕ → ℕ → Option Action
walk_from nodes truths zero i = None
walk_from nodes truths (suc n) i = option_and_then (done_at truths (walk_from nodes truths n)) (slice_get nodes i)

-- A walk begins at the state's node. Tests name smaller nodes, so it passes each node once at most.
abbrev pub walk : ProgramTree → (ProbeTree → Option Bool) → ℕ → Option Action
walk program truths state =
    option_and_then (walk_from program.nodes truths (length program.nodes)) (slice_get program.states state)
