-- The controller of a program: its entry in a state under a valuation is what the program's walk gives there.
use Rattle.std.specs.Prelude.{◌≡◌, ℕ, ◌<◌, Bool, List, [], ◌∷◌, length, Option, Some, None, slice_get, option_map, option_and_then}
use Rattle.tsl_terms.specs.TermTree.{TermTree, ProbeTree}
use Rattle.program_tree.specs.ProgramTree.{ProgramTree}
use Rattle.program_tree.specs.Walk.{Action, walk}
use Rattle.ltl_formula.specs.Cubes.{has_bit}
use Rattle.letter_space.specs.SpaceTree.{ControlledTree, SpaceTree}
use Rattle.letter_space.specs.Bits.{bit_of_probe}
use Rattle.machines.specs.MachineTree.{EntryTree, ControllerTree, IsController, controller_entry}
use Rattle.machines.specs.Moves.{FitsSpace}

-- the truths of the predicate terms under a valuation
abbrev pub truth_under : SpaceTree → ℕ → ProbeTree → Option Bool
truth_under space valuation probe = option_map (λ b. has_bit b valuation) (bit_of_probe space probe)

-- the terms that picks stand for, one of each signal
abbrev pub terms_picked : List ControlledTree → List ℕ → Option (List TermTree)
terms_picked [] [] = Some []
terms_picked (c ∷ cs) (pick ∷ picks) =
    option_and_then (λ t. option_map (λ ts. t ∷ ts) (terms_picked cs picks)) (slice_get c.choices pick)
terms_picked [] (pick ∷ picks) = None
terms_picked (c ∷ cs) [] = None

-- an entry does what the program does in a state under a valuation: its choices stand for the terms that are assigned, and it goes
-- to the same state
pub record IsEntryOf (space : SpaceTree) (program : ProgramTree) (state valuation : ℕ) (entry : EntryTree) : Type 0 where
  pub action : Action
  pub walks : walk program (truth_under space valuation) state ≡ Some action
  pub assigns : terms_picked space.controlled entry.choices ≡ Some action.updates
  pub goes : entry.next ≡ action.go

-- a controller that fits the space, and has the program's states, with the entry of each state and valuation
pub record IsControllerOf (space : SpaceTree) (program : ProgramTree) (c : ControllerTree) : Type 0 where
  pub table : IsController c
  pub fits : FitsSpace space c
  pub states : c.states ≡ length program.states
  pub entries : (s v : ℕ) → s < c.states → v < c.valuations →
      (entry : EntryTree) × (controller_entry c s v ≡ Some entry) × IsEntryOf space program s v entry
