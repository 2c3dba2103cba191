-- Chains of rounds: where no controller answers the question, an environment that answers its own, and a window that shows that this
-- environment does what no run does. Each round is one under the windows of the rounds before it.
-- Source: Finkbeiner, Klein, Piskac, Santolucito: Temporal Stream Logic: Synthesis Beyond the Bools (CAV 2019), the refinement of
-- the underapproximation.
use Rattle.std.specs.Prelude.{◌≤◌, List, [], ◌∷◌, ◌++◌, IsTrue, ⊤}
use Rattle.tsl_terms.specs.SpecTree.{SpecTree}
use Rattle.tsl_terms.specs.Signals.{cells_of}
use Rattle.tsl_terms.specs.WindowTree.{WindowTree}
use Rattle.tsl_terms.specs.Congruence.{IsCongruent}
use Rattle.tsl_terms.specs.Equality.{equality_in}
use Rattle.program_tree.specs.Fits.{window_is_shaped}
use Rattle.letter_space.specs.SpecSpace.{spec_space}
use Rattle.machines.specs.Rounds.{RoundTree}
use Rattle.branch_finder.specs.Spurious.{IsSpurious}
use Rattle.branch_finder.specs.Finding.{branch_count}
use Rattle.branch_finder.specs.declared.limits.TheConstants.{MOST_BRANCHES}
use Rattle.refinement_loop.specs.Questions.{HasNoSolution, IsCounterstrategy}
use Rattle.refinement_loop.specs.declared.outcome.Bound.TheVariants.{Fixed}
use Rattle.refinement_loop.specs.declared.outcome.Search.{Search}

-- Under the windows there is no controller, the round's environment has an annotation, there are not too many branches to look for
-- a window, and the round's window is one of the specification's cells that is short enough, congruent, and spurious in that
-- environment.
pub record IsRound (spec : SpecTree) (search : Search) (windows : List WindowTree) (round : RoundTree) : Type 0 where
  pub none : HasNoSolution spec windows search.states search.bound
  pub environment : IsCounterstrategy spec windows search.env_states (Fixed search.env_bound) round.environment
  pub few_branches : branch_count (spec_space spec) search.depth ≤ MOST_BRANCHES
  pub shaped : IsTrue (window_is_shaped (cells_of spec) round.window)
  pub short : round.window.length ≤ search.depth
  pub congruent : IsCongruent (cells_of spec) (equality_in spec.names) round.window
  pub spurious : IsSpurious (spec_space spec) round.environment round.window

-- rounds that follow each other after these windows
abbrev pub IsChainFrom : SpecTree → Search → List WindowTree → List RoundTree → Type 0
IsChainFrom spec search windows [] = ⊤
IsChainFrom spec search windows (round ∷ rounds) =
    IsRound spec search windows round × IsChainFrom spec search (windows ++ round.window ∷ []) rounds

-- rounds that follow each other from the first one on
abbrev pub IsChain : SpecTree → Search → List RoundTree → Type 0
IsChain spec search rounds = IsChainFrom spec search [] rounds
