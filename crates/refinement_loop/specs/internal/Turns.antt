-- What a turn of the loop leads to, where these windows were found, and why to nothing.
use Rattle.std.specs.Prelude.{List, ⊤}
use Rattle.tsl_terms.specs.SpecTree.{SpecTree}
use Rattle.tsl_terms.specs.WindowTree.{WindowTree}
use Rattle.program_tree.specs.ProgramView.{program_tree}
use Rattle.cobuchi_automata.specs.Edges.{edge_trees}
use Rattle.machines.specs.declared.rounds.Round.{Round}
use Rattle.machines.specs.MachineView.{round_tree}
use Rattle.program_check.specs.declared.verdict.CheckError.{CheckError}
use Rattle.program_check.specs.declared.verdict.CheckError.TheVariants.{Large, NoMemory}
use Rattle.refinement_loop.specs.Questions.{HasNoSolution, IsWrittenFor}
use Rattle.refinement_loop.specs.Chains.{IsRound}
use Rattle.refinement_loop.specs.Outcomes.{MayGoOn, HasReason, IsSpentIn, IsLargeFurther, IsLargeIn}
use Rattle.refinement_loop.specs.declared.errors.RefineError.{RefineError}
use Rattle.refinement_loop.specs.declared.errors.RefineError.TheVariants as refines
use Rattle.refinement_loop.specs.declared.outcome.Search.{Search}
use Rattle.refinement_loop.specs.declared.turning.Turn.{Turn}
use Rattle.refinement_loop.specs.declared.turning.Turn.TheVariants.{Written, None, Spent, Further}

-- what each turn says
abbrev pub IsTurn : SpecTree → Search → List WindowTree → Turn → Type 0
IsTurn spec search windows (Written program) = IsWrittenFor spec windows search.states search.bound (program_tree program)
IsTurn spec search windows (None reason) =
    HasNoSolution spec windows search.states search.bound × HasReason spec search windows reason
IsTurn spec search windows (Spent side automaton clauses) =
    IsSpentIn spec search windows side automaton.states (edge_trees automaton.edges) clauses
IsTurn spec search windows (Further round) = MayGoOn search windows × IsRound spec search windows (round_tree round)

-- why a question of a further round has no answer
abbrev pub HasFurtherCause : SpecTree → Search → List WindowTree → CheckError → Type 0
HasFurtherCause spec search windows (Large limit) = IsLargeFurther spec search windows limit
HasFurtherCause spec search windows NoMemory = ⊤

-- why a turn leads to nothing
abbrev pub HasTurnCause : SpecTree → Search → List WindowTree → CheckError → Type 0
HasTurnCause spec search windows (Large limit) = IsLargeIn spec search windows limit
HasTurnCause spec search windows NoMemory = ⊤

-- a refusal after these rounds
abbrev pub refused_after : CheckError → List Round → RefineError
refused_after (Large limit) rounds = refines.Large limit rounds
refused_after NoMemory rounds = refines.NoMemory
