-- Private: why a search ends without a controller, as it is told.
use Rattle.machines.specs.MachineView.{environment_tree}
use Rattle.refinement_loop.specs.declared.outcome.Search.{Search}
use Rattle.refinement_loop.specs.declared.outcome.Reason.{Reason}
use Rattle.refinement_loop.specs.declared.outcome.Reason.TheVariants.{Rounds, NoCounter, Genuine}
use Rattle.search_text.specs.SearchTexts.{ReasonTree, rounds_made, no_counter, genuine}

abbrev pub reason_told : Search → Reason → ReasonTree
reason_told search Rounds = rounds_made search.rounds
reason_told search NoCounter = no_counter search.env_states search.env_bound
reason_told search (Genuine e) = genuine (environment_tree e)
