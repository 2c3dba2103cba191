-- Internal: only private functions of this crate use these words.
-- The numbers of tasks lie in their ranges.
use Rattle.std.specs.Prelude.{◌≤◌}
use Rattle.command_words.specs.declared.task.Task.{Task}
use Rattle.command_words.specs.declared.task.Task.TheVariants.{Synth, Check, Run, Prove, Recheck, Gen, Circuit, Automaton, Accepts}
use Rattle.refinement_loop.specs.Outcomes.{IsInRange}
use Rattle.synthesis_commands.specs.QuestionRanges.{IsQuestionInRange}
use Rattle.tsl_tool.specs.Tasks.{search_sizes}

abbrev pub IsTaskInRange : Task → Type 0
IsTaskInRange (Synth sizes) = IsInRange (search_sizes sizes)
IsTaskInRange (Check bound) = Unit {0}
IsTaskInRange Run = Unit {0}
IsTaskInRange (Prove sizes) = IsQuestionInRange sizes
IsTaskInRange Recheck = Unit {0}
IsTaskInRange (Gen n) = (1 ≤ n) × (n ≤ 5)
IsTaskInRange (Circuit bound) = Unit {0}
IsTaskInRange Automaton = Unit {0}
IsTaskInRange Accepts = Unit {0}
