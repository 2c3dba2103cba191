use Rattle.command_words.proofs.OneTask.{asking_is_taken, one_task}
use Rattle.command_words.proofs.laws.words_ask_for_one_thing.Goals as goal

pub returns-clause-taken : goal.returns-clause-taken
returns-clause-taken c = asking_is_taken

pub returns-clause-one : goal.returns-clause-one
returns-clause-one c = one_task
