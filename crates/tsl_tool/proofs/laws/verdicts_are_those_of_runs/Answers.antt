use Rattle.checking_commands.proofs.RunVerdicts.{yes_where_all_hold, no_where_one_fails}
use Rattle.tsl_tool.proofs.laws.verdicts_are_those_of_runs.Goals as goal

pub returns-clause-yes : goal.returns-clause-yes
returns-clause-yes c = yes_where_all_hold

pub returns-clause-no : goal.returns-clause-no
returns-clause-no c = no_where_one_fails
