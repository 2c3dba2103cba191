use Rattle.name_resolution.proofs.Expanded.{expanded_names}
use Rattle.name_resolution.proofs.laws.expansions_use_names_as_they_occur.Goals as goal

pub returns : goal.returns
returns c ds levels_left r xs own ys rs well derived = expanded_names ds well derived r ys rs
