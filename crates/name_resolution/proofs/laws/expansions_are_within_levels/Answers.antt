use Rattle.name_resolution.proofs.Expanded.{expansion_fits, no_deep_use}
use Rattle.name_resolution.proofs.laws.expansions_are_within_levels.Goals as goal

pub returns-clause-fits : goal.returns-clause-fits
returns-clause-fits c ds xs own levels well derived = expansion_fits ds well derived levels

pub returns-clause-only : goal.returns-clause-only
returns-clause-only c ds xs own ys rs well derived = no_deep_use ds well derived ys rs
