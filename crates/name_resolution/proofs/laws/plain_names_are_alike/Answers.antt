use Rattle.name_resolution.proofs.AlikePlain.{plain_kinds, plain_arities}
use Rattle.name_resolution.proofs.laws.plain_names_are_alike.Goals as goal

pub returns-clause-kinds : goal.returns-clause-kinds
returns-clause-kinds c all x kind other arity more kinds = plain_kinds all kinds x kind other arity more

pub returns-clause-arities : goal.returns-clause-arities
returns-clause-arities c heads all x kind other arity more arities = plain_arities all heads arities x kind other arity more
