use Rattle.std.proofs.Common.{ap, ◌∙◌}
use Rattle.std.proofs.lemmas.List.{map-id}
use Rattle.tsl_meaning.specs.Interpretation.{entry_at}
use Rattle.word_interp.proofs.words.WordsAlgebra.apply.Goals as goal

pub entry-requires : goal.entry-requires
entry-requires c = rw map-id at c.requires.had

pub returns-clause-value : goal.returns-clause-value
returns-clause-value c =
    ap (entry_at c.args.self.now.interpretation c.args.function) (map-id c.args.arguments.now) ∙ c.entry.ensures
