use Rattle.std.proofs.Common.{ap, ◌∙◌}
use Rattle.word_interp.specs.internal.Applied.{given_at}
use Rattle.word_interp.proofs.Given.{initial_is}
use Rattle.word_interp.proofs.words.WordsAlgebra.initial.Goals as goal

pub returns-clause-value : goal.returns-clause-value
returns-clause-value c =
    initial_is c.self.inside.domain c.self.inside.cells c.self.inside.given c.self.inside.equality c.args.self.now c.self.view_is c.args.cell
    c.requires.had c.given_at.result (c.given_at.ensures ∙ ap (λ xs. given_at xs c.args.cell) c.as_slice.ensures) c.value_in.result
    c.value_in.ensures
