use Rattle.std.proofs.Common.{◌<◌, ℕ, List, length, subst, sym, arith}
use Rattle.std.proofs.lemmas.List.FromFn.{length-map-range_with_len}
use Rattle.counterstrategy.specs.DualVariables.{vectors_in_all}
use Rattle.counterstrategy.specs.internal.DualAsking.{dual_tree, vector_letter}
use Rattle.counterstrategy.proofs.VectorLetters.{letter_there}
use Rattle.counterstrategy.proofs.environment_side.letter_at.Goals as goal

pub bounds-question-u : goal.bounds-question-u
bounds-question-u c =
    subst (λ (ls : List ℕ). c.args.u < length ls) (sym c.requires.asked.letters)
    (omega (
      arith,
      length-map-range_with_len (vector_letter (dual_tree c.args.question.now).space) 0 (vectors_in_all (dual_tree c.args.question.now)),
      c.requires.asked.vectors,
      c.requires.vector,
    ))

pub returns : goal.returns
returns c =
    letter_there (dual_tree c.args.question.now).space (vectors_in_all (dual_tree c.args.question.now)) c.args.question.now.letters.now
    c.requires.asked.letters c.args.u (omega (arith, c.requires.asked.vectors, c.requires.vector))
