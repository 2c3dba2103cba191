-- A loop of letters, and a reader of one, as the values that they stand for.
use Rattle.std.specs.Prelude.{ℕ, List, Some, None, map, if◌then◌else◌}
use Rattle.lasso_text.specs.declared.letter_loop.LetterLoop.{LetterLoop}
use Rattle.lasso_text.specs.declared.letter_loop.Letter.{Letter}
use Rattle.lasso_text.specs.declared.reader.LettersReader.{LettersReader}
use Rattle.lasso_text.specs.LetterText.{LoopTree, State}

abbrev pub letter_view : Letter → List ℕ
letter_view letter = letter.propositions

abbrev pub loop_tree : LetterLoop → LoopTree
loop_tree loop = record { letters = map letter_view loop.letters; back = loop.back }

abbrev pub reader_state : LettersReader → State
reader_state r = record { bits = r.bits; letters = map letter_view r.letters.items; back = if r.ended then Some r.back else None }
