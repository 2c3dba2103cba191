use Rattle.letter_space.proofs.LetterBits.{bit_is_read, letter_is_word}
use Rattle.letter_space.proofs.laws.letters_show_what_holds.Goals as goal

pub returns-clause-bits : goal.returns-clause-bits
returns-clause-bits c = λ space valuation picks is_space below are. bit_is_read space is_space valuation below picks are

pub returns-clause-word : goal.returns-clause-word
returns-clause-word c = λ space valuation picks is_space below are. letter_is_word space is_space valuation below picks are
