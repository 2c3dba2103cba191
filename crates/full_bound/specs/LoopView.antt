-- Letter loops as they are found, as letter loops without how they lie in memory.
use Rattle.std.specs.Prelude.{take, drop}
use Rattle.ltl_formula.specs.LetterLoop.{LetterLoop}
use Rattle.full_bound.specs.declared.letter_loop.LetterLoop.{LetterLoop as FoundLoop}

-- the letters before the one that the last goes on to come once, and those from it on again and again
abbrev pub letter_loop : FoundLoop → LetterLoop
letter_loop l = record { stem = take l.back l.letters; cycle = drop l.back l.letters }
