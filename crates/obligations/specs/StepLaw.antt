-- What it means that a choice is true at a position: the letter matches its cube, what it leaves holds at the position
-- after, and a test holds of the untils that it puts off.
use Rattle.std.specs.Prelude.{ℕ, Bool, true, not, ◌&&◌}
use Rattle.std.specs.List.{list_all}
use Rattle.loop_shape.specs.LoopShape.{after}
use Rattle.ltl_formula.specs.LtlTree.{LtlTree, until}
use Rattle.ltl_formula.specs.LetterLoop.{LetterLoop, shape_of, holds}
use Rattle.ltl_formula.specs.Cubes.{cube_matches}
use Rattle.obligations.specs.Expansion.{ChoiceTree}

-- whether a choice is true with a letter, by which formulas hold at the position after and a test of what is put off
abbrev pub is_true_with : ℕ → (LtlTree → Bool) → (LtlTree → Bool) → ChoiceTree → Bool
is_true_with letter later test c = cube_matches c.care c.want letter && (list_all later c.next_set && list_all test c.postponed)

-- at a position of a loop, whatever is put off
abbrev pub is_true_choice : LetterLoop → ℕ → ℕ → ChoiceTree → Bool
is_true_choice loop i letter c = is_true_with letter (λ f. holds loop f (after (shape_of loop) i)) (λ u. true) c

-- whether an until is waited for at a position: its right side fails there, and it holds at the position after
abbrev pub is_waited_for : LetterLoop → ℕ → LtlTree → Bool
is_waited_for loop i (until a b) = holds loop (until a b) (after (shape_of loop) i) && not (holds loop b i)
is_waited_for loop i f = holds loop f (after (shape_of loop) i)

-- at a position of a loop, and each until that is put off is waited for there
abbrev pub is_good : LetterLoop → ℕ → ℕ → ChoiceTree → Bool
is_good loop i letter c = is_true_with letter (λ f. holds loop f (after (shape_of loop) i)) (is_waited_for loop i) c
