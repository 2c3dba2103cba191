-- Worked examples: the order of formulas, duals, and meaning on a letter loop.
use Rattle.std.proofs.Common.{◌≡◌, true, false, [], ◌∷◌, refl}
use Rattle.std.specs.declared.cmp.Ordering.TheVariants.{Less, Greater}
use Rattle.ltl_formula.specs.LtlTree.{top, bottom, bit, not_bit, conjunction, next, until, release, no_formulas, more_formulas}
use Rattle.ltl_formula.specs.LtlOrder.{tree_cmp}
use Rattle.ltl_formula.specs.LetterLoop.{LetterLoop, holds}
use Rattle.ltl_formula.specs.Cubes.{has_bit, cube_matches}
use Rattle.ltl_formula.specs.Dual.{dual}

by_variant : tree_cmp (bit 7) (not_bit 0) ≡ Less
by_variant = refl

by_left_part : tree_cmp (until (bit 1) (bit 0)) (until (bit 0) (bit 9)) ≡ Greater
by_left_part = refl

shorter_list_first : tree_cmp (conjunction (more_formulas top no_formulas))
    (conjunction (more_formulas top (more_formulas top no_formulas))) ≡ Less
shorter_list_first = refl

dual_of_until : dual (until top (release bottom (not_bit 0))) ≡ release bottom (until top (bit 0))
dual_of_until = refl

third_bit : has_bit 2 5 ≡ true
third_bit = refl

bit_0_and_not_bit_1 : cube_matches 3 1 5 ≡ true
bit_0_and_not_bit_1 = refl

-- a letter without bit 0 once, and then one with it, and one without it, in turn
loop : LetterLoop
loop = record { stem = 0 ∷ []; cycle = 1 ∷ 0 ∷ [] }

again_and_again : holds loop (release bottom (until top (bit 0))) 0 ≡ true
unfolding loop
again_and_again = refl

not_always_after : holds loop (next (release bottom (bit 0))) 0 ≡ false
unfolding loop
not_always_after = refl

after_the_last_the_cycle : holds loop (next (bit 0)) 2 ≡ true
unfolding loop
after_the_last_the_cycle = refl
