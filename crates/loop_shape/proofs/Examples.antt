-- The words on a loop of four positions: 0 and 1 once, then 2 and 3 again and again.
use Rattle.std.proofs.Common.{◌≡◌, ℕ, ◌==◌, ◌||◌, Bool, true, false, [], ◌∷◌, refl}
use Rattle.loop_shape.specs.LoopShape.{LoopShape, after, steps_on, reached}
use Rattle.loop_shape.specs.AlongLoop.{next_at, finally_at, globally_at, until_at, release_at, weak_until_at}

four : LoopShape
four = record { start = 2; length = 2 }

last_goes_on_to_the_start : after four 3 ≡ 2
unfolding four
last_goes_on_to_the_start = refl

five_steps_on : steps_on four 5 1 ≡ 2
unfolding four
five_steps_on = refl

never_back_to_what_comes_once : reached four 1 ≡ 1 ∷ 2 ∷ 3 ∷ 2 ∷ 3 ∷ []
unfolding four
never_back_to_what_comes_once = refl

-- at 2 alone
at_two : ℕ → Bool
at_two i = i == 2

next_across_the_seam : next_at four at_two 3 ≡ true
unfolding four at_two
next_across_the_seam = refl

finally_across_the_seam : finally_at four at_two 3 ≡ true
unfolding four at_two
finally_across_the_seam = refl

finally_not_from_what_comes_once : finally_at four (λ i. i == 1) 2 ≡ false
unfolding four
finally_not_from_what_comes_once = refl

globally_begins_here : globally_at four (λ i. (i == 1) || ((i == 2) || (i == 3))) 1 ≡ true
unfolding four
globally_begins_here = refl

until_across_the_seam : until_at four (λ i. i == 3) at_two 3 ≡ true
unfolding four at_two
until_across_the_seam = refl

until_wants_its_left_side_before : until_at four (λ i. i == 0) at_two 0 ≡ false
unfolding four at_two
until_wants_its_left_side_before = refl

until_wants_its_right_side : until_at four (λ _. true) (λ _. false) 0 ≡ false
unfolding four
until_wants_its_right_side = refl

weak_until_does_not : weak_until_at four (λ _. true) (λ _. false) 0 ≡ true
unfolding four
weak_until_does_not = refl

-- released at 1, where both hold
release_with_both : release_at four (λ i. i == 1) (λ i. (i == 0) || (i == 1)) 0 ≡ true
unfolding four
release_with_both = refl

release_too_late : release_at four at_two (λ i. (i == 0) || (i == 1)) 0 ≡ false
unfolding four at_two
release_too_late = refl
