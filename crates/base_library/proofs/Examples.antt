-- The definitions on worked lists.
use Rattle.std.proofs.Common.{◌≡◌, ℕ, ◌==◌, true, false, [], ◌∷◌, Some, None, refl}
use Rattle.base_library.specs.Numbers.{is_among, numbers_from}
use Rattle.base_library.specs.Kept.{with_new}
use Rattle.base_library.specs.Options.{all_there, passes}

two_stands : is_among (1 ∷ 2 ∷ []) 2 ≡ true
two_stands = refl

three_does_not : is_among (1 ∷ 2 ∷ []) 3 ≡ false
three_does_not = refl

from_four : numbers_from 4 3 ≡ 4 ∷ 5 ∷ 6 ∷ []
from_four = refl

-- each where it did not stand before: 1 and the second 5 are left out
kept_once : with_new (λ a b. a == b) (1 ∷ 2 ∷ []) (5 ∷ 1 ∷ 5 ∷ 3 ∷ []) ≡ 1 ∷ 2 ∷ 5 ∷ 3 ∷ []
kept_once = refl

both_there : all_there {X = ℕ} (Some 1 ∷ Some 2 ∷ []) ≡ Some (1 ∷ 2 ∷ [])
both_there = refl

one_missing : all_there {X = ℕ} (Some 1 ∷ None ∷ []) ≡ None
one_missing = refl

none_passes : passes {X = ℕ} (λ n. n == 1) None ≡ false
none_passes = refl
