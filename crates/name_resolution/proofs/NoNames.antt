-- Where there are no names, none is found.
use Rattle.std.proofs.Common.{◌≡◌, ℕ, ◌≤◌, false, List, [], ◌∷◌, length, refl, arith}
use Rattle.tsl_terms.specs.Name.{Name}
use Rattle.name_resolution.specs.Heads.{is_name}

pub none_is_named : (names : List Name) (x : List ℕ) → length names ≤ 0 → is_name names x ≡ false
none_is_named [] x none = refl
none_is_named (n ∷ ns) x none = absurd (omega (arith, none))
