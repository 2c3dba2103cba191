-- What pairs of formulas say, as tests.
use Rattle.std.proofs.Common.{◌≡◌, Bool, true, false, not, ◌&&◌, ◌||◌, refl}
use Rattle.tsl_meaning.specs.Lasso.{agree}

pub and_none : (a b : Bool) → (a && (b && true)) ≡ (a && b)
and_none true true = refl
and_none true false = refl
and_none false b = refl

pub or_none : (a b : Bool) → (a || (b || false)) ≡ (a || b)
or_none true b = refl
or_none false true = refl
or_none false false = refl

pub not_implies : (a b : Bool) → (a && (not b && true)) ≡ not (not a || b)
not_implies true true = refl
not_implies true false = refl
not_implies false b = refl

pub not_either : (a b : Bool) → (not a && (not b && true)) ≡ not (a || b)
not_either true b = refl
not_either false true = refl
not_either false false = refl

pub agrees : (a b : Bool) → ((a && (b && true)) || ((not a && (not b && true)) || false)) ≡ agree a b
agrees true true = refl
agrees true false = refl
agrees false true = refl
agrees false false = refl

pub disagrees : (a b : Bool) → ((a && (not b && true)) || ((not a && (b && true)) || false)) ≡ not (agree a b)
disagrees true true = refl
disagrees true false = refl
disagrees false true = refl
disagrees false false = refl
