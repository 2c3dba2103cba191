-- What is read in brackets, level by level.
use Rattle.std.proofs.Common.{◌≡◌, ℕ, suc, Option, None, ap}
use Rattle.program_listing.specs.declared.rest.LineError.{LineError}
use Rattle.program_listing.specs.declared.rest.LineError.TheVariants.{Form, NoMemory}
use Rattle.program_listing.specs.LineText.{Place}
use Rattle.program_listing.specs.internal.LineReading.{IsMisread, bracketed, surface_in_brackets}

pub no_level : (levels_left : ℕ) (p : Place) → levels_left ≡ 0 → surface_in_brackets levels_left p ≡ None
unfolding surface_in_brackets
no_level levels_left p e = ap (λ (r : ℕ). surface_in_brackets r p) e

pub one_level : (levels_left below : ℕ) (p : Place) → levels_left ≡ suc below →
    surface_in_brackets levels_left p ≡ bracketed (surface_in_brackets below) p
unfolding surface_in_brackets
one_level levels_left below p e = ap (λ (r : ℕ). surface_in_brackets r p) e

-- where one reader fails another does
pub misread_on : {V W : Type 0} (o : Option V) (other : Option W) (fault : LineError) → (o ≡ None → other ≡ None) → IsMisread o fault →
    IsMisread other fault
misread_on o other Form f h = f h
misread_on o other NoMemory f h = tt
