-- Internal: only private functions and proofs use these words.
-- An equality as a list of numbers, its key, which tells it from each other one at its step that is spelled otherwise.
use Rattle.std.specs.Prelude.{ℕ, Bool, true, not, ◌&&◌, ◌==◌, nat_le, List, [], ◌∷◌, ◌++◌, length}
use Rattle.std.specs.List.{list_all}
use Rattle.program_listing.specs.declared.listing.Name.{Name}
use Rattle.program_listing.specs.Listing.{SurfaceTermTree, bare, applied, SurfaceTermTrees, no_surfaces, more_surfaces, PlacedLine, name_bytes}
use Rattle.flow_program.specs.Rules.{same_surface}

-- a test holds of each member and each later one
abbrev pub is_pairwise : {X : Type 0} → (X → X → Bool) → List X → Bool
is_pairwise test [] = true
is_pairwise test (x ∷ xs) = list_all (test x) xs && is_pairwise test xs

-- the step of a later equality is not smaller
abbrev pub does_not_fall : PlacedLine → PlacedLine → Bool
does_not_fall d e = nat_le d.step e.step

module _ (text : List ℕ) where
  -- two equalities stand at different steps, or are spelled otherwise
  abbrev pub are_apart : PlacedLine → PlacedLine → Bool
  are_apart d e = not ((d.step == e.step) && same_surface text d.test e.test)

  -- the length of a name, and its bytes
  abbrev pub name_key : Name → List ℕ
  name_key m = length (name_bytes text m) ∷ name_bytes text m

  -- a 0 before a name alone; a 1 before a name with arguments, each of them behind a 1, and a 0 after the last
  abbrev mutual
    pub surface_key : SurfaceTermTree → List ℕ
    surface_key (bare m) = 0 ∷ name_key m
    surface_key (applied m ps) = 1 ∷ name_key m ++ surfaces_key ps

    pub surfaces_key : SurfaceTermTrees → List ℕ
    surfaces_key no_surfaces = 0 ∷ []
    surfaces_key (more_surfaces p ps) = 1 ∷ surface_key p ++ surfaces_key ps

  abbrev pub placed_key : PlacedLine → List ℕ
  placed_key e = e.step ∷ surface_key e.test
