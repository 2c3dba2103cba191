-- Lists of surface terms that are built member by member.
use Rattle.std.proofs.Common.{◌≡◌, List, [], ◌∷◌, ◌++◌, map, refl, ap}
use Rattle.base_library.proofs.Lists.{with_front, with_front_push}
use Rattle.program_listing.specs.declared.listing.SurfaceTerm.{SurfaceTerm}
use Rattle.program_listing.specs.ListingTree.{SurfaceTermTree, SurfaceTermTrees, no_surfaces, more_surfaces, surface_tree}
use Rattle.program_listing.specs.internal.LineReading.{surfaces_of}

pub surfaces_in_front : (front : List SurfaceTermTree) → with_front more_surfaces front no_surfaces ≡ surfaces_of front
surfaces_in_front [] = refl
surfaces_in_front (p ∷ front) = ap (more_surfaces p) (surfaces_in_front front)

pub surface_pushed : (front : List SurfaceTerm) (p : SurfaceTerm) (ps : SurfaceTermTrees) →
    with_front more_surfaces (map surface_tree (front ++ p ∷ [])) ps
    ≡ with_front more_surfaces (map surface_tree front) (more_surfaces (surface_tree p) ps)
surface_pushed front p ps = with_front_push more_surfaces surface_tree front p ps
