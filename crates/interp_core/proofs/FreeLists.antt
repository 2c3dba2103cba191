-- Lists of free terms that are built member by member.
use Rattle.std.proofs.Common.{◌≡◌, List, [], ◌∷◌, refl, ap}
use Rattle.base_library.proofs.Lists.{with_front}
pub use Rattle.base_library.proofs.Lists.{with_front_push}
use Rattle.tsl_terms.specs.FreeTree.{FreeTree, no_free, more_free}
use Rattle.interp_core.specs.FreeView.{frees_of}

pub front_of_none : (front : List FreeTree) → with_front more_free front no_free ≡ frees_of front
front_of_none [] = refl
front_of_none (x ∷ front) = ap (more_free x) (front_of_none front)
