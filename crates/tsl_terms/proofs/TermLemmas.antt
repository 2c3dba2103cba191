-- Lists of terms that are built member by member.
use Rattle.std.proofs.Common.{◌≡◌, List, [], ◌∷◌, refl, ap}
use Rattle.base_library.proofs.Lists.{with_front}
pub use Rattle.base_library.proofs.Lists.{with_front_push}
use Rattle.tsl_terms.specs.TermTree.{TermTree, no_terms, more_terms, terms_of}

pub with_front_none : (front : List TermTree) → with_front more_terms front no_terms ≡ terms_of front
with_front_none [] = refl
with_front_none (t ∷ front) = ap (more_terms t) (with_front_none front)
