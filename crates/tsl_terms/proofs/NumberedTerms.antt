-- Lists of terms that get numbers member by member.
use Rattle.std.proofs.Common.{◌≡◌, List, [], ◌∷◌, ◌++◌, map, refl, ap, sym, ◌∙◌}
use Rattle.std.specs.Prelude.{Option, Some, None, option_map}
use Rattle.base_library.proofs.Lists.{with_front, with_front_push}
use Rattle.tsl_terms.specs.TermTree.{TermTree, TermTrees, no_terms, more_terms, terms_of}
use Rattle.tsl_terms.proofs.TermLemmas.{with_front_none}

-- one member more in front of those that are left
pub front_more : {T X L : Type 0} (more : X → L → L) (tree : T → X) (front : List T) (t : T) (found : Option L) →
    option_map (with_front more (map tree (front ++ t ∷ []))) found
    ≡ option_map (with_front more (map tree front)) (option_map (more (tree t)) found)
front_more more tree front t (Some ts) = ap Some (with_front_push more tree front t ts)
front_more more tree front t None = refl

abbrev pub numbered_front : List TermTree → Option TermTrees → Option TermTrees
numbered_front front rest = option_map (with_front more_terms front) rest

-- the terms are all
pub numbered_all : (front : List TermTree) (all : Option TermTrees) (list : TermTrees) → numbered_front front (Some no_terms) ≡ all →
    list ≡ terms_of front → all ≡ Some list
numbered_all front all list h is = sym h ∙ ap Some (with_front_none front ∙ sym is)
