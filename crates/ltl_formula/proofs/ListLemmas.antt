-- Lists of formulas that are built and read member by member.
use Rattle.std.proofs.Common.{◌≡◌, List, [], ◌∷◌, ◌++◌, map, refl, ap}
use Rattle.std.proofs.lemmas.List.{append-nil}
use Rattle.ltl_formula.specs.declared.formula.Ltl.{Ltl}
use Rattle.ltl_formula.specs.LtlTree.{LtlTree, LtlTrees, no_formulas, more_formulas, ltl_formulas_in, ltl_formulas_of, ltl_tree}

-- these members, and then those of a list
abbrev pub with_front : List LtlTree → LtlTrees → LtlTrees
with_front [] fs = fs
with_front (f ∷ front) fs = more_formulas f (with_front front fs)

pub with_front_none : (front : List LtlTree) → with_front front no_formulas ≡ ltl_formulas_of front
with_front_none [] = refl
with_front_none (f ∷ front) = ap (more_formulas f) (with_front_none front)

pub with_front_push : (front : List Ltl) (f : Ltl) (fs : LtlTrees) →
    with_front (map ltl_tree (front ++ f ∷ [])) fs ≡ with_front (map ltl_tree front) (more_formulas (ltl_tree f) fs)
with_front_push [] f fs = refl
with_front_push (g ∷ front) f fs = ap (more_formulas (ltl_tree g)) (with_front_push front f fs)

-- the list of a list's members is the list
pub formulas_of_members : (fs : LtlTrees) → ltl_formulas_of (ltl_formulas_in fs) ≡ fs
formulas_of_members no_formulas = refl
formulas_of_members (more_formulas f fs) = ap (more_formulas f) (formulas_of_members fs)

-- formulas that are made, and then the members that are left
pub made_push : (made : List Ltl) (f : Ltl) (rest : List LtlTree) →
    map ltl_tree (made ++ f ∷ []) ++ rest ≡ map ltl_tree made ++ (ltl_tree f ∷ rest)
made_push [] f rest = refl
made_push (c ∷ made) f rest = ap (λ fs. ltl_tree c ∷ fs) (made_push made f rest)

pub made_end : (made : List Ltl) → map ltl_tree made ++ [] ≡ map ltl_tree made
made_end made = append-nil (map ltl_tree made)
