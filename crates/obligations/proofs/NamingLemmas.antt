-- Lists of names that grow.
use Rattle.std.proofs.Common.{◌≡◌, ◌∙◌, ℕ, ◌+◌, ◌<◌, List, [], ◌∷◌, ◌++◌, length, map, take, drop, get_or, Bor, refl, sym, ap}
use Rattle.std.specs.List.{insert}
use Rattle.std.specs.declared.cmp.Ordering.{Ordering}
use Rattle.std.proofs.lemmas.List.{map-append}
use Rattle.base_library.proofs.Lists.{left_at}
use Rattle.ltl_formula.specs.declared.formula.Ltl.{Ltl}
use Rattle.ltl_formula.specs.LtlTree.{LtlTree, LtlTrees, more_formulas, ltl_tree}
use Rattle.ltl_formula.specs.LtlOrder.{tree_cmp}
use Rattle.ltl_formula.specs.Increasing.{IsIncreasing, with_member, union}
use Rattle.ltl_formula.proofs.IncreasingLemmas.{rises-with_member}
use Rattle.ltl_formula.proofs.LtlOrderLaws.{tree_cmp_total}
use Rattle.obligations.specs.Numbers.{lent_trees}
use Rattle.obligations.specs.Obligations.{obligations, obligations_of_all, reachable}

pub union_append : {A : Type 0} (cmp : A → A → Ordering) (xs ys zs : List A) → union cmp xs (ys ++ zs) ≡ union cmp (union cmp xs ys) zs
union_append cmp xs [] zs = refl
union_append cmp xs (y ∷ ys) zs = union_append cmp (with_member cmp y xs) ys zs

pub names_append : (xs ys zs : List LtlTree) → union tree_cmp xs (ys ++ zs) ≡ union tree_cmp (union tree_cmp xs ys) zs
names_append = union_append tree_cmp

pub rises_with : (f : LtlTree) (names : List LtlTree) → IsIncreasing tree_cmp names → IsIncreasing tree_cmp (with_member tree_cmp f names)
rises_with = rises-with_member tree_cmp tree_cmp_total

pub inserted : (f : Bor Ltl) (names seen new : List (Bor Ltl)) (place : ℕ) → seen ≡ names → new ≡ insert names place f
    → with_member tree_cmp (ltl_tree f.now) (lent_trees seen) ≡ lent_trees (take place seen)
    ++ ltl_tree f.now ∷ lent_trees (drop place seen)
    → lent_trees new ≡ with_member tree_cmp (ltl_tree f.now) (lent_trees names)
inserted f names seen new place same is found =
    ap lent_trees is ∙ map-append (λ (g : Bor Ltl). ltl_tree g.now) (take place names) (f ∷ drop place names)
    ∙ sym (rw same at found)

-- one more member of a list
pub rest_step : (old new all : List LtlTree) (f : LtlTree) (rest fs : LtlTrees) → rest ≡ more_formulas f fs
    → union tree_cmp old (obligations_of_all rest) ≡ all → new ≡ union tree_cmp old (obligations f) →
    union tree_cmp new (obligations_of_all fs) ≡ all
rest_step old new all f rest fs is before grown =
    ap (λ n. union tree_cmp n (obligations_of_all fs)) grown ∙ sym (names_append old (obligations f) (obligations_of_all fs))
    ∙ ap (λ r. union tree_cmp old (obligations_of_all r)) (sym is) ∙ before

-- one more formula of some
pub formula_step : (old new all : List LtlTree) (fs : List Ltl) (i : ℕ) (f : Ltl) → i < length fs → f ≡ get_or fs i f
    → union tree_cmp old (reachable (map ltl_tree (drop i fs))) ≡ all → new ≡ union tree_cmp old (ltl_tree f ∷ obligations (ltl_tree f))
    → union tree_cmp new (reachable (map ltl_tree (drop (i + 1) fs))) ≡ all
formula_step old new all fs i f within at before grown =
    ap (λ n. union tree_cmp n (reachable (map ltl_tree (drop (i + 1) fs)))) grown
    ∙ sym (names_append old (ltl_tree f ∷ obligations (ltl_tree f)) (reachable (map ltl_tree (drop (i + 1) fs))))
    ∙ ap (λ l. union tree_cmp old (reachable (map ltl_tree l))) (sym (left_at fs i f within at)) ∙ before
