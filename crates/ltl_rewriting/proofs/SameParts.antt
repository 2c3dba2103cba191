-- Formulas whose parts mean the same mean the same.
use Rattle.std.proofs.Common.{◌≡◌, ◌∙◌, ℕ, zero, suc, ◌+◌, Bool, not, ◌&&◌, ◌||◌, List, [], ◌∷◌, ◌++◌, map, refl, sym, ap, subst}
use Rattle.loop_shape.specs.LoopShape.{LoopShape, IsPosition, after, positions_from}
use Rattle.loop_shape.specs.AlongLoop.{holds_until}
use Rattle.loop_shape.proofs.Steps.{after_position}
use Rattle.ltl_formula.specs.declared.formula.Ltl.{Ltl}
use Rattle.ltl_formula.proofs.ListLemmas.{formulas_of_members, made_push, made_end}
use Rattle.ltl_formula.specs.LtlTree.{LtlTree, LtlTrees, ltl_tree, ltl_formulas_of, ltl_formulas_in, conjunction, disjunction, next, until, release}
use Rattle.ltl_formula.specs.LetterLoop.{shape_of, holds, holds_all, holds_any}
use Rattle.ltl_rewriting.specs.SameMeaning.{MeansSame}
use Rattle.ltl_rewriting.specs.internal.Members.{MeanSame}

module _ (shape : LoopShape) where
  untils_alike : (a b c d : ℕ → Bool) → ((j : ℕ) → IsPosition shape j → a j ≡ c j) → ((j : ℕ) → IsPosition shape j → b j ≡ d j) →
      (n i : ℕ) → IsPosition shape i → holds_until a b (positions_from shape n i) ≡ holds_until c d (positions_from shape n i)
  untils_alike a b c d first second zero i p = refl
  untils_alike a b c d first second (suc n) i p =
      let rest = untils_alike a b c d first second n (after shape i) (after_position shape i p) in
      λ k. second i p k || (first i p k && rest k)

pub same_next : (f g : LtlTree) → MeansSame f g → MeansSame (next f) (next g)
same_next f g same loop i p = same loop (after (shape_of loop) i) (after_position (shape_of loop) i p)

pub same_until : (a b c d : LtlTree) → MeansSame a c → MeansSame b d → MeansSame (until a b) (until c d)
same_until a b c d first second loop i p =
    let shape = shape_of loop in
    untils_alike shape (holds loop a) (holds loop b) (holds loop c) (holds loop d) (first loop) (second loop)
    (suc (shape.start + shape.length)) i p

pub same_release : (a b c d : LtlTree) → MeansSame a c → MeansSame b d → MeansSame (release a b) (release c d)
same_release a b c d first second loop i p =
    let shape = shape_of loop in
    ap not (untils_alike shape (λ j. not (holds loop a j)) (λ j. not (holds loop b j)) (λ j. not (holds loop c j))
    (λ j. not (holds loop d j)) (λ j q. ap not (first loop j q)) (λ j q. ap not (second loop j q))
    (suc (shape.start + shape.length)) i p)

-- one member exchanged
pub exchanged : (front : List LtlTree) (f g : LtlTree) (rest : List LtlTree) → MeansSame g f →
    MeanSame (ltl_formulas_of (front ++ g ∷ rest)) (ltl_formulas_of (front ++ f ∷ rest))
exchanged [] f g rest same loop i p = (
  ap (λ b. b && holds_all loop (ltl_formulas_of rest) i) (same loop i p),
  ap (λ b. b || holds_any loop (ltl_formulas_of rest) i) (same loop i p),
)
exchanged (h ∷ front) f g rest same loop i p =
    let behind = exchanged front f g rest same loop i p in
    (ap (λ b. holds loop h i && b) behind.0, ap (λ b. holds loop h i || b) behind.1)

pub same_lists : (a b c : LtlTrees) → MeanSame a b → MeanSame b c → MeanSame a c
same_lists a b c first second loop i p =
    let one = first loop i p in let two = second loop i p in (one.0 ∙ two.0, one.1 ∙ two.1)

pub same_conjunction : (f : LtlTree) (made whole : LtlTrees) → MeansSame f (conjunction made) → MeanSame made whole →
    MeansSame f (conjunction whole)
same_conjunction f made whole first second loop i p = first loop i p ∙ (second loop i p).0

pub same_disjunction : (f : LtlTree) (made whole : LtlTrees) → MeansSame f (disjunction made) → MeanSame made whole →
    MeansSame f (disjunction whole)
same_disjunction f made whole first second loop i p = first loop i p ∙ (second loop i p).1

-- what the loop over members keeps
pub same_begun : (made : List Ltl) (fs : LtlTrees) → made ≡ [] → MeanSame (ltl_formulas_of (map ltl_tree made ++ ltl_formulas_in fs)) fs
same_begun made fs none loop i p =
    let is : ltl_formulas_of (map ltl_tree made ++ ltl_formulas_in fs) ≡ fs =
    ap (λ (gs : List Ltl). ltl_formulas_of (map ltl_tree gs ++ ltl_formulas_in fs)) none ∙ formulas_of_members fs in
    (ap (λ gs. holds_all loop gs i) is, ap (λ gs. holds_any loop gs i) is)

pub same_step : (made : List Ltl) (f : Ltl) (tree : LtlTree) (rest : List LtlTree) (whole : LtlTrees) → MeansSame (ltl_tree f) tree →
    MeanSame (ltl_formulas_of (map ltl_tree made ++ (tree ∷ rest))) whole →
    MeanSame (ltl_formulas_of (map ltl_tree (made ++ f ∷ []) ++ rest)) whole
same_step made f tree rest whole same kept =
    same_lists (ltl_formulas_of (map ltl_tree (made ++ f ∷ []) ++ rest)) (ltl_formulas_of (map ltl_tree made ++ (tree ∷ rest))) whole
    (subst (λ fs. MeanSame (ltl_formulas_of fs) (ltl_formulas_of (map ltl_tree made ++ (tree ∷ rest)))) (sym (made_push made f rest))
    (exchanged (map ltl_tree made) tree (ltl_tree f) rest same)) kept

pub same_ended : (made : List Ltl) (whole : LtlTrees) → MeanSame (ltl_formulas_of (map ltl_tree made ++ [])) whole →
    MeanSame (ltl_formulas_of (map ltl_tree made)) whole
same_ended made whole kept = subst (λ fs. MeanSame (ltl_formulas_of fs) whole) (made_end made) kept
