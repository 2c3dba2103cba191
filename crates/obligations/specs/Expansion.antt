-- The expansion of formulas by one step, and the choices of a set of formulas.
use Rattle.std.specs.Prelude.{Bool, List, [], ◌∷◌, ◌++◌, Option, Some}
use Rattle.std.specs.declared.cmp.Ordering.{Ordering}
use Rattle.std.specs.Ordering.{eq_by_cmp}
use Rattle.ltl_formula.specs.LtlTree.{LtlTree, top, bottom, bit, not_bit, conjunction, disjunction, next, until, release, LtlTrees}
use Rattle.ltl_formula.specs.LtlTree.{no_formulas, more_formulas}
use Rattle.ltl_formula.specs.LtlOrder.{tree_cmp}
use Rattle.obligations.specs.Choices.{ChoiceOf, empty_choice, bit_choices, not_bit_choices, goes_on, puts_off, then_list, formed, product}

module _ {A : Type 0} (same : A → A → Bool) (cmp : A → A → Ordering) (name : LtlTree → A) where
  -- the choices of a formula; nothing where a list that is formed on the way has too many members
  abbrev mutual
    pub expansion_by : LtlTree → Option (List (ChoiceOf A))
    expansion_by top = Some (empty_choice ∷ [])
    expansion_by bottom = Some []
    expansion_by (bit b) = Some (bit_choices b)
    expansion_by (not_bit b) = Some (not_bit_choices b)
    expansion_by (conjunction fs) = all_choices_by (empty_choice ∷ []) fs
    expansion_by (disjunction fs) = any_choices_by [] fs
    expansion_by (next f) = Some (goes_on (name f) ∷ [])
    expansion_by (until a b) =
        then_list (expansion_by b) (λ now. then_list (expansion_by a) (λ later.
        then_list (product same cmp later (puts_off (name (until a b)) ∷ [])) (λ put_off. formed same (now ++ put_off))))
    expansion_by (release a b) =
        then_list (expansion_by b) (λ held. then_list (expansion_by a) (λ freed.
        then_list (formed same (freed ++ goes_on (name (release a b)) ∷ [])) (λ ends. product same cmp held ends)))

    -- the product of some choices with those of each member in turn
    pub all_choices_by : List (ChoiceOf A) → LtlTrees → Option (List (ChoiceOf A))
    all_choices_by so_far no_formulas = Some so_far
    all_choices_by so_far (more_formulas f fs) =
        then_list (expansion_by f) (λ cs. then_list (product same cmp so_far cs) (λ more. all_choices_by more fs))

    -- some choices and then those of each member in turn
    pub any_choices_by : List (ChoiceOf A) → LtlTrees → Option (List (ChoiceOf A))
    any_choices_by so_far no_formulas = Some so_far
    any_choices_by so_far (more_formulas f fs) =
        then_list (expansion_by f) (λ cs. then_list (formed same (so_far ++ cs)) (λ more. any_choices_by more fs))

  -- the product of some choices with those of each member of a set
  abbrev pub choices_from : List (ChoiceOf A) → List LtlTree → Option (List (ChoiceOf A))
  choices_from so_far [] = Some so_far
  choices_from so_far (f ∷ fs) =
      then_list (expansion_by f) (λ cs. then_list (product same cmp so_far cs) (λ more. choices_from more fs))

-- whether two formulas are the same
abbrev pub same_formula : LtlTree → LtlTree → Bool
same_formula = eq_by_cmp tree_cmp

-- a choice of formulas themselves
abbrev pub ChoiceTree : Type 0
ChoiceTree = ChoiceOf LtlTree

-- the expansion of a formula
abbrev pub expansion : LtlTree → Option (List ChoiceTree)
expansion = expansion_by same_formula tree_cmp (λ f. f)

-- the choices of a set: the product of the expansions of its members, in order
abbrev pub choices : List LtlTree → Option (List ChoiceTree)
choices set = choices_from same_formula tree_cmp (λ f. f) (empty_choice ∷ []) set
