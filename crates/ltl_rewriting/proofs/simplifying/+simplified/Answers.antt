use Rattle.std.proofs.Common.{rules, List, [], ◌∷◌, ◌++◌, map, sym, subst, arith}
use Rattle.ltl_formula.specs.declared.formula.Ltl.{Ltl}
use Rattle.ltl_formula.specs.declared.formula.LtlList.{LtlList, the_lemmas}
use Rattle.ltl_formula.specs.LtlTree.{ltl_tree, ltl_trees, ltl_member_trees, ltl_formulas_of}
use Rattle.ltl_rewriting.specs.SameMeaning.{MeansSame}
use Rattle.ltl_rewriting.specs.internal.Members.{MeanSame}
use Rattle.ltl_rewriting.proofs.SameParts.{same_begun, same_step}
use Rattle.ltl_rewriting.proofs.simplifying.+simplified.Goals as goal

pub simplified_members-loop-rest-init : goal.simplified_members-loop-rest-init
simplified_members-loop-rest-init t c =
    (same_begun c.new-made.result.items (ltl_trees c.args.formulas.now) c.new-made.ensures.items, omega arith)

pub simplified_members-loop-rest-preserved : goal.simplified_members-loop-rest-preserved
simplified_members-loop-rest-preserved t c =
    let whole = ltl_trees c.args.formulas.now in
    let made = c.loop-rest.made.items in
    let f = c.in_ok-simplified.field-0 in
    let same : MeansSame (ltl_tree f) (ltl_tree c.in-More.formula.value) =
    subst (λ (g : Ltl). MeansSame (ltl_tree f) (ltl_tree g)) c.deref.ensures c.in_ok-simplified.ensures in
    let step = same_step made f (ltl_tree c.in-More.formula.value) (ltl_member_trees c.in-More.next.value) whole same
    (rw c.in-More.is at c.loop-rest.invariant.0) in (
      subst (λ (fs : List Ltl). MeanSame (ltl_formulas_of (map ltl_tree fs ++ ltl_member_trees c.deref-rest.result.now)) whole)
          (sym c.in_ok-push.ensures.items)
          (subst (λ (r : LtlList). MeanSame (ltl_formulas_of (map ltl_tree (made ++ f ∷ []) ++ ltl_member_trees r)) whole)
          (sym c.deref-rest.ensures) step),
      search (rules, the_lemmas),
    )
