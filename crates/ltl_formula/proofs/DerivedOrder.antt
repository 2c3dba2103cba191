-- The derived order of formulas is the order of their trees.
use Rattle.std.proofs.Common.{◌≡◌, ◌∙◌}
use Rattle.std.specs.Ordering.{ordering_then}
use Rattle.ltl_formula.specs.declared.formula.Ltl.{Ltl}
use Rattle.ltl_formula.specs.declared.formula.Ltl.TheVariants.{True, False, Bit, NotBit, All, Any, Next', Until', Release'}
use Rattle.ltl_formula.specs.declared.formula.LtlList.{LtlList}
use Rattle.ltl_formula.specs.declared.formula.LtlList.TheVariants.{Empty, More'}
use Rattle.ltl_formula.specs.LtlTree.{ltl_tree, ltl_trees}
use Rattle.ltl_formula.specs.LtlOrder.{tree_cmp, trees_cmp}
use Rattle.ltl_formula.specs.contracts.formula.LtlOrd.TheImpl as impl
use Rattle.ltl_formula.specs.contracts.formula.LtlOrd.TheImpl.Laws as laws
use Rattle.ltl_formula.specs.contracts.formula.LtlListOrd.TheImpl as list_impl
use Rattle.ltl_formula.specs.contracts.formula.LtlListOrd.TheImpl.Laws as list_laws

mutual
  pub order_is : (a b : Ltl) → (impl.ghosts).cmp a b ≡ tree_cmp (ltl_tree a) (ltl_tree b)
  -- these two name a variant on the right, so that the last clause is checked at each
  order_is True True = laws.is True True
  order_is False False = laws.is False False
  order_is (Bit b) (Bit c) = laws.is (Bit b) (Bit c)
  order_is (NotBit b) (NotBit c) = laws.is (NotBit b) (NotBit c)
  order_is (All fs) (All gs) = laws.is (All fs) (All gs) ∙ lists_order_is fs gs
  order_is (Any fs) (Any gs) = laws.is (Any fs) (Any gs) ∙ lists_order_is fs gs
  order_is (Next' p a) (Next' q b) = laws.is (Next' p a) (Next' q b) ∙ order_is a b
  order_is (Until' p a q b) (Until' r c s d) = laws.is (Until' p a q b) (Until' r c s d)
      ∙ (λ i. ordering_then (order_is a c i) (order_is b d i))
  order_is (Release' p a q b) (Release' r c s d) = laws.is (Release' p a q b) (Release' r c s d)
      ∙ (λ i. ordering_then (order_is a c i) (order_is b d i))
  order_is a b = laws.is a b

  pub lists_order_is : (a b : LtlList) → (list_impl.ghosts).cmp a b ≡ trees_cmp (ltl_trees a) (ltl_trees b)
  lists_order_is (More' p f q fs) (More' r g s gs) =
      list_laws.is (More' p f q fs) (More' r g s gs) ∙ (λ i. ordering_then (order_is f g i) (lists_order_is fs gs i))
  lists_order_is Empty Empty = list_laws.is Empty Empty
  lists_order_is a b = list_laws.is a b
