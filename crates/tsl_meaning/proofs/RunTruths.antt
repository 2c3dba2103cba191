-- From planes of truths to what holds in a run.
use Rattle.std.proofs.Common.{◌≡◌, ◌∙◌, ℕ, zero, suc, ◌+◌, Bool, true, false, Option, List, [], ◌∷◌, ◌++◌, length, map, slice_get}
use Rattle.std.proofs.Common.{Vec, Global, Result}
use Rattle.std.proofs.Common.{refl, sym, ap, subst}
use Rattle.std.specs.Prelude.{IfOk, IsSome, slice_index_or}
use Rattle.std.specs.Option.{option_map_or}
use Rattle.std.specs.List.{AllByRecursion}
use Rattle.std.proofs.lemmas.List.{length-map}
use Rattle.std.proofs.lemmas.Result.{IfOk-weaker}
use Rattle.base_library.proofs.Each.{each_map, each_unmapped}
use Rattle.base_library.proofs.Lists.{map_map}
use Rattle.loop_shape.specs.LoopShape.{LoopShape}
use Rattle.lane_planes.specs.Planes.{same_bit}
use Rattle.position_planes.specs.Positions.{IsPlaneOf, loop_of}
use Rattle.position_planes.proofs.PlaneLemmas.{same_truths}
use Rattle.interp_core.specs.declared.leaves.Leaves.{Leaves}
use Rattle.interp_core.specs.LeafValue.{leaf_value}
use Rattle.tsl_terms.specs.declared.operator.UnaryOperator.{UnaryOperator}
use Rattle.tsl_terms.specs.declared.operator.BinaryOperator.{BinaryOperator}
use Rattle.tsl_terms.specs.declared.operator.ManyOperator.{ManyOperator}
use Rattle.tsl_terms.specs.declared.operator.ManyOperator.TheVariants.{Conjunction, Disjunction}
use Rattle.tsl_terms.specs.TermTree.{TermTree, ProbeTree, term_tree}
use Rattle.tsl_terms.specs.SameTree.{same_tree}
use Rattle.tsl_terms.specs.FormulaTree.{test, update, FormulaTree, FormulaTrees, unary, binary, many, no_formulas}
use Rattle.tsl_terms.specs.FormulaTree.{more_formulas}
use Rattle.tsl_terms.specs.Value.{Meanings, truth, beside}
use Rattle.tsl_meaning.specs.declared.run.LoopRun.{LoopRun}
use Rattle.tsl_meaning.specs.Lasso.{Lasso, agree, meets, meet_each, unary_at, binary_at, many_at}
use Rattle.tsl_meaning.specs.RunTree.{PositionTree, RunTree, position_tree, run_tree}
use Rattle.tsl_meaning.specs.RunLasso.{value_at, atom_holds, run_lasso}
use Rattle.tsl_meaning.specs.internal.Members.{joined, of_none}

-- what a test says of the member at a place, and nothing where there is none
mapped_at : {X : Type 0} (f : X → Bool) (xs : List X) (i : ℕ) → slice_index_or (map f xs) i false ≡ option_map_or f (slice_get xs i) false
mapped_at f [] zero = refl
mapped_at f [] (suc i) = refl
mapped_at f (x ∷ xs) zero = refl
mapped_at f (x ∷ xs) (suc i) = mapped_at f xs i

module _ {V S : Type 0} (seen : V → S) (meanings : Meanings S) (run : LoopRun V) where
  abbrev positions : ℕ
  positions = run.start + run.length

  abbrev shape : LoopShape
  shape = loop_of run.start run.length

  abbrev lasso : Lasso
  lasso = run_lasso meanings (run_tree seen run)

  -- the plane of a formula
  abbrev pub HasPlane : FormulaTree → List ℕ → Type 0
  HasPlane f plane = IsPlaneOf positions (meets lasso f) plane

  -- as one formula, so another that is equal
  pub renamed : (f whole : FormulaTree) → whole ≡ f → (plane : List ℕ) → HasPlane f plane → HasPlane whole plane
  renamed f whole is plane on = subst (λ h. HasPlane h plane) (sym is) on

  -- the plane of a list of what holds at each position
  listed : (f : PositionTree S → Bool) (truths : List Bool) (plane : List ℕ) → truths ≡ map f (map (position_tree seen) run.positions) →
      IsPlaneOf (length truths) (λ i. slice_index_or truths i false) plane →
      IsPlaneOf positions (λ i. option_map_or f (slice_get (map (position_tree seen) run.positions) i) false) plane
  listed f truths plane are on =
      let placed : List (PositionTree S) = map (position_tree seen) run.positions in
      let long : length truths ≡ positions =
      ap length are ∙ length-map placed f ∙ length-map run.positions (position_tree seen) ∙ run.closes in
      same_truths positions (λ i. slice_index_or truths i false) (λ i. option_map_or f (slice_get placed i) false) plane
      (λ i. ap (λ ts. slice_index_or ts i false) are ∙ mapped_at f placed i)
      (subst (λ n. IsPlaneOf n (λ i. slice_index_or truths i false) plane) long on)

  pub test_listed : (leaves : List (Leaves V)) (probe : ProbeTree) (truths : List Bool) (plane : List ℕ) →
      map (leaf_value seen) leaves ≡ map (value_at (run_tree seen run)) (run_tree seen run).positions →
      truths ≡ map (λ l. option_map_or (λ (b : Bool). b) (truth meanings (leaf_value seen l) probe) false) leaves →
      IsPlaneOf (length truths) (λ i. slice_index_or truths i false) plane → IsPlaneOf positions (λ i. lasso.holds i (test probe)) plane
  test_listed leaves probe truths plane fit are =
      let holds : (ℕ → Option S) → Bool = λ at. option_map_or (λ (b : Bool). b) (truth meanings at probe) false in
      listed (λ p. atom_holds meanings (run_tree seen run) p (test probe)) truths plane (
      are ∙ sym (map_map holds (leaf_value seen) leaves) ∙ ap (map holds) fit
      ∙ map_map holds (value_at (run_tree seen run)) (map (position_tree seen) run.positions)
      )

  pub update_listed : (s : ℕ) (tree : TermTree) (truths : List Bool) (plane : List ℕ) →
      truths ≡ map (λ p. option_map_or (λ assigned. same_tree assigned tree) (beside s (run.cells ++ run.outputs) (map term_tree
      p.updates)) false)
      run.positions →
      IsPlaneOf (length truths) (λ i. slice_index_or truths i false) plane → IsPlaneOf positions (λ i. lasso.holds i (update s tree)) plane
  update_listed s tree truths plane are =
      let holds : PositionTree S → Bool = λ p. atom_holds meanings (run_tree seen run) p (update s tree) in
      listed holds truths plane (are ∙ sym (map_map holds (position_tree seen) run.positions))

  module _ {E : Type 0} (result : Result (Vec ℕ Global) E) where
    pub unary_made : (op : UnaryOperator) (f whole : FormulaTree) (plane : List ℕ) → whole ≡ unary op f → HasPlane f plane →
        IfOk result (λ made. (a : ℕ → Bool) → IsPlaneOf positions a plane → IsPlaneOf positions (unary_at shape op a) made.items) →
        IfOk result (λ made. HasPlane whole made.items)
    unary_made op f whole plane is on =
        IfOk-weaker result _ _ (λ made makes. renamed (unary op f) whole is made.items (makes (meets lasso f) on))

  pub binary_made : (op : BinaryOperator) (f g whole : FormulaTree) (left right new : List ℕ) → whole ≡ binary op f g →
      HasPlane f left → HasPlane g right →
      ((a b : ℕ → Bool) → IsPlaneOf positions a left → IsPlaneOf positions b right → IsPlaneOf positions (binary_at shape op a b) new) →
      HasPlane whole new
  binary_made op f g whole left right new is on_left on_right makes =
      renamed (binary op f g) whole is new (makes (meets lasso f) (meets lasso g) on_left on_right)

-- two words for both or neither
pub same_agree : (a b : Bool) → same_bit a b ≡ agree a b
same_agree true b = refl
same_agree false b = refl

-- what is had at each position is had of the leaves there
pub leaves_had : {V S : Type 0} (seen : V → S) (meanings : Meanings S) (run : RunTree S) (leaves : List (Leaves V)) (probe : ProbeTree) →
    map (leaf_value seen) leaves ≡ map (value_at run) run.positions →
    AllByRecursion (λ p. IsSome (truth meanings (value_at run p) probe)) run.positions →
    AllByRecursion (λ l. IsSome (truth meanings (leaf_value seen l) probe)) leaves
leaves_had {S = S} seen meanings run leaves probe fit had =
    let P : (ℕ → Option S) → Type 0 = λ at. IsSome (truth meanings at probe) in
    each_unmapped P (leaf_value seen) leaves (subst (AllByRecursion P) (sym fit) (each_map P (value_at run) run.positions had))

-- Members that are joined one by one: what was joined so far, and then the members that are left.
pub record AreJoined (run : Lasso) (op : ManyOperator) (n : ℕ) (plane : List ℕ) (left all : FormulaTrees) : Type 0 where
  pub so_far : ℕ → Bool
  pub on : IsPlaneOf n so_far plane
  pub rest : (i : ℕ) → joined op (so_far i) (many_at op (meet_each run left i)) ≡ many_at op (meet_each run all i)

from_none : (op : ManyOperator) (b : Bool) → joined op (of_none op) b ≡ b
from_none Conjunction b = refl
from_none Disjunction b = refl

to_none : (op : ManyOperator) (b : Bool) → joined op b (many_at op []) ≡ b
to_none Conjunction true = refl
to_none Conjunction false = refl
to_none Disjunction true = refl
to_none Disjunction false = refl

regrouped : (op : ManyOperator) (b m : Bool) (rest : List Bool) →
    joined op (joined op b m) (many_at op rest) ≡ joined op b (many_at op (m ∷ rest))
regrouped Conjunction true m rest = refl
regrouped Conjunction false m rest = refl
regrouped Disjunction true m rest = refl
regrouped Disjunction false m rest = refl

pub none_joined : (run : Lasso) (op : ManyOperator) (n : ℕ) (plane : List ℕ) (all : FormulaTrees) →
    IsPlaneOf n (λ _. of_none op) plane → AreJoined run op n plane all all
none_joined run op n plane all on =
    record { so_far = λ _. of_none op; on = on; rest = λ i. from_none op (many_at op (meet_each run all i)) }

pub one_joined : (run : Lasso) (op : ManyOperator) (n : ℕ) (old more new : List ℕ) (f : FormulaTree) (left rest all : FormulaTrees) →
    left ≡ more_formulas f rest → AreJoined run op n old left all → IsPlaneOf n (meets run f) more →
    ((a b : ℕ → Bool) → IsPlaneOf n a old → IsPlaneOf n b more → IsPlaneOf n (λ i. joined op (a i) (b i)) new) →
    AreJoined run op n new rest all
one_joined run op n old more new f left rest all is before on makes = record {
  so_far = λ i. joined op (before.so_far i) (meets run f i);
  on = makes before.so_far (meets run f) before.on on;
  rest = λ i. regrouped op (before.so_far i) (meets run f i) (meet_each run rest i)
      ∙ ap (λ fs. joined op (before.so_far i) (many_at op (meet_each run fs i))) (sym is) ∙ before.rest i;
}

pub all_joined : (run : Lasso) (op : ManyOperator) (n : ℕ) (plane : List ℕ) (left all : FormulaTrees) → left ≡ no_formulas →
    AreJoined run op n plane left all → IsPlaneOf n (meets run (many op all)) plane
all_joined run op n plane left all is are = same_truths n are.so_far (meets run (many op all)) plane (λ i.
    sym (to_none op (are.so_far i)) ∙ ap (λ fs. joined op (are.so_far i) (many_at op (meet_each run fs i))) (sym is) ∙ are.rest i
    ) are.on
