-- Where the listed updates and equalities hold from a position of a closed run on, the two sides of a congruent window have one truth,
-- and where it has no left side the right one holds, if it has a truth.
use Rattle.std.proofs.Common.{◌≡◌, ◌∙◌, ℕ, Bool, true, ◌==◌, List, [], ◌∷◌, ◌++◌, Option, Some, sym, arith}
use Rattle.std.specs.Prelude.{option_and_then}
use Rattle.std.specs.List.{AllByRecursion}
use Rattle.base_library.specs.Numbers.{is_among, IsDistinct}
use Rattle.base_library.proofs.Each.{each_flat_map, each_weaker}
use Rattle.loop_shape.specs.LoopShape.{LoopShape, IsPosition, steps_on}
use Rattle.tsl_terms.specs.TermTree.{TermTree, TermTrees, no_terms, more_terms, ProbeTree, count_of_terms}
use Rattle.tsl_terms.specs.WindowTree.{ListedTree, EquatedTree}
use Rattle.tsl_terms.specs.FreeTree.{FreeTrees}
use Rattle.tsl_terms.specs.Value.{Meanings}
use Rattle.tsl_terms.specs.Unfolding.{term_taken_by_cell, unfolded, all_unfolded}
use Rattle.tsl_terms.specs.OneClass.{PairTree, AreInOneClass, AreInOneClasses, pair_of, listed_pairs}
use Rattle.program_tree.specs.ProgramTree.{ProgramTree}
use Rattle.interp_core.specs.Image.{image_of, images_of}
use Rattle.tsl_meaning.specs.Interpretation.{InputRows}
use Rattle.tsl_meaning.specs.Run.{Closed, assigned_at, truth_at}
use Rattle.term_congruence.proofs.EqualImages.{one_image, same_images, equated, holds_of_one}
use Rattle.term_congruence.proofs.UnfoldingsAreValues.{value_on, unfolded_truth}

module _ (meanings : Meanings ℕ) (program : ProgramTree) (rows : InputRows ℕ) (shape : LoopShape) (closed : Closed meanings program rows shape)
    (distinct : IsDistinct ((program.inputs ++ program.cells) ++ program.outputs)) (updates : List ListedTree) (i : ℕ)
    (position : IsPosition shape i)
    (listed : (offset s : ℕ) (t : TermTree) → term_taken_by_cell program.cells updates offset s ≡ Some t →
    (is_among program.cells s ≡ true) × (assigned_at meanings program rows (steps_on shape offset i) s ≡ Some t)) where
  abbrev at : ℕ → ℕ → Option ℕ
  at = value_on meanings program rows shape closed distinct updates i position listed

  abbrev truth_on : ℕ → ProbeTree → Option Bool
  truth_on step q = truth_at meanings program rows (steps_on shape step i) q

  abbrev unfolds : ℕ → TermTrees → FreeTrees
  unfolds step ts = all_unfolded program.cells updates step ts

  truth_is : (step : ℕ) (q : ProbeTree) →
      truth_on step q ≡ option_and_then (meanings.predicate q.predicate) (images_of meanings at (unfolds step q.arguments))
  truth_is step q = unfolded_truth meanings program rows shape closed distinct updates i position listed step q

  -- a predicate tells whether two values are the same
  abbrev pub MeansEquality : ℕ → Type 0
  MeansEquality p = (a b : ℕ) → meanings.predicate p (a ∷ b ∷ []) ≡ Some (a == b)

  -- an equality that is met
  abbrev pub IsMet : EquatedTree → Type 0
  IsMet e = MeansEquality e.probe.predicate × (truth_on e.offset e.probe ≡ Some true)

  module _ (equalities : List EquatedTree) (met : AllByRecursion IsMet equalities) where
    abbrev pairs : List PairTree
    pairs = listed_pairs program.cells updates equalities

    abbrev HaveOneImage : PairTree → Type 0
    HaveOneImage q = image_of meanings at q.left ≡ image_of meanings at q.right

    one_met : (e : EquatedTree) → IsMet e → AllByRecursion HaveOneImage (pair_of (unfolds e.offset e.probe.arguments))
    one_met e is =
        equated meanings at e.probe.predicate is.0 (unfolds e.offset e.probe.arguments) (sym (truth_is e.offset e.probe) ∙ is.1)

    pairs_met : AllByRecursion HaveOneImage pairs
    pairs_met =
        each_flat_map HaveOneImage (λ (e : EquatedTree). pair_of (unfolds e.offset e.probe.arguments)) equalities
        (each_weaker IsMet (λ e. AllByRecursion HaveOneImage (pair_of (unfolds e.offset e.probe.arguments))) one_met equalities met)

    -- the two sides have one truth
    pub one_truth : (left right : ProbeTree) (j w : ℕ) → left.predicate ≡ right.predicate →
        AreInOneClasses pairs (unfolds j left.arguments) (unfolds w right.arguments) → truth_on j left ≡ truth_on w right
    one_truth left right j w predicate one =
        truth_is j left
        ∙ (λ k. option_and_then (meanings.predicate (predicate k))
        (same_images meanings at pairs pairs_met (unfolds j left.arguments) (unfolds w right.arguments) one k))
        ∙ sym (truth_is w right)

    two_hold : (p step : ℕ) (ts : TermTrees) → MeansEquality p → count_of_terms ts ≡ 2 →
        AllByRecursion (λ q. AreInOneClass pairs q.left q.right) (pair_of (unfolds step ts)) → (b : Bool) →
        option_and_then (meanings.predicate p) (images_of meanings at (unfolds step ts)) ≡ Some b → b ≡ true
    two_hold p step no_terms is two one b there = absurd (omega (arith, two))
    two_hold p step (more_terms x no_terms) is two one b there = absurd (omega (arith, two))
    two_hold p step (more_terms x (more_terms y (more_terms z zs))) is two one b there = absurd (omega (arith, two))
    two_hold p step (more_terms x (more_terms y no_terms)) is two one b there =
        holds_of_one meanings at p is (unfolded program.cells updates step x) (unfolded program.cells updates step y)
        (one_image meanings at pairs pairs_met (unfolded program.cells updates step x) (unfolded program.cells updates step y) one.0) b there

    -- a right side alone holds, where it has a truth
    pub right_holds : (right : ProbeTree) (w : ℕ) → MeansEquality right.predicate → count_of_terms right.arguments ≡ 2 →
        AllByRecursion (λ q. AreInOneClass pairs q.left q.right) (pair_of (unfolds w right.arguments)) → (b : Bool) →
        truth_on w right ≡ Some b → b ≡ true
    right_holds right w is two one b there =
        two_hold right.predicate w right.arguments is two one b (sym (truth_is w right) ∙ there)
