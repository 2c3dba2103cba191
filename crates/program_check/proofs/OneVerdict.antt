-- A program has at most one verdict under a specification and a bound.
use Rattle.std.proofs.Common.{◌≡◌, ◌∙◌, ℕ, List, Some, None, slice_get, sym, refl, ap}
use Rattle.base_library.proofs.Options.{one_value, none_never_some}
use Rattle.tsl_terms.specs.TermTree.{TermTree, ProbeTree}
use Rattle.tsl_terms.specs.SpecTree.{SpecTree}
use Rattle.program_tree.specs.NodeTree.{branch, assign}
use Rattle.program_tree.specs.ProgramTree.{ProgramTree}
use Rattle.program_check.specs.declared.verdict.Verdict.{Verdict}
use Rattle.program_check.specs.declared.verdict.Verdict.TheVariants.{Signals, Test, Choice, Foreign, Unsound, NoAnnotation, Yes}
use Rattle.program_check.specs.Verdicts.{HasSignals, first_refused_node, RefusesTest, RefusesTerms, first_foreign_window, IsUnsoundAt}
use Rattle.program_check.specs.Verdicts.{IsOverBits, HasAnnotation, IsVerdict}
use Rattle.program_check.proofs.SoundWindows.{never_sound, one_unsound}

branch_never_assign : (test : ProbeTree) (a b : ℕ) (terms : List TermTree) (go : ℕ) → branch test a b ≡ assign terms go → ⊥
branch_never_assign test a b terms go is = cc

module _ (spec : SpecTree) (program : ProgramTree) (bound : ℕ) where
  -- the first refused node is a test or assigns terms
  test_never_terms : (i j : ℕ) → RefusesTest spec program i → RefusesTerms spec program j → ⊥
  test_never_terms i j test terms =
      let same : i ≡ j = one_value (first_refused_node spec program) i j test.first terms.first in
      branch_never_assign test.test test.then_node test.else_node terms.terms terms.go
      (one_value (slice_get program.nodes j) (branch test.test test.then_node test.else_node) (assign terms.terms terms.go)
      (sym (ap (slice_get program.nodes) same) ∙ test.is_test) terms.are_terms)

  -- each verdict excludes the others

  only_signals : (HasSignals spec program → ⊥) → (w : Verdict) → IsVerdict spec program bound w → Signals ≡ w
  only_signals none Signals w_is = refl
  only_signals none (Test j) w_is = absurd (none w_is.0)
  only_signals none (Choice j) w_is = absurd (none w_is.0)
  only_signals none (Foreign j) w_is = absurd (none w_is.0)
  only_signals none (Unsound j) w_is = absurd (none w_is.0)
  only_signals none NoAnnotation w_is = absurd (none w_is.0.signals)
  only_signals none Yes w_is = absurd (none w_is.0.signals)

  only_test : (i : ℕ) → HasSignals spec program → RefusesTest spec program i →
      (w : Verdict) → IsVerdict spec program bound w → Test i ≡ w
  only_test i has test Signals w_is = absurd (w_is has)
  only_test i has test (Test j) w_is = ap Test (one_value (first_refused_node spec program) i j test.first w_is.1.first)
  only_test i has test (Choice j) w_is = absurd (test_never_terms i j test w_is.1)
  only_test i has test (Foreign j) w_is = absurd (none_never_some (first_refused_node spec program) i w_is.1 test.first)
  only_test i has test (Unsound j) w_is = absurd (none_never_some (first_refused_node spec program) i w_is.1 test.first)
  only_test i has test NoAnnotation w_is = absurd (none_never_some (first_refused_node spec program) i w_is.0.nodes test.first)
  only_test i has test Yes w_is = absurd (none_never_some (first_refused_node spec program) i w_is.0.nodes test.first)

  only_choice : (i : ℕ) → HasSignals spec program → RefusesTerms spec program i →
      (w : Verdict) → IsVerdict spec program bound w → Choice i ≡ w
  only_choice i has terms Signals w_is = absurd (w_is has)
  only_choice i has terms (Test j) w_is = absurd (test_never_terms j i w_is.1 terms)
  only_choice i has terms (Choice j) w_is = ap Choice (one_value (first_refused_node spec program) i j terms.first w_is.1.first)
  only_choice i has terms (Foreign j) w_is = absurd (none_never_some (first_refused_node spec program) i w_is.1 terms.first)
  only_choice i has terms (Unsound j) w_is = absurd (none_never_some (first_refused_node spec program) i w_is.1 terms.first)
  only_choice i has terms NoAnnotation w_is = absurd (none_never_some (first_refused_node spec program) i w_is.0.nodes terms.first)
  only_choice i has terms Yes w_is = absurd (none_never_some (first_refused_node spec program) i w_is.0.nodes terms.first)

  only_foreign : (i : ℕ) → HasSignals spec program → first_refused_node spec program ≡ None → first_foreign_window spec program ≡ Some i →
      (w : Verdict) → IsVerdict spec program bound w → Foreign i ≡ w
  only_foreign i has nodes first Signals w_is = absurd (w_is has)
  only_foreign i has nodes first (Test j) w_is = absurd (none_never_some (first_refused_node spec program) j nodes w_is.1.first)
  only_foreign i has nodes first (Choice j) w_is = absurd (none_never_some (first_refused_node spec program) j nodes w_is.1.first)
  only_foreign i has nodes first (Foreign j) w_is = ap Foreign (one_value (first_foreign_window spec program) i j first w_is.2)
  only_foreign i has nodes first (Unsound j) w_is = absurd (none_never_some (first_foreign_window spec program) i w_is.2 first)
  only_foreign i has nodes first NoAnnotation w_is = absurd (none_never_some (first_foreign_window spec program) i w_is.0.foreign first)
  only_foreign i has nodes first Yes w_is = absurd (none_never_some (first_foreign_window spec program) i w_is.0.foreign first)

  only_unsound : (i : ℕ) → HasSignals spec program → first_refused_node spec program ≡ None → first_foreign_window spec program ≡ None →
      IsUnsoundAt spec program i → (w : Verdict) → IsVerdict spec program bound w → Unsound i ≡ w
  only_unsound i has nodes none at Signals w_is = absurd (w_is has)
  only_unsound i has nodes none at (Test j) w_is = absurd (none_never_some (first_refused_node spec program) j nodes w_is.1.first)
  only_unsound i has nodes none at (Choice j) w_is = absurd (none_never_some (first_refused_node spec program) j nodes w_is.1.first)
  only_unsound i has nodes none at (Foreign j) w_is = absurd (none_never_some (first_foreign_window spec program) j none w_is.2)
  only_unsound i has nodes none at (Unsound j) w_is = ap Unsound (one_unsound spec program i j at w_is.3)
  only_unsound i has nodes none at NoAnnotation w_is = absurd (never_sound spec program i at w_is.0.sound)
  only_unsound i has nodes none at Yes w_is = absurd (never_sound spec program i at w_is.0.sound)

  only_no_annotation : IsOverBits spec program → (HasAnnotation spec program bound → ⊥) →
      (w : Verdict) → IsVerdict spec program bound w → NoAnnotation ≡ w
  only_no_annotation over none Signals w_is = absurd (w_is over.signals)
  only_no_annotation over none (Test j) w_is = absurd (none_never_some (first_refused_node spec program) j over.nodes w_is.1.first)
  only_no_annotation over none (Choice j) w_is = absurd (none_never_some (first_refused_node spec program) j over.nodes w_is.1.first)
  only_no_annotation over none (Foreign j) w_is = absurd (none_never_some (first_foreign_window spec program) j over.foreign w_is.2)
  only_no_annotation over none (Unsound j) w_is = absurd (never_sound spec program j w_is.3 over.sound)
  only_no_annotation over none NoAnnotation w_is = refl
  only_no_annotation over none Yes w_is = absurd (none w_is.1)

  only_yes : IsOverBits spec program → HasAnnotation spec program bound → (w : Verdict) → IsVerdict spec program bound w → Yes ≡ w
  only_yes over found Signals w_is = absurd (w_is over.signals)
  only_yes over found (Test j) w_is = absurd (none_never_some (first_refused_node spec program) j over.nodes w_is.1.first)
  only_yes over found (Choice j) w_is = absurd (none_never_some (first_refused_node spec program) j over.nodes w_is.1.first)
  only_yes over found (Foreign j) w_is = absurd (none_never_some (first_foreign_window spec program) j over.foreign w_is.2)
  only_yes over found (Unsound j) w_is = absurd (never_sound spec program j w_is.3 over.sound)
  only_yes over found NoAnnotation w_is = absurd (w_is.1.none found)
  only_yes over found Yes w_is = refl

  pub at_most_one : (v w : Verdict) → IsVerdict spec program bound v → IsVerdict spec program bound w → v ≡ w
  at_most_one Signals w v_is w_is = only_signals v_is w w_is
  at_most_one (Test i) w v_is w_is = only_test i v_is.0 v_is.1 w w_is
  at_most_one (Choice i) w v_is w_is = only_choice i v_is.0 v_is.1 w w_is
  at_most_one (Foreign i) w v_is w_is = only_foreign i v_is.0 v_is.1 v_is.2 w w_is
  at_most_one (Unsound i) w v_is w_is = only_unsound i v_is.0 v_is.1 v_is.2 v_is.3 w w_is
  at_most_one NoAnnotation w v_is w_is = only_no_annotation v_is.0 v_is.1.none w w_is
  at_most_one Yes w v_is w_is = only_yes v_is.0 v_is.1 w w_is
