use Rattle.std.proofs.Common.{[], ◌∷◌}
use Rattle.std.specs.Prelude.{IsTrue}
use Rattle.interp_core.specs.FreeView.{free_tree}
use Rattle.interp_core.specs.internal.LeavesWithin.{leaves_within}
use Rattle.terms_tests.proofs.evaluation.both_sides_of_a_congruent_window_have_one_image.Given as goal

abbrev pub invariant-loop-before : goal.invariant-loop-before
invariant-loop-before g l =
    (IsTrue (leaves_within (3 ∷ 5 ∷ []) 2 (free_tree l.left)) × IsTrue (leaves_within (3 ∷ 5 ∷ []) 2 (free_tree l.right)))
    × (IsTrue (leaves_within (3 ∷ 5 ∷ []) 2 (free_tree l.later)) × IsTrue (leaves_within (3 ∷ 5 ∷ []) 2 (free_tree l.other)))

abbrev pub invariant-loop-now : goal.invariant-loop-now
invariant-loop-now g l =
    (IsTrue (leaves_within (3 ∷ 5 ∷ []) 2 (free_tree l.left)) × IsTrue (leaves_within (3 ∷ 5 ∷ []) 2 (free_tree l.right)))
    × (IsTrue (leaves_within (3 ∷ 5 ∷ []) 2 (free_tree l.later)) × IsTrue (leaves_within (3 ∷ 5 ∷ []) 2 (free_tree l.other)))
