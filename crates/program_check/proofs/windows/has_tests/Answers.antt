use Rattle.std.proofs.Common.{◌∙◌, Bool, true, false, refl, sym, ap}
use Rattle.std.specs.Prelude.{is_some}
use Rattle.std.specs.List.{list_all}
use Rattle.std.proofs.lemmas.Bool.{false≢true}
use Rattle.tsl_terms.specs.declared.window.Equated.{Equated}
use Rattle.tsl_terms.specs.TermTree.{ProbeTree, probe_tree}
use Rattle.tsl_terms.specs.WindowTree.{window_tree}
use Rattle.letter_space.specs.SpaceView.{space_tree}
use Rattle.letter_space.specs.Bits.{bit_of_probe}
use Rattle.program_check.proofs.WindowTests.{equalities_pass, left_passes, all_pass}
use Rattle.program_check.proofs.windows.has_tests.Goals as goal
use Rattle.program_check.proofs.windows.has_tests.Goals.{then-are_tests, else-are_tests}

pub returns-then-is_test_if_some : goal.returns-then-is_test_if_some
returns-then-is_test_if_some c =
    let has : ProbeTree → Bool = λ p. is_some (bit_of_probe (space_tree c.args.space.now) p) in
    let window = c.args.window.now in
    let listed = c.are_tests.ensures ∙ ap (list_all (λ (e : Equated). has (probe_tree e.probe))) c.as_slice.ensures
    ∙ equalities_pass has window.equalities in
    elim c.if-are_tests.branch [
      | then-are_tests w ↦ sym (all_pass has (window_tree window) true true c.is_test.result (sym listed ∙ w.if-are_tests.true)
          (sym (w.is_test_if_some.ensures ∙ left_passes has window.left) ∙ sym w.value-is ∙ c.if-is_test_if_some.true)
          (sym c.is_test.ensures))
      | else-are_tests w ↦ absurd (false≢true (sym w.if-are_tests.false ∙ sym w.value-is ∙ c.if-is_test_if_some.true))
    ]

pub returns-else-is_test_if_some : goal.returns-else-is_test_if_some
returns-else-is_test_if_some c =
    let has : ProbeTree → Bool = λ p. is_some (bit_of_probe (space_tree c.args.space.now) p) in
    let window = c.args.window.now in
    let listed = c.are_tests.ensures ∙ ap (list_all (λ (e : Equated). has (probe_tree e.probe))) c.as_slice.ensures
    ∙ equalities_pass has window.equalities in
    c.if-is_test_if_some.false ∙ sym (elim c.if-are_tests.branch [
      | then-are_tests w ↦ all_pass has (window_tree window) true false (has (window_tree window).right)
          (sym listed ∙ w.if-are_tests.true)
          (sym (w.is_test_if_some.ensures ∙ left_passes has window.left) ∙ sym w.value-is ∙ c.if-is_test_if_some.false) refl
      | else-are_tests w ↦ all_pass has (window_tree window) false _ _ (sym listed ∙ w.if-are_tests.false) refl refl
    ])
