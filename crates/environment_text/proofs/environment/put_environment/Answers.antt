use Rattle.std.proofs.Common.{◌≡◌, ℕ, List, ◌++◌, map, codes, ap, subst, ◌∙◌}
use Rattle.std.specs.Prelude.{flat_map, OnOk}
use Rattle.std.specs.List.{range_with_len}
use Rattle.tsl_terms.specs.TermTree.{probe_tree}
use Rattle.letter_space.specs.SpaceView.{space_tree}
use Rattle.machines.specs.MachineView.{environment_tree}
use Rattle.environment_text.specs.EnvironmentText.{count_line, tests_text, vector_line, state_line}
use Rattle.environment_text.proofs.Pieces.{four_pieces}
use Rattle.environment_text.proofs.environment.put_environment.Goals as goal

pub returns : goal.returns
returns c =
    subst (λ (ys : List ℕ). OnOk c.put_states.result (c.put_states.new.out.items ≡ ys))
    (ap (λ (n : ℕ). c.put_vectors.new.out.items
    ++ flat_map (state_line n (environment_tree c.args.environment.now)) (range_with_len 0 c.args.environment.now.states))
    c.test_count.ensures.count
    ∙ four_pieces c.args.out.now.items (count_line (codes "environment") c.args.environment.now.states)
    (tests_text c.args.names.now 0 (map probe_tree c.args.space.now.predicates))
    (flat_map (vector_line c.args.names.now (space_tree c.args.space.now).controlled) (range_with_len 0 c.args.environment.now.vectors))
    _ _ _ _
    (c.in_ok-put_count.ensures ∙ ap (λ (n : ℕ). c.args.out.now.items ++ count_line (codes "environment") n) c.from.ensures)
    (c.in_ok-put_tests.ensures ∙ ap (λ ps. c.put_count.new.out.items ++ tests_text c.args.names.now 0 (map probe_tree ps)) c.as_slice.ensures)
    c.in_ok-put_vectors.ensures)
    c.put_states.ensures
