use Rattle.std.proofs.Common.{◌≡◌, ℕ, ◌+◌, ◌<◌, Bool, length, get_or, drop, List, ◌++◌, map, ap, sym, ◌∙◌, add-one, subst, IsTrue}
use Rattle.std.specs.List.{list_all}
use Rattle.base_library.proofs.Passes.{map_passes_within}
use Rattle.base_library.proofs.Lists.{written_step, left_at}
use Rattle.tsl_terms.specs.Name.{Name}
use Rattle.tsl_meaning.specs.declared.run.Position.{Position}
use Rattle.tsl_meaning.specs.RunTree.{RunTree, position_tree, run_tree}
use Rattle.trace_text.specs.TraceText.{positions_text, position_text, position_is_held}
use Rattle.trace_text.proofs.put_positions.Goals as goal

passes_at : {A B : Type 0} (f : A → B) (test : B → Bool) (items xs : List A) (i : ℕ) (x : A) → items ≡ xs →
    IsTrue (list_all test (map f xs)) → i < length items → x ≡ get_or items i x → IsTrue (test (f x))
passes_at f test items xs i x same h within is =
    let passes : IsTrue (list_all test (map f items)) = subst (λ (ys : List _). IsTrue (list_all test (map f ys))) (sym same) h in
    subst (λ y. IsTrue (test (f y))) (sym is) (map_passes_within f test items i x passes within)

pub put_position-requires-clause-terms : goal.put_position-requires-clause-terms
put_position-requires-clause-terms c =
    passes_at (position_tree (λ v. v)) (position_is_held c.args.names.now) c.as_slice-position-items.result.now c.args.run.now.positions
    c.loop-number.number c.position-item.result c.as_slice-position-items.ensures c.requires.held.positions
    c.loop-number-test.true c.position-item.is

positions_left : (names : List Name) (run : RunTree ℕ) (positions : List (Position ℕ)) (i : ℕ) (p : Position ℕ) →
    i < length positions → p ≡ get_or positions i p →
    positions_text names run i (map (position_tree (λ v. v)) (drop i positions)) ≡ position_text names run i (position_tree (λ v. v) p)
    ++ positions_text names run (i + 1) (map (position_tree (λ v. v)) (drop (i + 1) positions))
positions_left names run positions i p within is =
    ap (λ (ps : List (Position ℕ)). positions_text names run i (map (position_tree (λ v. v)) ps)) (left_at positions i p within is)
    ∙ ap (λ (k : ℕ). position_text names run i (position_tree (λ v. v) p)
    ++ positions_text names run k (map (position_tree (λ v. v)) (drop (i + 1) positions)))
    (sym (add-one i))

positions_at : (names : List Name) (run : RunTree ℕ) (items positions : List (Position ℕ)) (i : ℕ) (p : Position ℕ) → items ≡ positions →
    i < length items → p ≡ get_or items i p →
    positions_text names run i (map (position_tree (λ v. v)) (drop i positions)) ≡ position_text names run i (position_tree (λ v. v) p)
    ++ positions_text names run (i + 1) (map (position_tree (λ v. v)) (drop (i + 1) positions))
positions_at names run items positions i p same within is =
    positions_left names run positions i p (subst (λ (ps : List (Position ℕ)). i < length ps) same within)
    (subst (λ (ps : List (Position ℕ)). p ≡ get_or ps i p) same is)

pub loop-number-preserved : goal.loop-number-preserved
loop-number-preserved c =
    written_step _ _ _ _ _ _ c.loop-number.invariant
    (positions_at c.args.names.now (run_tree (λ v. v) c.args.run.now) c.as_slice-position-items.result.now c.args.run.now.positions
    c.loop-number.number c.position-item.result c.as_slice-position-items.ensures c.loop-number-test.true c.position-item.is)
    c.in_ok-put_position.ensures
