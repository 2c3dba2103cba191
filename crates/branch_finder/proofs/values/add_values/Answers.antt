use Rattle.std.proofs.Common.{◌≡◌, ◌∙◌, ◌+◌, ◌++◌, ◌∷◌, [], List, ℕ, map, drop, sym, ap}
use Rattle.std.proofs.lemmas.List.{append_assoc}
use Rattle.base_library.proofs.Lists.{left_at}
use Rattle.tsl_terms.specs.declared.term.Probe.{Probe}
use Rattle.tsl_terms.specs.TermTree.{term_trees, probe_tree}
use Rattle.branch_finder.specs.internal.Values.{mixed, values_by, probe_value, value_in}
use Rattle.branch_finder.proofs.values.add_values.Goals as goal

pub loop-probe-preserved : goal.loop-probe-preserved
loop-probe-preserved c =
    let known = c.args.known.now in
    let at = value_in known.cells.now known.values.now known.step in
    let probe = c.probe-item.result in
    let index = c.loop-probe.probe-index in
    let rest = map (probe_value at) (map probe_tree (drop (index + 1) c.args.predicates.now)) in
    let made : c.values_of.result ≡ probe_value at (probe_tree probe)
    = c.values_of.ensures ∙ ap (λ n. values_by at n (term_trees probe.arguments)) (c.mixed.ensures ∙ ap (mixed 2) c.from.ensures) in
    ap (λ (vs : List ℕ). vs ++ rest) (c.in_ok-push.ensures.items ∙ ap (λ v. c.loop-probe.values.items ++ v ∷ []) made)
    ∙ append_assoc c.loop-probe.values.items (probe_value at (probe_tree probe) ∷ []) rest
    ∙ ap (λ (ps : List Probe). c.loop-probe.values.items ++ map (probe_value at) (map probe_tree ps))
    (sym (left_at c.args.predicates.now index probe c.loop-probe-test.true c.probe-item.is))
    ∙ c.loop-probe.invariant
