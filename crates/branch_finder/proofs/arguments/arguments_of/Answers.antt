use Rattle.std.proofs.Common.{◌≡◌, ◌∙◌, ◌++◌, ◌∷◌, [], ◌+◌, suc, List, map, length, slice_get, Some, refl, sym, ap, arith}
use Rattle.std.proofs.lemmas.List.{length-map}
use Rattle.std.proofs.lemmas.Option.{slice_get_read}
use Rattle.tsl_terms.specs.declared.term.Probe.{Probe}
use Rattle.tsl_terms.specs.TermTree.{TermTree, term_tree, probe_tree, terms_in}
use Rattle.letter_space.proofs.Places.{slice_get_image}
use Rattle.branch_finder.specs.internal.Arguments.{start_of}
use Rattle.branch_finder.proofs.ArgumentLemmas.{arguments_more, starts_more}
use Rattle.branch_finder.proofs.arguments.arguments_of.Goals as goal

pub loop-probe-preserved : goal.loop-probe-preserved
loop-probe-preserved c =
    let probes = map probe_tree c.args.space.now.predicates in
    let slice = c.as_slice-probe-items.result.now in
    let index = c.loop-probe.probe-index in
    let item = c.probe-item.result in
    let there : slice_get probes index ≡ Some (probe_tree item)
    = ap (λ (ps : List Probe). slice_get (map probe_tree ps) index) (sym c.as_slice-probe-items.ensures)
    ∙ slice_get_image probe_tree slice index item
    (slice_get_read slice (length slice) index item refl c.loop-probe-test.true c.probe-item.is) in
    let sized : c.len.result ≡ start_of probes index
    = c.len.ensures ∙ c.loop-probe.terms.ok.0 ∙ sym (length-map c.loop-probe.terms.items term_tree)
    ∙ ap length c.loop-probe.invariant.terms in
    record {
      terms = c.in_ok-add_terms.ensures ∙ ap (λ (ts : List TermTree). ts ++ terms_in (probe_tree item).arguments)
          c.loop-probe.invariant.terms
          ∙ sym (arguments_more probes index (probe_tree item) there);
      starts = c.in_ok-push.ensures.items ∙ (λ i. c.loop-probe.invariant.starts i ++ sized i ∷ [])
          ∙ sym (starts_more probes index (index + 1) (omega arith));
    }

pub returns-clause-starts : goal.returns-clause-starts
returns-clause-starts c =
    let probes = map probe_tree c.args.space.now.predicates in
    let index = c.loop-probe.probe-index in
    let end : index ≡ length probes = omega (
      arith,
      c.loop-probe-test.false,
      c.loop-probe.auto.probe-index-end,
      ap length c.as_slice-probe-items.ensures,
      length-map c.args.space.now.predicates probe_tree,
    ) in
    let sized : c.len-2.result ≡ start_of probes index
    = c.len-2.ensures ∙ c.loop-probe.terms.ok.0 ∙ sym (length-map c.loop-probe.terms.items term_tree)
    ∙ ap length c.loop-probe.invariant.terms in
    c.in_ok-push-2.ensures.items ∙ (λ i. c.loop-probe.invariant.starts i ++ sized i ∷ [])
    ∙ sym (starts_more probes index (suc (length probes)) (omega (arith, end)))
