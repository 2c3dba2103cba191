use Rattle.std.proofs.Common.{[], map, sym, ap, ◌∙◌}
use Rattle.std.proofs.lemmas.List.Folds.{flat_map-map}
use Rattle.tsl_terms.specs.TermTree.{term_tree}
use Rattle.tsl_terms.specs.AtomView.{atom_tree}
use Rattle.tsl_terms.specs.SameTree.{same_tree}
use Rattle.tsl_terms.specs.Signals.{term_for}
use Rattle.base_library.specs.Kept.{with_new}
use Rattle.tsl_terms.proofs.AtomLoops.{with_new-next, with_new-all}
use Rattle.tsl_terms.proofs.choosing.terms_for.Goals as goal

pub loop-atom-init : goal.loop-atom-init
loop-atom-init c = ap (map term_tree) c.new-terms.ensures.items

pub loop-atom-preserved : goal.loop-atom-preserved
loop-atom-preserved c =
    with_new-next same_tree (λ a. term_for c.args.signal (atom_tree a)) c.args.atoms.now c.loop-atom.atom-index c.atom-item.result _ _
    c.loop-atom-test.true c.atom-item.is c.loop-atom.invariant c.in_ok-add_term_for.ensures

pub returns : goal.returns
returns c =
    with_new-all same_tree
    (λ a. term_for c.args.signal (atom_tree a)) c.args.atoms.now c.loop-atom.atom-index _ c.loop-atom-test.false c.loop-atom.invariant
    ∙ ap (with_new same_tree []) (sym (flat_map-map (term_for c.args.signal) atom_tree c.args.atoms.now))
