use Rattle.std.proofs.Common.{◌≡◌, false, length, map, replicate, sym, ap, ◌∙◌, rules}
use Rattle.std.specs.List.{list_any}
use Rattle.tsl_terms.specs.Atoms.{atoms}
use Rattle.tsl_terms.specs.AtomView.{atom_tree}
use Rattle.tsl_terms.specs.SpecTree.{whole_formula}
use Rattle.tsl_terms.specs.SpecView.{spec_tree}
use Rattle.tsl_terms.specs.Signals.{atom_reads, atom_updates, formula_reads, formula_updates}
use Rattle.base_library.proofs.Passes.{list_any-map}
use Rattle.tsl_terms.proofs.MarkLemmas.{mark_none}
use Rattle.tsl_terms.proofs.AtomLoops.{marked-next, marked-all}
use Rattle.tsl_terms.proofs.marks.marks_of.Goals as goal

pub loop-atom-init : goal.loop-atom-init
loop-atom-init c =
    let updated : c.in_ok-vec.field-0.items ≡ replicate (length c.args.spec.now.names) false = search rules in
    let read : c.in_ok-vec-2.field-0.items ≡ replicate (length c.args.spec.now.names) false = search rules in
    (updated ∙ sym (mark_none _), read ∙ sym (mark_none _))

pub loop-atom-preserved : goal.loop-atom-preserved
loop-atom-preserved c = (
  marked-next (λ s a. atom_updates s (atom_tree a)) c.deref-atom-items.result.now c.loop-atom.atom-index _ c.atom-item.result _ _
      c.loop-atom-test.true c.atom-item.is c.loop-atom.invariant.0 c.mark_atom.ensures.updated,
  marked-next (λ s a. atom_reads s (atom_tree a)) c.deref-atom-items.result.now c.loop-atom.atom-index _ c.atom-item.result _ _
      c.loop-atom-test.true c.atom-item.is c.loop-atom.invariant.1 c.mark_atom.ensures.read,
)

pub returns-clause-updated : goal.returns-clause-updated
returns-clause-updated c =
    let are : map atom_tree c.deref-atom-items.result.now ≡ atoms (whole_formula (spec_tree c.args.spec.now)) =
    ap (map atom_tree) c.deref-atom-items.ensures.value ∙ c.in_ok-atoms.ensures in
    marked-all (λ s a. atom_updates s (atom_tree a)) c.deref-atom-items.result.now c.loop-atom.atom-index _
    (λ s. formula_updates s (whole_formula (spec_tree c.args.spec.now))) _
    c.loop-atom-test.false c.loop-atom.invariant.0
    (λ s. sym (list_any-map atom_tree (atom_updates s) c.deref-atom-items.result.now) ∙ ap (list_any (atom_updates s)) are)

pub returns-clause-read : goal.returns-clause-read
returns-clause-read c =
    let are : map atom_tree c.deref-atom-items.result.now ≡ atoms (whole_formula (spec_tree c.args.spec.now)) =
    ap (map atom_tree) c.deref-atom-items.ensures.value ∙ c.in_ok-atoms.ensures in
    marked-all (λ s a. atom_reads s (atom_tree a)) c.deref-atom-items.result.now c.loop-atom.atom-index _
    (λ s. formula_reads s (whole_formula (spec_tree c.args.spec.now))) _
    c.loop-atom-test.false c.loop-atom.invariant.1
    (λ s. sym (list_any-map atom_tree (atom_reads s) c.deref-atom-items.result.now) ∙ ap (list_any (atom_reads s)) are)
