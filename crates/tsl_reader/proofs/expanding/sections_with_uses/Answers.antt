use Rattle.std.proofs.Common.{map, sym, subst, arith}
use Rattle.spec_syntax.specs.SyntaxView.{section_syntax}
use Rattle.definition_expansion.specs.DefinitionView.{definition_of}
use Rattle.definition_expansion.specs.Uses.{IsOrder}
use Rattle.definition_expansion.specs.ExpansionSizes.{AreSizes}
use Rattle.tsl_reader.proofs.TextParts.{heads_are_names, in_order}
use Rattle.tsl_reader.proofs.ExpandedParts.{well_expanded, well_refused, all_well}
use Rattle.tsl_reader.proofs.expanding.sections_with_uses.Goals as goal

pub check_names-requires-clause-ordered : goal.check_names-requires-clause-ordered
check_names-requires-clause-ordered c = (
  (map section_syntax c.args.sections.now),
  (map definition_of c.args.definitions.now),
  in_order c.requires.parts c.in_ok-order.ensures.order,
)

pub sizes-requires-clause-heads : goal.sizes-requires-clause-heads
sizes-requires-clause-heads c = heads_are_names c.args.definitions.now c.requires.parts

pub sizes-requires-clause-order : goal.sizes-requires-clause-order
sizes-requires-clause-order c =
    subst (IsOrder (map definition_of c.args.definitions.now)) (sym c.deref.ensures.value) c.in_ok-order.ensures.order

pub check_uses-requires-clause-well : goal.check_uses-requires-clause-well
check_uses-requires-clause-well c = (
  (map section_syntax c.args.sections.now),
  (map definition_of c.args.definitions.now),
  all_well c.requires.parts c.in_ok-order.ensures.order c.in_ok-check_names.ensures.kinds c.in_ok-check_names.ensures.arities,
  subst (AreSizes _ _) (sym c.as_slice-sizes.ensures.value) c.in_ok-sizes.ensures,
)

pub returns-then-nodes_of_sections-gt-MOST_NODES-clause-cause : goal.returns-then-nodes_of_sections-gt-MOST_NODES-clause-cause
returns-then-nodes_of_sections-gt-MOST_NODES-clause-cause c =
    let ds = map definition_of c.args.definitions.now in
    let are = subst (AreSizes _ _) (sym c.as_slice-sizes.ensures.value) c.in_ok-sizes.ensures in
    let names = c.in_ok-check_names.ensures in
    well_refused (all_well c.requires.parts c.in_ok-order.ensures.order names.kinds names.arities) are (c.in_ok-check_uses.ensures.within ds are)
    (omega (arith, c.nodes_of_sections.ensures ds are, c.if-nodes_of_sections-gt-MOST_NODES.true))

pub expanded_sections-requires : goal.expanded_sections-requires
expanded_sections-requires c = heads_are_names c.args.definitions.now c.requires.parts

pub returns-clause-expanded : goal.returns-clause-expanded
returns-clause-expanded c =
    let ds = map definition_of c.args.definitions.now in
    let are = subst (AreSizes _ _) (sym c.as_slice-sizes.ensures.value) c.in_ok-sizes.ensures in
    let names = c.in_ok-check_names.ensures in
    rw c.in_ok-expanded_sections.ensures
    (well_expanded (all_well c.requires.parts c.in_ok-order.ensures.order names.kinds names.arities) are (c.in_ok-check_uses.ensures.within ds are)
    (omega (arith, c.nodes_of_sections.ensures ds are, c.if-nodes_of_sections-gt-MOST_NODES.false)))
