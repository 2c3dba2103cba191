use Rattle.std.proofs.Common.{◌≡◌, ◌∙◌, None, Option, not, map, rules, refl, sym, ap, subst}
use Rattle.std.specs.Prelude.{IfNone}
use Rattle.std.specs.List.{position}
use Rattle.std.proofs.lemmas.List.Quantifiers.{position-Some}
use Rattle.program_tree.specs.NodeTree.{NodeTree, node_tree}
use Rattle.program_tree.proofs.Walking.{node_read}
use Rattle.letter_space.specs.SpaceView.{space_tree}
use Rattle.letter_space.proofs.Places.{position-map}
use Rattle.control_flow_model.specs.ProgramBits.{node_has_bits}
use Rattle.program_check.specs.declared.verdict.Verdict.{Verdict}
use Rattle.program_check.proofs.bits.refused_node.Goals as goal

pub returns-in_err-place-clause-none : goal.returns-in_err-place-clause-none
returns-in_err-place-clause-none c =
    let none : c.from_residual.result ≡ None = search rules in
    subst (λ (o : Option Verdict). IfNone o (position (λ n. not (node_has_bits (space_tree c.args.space.now) n))
    (map node_tree c.args.program.now.nodes) ≡ None)) (sym none)
    (position-map node_tree (λ n. not (node_has_bits (space_tree c.args.space.now) n)) c.args.program.now.nodes
    ∙ ap (position _) (sym c.as_slice.ensures) ∙ sym c.first_refused.ensures ∙ c.in_err-place.was)

pub returns-clause-some : goal.returns-clause-some
returns-clause-some c =
    let test : NodeTree → _ = λ n. not (node_has_bits (space_tree c.args.space.now) n) in
    let first = position-map node_tree test c.args.program.now.nodes ∙ ap (position _) (sym c.as_slice.ensures)
    ∙ sym c.first_refused.ensures ∙ c.in_ok-place.was in
    let node = node_tree c.index-as_slice-place.result in
    record {
      place = c.in_ok-place.place;
      first = first;
      node = node;
      there = node_read _ _ _ _ c.index-as_slice-place.result c.as_slice-2.ensures
          (position-Some test (map node_tree c.args.program.now.nodes) c.in_ok-place.place node first).0 c.index-as_slice-place.is refl;
      is = c.verdict_on.ensures;
    }
