use Rattle.std.proofs.Common.{map, rules}
use Rattle.std.proofs.lemmas.List.{length-map}
use Rattle.tsl_terms.specs.WindowTree.{window_tree}
use Rattle.program_tree.specs.NodeTree.{node_tree}
use Rattle.program_tree.specs.ProgramTree.{ProgramTree}
use Rattle.flow_program.specs.ProgramText.{ProgramText}
use Rattle.program_listing.specs.Listing.{listing_tree}
use Rattle.flow_program.specs.internal.Numbering.{Numbered}
use Rattle.flow_program.proofs.KeptProgram.{kept_program}
use Rattle.flow_program.proofs.numbering.numbered_program.Goals as goal

pub invariant_of-result : goal.invariant_of-result
invariant_of-result c =
    let names = c.args.names.now in
    let text = c.args.text.now in
    let p : ProgramTree = record {
      inputs = c.in_ok-inputs.inputs;
      cells = c.in_ok-cells.cells;
      outputs = c.in_ok-outputs.outputs;
      windows = map window_tree c.in_ok-windows.windows;
      nodes = map node_tree c.in_ok-nodes.nodes;
      states = c.in_ok-states.states;
    } in
    let numbers : Numbered names text (listing_tree c.args.listing.now) p = search rules in
    let spelled : ProgramText text names p = kept_program names text (listing_tree c.args.listing.now) c.requires.program p numbers in
    search (rules, spelled.is_program, length-map c.in_ok-nodes.nodes node_tree)
