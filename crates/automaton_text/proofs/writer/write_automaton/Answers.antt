use Rattle.std.proofs.Common.{◌∙◌, ◌++◌, ap, sym}
use Rattle.tsl_text.specs.Written.{text_of_lines}
use Rattle.letter_space.specs.SpaceView.{space_tree}
use Rattle.cobuchi_automata.specs.Edges.{edge_trees}
use Rattle.annotation_check.specs.EdgeLists.{edge_lists}
use Rattle.automaton_text.specs.BitNames.{bit_names}
use Rattle.automaton_text.specs.HoaText.{header_lines}
use Rattle.automaton_text.specs.internal.Written.{listed_lines}
use Rattle.automaton_text.proofs.Writing.{names_length, automaton_written}
use Rattle.automaton_text.proofs.writer.write_automaton.Goals as goal

pub returns : goal.returns
returns c =
    let names = bit_names c.args.names.now (space_tree c.args.space.now) in
    automaton_written names c.bit_count.result c.args.automaton.now.states (edge_trees c.args.automaton.now.edges)
    (edge_lists c.in_ok-table.table.items) c.put_header.new.out.items c.put_states.new.out.items c.put_line.new.out.items
    (c.bit_count.ensures.count ∙ sym (names_length c.args.names.now (space_tree c.args.space.now)))
    c.in_ok-table.ensures
    (c.in_ok-put_header.ensures ∙ ap (λ o. o ++ text_of_lines (header_lines names c.args.automaton.now.states)) c.new-out.ensures.items)
    (c.in_ok-put_states.ensures
    ∙ ap (λ t. c.put_header.new.out.items ++ text_of_lines (listed_lines c.bit_count.result 0 (edge_lists t))) c.deref.ensures.value)
    c.in_ok-put_line.ensures
