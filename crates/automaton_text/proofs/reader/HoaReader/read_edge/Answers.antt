use Rattle.std.proofs.Common.{◌∙◌, ◌++◌, ◌∷◌, [], ap}
use Rattle.cobuchi_automata.specs.Edges.{edge_trees}
use Rattle.automaton_text.specs.HoaLines.{may_join, edge_with}
use Rattle.automaton_text.specs.HoaView.{kept_edges, literal_trees, reader_state}
use Rattle.automaton_text.proofs.Reading.{edge_read}
use Rattle.automaton_text.proofs.reader.HoaReader.read_edge.Goals as goal

pub returns-clause-read : goal.returns-clause-read
returns-clause-read c _ =
    edge_read c.args.self.now c.keep.new.self c.args.line.now c.in-Some.label.now c.in-Some.to c.in-Some.rejecting
    (literal_trees c.in-Some-2.literals.items) c.may_join.result c.requires.past c.in-Some.ensures.some
    (rw c.in-Some-2.is at c.in_ok-literals.ensures)
    (c.may_join.ensures
    ∙ ap (λ ls. may_join (reader_state c.args.self.now) (literal_trees ls) c.in-Some.to) c.deref.ensures.value)
    c.if-not-may_join.false
    (c.in_ok-keep.ensures.edges
    ∙ ap
    (λ ls. kept_edges c.args.self.now.bits c.args.self.now.states
    (edge_trees c.args.self.now.edges.items
    ++ edge_with (reader_state c.args.self.now) (literal_trees ls) c.in-Some.to c.in-Some.rejecting ∷ []))
    c.deref-2.ensures.value)
    c.keep.ensures.kept
