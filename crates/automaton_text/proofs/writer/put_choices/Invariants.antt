-- What is written and what is left make the whole.
use Rattle.std.proofs.Common.{◌≡◌, ◌++◌, map, drop}
use Rattle.std.specs.Prelude.{flat_map}
use Rattle.tsl_terms.specs.TermTree.{term_tree}
use Rattle.term_text.specs.TermText.{update_text}
use Rattle.automaton_text.specs.HoaText.{quoted_text}
use Rattle.automaton_text.proofs.writer.put_choices.Given as goal

abbrev pub invariant-loop-choice : goal.invariant-loop-choice
invariant-loop-choice l =
    l.out.items ++ flat_map quoted_text (map (update_text l.names l.signal) (map term_tree (drop l.choice-index l.choices)))
    ≡ l.fn.out.items ++ flat_map quoted_text (map (update_text l.names l.signal) (map term_tree l.choices))
