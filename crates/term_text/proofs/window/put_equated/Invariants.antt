-- What is written and what is left make the whole.
use Rattle.std.proofs.Common.{◌≡◌, ◌++◌, map, flat_map, drop}
use Rattle.tsl_text.specs.Division.{BeginsWith}
use Rattle.tsl_terms.specs.WindowTree.{equated_tree}
use Rattle.term_text.specs.WindowText.{equated_text}
use Rattle.term_text.proofs.window.put_equated.Given as goal

abbrev pub invariant-loop-equality : goal.invariant-loop-equality
invariant-loop-equality l = record {
  written : l.out.items ++ flat_map (equated_text l.names) (map equated_tree (drop l.equality-index l.equalities))
      ≡ l.fn.out.items ++ flat_map (equated_text l.names) (map equated_tree l.equalities);
  front : BeginsWith l.out.items l.fn.out.items;
}
