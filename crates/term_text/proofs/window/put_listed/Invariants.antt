-- What is written and what is left make the whole.
use Rattle.std.proofs.Common.{◌≡◌, ◌++◌, map, flat_map, drop}
use Rattle.tsl_text.specs.Division.{BeginsWith}
use Rattle.tsl_terms.specs.WindowTree.{listed_tree}
use Rattle.term_text.specs.WindowText.{listed_text}
use Rattle.term_text.proofs.window.put_listed.Given as goal

abbrev pub invariant-loop-update : goal.invariant-loop-update
invariant-loop-update l = record {
  written : l.out.items ++ flat_map (listed_text l.names) (map listed_tree (drop l.update-index l.updates))
      ≡ l.fn.out.items ++ flat_map (listed_text l.names) (map listed_tree l.updates);
  front : BeginsWith l.out.items l.fn.out.items;
}
