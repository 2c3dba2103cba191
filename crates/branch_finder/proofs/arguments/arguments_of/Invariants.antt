use Rattle.std.proofs.Common.{◌≡◌, map, take}
use Rattle.base_library.specs.Numbers.{numbers_from}
use Rattle.tsl_terms.specs.TermTree.{term_tree}
use Rattle.letter_space.specs.SpaceView.{space_tree}
use Rattle.branch_finder.specs.internal.Arguments.{arguments_of, start_of}
use Rattle.branch_finder.proofs.arguments.arguments_of.Given as goal

-- the arguments of those gone through, and where they begin
abbrev pub invariant-loop-probe : goal.invariant-loop-probe
invariant-loop-probe l = record {
  terms : map term_tree l.terms.items ≡ arguments_of (take l.probe-index (space_tree l.space).predicates);
  starts : l.starts.items ≡ map (start_of (space_tree l.space).predicates) (numbers_from 0 l.probe-index);
}
