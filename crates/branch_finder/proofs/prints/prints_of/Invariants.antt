use Rattle.machines.specs.MachineView.{environment_tree}
use Rattle.branch_finder.proofs.PrintLemmas.{ArePrintsUpTo}
use Rattle.branch_finder.proofs.prints.prints_of.Given as goal

-- the prints of the states gone through
abbrev pub invariant-loop-truths : goal.invariant-loop-truths
invariant-loop-truths l = ArePrintsUpTo (environment_tree l.environment) l.mask l.truths-index l.prints.items
