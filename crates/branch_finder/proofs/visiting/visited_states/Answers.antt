use Rattle.std.proofs.Common.{◌∙◌, [], ◌∷◌, ◌++◌, ap, arith}
use Rattle.machines.specs.MachineView.{environment_tree}
use Rattle.branch_finder.proofs.VisitLemmas.{is_environment, found_first, few_found, are_visited}
use Rattle.branch_finder.proofs.visiting.visited_states.Goals as goal

pub loop-expanded-init : goal.loop-expanded-init
loop-expanded-init c =
    found_first (environment_tree c.args.environment.now) c.push.new.self.items
    (c.in_ok-push.ensures.items ∙ ap (λ ns. ns ++ 0 ∷ []) c.new-found.ensures.items)

pub loop-expanded-smaller : goal.loop-expanded-smaller
loop-expanded-smaller c =
    let few = few_found (environment_tree c.args.environment.now) (is_environment c.args.environment.now) c.loop-expanded.expanded 0
    c.loop-expanded.found.items c.loop-expanded.invariant in
    omega (arith, few, c.loop-expanded-test.true, c.len.ensures)

pub returns : goal.returns
returns c =
    are_visited (environment_tree c.args.environment.now) c.loop-expanded.found.items c.loop-expanded.expanded
    (omega (arith, c.loop-expanded-test.false, c.len.ensures)) c.loop-expanded.invariant
