use Rattle.std.proofs.Common.{◌∙◌, ◌+◌, length, List, ℕ, sym, ap, subst, arith, rules}
use Rattle.std.proofs.lemmas.List.{length_push}
use Rattle.controller_circuits.specs.internal.Gates.{gates_tree}
use Rattle.controller_circuits.specs.internal.Tables.{AreChosen}
use Rattle.controller_circuits.proofs.TableLemmas.{none_chosen, one_more_chosen}
use Rattle.controller_circuits.proofs.halving.halved.Goals as goal

pub loop-place-init : goal.loop-place-init
loop-place-init c = record {
  count = search rules;
  chosen = subst (λ (ls : List ℕ). AreChosen (gates_tree c.args.gates.now)
      (gates_tree c.args.gates.now) c.args.test c.args.literals.now ls)
      (sym c.new-made.ensures.items) (none_chosen (gates_tree c.args.gates.now) c.args.test c.args.literals.now);
}

pub loop-place-preserved : goal.loop-place-preserved
loop-place-preserved c = record {
  count = ap length c.in_ok-push.ensures.items ∙ length_push c.loop-place.made.items c.in_ok-chosen.field-0 ∙ ap
      (λ n. n + 1) c.loop-place.invariant.count;
  chosen = subst (λ (ls : List ℕ). AreChosen (gates_tree c.args.gates.now)
      (gates_tree c.chosen.new.self) c.args.test c.args.literals.now ls)
      (sym c.in_ok-push.ensures.items)
      (one_more_chosen (gates_tree c.args.gates.now) (gates_tree c.loop-place.gates)
      (gates_tree c.chosen.new.self) c.args.test c.args.literals.now
      c.loop-place.made.items c.loop-place.place c.in_ok-chosen.field-0 c.loop-place.invariant.count
      (omega arith) c.requires.test c.requires.literals
      c.loop-place.invariant.chosen c.in_ok-chosen.ensures.gives c.in_ok-chosen.ensures.same);
}
