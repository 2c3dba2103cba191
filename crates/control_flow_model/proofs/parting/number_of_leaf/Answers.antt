use Rattle.std.proofs.Common.{◌≡◌, ◌∙◌, subst}
use Rattle.machines.specs.MachineTree.{EntryTree}
use Rattle.machines.specs.MachineView.{entry_tree}
use Rattle.control_flow_model.specs.DecisionTree.{leaf}
use Rattle.control_flow_model.specs.internal.Parts.{part_keys, AddsTree}
use Rattle.control_flow_model.proofs.OkAnswers.{ok_from, ok_has, value_has}
use Rattle.control_flow_model.proofs.PartLemmas.{leaf_added}
use Rattle.control_flow_model.proofs.parting.number_of_leaf.Goals as goal

pub returns : goal.returns
returns c =
    let copied : c.in_ok-choices.choices.items ≡ c.args.entry.now.choices =
    c.in_ok-choices.ensures.items_if_clones_equal (λ x y e. e) ∙ c.as_slice.ensures in
    let e : EntryTree = record { choices = c.in_ok-choices.choices.items; next = c.args.entry.now.next } in
    let same : e ≡ entry_tree c.args.entry.now = λ i. record { choices = copied i; next = c.args.entry.now.next } in
    ok_from c.number_of_part.result _ (λ n is.
    subst (λ (x : EntryTree). AddsTree (part_keys c.args.parts.now.keys) (part_keys c.number_of_part.new.parts.keys) (leaf x) n) same
    (leaf_added (part_keys c.args.parts.now.keys) (part_keys c.number_of_part.new.parts.keys) e n
    (ok_has c.number_of_part.result _ n is c.number_of_part.ensures.kept)
    (value_has c.number_of_part.result _ n is c.number_of_part.ensures.there)))
