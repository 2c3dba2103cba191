use Rattle.std.proofs.Common.{◌≡◌, ◌∙◌, List, subst, OnOk, ap, sym, All}
use Rattle.std.specs.List.{flat_map}
use Rattle.std.proofs.lemmas.List.Folds.{flat_map-map}
use Rattle.clause_core.specs.Literals.{Lit}
use Rattle.letter_space.specs.declared.controlled.Controlled.{Controlled}
use Rattle.letter_space.specs.ControlledView.{controlled_tree}
use Rattle.bounded_encoding.specs.Encoding.{signal_clauses, choices_under}
use Rattle.bounded_encoding.specs.Made.{with_clauses}
use Rattle.bounded_encoding.specs.Refusing.{Refuses}
use Rattle.bounded_encoding.specs.internal.Asking.{tree_of, IsPlaced}
use Rattle.bounded_encoding.proofs.Placed.{placed_signals}
use Rattle.bounded_encoding.proofs.choice_clauses.add_choices_under.Goals as goal

listed : (c : goal.After-add_signals)
    → flat_map (λ g. signal_clauses (tree_of c.args.question.now) c.args.s c.args.v (controlled_tree g)) c.as_slice.result.now
    ≡ choices_under (tree_of c.args.question.now) c.args.s c.args.v
listed c = ap (flat_map (λ g. signal_clauses (tree_of c.args.question.now) c.args.s c.args.v (controlled_tree g))) c.as_slice.ensures
    ∙ sym (flat_map-map (signal_clauses (tree_of c.args.question.now) c.args.s c.args.v) controlled_tree
    c.args.question.now.space.now.controlled)

pub add_signals-requires-clause-placed : goal.add_signals-requires-clause-placed
add_signals-requires-clause-placed c = subst
    (λ (gs : List Controlled). All (λ g. IsPlaced (tree_of c.args.question.now) (controlled_tree g)) gs)
    (sym c.as_slice.ensures) (placed_signals c.args.question.now)

pub returns-clause-added : goal.returns-clause-added
returns-clause-added c = subst
    (λ (more : List (List Lit)). OnOk c.add_signals.result (c.add_signals.new.out ≡ with_clauses c.args.out.now more))
    (listed c) c.add_signals.ensures.added

pub returns-clause-refused : goal.returns-clause-refused
returns-clause-refused c = subst (λ (more : List (List Lit)). Refuses c.add_signals.result (with_clauses c.args.out.now more))
    (listed c) c.add_signals.ensures.refused
