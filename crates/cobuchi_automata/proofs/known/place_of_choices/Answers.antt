use Rattle.std.proofs.Common.{◌≡◌, ◌<◌, [], ◌∷◌, ◌++◌, length, sym, subst, rules, arith}
use Rattle.std.specs.List.{AllByRecursion}
use Rattle.obligations.specs.Numbers.{choice_keys, lent_trees}
use Rattle.cobuchi_automata.specs.internal.Exploring.{state_keys}
use Rattle.cobuchi_automata.specs.internal.Known.{HasChoices, AreListed, IsListAt}
use Rattle.cobuchi_automata.proofs.KnownLemmas.{still_listed, is_listed, one_listed, last_listed}
use Rattle.cobuchi_automata.proofs.known.place_of_choices.Goals as goal

pub returns-then-place-len-clause-known : goal.returns-then-place-len-clause-known
returns-then-place-len-clause-known c =
    still_listed (lent_trees c.args.plan.now.names.items) (state_keys c.args.known.now.sets.keys)
    (state_keys c.number_of_state.new.states.keys) (record { members = c.in_ok-to_vec.field-0.items; counter = 0 })
    c.args.known.now.lists.items c.in_ok-place.place c.requires.known c.in_ok-place.ensures.grows c.in_ok-place.ensures.there
    (omega (arith, c.if-place-len.true))

pub returns-then-place-len-clause-there : goal.returns-then-place-len-clause-there
returns-then-place-len-clause-there c =
    let same : c.in_ok-to_vec.field-0.items ≡ c.args.members.now = search rules in
    subst (λ ms. IsListAt (lent_trees c.args.plan.now.names.items) ms c.args.known.now.lists.items c.in_ok-place.place) same
    (is_listed (lent_trees c.args.plan.now.names.items) (state_keys c.args.known.now.sets.keys)
    (state_keys c.number_of_state.new.states.keys) (record { members = c.in_ok-to_vec.field-0.items; counter = 0 })
    c.args.known.now.lists.items c.in_ok-place.place c.requires.known c.in_ok-place.ensures.grows c.in_ok-place.ensures.there
    (omega (arith, c.if-place-len.true)))

pub choices_of_numbers-requires-clause-members : goal.choices_of_numbers-requires-clause-members
choices_of_numbers-requires-clause-members c =
    subst (λ l. AllByRecursion (λ n. n < length (lent_trees l)) c.args.members.now) (sym c.deref.ensures.value) c.requires.members

pub returns-clause-known : goal.returns-clause-known
returns-clause-known c =
    let same : c.in_ok-to_vec.field-0.items ≡ c.args.members.now = search rules in
    let has : HasChoices (lent_trees c.args.plan.now.names.items) c.args.members.now (choice_keys c.in_ok-list.list.items) =
    subst (λ l. HasChoices (lent_trees l) c.args.members.now (choice_keys c.in_ok-list.list.items)) c.deref.ensures.value
    (record { choices = c.in_ok-list.ensures.choices; well = c.in_ok-list.ensures.well }) in
    subst (AreListed (lent_trees c.args.plan.now.names.items) (state_keys c.number_of_state.new.states.keys)) (sym c.in_ok-push.ensures.items)
    (one_listed (lent_trees c.args.plan.now.names.items) (state_keys c.args.known.now.sets.keys)
    (state_keys c.number_of_state.new.states.keys) (record { members = c.in_ok-to_vec.field-0.items; counter = 0 })
    c.args.known.now.lists.items c.in_ok-place.place c.requires.known c.in_ok-place.ensures.grows c.in_ok-place.ensures.there
    c.in_ok-list.list (omega (arith, c.if-place-len.false))
    (subst (λ ms. HasChoices (lent_trees c.args.plan.now.names.items) ms (choice_keys c.in_ok-list.list.items)) (sym same) has))

pub returns-clause-there : goal.returns-clause-there
returns-clause-there c =
    let same : c.in_ok-to_vec.field-0.items ≡ c.args.members.now = search rules in
    let has : HasChoices (lent_trees c.args.plan.now.names.items) c.args.members.now (choice_keys c.in_ok-list.list.items) =
    subst (λ l. HasChoices (lent_trees l) c.args.members.now (choice_keys c.in_ok-list.list.items)) c.deref.ensures.value
    (record { choices = c.in_ok-list.ensures.choices; well = c.in_ok-list.ensures.well }) in
    subst (λ ls. IsListAt (lent_trees c.args.plan.now.names.items) c.args.members.now ls c.in_ok-place.place) (sym c.in_ok-push.ensures.items)
    (subst (λ ms. IsListAt (lent_trees c.args.plan.now.names.items) ms (c.args.known.now.lists.items ++ c.in_ok-list.list ∷ []) c.in_ok-place.place) same
    (last_listed (lent_trees c.args.plan.now.names.items) (state_keys c.args.known.now.sets.keys)
    (state_keys c.number_of_state.new.states.keys) (record { members = c.in_ok-to_vec.field-0.items; counter = 0 })
    c.args.known.now.lists.items c.in_ok-place.place c.requires.known c.in_ok-place.ensures.grows c.in_ok-place.ensures.there
    c.in_ok-list.list (omega (arith, c.if-place-len.false))
    (subst (λ ms. HasChoices (lent_trees c.args.plan.now.names.items) ms (choice_keys c.in_ok-list.list.items)) (sym same) has)))
