use Rattle.std.proofs.Common.{ℕ, List, ◌≡◌, ◌<◌, length, get_or}
use Rattle.tsl_terms.specs.Name.{Name}
use Rattle.std.proofs.Common.{IsTrue, sym, subst, map}
use Rattle.std.specs.List.{list_all}
use Rattle.std.proofs.lemmas.Bool.{and_parts}
use Rattle.base_library.proofs.Passes.{map_passes_within}
use Rattle.tsl_terms.specs.TermTree.{term_tree}
use Rattle.term_text.specs.TermText.{is_held, term_is_held}
use Rattle.letter_space.specs.declared.controlled.Controlled.{Controlled}
use Rattle.letter_space.specs.ControlledView.{controlled_tree}
use Rattle.environment_text.specs.EnvironmentText.{controlled_is_held}
use Rattle.automaton_text.proofs.writer.put_signals.Goals as goal

-- what is asked of a signal of the list
held_at : (names : List Name) (ss : List Controlled) (i : ℕ) (s : Controlled) → s ≡ get_or ss i s → i < length ss →
    IsTrue (list_all (controlled_is_held names) (map controlled_tree ss)) →
    IsTrue (is_held names s.signal) × IsTrue (list_all (term_is_held names) (map term_tree s.choices))
held_at names ss i s is within held =
    and_parts (is_held names s.signal) (list_all (term_is_held names) (map term_tree s.choices))
    (subst (λ (s : Controlled). IsTrue (controlled_is_held names (controlled_tree s))) (sym is)
    (map_passes_within controlled_tree (controlled_is_held names) ss i _ held within))

pub put_choices-requires-clause-signal : goal.put_choices-requires-clause-signal
put_choices-requires-clause-signal c =
    (held_at c.args.names.now c.args.signals.now c.loop-signal.signal-index _ c.signal-item.is c.loop-signal-test.true c.requires).0

pub put_choices-requires-clause-choices : goal.put_choices-requires-clause-choices
put_choices-requires-clause-choices c =
    subst (λ ts. IsTrue (list_all (term_is_held c.args.names.now) (map term_tree ts))) (sym c.as_slice.ensures)
    (held_at c.args.names.now c.args.signals.now c.loop-signal.signal-index _ c.signal-item.is c.loop-signal-test.true c.requires).1
