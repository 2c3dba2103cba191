-- What the bits of letters are called: each predicate term as its test, and each choice as its update.
use Rattle.std.specs.Prelude.{ℕ, List, ◌++◌, map, flat_map}
use Rattle.tsl_terms.specs.Name.{Name}
use Rattle.term_text.specs.TermText.{probe_text, update_text}
use Rattle.letter_space.specs.SpaceTree.{ControlledTree, SpaceTree}

-- the updates of a signal by its choices
abbrev pub choice_names : List Name → ControlledTree → List (List ℕ)
choice_names names c = map (update_text names c.signal) c.choices

-- the text of each bit, in order
abbrev pub bit_names : List Name → SpaceTree → List (List ℕ)
bit_names names space = map (probe_text names) space.predicates ++ flat_map (choice_names names) space.controlled
