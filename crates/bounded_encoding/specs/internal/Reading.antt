-- Internal: only private functions of this crate use these words.
-- What is read off an assignment of a controller from an index on.
use Rattle.std.specs.Prelude.{ℕ, ◌+◌, ◌-◌, ◌*◌, Bool, map, length}
use Rattle.letter_space.specs.SpaceTree.{ControlledTree, SpaceTree, choice_count}
use Rattle.machines.specs.MachineTree.{EntryTree}
use Rattle.bounded_encoding.specs.Reading.{first_passing, next_from}

-- the choice of a signal, where the variables of choices begin at an index
abbrev pub choice_from : (ℕ → Bool) → ℕ → ℕ → ControlledTree → ℕ
choice_from assignment base predicates g = first_passing (λ c. assignment (base + ((g.first - predicates) + c))) (length g.choices)

-- the entry with a number, where the variables of next states begin behind those of choices
abbrev pub entry_numbered : (ℕ → Bool) → SpaceTree → ℕ → ℕ → ℕ → EntryTree
entry_numbered assignment space states before k = record {
  choices = map (choice_from assignment (k * choice_count space.controlled) (length space.predicates)) space.controlled;
  next = next_from assignment (before + k * states) states;
}
