-- Entries of a machine that is made.
use Rattle.std.specs.Prelude.{◌≡◌, ◌<◌, ℕ, List, Some, slice_get}
use Rattle.letter_space.specs.SpaceTree.{SpaceTree}
use Rattle.letter_space.specs.Letters.{ArePicks}
use Rattle.machines.specs.declared.controller.Entry.{Entry}

-- each entry has one choice for each controlled signal, among that signal's choices, and goes to one of so many states
pub record AreEntries (space : SpaceTree) (states : ℕ) (entries : List Entry) : Type 0 where
  pub choices : (i : ℕ) (e : Entry) → slice_get entries i ≡ Some e → ArePicks space.controlled e.choices
  pub stay : (i : ℕ) (e : Entry) → slice_get entries i ≡ Some e → e.next < states
