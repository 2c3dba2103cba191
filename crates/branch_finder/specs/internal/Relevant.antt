-- Internal: only private functions of this crate use these words.
-- The cells that predicate terms depend on: those that they read, and those that the terms read that such a cell may take.
-- Source: the cone of influence, as in Clarke, Grumberg, Peled: Model Checking (MIT Press 1999).
use Rattle.std.specs.Prelude.{◌≡◌, ℕ, true, false, not, List}
use Rattle.std.specs.List.{AllByRecursion, filter}
use Rattle.base_library.specs.Numbers.{is_among}
use Rattle.tsl_terms.specs.Signals.{term_reads, some_term_reads}
use Rattle.letter_space.specs.SpaceTree.{SpaceTree}

-- no predicate term reads a signal, and no term that a cell may take which is not among the rest
pub record IsUnread (space : SpaceTree) (cells rest : List ℕ) (s : ℕ) : Type 0 where
  pub by_predicates : AllByRecursion (λ p. some_term_reads s p.arguments ≡ false) space.predicates
  pub by_updates : AllByRecursion (λ c. is_among cells c.signal ≡ true → is_among rest c.signal ≡ false →
      AllByRecursion (λ t. term_reads s t ≡ false) c.choices) space.controlled

-- each signal of the rest is unread
abbrev pub AreUnread : SpaceTree → List ℕ → List ℕ → Type 0
AreUnread space cells rest = AllByRecursion (IsUnread space cells rest) rest

-- the cells that are not among the rest
abbrev pub others_of : List ℕ → List ℕ → List ℕ
others_of cells rest = filter (λ s. not (is_among rest s)) cells

-- these are the cells, in their order, without some that are unread
pub record AreRelevant (space : SpaceTree) (cells relevant : List ℕ) : Type 0 where
  pub rest : List ℕ
  pub unread : AreUnread space cells rest
  pub others : relevant ≡ others_of cells rest
