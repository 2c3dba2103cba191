-- Internal: only private functions of this crate use these words.
-- Sets of updates of cells. A set is a number whose bits are those of updates, as in letters.
use Rattle.std.specs.Prelude.{◌≡◌, ℕ, ◌<◌, ◌≤◌, ◌^◌, true, List, [], ◌∷◌, map, bit_or, Some, slice_index_or, option_and_then}
use Rattle.std.specs.Option.{option_map_or}
use Rattle.std.specs.Prelude.{length as count_of}
use Rattle.std.specs.List.{AllByRecursion}
use Rattle.base_library.specs.Numbers.{numbers_from}
use Rattle.ltl_formula.specs.Cubes.{has_bit}
use Rattle.letter_space.specs.SpaceTree.{SpaceTree}
use Rattle.letter_space.specs.Bits.{bit_of_update}
use Rattle.letter_space.specs.Letters.{letter_of, term_taken}
use Rattle.letter_space.specs.Vectors.{picks_of}
use Rattle.machines.specs.MachineTree.{EnvironmentTree, successor_at}
use Rattle.branch_finder.specs.internal.Prints.{HasPrint}

-- the mask of a vector: the bits of the updates that it picks
abbrev pub mask_of : SpaceTree → ℕ → ℕ
mask_of space v = letter_of space 0 (picks_of space.controlled v)

-- these are the masks of the first vectors, so many of them
abbrev pub AreMasks : SpaceTree → ℕ → List ℕ → Type 0
AreMasks space vectors masks = masks ≡ map (mask_of space) (numbers_from 0 vectors)

-- the bit of the update that a signal takes, as a set: none where it takes no term
abbrev pub bit_taken : SpaceTree → List ℕ → ℕ → ℕ
bit_taken space picks s =
    option_map_or (λ b. 2 ^ b) (option_and_then (bit_of_update space s) (term_taken space.controlled picks s)) 0

-- a set with the updates of cells, where so much is picked
abbrev pub with_updates : SpaceTree → List ℕ → ℕ → List ℕ → ℕ
with_updates space picks set [] = set
with_updates space picks set (s ∷ cells) = with_updates space picks (bit_or set (bit_taken space picks s)) cells

-- the updates of cells that a vector has
abbrev pub set_of : SpaceTree → List ℕ → ℕ → ℕ
set_of space cells v = with_updates space (picks_of space.controlled v) 0 cells

-- a vector has all updates of a set
abbrev pub HasAll : SpaceTree → ℕ → ℕ → Type 0
HasAll space set v = (b : ℕ) → has_bit b set ≡ true → has_bit b (mask_of space v) ≡ true

-- the first vector that has the set with a number
abbrev pub first_of : List ℕ → ℕ → ℕ
first_of firsts n = slice_index_or firsts n 0

-- the set with a number
abbrev pub numbered_set : SpaceTree → List ℕ → List ℕ → ℕ → ℕ
numbered_set space cells firsts n = set_of space cells (first_of firsts n)

-- The first vectors of sets, among so many vectors: there are no more of them, and each vector has the set of one.
pub record AreFirsts (space : SpaceTree) (cells : List ℕ) (vectors : ℕ) (firsts : List ℕ) : Type 0 where
  pub within : AllByRecursion (λ v. v < vectors) firsts
  pub few : count_of firsts ≤ vectors
  pub all : (v : ℕ) → v < vectors → (n : ℕ) × (n < count_of firsts) × (numbered_set space cells firsts n ≡ set_of space cells v)

-- the sets of so many vectors, and the first vectors that have them
pub record AreSets (space : SpaceTree) (cells : List ℕ) (vectors : ℕ) (sets firsts : List ℕ) : Type 0 where
  pub are_firsts : AreFirsts space cells vectors firsts
  pub are_sets : sets ≡ map (set_of space cells) firsts

-- a state goes to another one under some vector that has all updates of a set
pub record GoesBy (space : SpaceTree) (e : EnvironmentTree) (set s t : ℕ) : Type 0 where
  pub vector : ℕ
  pub has : HasAll space set vector
  pub goes : successor_at e s vector ≡ Some t

-- a state leads to another one along sets, by states with these prints, of which there is one more than of sets
abbrev pub LeadsTo : SpaceTree → EnvironmentTree → ℕ → List ℕ → List ℕ → ℕ → ℕ → Type 0
LeadsTo space e mask [] [] s t = ⊥
LeadsTo space e mask (set ∷ sets) [] s t = ⊥
LeadsTo space e mask [] (print ∷ []) s t = HasPrint e mask print s × (s ≡ t)
LeadsTo space e mask [] (print ∷ next ∷ prints) s t = ⊥
LeadsTo space e mask (set ∷ sets) (print ∷ prints) s t =
    HasPrint e mask print s × (m : ℕ) × GoesBy space e set s m × LeadsTo space e mask sets prints m t
