-- The bits of letters as a pure value, without where terms lie in memory: which predicate term or choice each bit stands for.
-- Source: Finkbeiner, Klein, Piskac, Santolucito: Temporal Stream Logic: Synthesis Beyond the Bools (CAV 2019), the
-- approximation in linear temporal logic. In which order bits stand is this project's own rule.
use Rattle.std.specs.Prelude.{◌≡◌, ℕ, ◌+◌, ◌≤◌, ◌==◌, nat_lt, Bool, true, ◌&&◌, List, [], ◌∷◌, length, map, Some, slice_get, IsTrue}
use Rattle.std.specs.List.{list_all}
use Rattle.base_library.specs.Once.{StandOnce}
use Rattle.tsl_terms.specs.TermTree.{TermTree, ProbeTree}
use Rattle.letter_space.specs.declared.limits.TheConstants.{MOST_PREDICATES, MOST_BITS}

-- a cell or an output, the terms that it may take, and the bit of the first of them
pub record ControlledTree : Type 0 where
  pub signal : ℕ
  pub choices : List TermTree
  pub first : ℕ

-- the predicate terms, whose bits are their places, and the signals whose choices have the bits after these
pub record SpaceTree : Type 0 where
  pub predicates : List ProbeTree
  pub controlled : List ControlledTree

-- how many choices the signals have together
abbrev pub choice_count : List ControlledTree → ℕ
choice_count [] = 0
choice_count (c ∷ cs) = length c.choices + choice_count cs

-- how many bits there are
abbrev pub bit_count : SpaceTree → ℕ
bit_count space = length space.predicates + choice_count space.controlled

-- whether the choices' bits follow each other from a first one on
abbrev pub bits_follow : ℕ → List ControlledTree → Bool
bits_follow first [] = true
bits_follow first (c ∷ cs) = (c.first == first) && bits_follow (first + length c.choices) cs

-- whether a signal may take some term
abbrev pub has_choice : ControlledTree → Bool
has_choice c = nat_lt 0 (length c.choices)

-- What holds of every space: it is within the limits, bits follow each other, each signal may take some term, and no predicate
-- term, no signal and no choice of one signal stands twice.
pub record IsSpace (space : SpaceTree) : Type 0 where
  pub few_predicates : length space.predicates ≤ MOST_PREDICATES
  pub few_bits : bit_count space ≤ MOST_BITS
  pub in_order : IsTrue (bits_follow (length space.predicates) space.controlled)
  pub chosen : IsTrue (list_all has_choice space.controlled)
  pub predicates_once : StandOnce space.predicates
  pub signals_once : StandOnce (map (λ c. c.signal) space.controlled)
  pub choices_once : (i : ℕ) (c : ControlledTree) → slice_get space.controlled i ≡ Some c → StandOnce c.choices
