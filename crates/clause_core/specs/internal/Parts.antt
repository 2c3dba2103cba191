-- Internal: only private functions of this crate use these words. Clauses whose literals lie behind each other.
use Rattle.std.specs.Prelude.{◌≡◌, ℕ, zero, suc, ◌-◌, ◌≤◌, List, [], ◌∷◌, length, take, drop, slice_index_or}
use Rattle.std.specs.List.{AllByRecursion}
use Rattle.clause_core.specs.Literals.{Lit}
use Rattle.clause_core.specs.Clauses.{IsIncreasing}

-- the clauses whose literals end at these places of a list, where those of the first one begin at a place
abbrev pub parts : ℕ → List ℕ → List Lit → List (List Lit)
parts start [] literals = []
parts start (end ∷ ends) literals = take (end - start) (drop start literals) ∷ parts end ends literals

-- the place where the literals of a clause begin, where those of the first one begin at another
abbrev pub start_of : ℕ → List ℕ → ℕ → ℕ
start_of first ends zero = first
start_of first ends (suc place) = slice_index_or ends place 0

-- the places rise from one on up to another
abbrev pub Rise : ℕ → List ℕ → ℕ → Type 0
Rise start [] last = start ≡ last
Rise start (end ∷ ends) last = (start ≤ end) × Rise end ends last

-- the places part a list of literals into clauses
pub record AreClauses (ends : List ℕ) (literals : List Lit) : Type 0 where
  pub rise : Rise 0 ends (length literals)
  pub increasing : AllByRecursion IsIncreasing (parts 0 ends literals)
