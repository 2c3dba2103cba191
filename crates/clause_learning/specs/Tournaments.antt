-- Internal to the solver: no clause of a public function of `sat_core` uses these words.
-- The variables that may be decided and are active, as the leaves of a tree of which each inner node has the first of the two below it.
use Rattle.std.specs.Prelude.{◌≡◌, ℕ, ◌+◌, ◌*◌, ◌^◌, ◌<◌, ◌≤◌, Bool, ◌==◌, cond, nat_lt, List, length, slice_index_or}
use Rattle.clause_learning.specs.declared.tournament.Rank.{Rank}
use Rattle.clause_learning.specs.declared.tournament.Tournament.{Tournament}

-- whether one comes before another one: it is more active, or as active and of the smaller number
abbrev pub is_before : Rank → Rank → Bool
is_before one other = cond (one.activity == other.activity) (nat_lt one.variable other.variable) (nat_lt other.activity one.activity)

-- that one of two that comes first
abbrev pub winner : Rank → Rank → Rank
winner left right = cond (is_before right left) right left

-- what a node has
abbrev pub rank_at : List Rank → ℕ → Rank
rank_at nodes node = slice_index_or nodes node (record { activity = 0; variable = 0 })

-- how active a variable is, and 0 where it may not be decided
abbrev pub weight : Tournament → ℕ → ℕ
weight t variable = (rank_at t.nodes.items (t.leaves + variable)).activity

-- a node has the winner of the two below it
abbrev pub IsWon : List Rank → ℕ → Type 0
IsWon nodes node = rank_at nodes node ≡ winner (rank_at nodes (2 * node)) (rank_at nodes (2 * node + 1))

-- the second half of the nodes are the leaves, one for each number in order
pub record HasLeaves (t : Tournament) : Type 0 where
  pub some : 0 < t.leaves
  pub few : t.leaves ≤ 2 ^ 31
  pub size : length t.nodes.items ≡ 2 * t.leaves
  pub named : (leaf : ℕ) → leaf < t.leaves → (rank_at t.nodes.items (t.leaves + leaf)).variable ≡ leaf

-- the nodes before the leaves were won; the first one is number 1
pub record IsTournament (t : Tournament) : Type 0 where
  pub last_half : HasLeaves t
  pub open last_half use *
  pub won : (node : ℕ) → 0 < node → node < t.leaves → IsWon t.nodes.items node

-- it is a tournament of as many leaves, in which one variable is so active, and the others as before
pub record HasWeight (old : Tournament) (variable activity : ℕ) (new : Tournament) : Type 0 where
  pub tournament : IsTournament new
  pub leaves : new.leaves ≡ old.leaves
  pub weights : (other : ℕ) → weight new other ≡ cond (other == variable) activity (weight old other)
