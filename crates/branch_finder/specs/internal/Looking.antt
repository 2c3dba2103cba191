-- Internal: only private functions of this crate use these words.
-- A path that is looked at: an environment and its visited states, a space, cells, a path of vectors and prints and the labels along it.
use Rattle.std.specs.Prelude.{◌≡◌, ℕ, suc, ◌<◌, ◌≤◌, ◌^◌, List, map}
use Rattle.std.specs.Prelude.{length as count_of}
use Rattle.std.specs.List.{AllByRecursion}
use Rattle.letter_space.specs.SpaceView.{space_tree}
use Rattle.tsl_terms.specs.TermTree.{term_tree}
use Rattle.machines.specs.MachineView.{environment_tree}
use Rattle.machines.specs.Visits.{IsVisited}
use Rattle.machines.specs.Moves.{EnvironmentFits}
use Rattle.term_congruence.specs.Classes.{IsClassTable}
use Rattle.branch_finder.specs.declared.looking.Search.{Search}
use Rattle.branch_finder.specs.declared.looking.Walk.{Walk}
use Rattle.branch_finder.specs.declared.looking.Look.{Look}
use Rattle.branch_finder.specs.declared.looking.Pair.{Pair}
use Rattle.branch_finder.specs.internal.Prints.{AreEqualityBits, ArePrintsWithin, ArePrints}
use Rattle.branch_finder.specs.internal.Arguments.{arguments_of, AreStarts}
use Rattle.branch_finder.specs.internal.Paths.{PairTree, updates_along, equalities_along}
use Rattle.branch_finder.specs.internal.Sets.{set_of, first_of, AreFirsts}
use Rattle.branch_finder.specs.internal.Planes.{IsPlaneOf, AreLinksOf}

abbrev pub pair_tree : Pair → PairTree
pair_tree pair = record { left_at = pair.left_at; left = pair.left; right = pair.right }

-- What holds of a search: the environment fits the space, its visited states are a plane, the prints are those of its states, the terms
-- are the arguments of the predicate terms, and for each set of updates of cells that a vector has, there is one that has it, and the rows
-- of states that are gone to under those with all its updates.
pub record IsSearch (search : Search) : Type 0 where
  pub fits : EnvironmentFits (space_tree search.space.now) (environment_tree search.environment.now)
  pub visited : IsPlaneOf search.environment.now.states (IsVisited (environment_tree search.environment.now)) search.visited.now
  pub mask : AreEqualityBits (space_tree search.space.now) search.equality search.mask
  pub prints : ArePrints (environment_tree search.environment.now) search.mask search.prints.now
  pub terms : map term_tree search.terms.now ≡ arguments_of (space_tree search.space.now).predicates
  pub starts : AreStarts (space_tree search.space.now).predicates search.starts.now
  pub firsts : AreFirsts (space_tree search.space.now) search.cells.now search.environment.now.vectors search.firsts.now
  pub few : count_of search.firsts.now < 2 ^ 32
  pub links : AreLinksOf (space_tree search.space.now) (environment_tree search.environment.now)
      (map (set_of (space_tree search.space.now) search.cells.now) search.firsts.now) search.links.now

-- a path is a short one, of the first vectors of sets with these numbers
pub record IsPath (search : Search) (numbers path : List ℕ) : Type 0 where
  pub numbers_within : AllByRecursion (λ n. n < count_of search.firsts.now) numbers
  pub is : path ≡ map (first_of search.firsts.now) numbers
  pub vectors : AllByRecursion (λ v. v < search.environment.now.vectors) path
  pub short : count_of path ≤ 3

-- What holds of a path of sets and prints: it has one print more than sets.
pub record IsWalk (walk : Walk) : Type 0 where
  pub search : IsSearch walk.search
  pub path : IsPath walk.search walk.numbers.now walk.path.now
  pub prints : ArePrintsWithin walk.search.mask walk.prints.now
  pub one_more : count_of walk.prints.now ≡ suc (count_of walk.path.now)

-- What holds of a path that is looked at: it has labels of the predicate terms' arguments where all updates of the cells and all
-- equalities are listed.
pub record IsLook (look : Look) : Type 0 where
  pub walk : IsWalk look.walk
  pub labelled : IsClassTable (arguments_of (space_tree look.walk.search.space.now).predicates)
      (updates_along (space_tree look.walk.search.space.now).controlled look.walk.search.cells.now 0 look.walk.path.now)
      (equalities_along (space_tree look.walk.search.space.now).predicates 0 look.walk.prints.now) (count_of look.walk.path.now)
      look.rows.now

-- a pair's step is one of the path, and its bits are predicate terms
pub record IsPairWithin (walk : Walk) (pair : Pair) : Type 0 where
  pub left_at : pair.left_at ≤ count_of walk.path.now
  pub left : pair.left < count_of walk.search.space.now.predicates
  pub right : pair.right < count_of walk.search.space.now.predicates
