-- Internal to the solver: no clause of a public function of `sat_core` uses these words.
-- Sets of numbers as bits, with two summaries of them.
use Rattle.std.specs.Prelude.{◌≡◌, ℕ, ◌*◌, ◌^◌, ◌<◌, ◌≤◌, Bool, ◌==◌, not, true, false, cond, List, length}
use Rattle.lane_planes.specs.Planes.{word_at, has_bit}
use Rattle.clause_learning.specs.declared.numbers.NumberSet.{NumberSet}

-- whether a number is in the set
abbrev pub contains : NumberSet → ℕ → Bool
contains set number = has_bit set.members.items number

-- numbers below this may be in the set
abbrev pub room : NumberSet → ℕ
room set = 64 * length set.members.items

-- a bit for each word of a plane, which says whether that word has any
abbrev pub IsSummary : List ℕ → List ℕ → Type 0
IsSummary summary plane = (k : ℕ) → has_bit summary k ≡ not (word_at plane k == 0)

-- the words tell which words of the members have any, and the groups which of the words do
pub record AreSummedUp (members words groups : List ℕ) : Type 0 where
  pub few : length members ≤ 2 ^ 26
  pub words_few : length words ≤ 2 ^ 26
  pub groups_few : length groups ≤ 2 ^ 26
  pub word_each : length members ≤ 64 * length words
  pub group_each : length words ≤ 64 * length groups
  pub words_are : IsSummary words members
  pub groups_are : IsSummary groups words

abbrev pub IsNumberSet : NumberSet → Type 0
IsNumberSet set = AreSummedUp set.members.items set.words.items set.groups.items

-- one number is in the set or not, and the others as before
pub record HasMember (old : NumberSet) (number : ℕ) (is_member : Bool) (new : NumberSet) : Type 0 where
  pub set : IsNumberSet new
  pub same_room : room new ≡ room old
  pub members : (other : ℕ) → contains new other ≡ cond (other == number) is_member (contains old other)

-- the least number whose bit is set
pub record IsLeastBit (plane : List ℕ) (number : ℕ) : Type 0 where
  pub here : has_bit plane number ≡ true
  pub none_before : (other : ℕ) → other < number → has_bit plane other ≡ false

-- the first word that has any bit
pub record IsFirstWord (plane : List ℕ) (k : ℕ) : Type 0 where
  pub some : 0 < word_at plane k
  pub none_before : (j : ℕ) → j < k → word_at plane j ≡ 0
