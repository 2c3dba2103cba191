-- Internal to the solver: no clause of a public function of `sat_core` uses these words.
-- The analysis of a conflict along a trail, from its end, that finds what is learnt. An entry is seen while the clause
-- that is found so far has the opposite of its literal and the analysis is yet to pass it.
use Rattle.std.specs.Prelude.{◌≡◌, ℕ, suc, ◌+◌, ◌<◌, ◌≤◌, ◌==◌, nat_lt, Bool, true, false, cond, ◌&&◌, ◌||◌, ◌⊎◌, List, [], ◌∷◌, length}
use Rattle.std.specs.Prelude.{◌++◌, not, reverse, All, Option, Some, None, slice_get, slice_index_or}
use Rattle.std.specs.List.{list_any, list_all}
use Rattle.clause_learning.specs.Hints.{AreHints}
use Rattle.clause_core.specs.Literals.{Lit, negation, has}
use Rattle.sat_trail.specs.declared.entries.Entry.{Entry}
use Rattle.sat_trail.specs.Entries.{literals_of, place_of}
use Rattle.sat_trail.specs.States.{TrailState}
use Rattle.refutation_check.specs.Checking.{numbered_from, refused_hint}
use Rattle.clause_learning.specs.declared.seen.Seen.{Seen}
use Rattle.clause_learning.specs.declared.analysis.Analysis.{Analysis}
use Rattle.clause_learning.specs.declared.units.Units.{Units}
use Rattle.clause_learning.specs.Levels.{IsSetAt}
use Rattle.clause_learning.specs.Trails.{IsUsable}
use Rattle.clause_learning.specs.Units.{AreUnits}

-- whether the entry at a place is seen
abbrev pub is_seen : Seen → ℕ → Bool
is_seen seen place = slice_index_or seen.flags.items place false

-- how many entries of this level are seen, where the first entry stands at this place
abbrev pub count_from : ℕ → ℕ → (ℕ → Bool) → List Entry → ℕ
count_from place level seen [] = 0
count_from place level seen (e ∷ es) = cond (seen place && (e.level == level)) 1 0 + count_from (suc place) level seen es

-- how many entries of this level are seen
abbrev pub count_at : ℕ → (ℕ → Bool) → List Entry → ℕ
count_at level seen entries = count_from 0 level seen entries

-- whether this is the place that was found
abbrev pub stands_at : Option ℕ → ℕ → Bool
stands_at None place = false
stands_at (Some found) place = place == found

-- whether the entry at a place is that of one of a clause's variables
abbrev pub is_of_clause : List Entry → List Lit → ℕ → Bool
is_of_clause entries clause place = list_any (λ l. stands_at (place_of entries l.index) place) clause

-- No entry that is seen stands before the lowest place, and the seen entries of the present level are counted. There is
-- a flag for each variable, as many entries as there may be.
pub record AreSeen (t : TrailState) (seen : Seen) : Type 0 where
  pub one_each : length seen.flags.items ≡ t.variables
  pub within : (place : ℕ) → is_seen seen place ≡ true → place < length t.entries
  pub above : (place : ℕ) → is_seen seen place ≡ true → seen.lowest ≤ place
  pub counted : seen.waiting ≡ count_at t.level (is_seen seen) t.entries
  pub looked : All (λ variable. variable < t.variables) seen.looked.items

-- there is a flag for each variable, and no entry is seen
pub record AreNoneSeen (variables : ℕ) (seen : Seen) : Type 0 where
  pub one_each : length seen.flags.items ≡ variables
  pub none : (place : ℕ) → is_seen seen place ≡ false

-- an analysis may begin: the tables are those of the trail, and no entry is seen
pub record CanAnalyse (t : TrailState) (units : Units) (seen : Seen) : Type 0 where
  pub trail : IsUsable t
  pub open trail use *
  pub none_seen : AreNoneSeen t.variables seen
  pub table : AreUnits t units

-- the entry at this place is seen
pub record IsSeenAt (t : TrailState) (place : ℕ) (seen : Seen) : Type 0 where
  pub within : place < length t.entries
  pub here : is_seen seen place ≡ true
  pub all : AreSeen t seen

-- the entry at this place is seen no more
pub record IsCleared (t : TrailState) (place : ℕ) (old new : Seen) : Type 0 where
  pub cleared : (other : ℕ) → is_seen new other ≡ (is_seen old other && not (other == place))
  pub seen : AreSeen t new

-- The entries of a clause's variables are seen in place of the one at this place, and the clause is the next hint.
pub record TakesPlace (t : TrailState) (place reason : ℕ) (old new : Analysis) : Type 0 where
  pub entries_seen : (clause : List Lit) → slice_get t.clauses reason ≡ Some clause → (other : ℕ) →
      is_seen new.seen other ≡ ((is_seen old.seen other || is_of_clause t.entries clause other) && not (other == place))
  pub seen : AreSeen t new.seen
  pub hints : new.hints.items ≡ old.hints.items ++ (reason + 1) ∷ []

-- whether an entry is of level 0
abbrev pub is_of_start : Option Entry → Bool
is_of_start None = false
is_of_start (Some e) = e.level == 0

-- whether the entry at a place is seen, or of level 0
abbrev pub is_covered_at : List Entry → Seen → Option ℕ → Bool
is_covered_at entries seen None = false
is_covered_at entries seen (Some place) = is_seen seen place || is_of_start (slice_get entries place)

-- whether the entry of each variable of a clause is seen, or of level 0
abbrev pub are_covered : List Entry → Seen → List Lit → Bool
are_covered entries seen clause = list_all (λ l. is_covered_at entries seen (place_of entries l.index)) clause

-- whether the reason of an entry of this level above 0 must take its place: at the present level while another entry
-- there is seen
abbrev pub must_go : ℕ → ℕ → ℕ → Bool
must_go present waiting level = (level == present) && nat_lt 1 waiting

-- the clause of this number is the entry's reason, or has its literal alone
abbrev pub IsForcing : List (List Lit) → Entry → ℕ → Type 0
IsForcing clauses e number = (e.reason ≡ Some number) ⊎ (slice_get clauses number ≡ Some (e.literal ∷ []))

-- this clause takes an entry's place in the clause: at level 0, at the present level while another one there is seen,
-- or at a lower one
pub record IsReplaced (clauses : List (List Lit)) (present waiting : ℕ) (e : Entry) (reason : ℕ) : Type 0 where
  pub forces : IsForcing clauses e reason
  pub why : (e.level ≡ 0) ⊎ (((e.level ≡ present) × (1 < waiting)) ⊎ (e.level < present))

-- an entry that stays was decided, or is above level 0 and either of a lower level or alone at the present one
abbrev pub MayStay : ℕ → ℕ → Entry → Type 0
MayStay present waiting e = (e.reason ≡ None) ⊎ ((0 < e.level) × ((e.level ≡ present → ⊥) ⊎ (waiting ≤ 1)))

-- These literals are true on the trail. Those of the seen entries are among them; of the entries passed, those
-- alone whose opposite is kept.
pub record Carries (entries : List Entry) (place : ℕ) (seen : ℕ → Bool) (kept trues : List Lit) : Type 0 where
  pub set_true : (l : Lit) → has trues l ≡ true → has (literals_of entries) l ≡ true
  pub entries_seen : (k : ℕ) (e : Entry) → slice_get entries k ≡ Some e → seen k ≡ true → has trues e.literal ≡ true
  pub passed : (k : ℕ) (e : Entry) → slice_get entries k ≡ Some e → place ≤ k → has trues e.literal ≡ has kept (negation e.literal)

-- from any such literals the hints lead to a false clause
abbrev pub Shows : TrailState → ℕ → (ℕ → Bool) → List Lit → List ℕ → Type 0
Shows t place seen kept hints =
    (trues : List Lit) → Carries t.entries place seen kept trues → (position : ℕ) →
    refused_hint (numbered_from 1 t.clauses) trues position hints ≡ None

-- nothing is kept yet, and a seen entry of the present level waits, but for level 0
pub record IsEarly (t : TrailState) (w : Analysis) : Type 0 where
  pub empty : w.kept.items ≡ []
  pub low : w.back ≡ 0
  pub waits : (0 < w.seen.waiting) ⊎ (t.level ≡ 0)

-- the first literal is false at the present level; the others are false at lower levels, the largest of which is the
-- level to go back to
pub record AssertsFirst (t : TrailState) (kept : List Lit) (back : ℕ) : Type 0 where
  pub asserted : Lit
  pub others : List Lit
  pub kept_is : kept ≡ asserted ∷ others
  pub last : IsSetAt t.entries (negation asserted) t.level
  pub lower : (l : Lit) → has others l ≡ true → (level : ℕ) × (level ≤ back) × IsSetAt t.entries (negation l) level
  pub below : back < t.level
  pub reached : 0 < back → (l : Lit) × (has others l ≡ true) × IsSetAt t.entries (negation l) back

-- the literals kept assert the first one, and no seen entry of the present level waits
pub record IsLate (t : TrailState) (w : Analysis) : Type 0 where
  pub alone : w.seen.waiting ≡ 0
  pub asserts : AssertsFirst t w.kept.items w.back
  pub open asserts use *

-- What holds of an analysis that has passed the places from this one on: it has seen places before that one alone, and keeps
-- no literal whose entry is yet to be passed; each place passed gave one hint at most, and the conflict one; and the
-- hints, first one first, show the clause that it has found.
pub record IsAnalysis (t : TrailState) (place : ℕ) (w : Analysis) : Type 0 where
  pub seen : AreSeen t w.seen
  pub ahead : (k : ℕ) → is_seen w.seen k ≡ true → k < place
  pub fresh : (k : ℕ) (e : Entry) → slice_get t.entries k ≡ Some e → k < place → has w.kept.items (negation e.literal) ≡ false
  pub few : length w.hints.items + place ≤ length t.entries + 1
  pub named : AreHints (length t.clauses) w.hints.items
  pub shows : Shows t place (is_seen w.seen) w.kept.items (reverse w.hints.items)
  pub stage : IsEarly t w ⊎ IsLate t w

-- an analysis that has passed all entries: none is seen any more
pub record IsAnalysed (t : TrailState) (w : Analysis) : Type 0 where
  pub place : ℕ
  pub analysis : IsAnalysis t place w
  pub seen : AreNoneSeen t.variables w.seen
