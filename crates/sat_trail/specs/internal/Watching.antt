-- Internal: only private functions of this crate use these words. How clauses watch literals, and how far propagation has
-- come. The idea is that of M. Moskewicz and others, Chaff: Engineering an Efficient SAT Solver, 2001.
use Rattle.std.specs.Prelude.{◌≡◌, ℕ, ◌+◌, ◌-◌, ◌*◌, ◌<◌, ◌≤◌, ◌⊎◌, min, Bool, true, false, List, ◌∷◌, ◌++◌, [], length, Option, Some, None}
use Rattle.std.specs.Prelude.{slice_get}
use Rattle.clause_core.specs.Literals.{Lit, negation, has, code_of}
use Rattle.clause_core.specs.Clauses.{IsIncreasing}
use Rattle.sat_trail.specs.declared.entries.Entry.{Entry}
use Rattle.sat_trail.specs.Entries.{literals_of}
use Rattle.sat_trail.specs.States.{TrailState, IsSound, Propagates, IsFalseAt}
use Rattle.sat_trail.specs.declared.watches.Watch.{Watch}
use Rattle.sat_trail.specs.declared.watches.Pair.{Pair}
use Rattle.sat_trail.specs.declared.watches.Aside.{Aside}
use Rattle.sat_trail.specs.declared.watches.Status.{Status}
use Rattle.sat_trail.specs.declared.watches.Status.TheVariants.{Conflict, Unit, Open}
use Rattle.sat_trail.specs.declared.watches.Watches.{Watches}

-- ---- lists of watches

-- the watch at this index of a literal's list, the literal by its code, is of this clause
pub record HasWatch (lists : List (List Watch)) (code number index : ℕ) : Type 0 where
  pub list : List Watch
  pub watch : Watch
  pub listed : slice_get lists code ≡ Some list
  pub there : slice_get list index ≡ Some watch
  pub names : watch.clause ≡ number

-- the literal has a list, which is at least so long
pub record HasList (lists : List (List Watch)) (code least : ℕ) : Type 0 where
  pub list : List Watch
  pub listed : slice_get lists code ≡ Some list
  pub long : least ≤ length list

-- the watch at an index is taken out; those before it stay where they are
pub record TakesOut (old : List Watch) (index : ℕ) (new : List Watch) : Type 0 where
  pub shorter : length new + 1 ≡ length old
  pub before : (k : ℕ) → k < index → slice_get new k ≡ slice_get old k
  pub others : (k : ℕ) (watch : Watch) → (k ≡ index → ⊥) → slice_get old k ≡ Some watch → (j : ℕ) × (slice_get new j ≡ Some watch)
  pub no_more : (j : ℕ) (watch : Watch) → slice_get new j ≡ Some watch → (k : ℕ) × (slice_get old k ≡ Some watch)

-- the watch at an index has another blocker
pub record RenewsBlocker (old : List Watch) (index : ℕ) (blocker : Lit) (new : List Watch) : Type 0 where
  pub all : length new ≡ length old
  pub here : (watch : Watch) → slice_get old index ≡ Some watch → slice_get new index ≡ Some (record watch { blocker = blocker })
  pub others : (k : ℕ) → (k ≡ index → ⊥) → slice_get new k ≡ slice_get old k

-- one list has a watch more at its end
pub record AddsWatch (old : List (List Watch)) (code : ℕ) (watch : Watch) (new : List (List Watch)) : Type 0 where
  pub all : length new ≡ length old
  pub here : (list : List Watch) → slice_get old code ≡ Some list → slice_get new code ≡ Some (list ++ watch ∷ [])
  pub others : (other : ℕ) → (other ≡ code → ⊥) → slice_get new other ≡ slice_get old other

-- the clause of this number gets a watch in the lists of two literals, whose blocker is the other one
pub record Attaches (old : List (List Watch)) (number : ℕ) (first second : Lit) (new : List (List Watch)) : Type 0 where
  pub between : List (List Watch)
  pub at_first : AddsWatch old (code_of first) (record { clause = number; blocker = second }) between
  pub at_second : AddsWatch between (code_of second) (record { clause = number; blocker = first }) new

-- a watch in one list has another blocker
pub record RenewsWatch (old : List (List Watch)) (code index : ℕ) (blocker : Lit) (new : List (List Watch)) : Type 0 where
  pub all : length new ≡ length old
  pub here : (list : List Watch) → slice_get old code ≡ Some list →
      (renewed : List Watch) × (slice_get new code ≡ Some renewed) × RenewsBlocker list index blocker renewed
  pub others : (other : ℕ) → (other ≡ code → ⊥) → slice_get new other ≡ slice_get old other

-- one list has a watch less
pub record DropsWatch (old : List (List Watch)) (code index : ℕ) (new : List (List Watch)) : Type 0 where
  pub all : length new ≡ length old
  pub here : (list : List Watch) → slice_get old code ≡ Some list →
      (less : List Watch) × (slice_get new code ≡ Some less) × TakesOut list index less
  pub others : (other : ℕ) → (other ≡ code → ⊥) → slice_get new other ≡ slice_get old other

-- ---- pairs

-- the literal is one of the pair
abbrev pub IsOf : Pair → Lit → Type 0
IsOf pair l = (pair.first ≡ l) ⊎ (pair.second ≡ l)

-- the clause of this number has this pair
abbrev pub IsPairOf : List (Option Pair) → ℕ → Pair → Type 0
IsPairOf pairs number pair = slice_get pairs number ≡ Some (Some pair)

abbrev pub pair_of : Lit → Lit → Lit → Pair
pair_of first second spare = record { first = first; second = second; spare = spare }

-- the clause of this number has this pair, and all others have what they had
pub record PutsPair (old : List (Option Pair)) (number : ℕ) (pair : Pair) (new : List (Option Pair)) : Type 0 where
  pub here : slice_get new number ≡ Some (Some pair)
  pub others : (k : ℕ) → (k ≡ number → ⊥) → slice_get new k ≡ slice_get old k

-- the pair is of two literals of the clause, and so is its spare one
pub record IsPair (clause : List Lit) (pair : Pair) : Type 0 where
  pub first : has clause pair.first ≡ true
  pub second : has clause pair.second ≡ true
  pub spare : has clause pair.spare ≡ true
  pub apart : pair.first ≡ pair.second → ⊥

-- each literal of the clause is one of the pair or the spare one
abbrev pub HasNoMore : List Lit → Pair → Type 0
HasNoMore clause pair = (l : Lit) → has clause l ≡ true → IsOf pair l ⊎ (pair.spare ≡ l)

-- ---- what is true

-- some literal of the clause is true; if the number is below the limit, it was set at this level or a lower one
pub record IsExcused (entries : List Entry) (clause : List Lit) (number limit level : ℕ) : Type 0 where
  pub place : ℕ
  pub entry : Entry
  pub there : slice_get entries place ≡ Some entry
  pub member : has clause entry.literal ≡ true
  pub in_time : number < limit → entry.level ≤ level

-- some literal of the clause is true, and was set at this level or a lower one
abbrev pub IsMet : List Entry → List Lit → ℕ → Type 0
IsMet entries clause level = IsExcused entries clause 0 1 level

-- The clause of this number waits to be looked at, or is set aside: then a literal of it is true, which was set at the level
-- of that or at a lower one.
pub record IsAside (entries : List Entry) (asides : List Aside) (held number : ℕ) (clause : List Lit) : Type 0 where
  pub index : ℕ
  pub aside : Aside
  pub there : slice_get asides index ≡ Some aside
  pub names : aside.clause ≡ number
  pub met : index < held → IsMet entries clause aside.level

-- The levels of the clauses that are set aside rise, up to this one. Each clause there was taken in.
pub record AreAsides (asides : List Aside) (held level count : ℕ) : Type 0 where
  pub few : held ≤ length asides
  pub rise : (j k : ℕ) (a b : Aside) → j ≤ k → k < held → slice_get asides j ≡ Some a → slice_get asides k ≡ Some b → a.level ≤ b.level
  pub low : (k : ℕ) (a : Aside) → k < held → slice_get asides k ≡ Some a → a.level ≤ level
  pub known : (k : ℕ) (a : Aside) → slice_get asides k ≡ Some a → a.clause < count

-- ---- what holds between the visits of entries

-- the watch is of one of the first clauses, and its blocker is of that clause
abbrev pub IsBlocked : List (List Lit) → ℕ → Watch → Type 0
IsBlocked clauses count watch =
    (watch.clause < count) × ((clause : List Lit) → slice_get clauses watch.clause ≡ Some clause → has clause watch.blocker ≡ true)

abbrev pub AreBlocked : List (List Lit) → ℕ → List (List Watch) → Type 0
AreBlocked clauses count lists = (code index : ℕ) (list : List Watch) (watch : Watch) → slice_get lists code ≡ Some list →
    slice_get list index ≡ Some watch → IsBlocked clauses count watch

-- Each watch is of a clause that was taken in, and its other literal is of that clause; each pair is of literals of its
-- clause, both of which the clause watches.
pub record AreListed (variables : ℕ) (clauses : List (List Lit)) (lists : List (List Watch)) (pairs : List (Option Pair)) : Type 0 where
  pub lists_all : length lists ≡ 2 * variables
  pub pairs_few : length pairs ≤ length clauses
  pub blocked : AreBlocked clauses (length pairs) lists
  pub paired : (number : ℕ) (clause : List Lit) (pair : Pair) → slice_get clauses number ≡ Some clause →
      IsPairOf pairs number pair → IsPair clause pair
  pub listed : (number : ℕ) (pair : Pair) (l : Lit) → IsPairOf pairs number pair → IsOf pair l →
      (index : ℕ) × HasWatch lists (code_of l) number index

-- A watched literal that is false by an entry visited has its clause excused, before the place `low` by a literal that is
-- taken back no earlier, or that clause is set aside or waits; so does one that watches nothing.
pub record AreWatched (t : TrailState) (w : Watches) : Type 0 where
  pub listing : AreListed t.variables t.clauses w.lists.items w.pairs.items
  pub open listing use *
  pub head_few : w.head ≤ length t.entries
  pub asides : AreAsides w.asides.items w.held t.level (length w.pairs.items)
  pub excused : (number : ℕ) (clause : List Lit) (pair : Pair) (l : Lit) → slice_get t.clauses number ≡ Some clause →
      IsPairOf w.pairs.items number pair → IsOf pair l →
      (place : ℕ) (e : Entry) → slice_get t.entries place ≡ Some e → e.literal ≡ negation l → place < w.head →
      IsExcused t.entries clause place w.low e.level ⊎ IsAside t.entries w.asides.items w.held number clause
  pub unpaired : (number : ℕ) (clause : List Lit) → slice_get t.clauses number ≡ Some clause → slice_get w.pairs.items number ≡ Some None →
      IsAside t.entries w.asides.items w.held number clause

-- propagation may begin or go on: memory has not run out, the trail is sound, and the clauses are watched
pub record MayPropagate (t : TrailState) (w : Watches) : Type 0 where
  pub usable : t.broken ≡ false
  pub sound : IsSound t
  pub watched : AreWatched t w

-- a step of propagation: only entries that clauses force are new, and the clauses are still watched
pub record PropagatesWatched (old new : TrailState) (w : Watches) : Type 0 where
  pub propagates : Propagates old new
  pub watched : AreWatched new w

-- propagation goes back to a level, with so many entries left: what was set aside above it waits, and late visits are made again
pub record GoesBack (level count : ℕ) (old new : Watches) : Type 0 where
  pub head : new.head ≡ min (min old.head old.low) count
  pub held : new.held ≤ old.held
  pub low : (last : Aside) → slice_get new.asides.items (new.held - 1) ≡ Some last → 0 < new.held → last.level ≤ level
  pub rest : new ≡ record old { held = new.held; head = new.head; low = new.low }

-- ---- what is to be looked at

-- how much is to be looked at, where there are so many clauses: those to be taken in count twice
abbrev pub left_of : ℕ → Watches → ℕ
left_of count w = 2 * (count - length w.pairs.items) + (length w.asides.items - w.held)

-- what is answered whether a clause waits: one does, and there is no more to be looked at than before; or there is nothing
abbrev pub LeavesSome : ℕ → Watches → Watches → Bool → Type 0
LeavesSome count old new true = (new.held < length new.asides.items) × (left_of count new ≤ left_of count old)
LeavesSome count old new false = left_of count new ≡ 0

-- there is less to be looked at
abbrev pub LooksAtOne : Watches → Watches → Type 0
LooksAtOne old new = (count : ℕ) → left_of count new + 1 ≡ left_of count old

-- the next entry to be visited is the same one, and as much is to be looked at as before
pub record StaysAt (old new : Watches) : Type 0 where
  pub head : new.head ≡ old.head
  pub left : (count : ℕ) → left_of count new ≡ left_of count old

-- the next clause that waits has this number
pub record IsNextWaiting (w : Watches) (number : ℕ) : Type 0 where
  pub aside : Aside
  pub there : slice_get w.asides.items w.held ≡ Some aside
  pub names : aside.clause ≡ number

-- the next clause that waits is set aside at a level
pub record SetsAside (level : ℕ) (old new : Watches) : Type 0 where
  pub all : length new.asides.items ≡ length old.asides.items
  pub more : new.held ≡ old.held + 1
  pub here : (a : Aside) → slice_get old.asides.items old.held ≡ Some a →
      slice_get new.asides.items old.held ≡ Some (record a { level = level })
  pub others : (k : ℕ) → (k ≡ old.held → ⊥) → slice_get new.asides.items k ≡ slice_get old.asides.items k
  pub rest : new ≡ record old { asides = new.asides; held = new.held }

-- the next clause that waits does so no more; those set aside stay where they are, and the others wait
pub record Releases (old new : Watches) : Type 0 where
  pub shorter : length new.asides.items + 1 ≡ length old.asides.items
  pub before : (k : ℕ) → k < old.held → slice_get new.asides.items k ≡ slice_get old.asides.items k
  pub behind : (k : ℕ) (a : Aside) → old.held < k → slice_get old.asides.items k ≡ Some a →
      (j : ℕ) × (old.held ≤ j) × (slice_get new.asides.items j ≡ Some a)
  pub no_more : (j : ℕ) (a : Aside) → slice_get new.asides.items j ≡ Some a → (k : ℕ) × (slice_get old.asides.items k ≡ Some a)
  pub rest : new ≡ record old { asides = new.asides }

-- the clause of this number has a pair, neither of which is false
pub record IsOpenAt (t : TrailState) (w : Watches) (number : ℕ) : Type 0 where
  pub pair : Pair
  pub at : IsPairOf w.pairs.items number pair
  pub not_false : (l : Lit) → IsOf pair l → has (literals_of t.entries) (negation l) ≡ false

-- the clause of this number watches these two literals, and no others
pub record IsWatchedBy (w : Watches) (number : ℕ) (first second : Lit) : Type 0 where
  pub pair : Pair
  pub at : IsPairOf w.pairs.items number pair
  pub only : (l : Lit) → IsOf pair l → IsOf (pair_of first second first) l

-- a clause watches two literals, other ones or the same, and nothing else changes
pub record Rewatches (t : TrailState) (old new : Watches) : Type 0 where
  pub watched : AreWatched t new
  pub pairs : length new.pairs.items ≡ length old.pairs.items
  pub rest : new ≡ record old { lists = new.lists; pairs = new.pairs }

-- ---- what holds within the visit of an entry

-- the literal is false by the next entry to be visited, of the present level or not before `low`; its list is at least so long
pub record IsVisit (t : TrailState) (w : Watches) (falsified : Lit) (least : ℕ) : Type 0 where
  pub entry : Entry
  pub there : slice_get t.entries w.head ≡ Some entry
  pub is : entry.literal ≡ negation falsified
  pub late : w.head < w.low → entry.level ≡ t.level
  pub list : HasList w.lists.items (code_of falsified) least

-- each clause that watches the literal is excused, or has a watch that is still to be visited, before this index
abbrev pub AreDue : TrailState → Watches → Lit → ℕ → Type 0
AreDue t w falsified end =
    (number : ℕ) (clause : List Lit) (pair : Pair) → slice_get t.clauses number ≡ Some clause → IsPairOf w.pairs.items number pair →
    IsOf pair falsified →
    IsExcused t.entries clause w.head w.low t.level ⊎ ((index : ℕ) × (index < end)
    × HasWatch w.lists.items (code_of falsified) number index)

-- the next entry is being visited: the watches of its literal before this index are left, and no others are due
pub record IsVisiting (t : TrailState) (w : Watches) (falsified : Lit) (end : ℕ) : Type 0 where
  pub visit : IsVisit t w falsified end
  pub due : AreDue t w falsified end

-- the visit of a watch is a step of propagation, and the visit of the entry goes on before this index
pub record Visits (old new : TrailState) (w : Watches) (falsified : Lit) (end : ℕ) : Type 0 where
  pub grows : PropagatesWatched old new w
  pub visit : IsVisit new w falsified end

-- ---- what is looked for

-- the other literals of the clause are false
abbrev pub AreOthersFalse : List Lit → List Lit → Lit → Type 0
AreOthersFalse trues clause l = (m : Lit) → has clause m ≡ true → (m ≡ l → ⊥) → has trues (negation m) ≡ true

-- the clause of this number has the literal, and the others are false
pub record CanForce (t : TrailState) (number : ℕ) (l : Lit) : Type 0 where
  pub clause : List Lit
  pub named : slice_get t.clauses number ≡ Some clause
  pub increasing : IsIncreasing clause
  pub member : has clause l ≡ true
  pub others : AreOthersFalse (literals_of t.entries) clause l

-- the clause of this number is unit: this literal is not false, and the others are
pub record IsUnitBy (t : TrailState) (number : ℕ) (l : Lit) : Type 0 where
  pub force : CanForce t number l
  pub free : has (literals_of t.entries) (negation l) ≡ false

-- the clause of this number has the two literals
pub record CanWatch (t : TrailState) (number : ℕ) (first second : Lit) : Type 0 where
  pub clause : List Lit
  pub named : slice_get t.clauses number ≡ Some clause
  pub member : has clause first ≡ true
  pub other : has clause second ≡ true
  pub apart : second ≡ first → ⊥

-- and they are not false
pub record IsOpenBy (t : TrailState) (number : ℕ) (first second : Lit) : Type 0 where
  pub watch : CanWatch t number first second
  pub first_free : has (literals_of t.entries) (negation first) ≡ false
  pub second_free : has (literals_of t.entries) (negation second) ≡ false

-- what the clause of this number is
abbrev pub HasStatus : TrailState → ℕ → Status → Type 0
HasStatus t number Conflict = IsFalseAt t number
HasStatus t number (Unit l) = IsUnitBy t number l
HasStatus t number (Open first second) = IsOpenBy t number first second

-- the pair is of literals of the clause of this number
pub record IsPairIn (t : TrailState) (number : ℕ) (pair : Pair) : Type 0 where
  pub clause : List Lit
  pub named : slice_get t.clauses number ≡ Some clause
  pub is : IsPair clause pair

-- the pair is in that clause, of a literal that is not false, and of the one given
pub record IsNextPair (t : TrailState) (number : ℕ) (other : Lit) (pair : Pair) : Type 0 where
  pub is_in : IsPairIn t number pair
  pub second : pair.second ≡ other
  pub not_false : has (literals_of t.entries) (negation pair.first) ≡ false

-- the literals before this position are false
abbrev pub AreFalseBefore : List Lit → List Lit → ℕ → Type 0
AreFalseBefore trues literals end = (k : ℕ) (l : Lit) → k < end → slice_get literals k ≡ Some l → has trues (negation l) ≡ true

-- at this position stands the first literal that is not false
pub record IsFirstFree (trues literals : List Lit) (position : ℕ) : Type 0 where
  pub literal : Lit
  pub there : slice_get literals position ≡ Some literal
  pub not_false : has trues (negation literal) ≡ false
  pub before : AreFalseBefore trues literals position

-- each literal before this position is the one given
abbrev pub AreAllBefore : List Lit → Lit → ℕ → Type 0
AreAllBefore literals l end = (k : ℕ) (m : Lit) → k < end → slice_get literals k ≡ Some m → m ≡ l

-- one of the literals, but not the one given
pub record IsOther (literals : List Lit) (except l : Lit) : Type 0 where
  pub position : ℕ
  pub there : slice_get literals position ≡ Some l
  pub apart : l ≡ except → ⊥

-- at this position stands a literal that is not false and not the one given
pub record IsFree (trues literals : List Lit) (except : Lit) (position : ℕ) : Type 0 where
  pub literal : Lit
  pub there : slice_get literals position ≡ Some literal
  pub apart : literal ≡ except → ⊥
  pub not_false : has trues (negation literal) ≡ false

-- at these positions all literals but the one given are false
abbrev pub AreFalseBetween : List Lit → List Lit → Lit → ℕ → ℕ → Type 0
AreFalseBetween trues literals except start end =
    (k : ℕ) (l : Lit) → start ≤ k → k < end → slice_get literals k ≡ Some l → (l ≡ except → ⊥) → has trues (negation l) ≡ true
