-- Internal: only private functions of this crate use these words.
-- Classes of labels: a class for each label, and labels are in one class where their classes are the same number.
use Rattle.std.specs.Prelude.{◌≡◌, ◌≢◌, ℕ, ◌<◌, ◌==◌, ◌⊎◌, Bool, true, ⊤, List, [], ◌∷◌, ◌++◌, map, length, Some, slice_get, get_or, if◌then◌else◌}
use Rattle.std.specs.List.{AllByRecursion}
use Rattle.term_congruence.specs.internal.Shapes.{ShapeTree, leaf_shape, applied_shape}

-- labels pairwise in a relation, in lists of one length
abbrev pub AllOne : (ℕ → ℕ → Bool) → List ℕ → List ℕ → Type 0
AllOne R [] [] = ⊤
AllOne R (m ∷ ms) (n ∷ ns) = (R m n ≡ true) × AllOne R ms ns
AllOne R [] (n ∷ ns) = ⊥
AllOne R (m ∷ ms) [] = ⊥

pub record IsEquivalence (R : ℕ → ℕ → Bool) : Type 0 where
  pub itself : (i : ℕ) → R i i ≡ true
  pub turned : (i j : ℕ) → R i j ≡ true → R j i ≡ true
  pub through : (i j k : ℕ) → R i j ≡ true → R j k ≡ true → R i k ≡ true

-- an equivalence of labels, in which shapes of one function whose parts are pairwise equivalent are equivalent
pub record IsAllowed (shapes : List ShapeTree) (R : ℕ → ℕ → Bool) : Type 0 where
  pub equivalence : IsEquivalence R
  pub alike : (i j : ℕ) (x : ShapeTree) → slice_get shapes i ≡ Some x → slice_get shapes j ≡ Some x → R i j ≡ true
  pub parts : (i j f : ℕ) (ls ms : List ℕ) → slice_get shapes i ≡ Some (applied_shape f ls) → slice_get shapes j ≡ Some
      (applied_shape f ms) →
      AllOne R ls ms → R i j ≡ true

-- labels in one class are in a relation
abbrev pub AreBelow : List ℕ → (ℕ → ℕ → Bool) → Type 0
AreBelow classes R = (i j : ℕ) → i < length classes → j < length classes → get_or classes i 0 ≡ get_or classes j 0 → R i j ≡ true

-- labels in one class stay in one class
abbrev pub StayJoined : List ℕ → List ℕ → Type 0
StayJoined old new = (length new ≡ length old)
    × ((i j : ℕ) → i < length old → j < length old → get_or old i 0 ≡ get_or old j 0 → get_or new i 0 ≡ get_or new j 0)

-- a shape with the classes of its parts in place of their labels
abbrev pub by_classes : List ℕ → ShapeTree → ShapeTree
by_classes classes (leaf_shape s t) = leaf_shape s t
by_classes classes (applied_shape f ls) = applied_shape f (map (λ l. get_or classes l 0) ls)

-- shapes that are the same by classes are in one class
abbrev pub IsClosed : List ShapeTree → List ℕ → Type 0
IsClosed shapes classes = (i j : ℕ) (x y : ShapeTree) → slice_get shapes i ≡ Some x → slice_get shapes j ≡ Some y →
    by_classes classes x ≡ by_classes classes y → get_or classes i 0 ≡ get_or classes j 0

-- two shapes that are the same by classes, in two classes
pub record IsApart (shapes : List ShapeTree) (classes : List ℕ) (a b : ℕ) : Type 0 where
  pub i : ℕ
  pub j : ℕ
  pub x : ShapeTree
  pub y : ShapeTree
  pub is_x : slice_get shapes i ≡ Some x
  pub is_y : slice_get shapes j ≡ Some y
  pub alike : by_classes classes x ≡ by_classes classes y
  pub in_a : get_or classes i 0 ≡ a
  pub in_b : get_or classes j 0 ≡ b
  pub differ : a ≢ b

-- the parts of shapes are labels below a number
abbrev pub HasPartsBelow : ℕ → ShapeTree → Type 0
HasPartsBelow n (leaf_shape s t) = ⊤
HasPartsBelow n (applied_shape f ls) = AllByRecursion (λ l. l < n) ls

-- there is a class for each shape, and the parts are labels
pub record AreClasses (shapes : List ShapeTree) (classes : List ℕ) : Type 0 where
  pub long : length classes ≡ length shapes
  pub within : AllByRecursion (HasPartsBelow (length shapes)) shapes

abbrev pub moved : ℕ → ℕ → ℕ → ℕ
moved from to c = if c == from then to else c

-- the labels of one class are put into another one
pub record IsJoined (old new : List ℕ) (from to : ℕ) : Type 0 where
  pub long : length new ≡ length old
  pub each : (i : ℕ) → i < length old → get_or new i 0 ≡ moved from to (get_or old i 0)

-- a key is at a place of a list that it was added to, where it was not there
abbrev pub IsPlaced : List ShapeTree → ShapeTree → List ShapeTree → ℕ → Type 0
IsPlaced old x new place = ((new ≡ old) × (slice_get old place ≡ Some x))
    ⊎ ((new ≡ old ++ x ∷ []) × (place ≡ length old) × ((i : ℕ) → slice_get old i ≡ Some x → ⊥))

-- the shapes before a number, by classes: where each one is found with its class
pub record AreKeysFound (shapes : List ShapeTree) (classes : List ℕ) (n : ℕ) (seen : List ShapeTree) (found : List ℕ) : Type 0 where
  pub long : length found ≡ length seen
  pub once : (i j : ℕ) (x : ShapeTree) → slice_get seen i ≡ Some x → slice_get seen j ≡ Some x → i ≡ j
  pub each : (k a : ℕ) (key : ShapeTree) → slice_get seen k ≡ Some key → slice_get found k ≡ Some a →
      (i : ℕ) × (x : ShapeTree) × (slice_get shapes i ≡ Some x) × (by_classes classes x ≡ key) × (get_or classes i 0 ≡ a)
  pub all : (i : ℕ) (x : ShapeTree) → i < n → slice_get shapes i ≡ Some x →
      (k : ℕ) × (slice_get seen k ≡ Some (by_classes classes x)) × (slice_get found k ≡ Some (get_or classes i 0))

-- two labels that are put into one class
pub record LabelPairTree : Type 0 where
  pub left : ℕ
  pub right : ℕ

-- The smallest classes in which the listed labels are together and that shapes which are the same by classes do not leave.
pub record AreSmallest (shapes : List ShapeTree) (pairs : List LabelPairTree) (classes : List ℕ) : Type 0 where
  pub long : length classes ≡ length shapes
  pub listed : AllByRecursion (λ p. get_or classes p.left 0 ≡ get_or classes p.right 0) pairs
  pub closed : IsClosed shapes classes
  pub below : (R : ℕ → ℕ → Bool) → IsAllowed shapes R → AllByRecursion (λ p. R p.left p.right ≡ true) pairs → AreBelow classes R

-- each label is in a class of its own
pub record AreOwn (count : ℕ) (classes : List ℕ) : Type 0 where
  pub long : length classes ≡ count
  pub own : (i : ℕ) → i < count → get_or classes i 0 ≡ i

-- some pairs are joined
pub record ArePairsJoined (pairs : List LabelPairTree) (old new : List ℕ) : Type 0 where
  pub stay : StayJoined old new
  pub listed : AllByRecursion (λ p. get_or new p.left 0 ≡ get_or new p.right 0) pairs
  pub below : (R : ℕ → ℕ → Bool) → IsEquivalence R → AllByRecursion (λ p. R p.left p.right ≡ true) pairs → AreBelow old R → AreBelow new R

abbrev pub IsPairBelow : ℕ → LabelPairTree → Type 0
IsPairBelow n p = (p.left < n) × (p.right < n)
