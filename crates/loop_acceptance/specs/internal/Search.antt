-- Internal: only private functions and proofs of this crate use these words.
-- What a search for a turn has found: a mark of each node, the nodes that are open in the order in which they were, and the red ones.
use Rattle.std.specs.Prelude.{◌≡◌, ℕ, suc, ◌+◌, ◌<◌, ◌≤◌, Bool, true, false, not, ◌&&◌}
use Rattle.std.specs.Prelude.{cond, List, [], ◌∷◌, ◌++◌, length, Option, Some, None, option_and_then, slice_get}
use Rattle.std.specs.Prelude.{slice_set, slice_index_or, ◌⊎◌}
use Rattle.loop_acceptance.specs.declared.product.Step.{Step}
use Rattle.loop_acceptance.specs.declared.marks.Mark.{Mark}
use Rattle.loop_acceptance.specs.declared.marks.Mark.TheVariants.{New, Open, Done, Red}
use Rattle.loop_acceptance.specs.declared.search.Frame.{Frame}
use Rattle.loop_acceptance.specs.internal.Graph.{StepsTo, Rejects, WalksTo}

abbrev pub is_new : Mark → Bool
is_new New = true
is_new Open = false
is_new Done = false
is_new Red = false

abbrev pub is_open : Mark → Bool
is_open New = false
is_open Open = true
is_open Done = false
is_open Red = false

abbrev pub is_done : Mark → Bool
is_done New = false
is_done Open = false
is_done Done = true
is_done Red = false

-- the marks and the red nodes after a node is met by the inner search
abbrev pub marks_met : List Mark → ℕ → List Mark
marks_met marks p = cond (is_done (slice_index_or marks p New)) (slice_set marks p Red) marks

abbrev pub red_met : List Mark → List ℕ → ℕ → List ℕ
red_met marks red p = cond (is_done (slice_index_or marks p New)) (red ++ p ∷ []) red

-- the marks and the open nodes after a node is met by the outer search
abbrev pub marks_opened : List Mark → ℕ → List Mark
marks_opened marks p = cond (is_new (slice_index_or marks p Open)) (slice_set marks p Open) marks

abbrev pub frames_opened : List Mark → List Frame → ℕ → ℕ → List Frame
frames_opened marks frames p left =
    cond (is_new (slice_index_or marks p Open)) (frames ++ record { node = p; left = left } ∷ []) frames

-- so much for each mark that passes a test
abbrev pub marks_weight : (Mark → Bool) → ℕ → List Mark → ℕ
marks_weight test each [] = 0
marks_weight test each (m ∷ ms) = cond (test m) each 0 + marks_weight test each ms

-- how many steps of open nodes are to be taken, and how many nodes to be left
abbrev pub frames_left : List Frame → ℕ
frames_left [] = 0
frames_left (f ∷ fs) = suc f.left + frames_left fs

-- a node has a mark
abbrev pub Is : List Mark → Mark → ℕ → Type 0
Is marks m p = slice_get marks p ≡ Some m

abbrev pub IsFinished : List Mark → ℕ → Type 0
IsFinished marks p = Is marks Done p ⊎ Is marks Red p

abbrev pub IsNotNew : List Mark → ℕ → Type 0
IsNotNew marks p = Is marks Open p ⊎ IsFinished marks p

-- a step, or none where it is not rejecting and only rejecting ones are asked for
abbrev pub asked_for : Bool → Option Step → Option Step
asked_for rejecting_alone o = option_and_then (λ s. cond (rejecting_alone && not s.rejecting) None (Some s)) o

-- the red nodes are those with the mark
pub record AreRed (marks : List Mark) (red : List ℕ) : Type 0 where
  pub listed : (p : ℕ) → Is marks Red p → (i : ℕ) × (slice_get red i ≡ Some p)
  pub marked : (i p : ℕ) → slice_get red i ≡ Some p → Is marks Red p

-- From marks and red nodes an inner search has gone on to others: nodes that were done became red, and of each of these P holds.
pub record HasReddened (P : ℕ → Type 0) (old : List Mark) (old_red : List ℕ) (marks : List Mark) (red : List ℕ) : Type 0 where
  pub size : length marks ≡ length old
  pub changes : (p : ℕ) → (slice_get marks p ≡ slice_get old p) ⊎ (Is old Done p × Is marks Red p)
  pub are_red : AreRed marks red
  pub stay : (i p : ℕ) → slice_get old_red i ≡ Some p → slice_get red i ≡ Some p
  pub reached : (i p : ℕ) → slice_get red i ≡ Some p → (slice_get old_red i ≡ Some p) ⊎ P p
  pub grows : length old_red ≤ length red
  pub fewer : marks_weight is_done 1 marks + length red ≤ marks_weight is_done 1 old + length old_red
  pub as_new : (each : ℕ) → marks_weight is_new each marks ≡ marks_weight is_new each old

module _ (step : ℕ → ℕ → Option Step) where
  -- a step of a node that may be asked for leads to another
  abbrev pub StepsBy : Bool → ℕ → ℕ → Type 0
  StepsBy rejecting_alone p q = (k : ℕ) × (s : Step) × (asked_for rejecting_alone (step p k) ≡ Some s) × (s.to ≡ q)

  -- a rejecting step of a node leads to where steps reach another
  abbrev pub TurnsTo : ℕ → ℕ → Type 0
  TurnsTo s p = (t : ℕ) × Rejects step s t × WalksTo step t p

  -- the steps of a node lead to nodes that are not new
  abbrev pub LeadsToNoNew : List Mark → ℕ → Type 0
  LeadsToNoNew marks p = (k : ℕ) (s : Step) → step p k ≡ Some s → IsNotNew marks s.to

  -- those of each finished node do
  abbrev pub NoneLeadToNew : List Mark → Type 0
  NoneLeadToNew marks = (p : ℕ) → IsFinished marks p → LeadsToNoNew marks p

  -- the first so many red nodes lead to red ones alone
  abbrev pub AreClosed : List Mark → List ℕ → ℕ → Type 0
  AreClosed marks red n = (i p : ℕ) → i < n → slice_get red i ≡ Some p → (q : ℕ) → StepsTo step p q → Is marks Red q

  -- What the outer search has found. A node that is finished leads to none that is new, and no rejecting step of it lies on a turn.
  -- The open nodes are those of the frames, each leads to those above it, and no step that is not left leads to a new one.
  pub record HasFound (nodes : ℕ) (marks : List Mark) (red : List ℕ) (frames : List Frame) : Type 0 where
    pub size : length marks ≡ nodes
    pub are_red : AreRed marks red
    pub closed : AreClosed marks red (length red)
    pub seen : NoneLeadToNew marks
    pub never : (p q : ℕ) → IsFinished marks p → Rejects step p q → WalksTo step q p → ⊥
    pub in_frame : (p : ℕ) → Is marks Open p → (i : ℕ) × (f : Frame) × (slice_get frames i ≡ Some f) × (f.node ≡ p)
    pub opened : (i : ℕ) (f : Frame) → slice_get frames i ≡ Some f → Is marks Open f.node
    pub once : (i j : ℕ) (f g : Frame) → slice_get frames i ≡ Some f → slice_get frames j ≡ Some g → f.node ≡ g.node → i ≡ j
    pub reached : (i : ℕ) (f : Frame) → slice_get frames i ≡ Some f → WalksTo step 0 f.node
    pub way : (i j : ℕ) (f g : Frame) → i ≤ j → slice_get frames i ≡ Some f → slice_get frames j ≡ Some g → WalksTo step f.node g.node
    pub taken : (i : ℕ) (f : Frame) → slice_get frames i ≡ Some f → (k : ℕ) (s : Step) → f.left ≤ k → step f.node k ≡ Some s
        → IsNotNew marks s.to

  -- and it has begun with node 0
  pub record IsNestedSearch (nodes : ℕ) (marks : List Mark) (red : List ℕ) (frames : List Frame) : Type 0 where
    pub first : IsNotNew marks 0
    pub found : HasFound nodes marks red frames

-- how much is left to do at most, where a node has at most so many steps
abbrev pub nested_left : ℕ → List Mark → List Frame → ℕ
nested_left most marks frames = marks_weight is_new (suc most) marks + frames_left frames
