-- Truth along a loop: the words next, finally, globally, until, release and weak until at a position, given the
-- truth of the parts at each position. Closed runs of programs and loops of letters are instances.
-- Source: Finkbeiner, Klein, Piskac, Santolucito: Temporal Stream Logic: Synthesis Beyond the Bools
-- (CAV 2019), the semantics of formulas.
use Rattle.std.specs.Prelude.{◌≡◌, ℕ, ◌<◌, Bool, true, false, not, ◌&&◌, ◌||◌, List, [], ◌∷◌}
use Rattle.std.specs.List.{list_any, list_all}
use Rattle.loop_shape.specs.LoopShape.{LoopShape, after, steps_on, reached}

-- at one of the positions the second holds, and at those before it the first
abbrev pub holds_until : (ℕ → Bool) → (ℕ → Bool) → List ℕ → Bool
holds_until a b [] = false
holds_until a b (i ∷ is) = b i || (a i && holds_until a b is)

module _ (shape : LoopShape) where
  -- at the position after this one
  abbrev pub next_at : (ℕ → Bool) → ℕ → Bool
  next_at a i = a (after shape i)

  -- at some position that is reached
  abbrev pub finally_at : (ℕ → Bool) → ℕ → Bool
  finally_at a i = list_any a (reached shape i)

  -- at every position that is reached
  abbrev pub globally_at : (ℕ → Bool) → ℕ → Bool
  globally_at a i = list_all a (reached shape i)

  -- the second at a position that is reached, and the first at those passed before it
  abbrev pub until_at : (ℕ → Bool) → (ℕ → Bool) → ℕ → Bool
  until_at a b i = holds_until a b (reached shape i)

  -- not (not a until not b)
  abbrev pub release_at : (ℕ → Bool) → (ℕ → Bool) → ℕ → Bool
  release_at a b i = not (until_at (λ j. not (a j)) (λ j. not (b j)) i)

  -- b release (b or a)
  abbrev pub weak_until_at : (ℕ → Bool) → (ℕ → Bool) → ℕ → Bool
  weak_until_at a b i = release_at b (λ j. b j || a j) i

  -- the second holds so many steps on, and the first at each step before
  pub record ComesAfter (a b : ℕ → Bool) (steps i : ℕ) : Type 0 where
    pub there : b (steps_on shape steps i) ≡ true
    pub before : (k : ℕ) → k < steps → a (steps_on shape k i) ≡ true
