-- Internal to the solver: no clause of a public function of `sat_core` uses this word. The hints of a step of a log.
use Rattle.std.specs.Prelude.{ℕ, ◌≤◌, All, List}

-- each hint is at least 1, and at most this number
abbrev pub AreHints : ℕ → List ℕ → Type 0
AreHints last hints = All (λ hint. (1 ≤ hint) × (hint ≤ last)) hints
