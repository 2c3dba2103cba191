-- Steps between pairs are moves and edges that match.
use Rattle.std.proofs.Common.{◌≡◌, ◌∙◌, zero, suc, inl, inr, Bool, true, false, cond, List, [], ◌∷◌, Contains, refl, sym, ap, subst}
use Rattle.std.proofs.Common.{arith, ◌⊎◌}
use Rattle.std.proofs.lemmas.List.Elements.{Contains-append_left, Contains-append_right, Contains-append_cases}
use Rattle.ltl_formula.specs.Cubes.{cube_matches}
use Rattle.cobuchi_automata.specs.Automata.{EdgeTree}
use Rattle.machines.specs.Moves.{MoveTree}
use Rattle.full_bound.specs.internal.Pairs.{PairStep, edge_steps, steps_between}

abbrev pub Matches : PairStep → Type 0
Matches s = cube_matches s.edge.care s.edge.want s.move.letter ≡ true

in_along : (e : EdgeTree) (ms : List MoveTree) (s : PairStep) → Contains (edge_steps e ms) s → Contains ms s.move × (e ≡ s.edge) × Matches s
in_along e [] s stands = absurd (omega (arith, stands.1))
in_along e (m ∷ ms) s stands = by (cube_matches e.care e.want m.letter) refl stands (in_along e ms s)
  where
    by : (b : Bool) → cube_matches e.care e.want m.letter ≡ b
        → Contains (cond b (record { move = m; edge = e } ∷ edge_steps e ms) (edge_steps e ms)) s
        → (Contains (edge_steps e ms) s → Contains ms s.move × (e ≡ s.edge) × Matches s) → Contains (m ∷ ms) s.move × (e ≡ s.edge)
        × Matches s
    by true at (zero, within, is) rest = (
      (0, omega arith, ap (λ t. t.move) is),
      ap (λ t. t.edge) is,
      ap (λ t. cube_matches t.edge.care t.edge.want t.move.letter) (sym is) ∙ at,
    )
    by true at (suc k, within, is) rest = let r = rest (k, omega arith, is) in ((suc r.0.0, omega (arith, r.0.1), r.0.2), r.1, r.2)
    by false at stands rest = let r = rest stands in ((suc r.0.0, omega (arith, r.0.1), r.0.2), r.1, r.2)

has_along : (e : EdgeTree) (ms : List MoveTree) (m : MoveTree) → Contains ms m → cube_matches e.care e.want m.letter ≡ true
    → Contains (edge_steps e ms) (record { move = m; edge = e })
has_along e [] m stands matches = absurd (omega (arith, stands.1))
has_along e (n ∷ ms) m (zero, within, is) matches =
    first (cube_matches e.care e.want n.letter) (ap (λ k. cube_matches e.care e.want k.letter) is ∙ matches)
  where
    first : (b : Bool) → b ≡ true → Contains (cond b (record { move = n; edge = e } ∷ edge_steps e ms) (edge_steps e ms))
        (record { move = m; edge = e })
    first true at = (0, omega arith, ap (λ k. record { move = k; edge = e }) is)
    first false at = absurd cc
has_along e (n ∷ ms) m (suc k, within, is) matches =
    later (cube_matches e.care e.want n.letter) (has_along e ms m (k, omega arith, is) matches)
  where
    later : (b : Bool) → Contains (edge_steps e ms) (record { move = m; edge = e })
        → Contains (cond b (record { move = n; edge = e } ∷ edge_steps e ms) (edge_steps e ms)) (record { move = m; edge = e })
    later true rest = (suc rest.0, omega (arith, rest.1), rest.2)
    later false rest = rest

pub in_steps : (ms : List MoveTree) (es : List EdgeTree) (s : PairStep) → Contains (steps_between ms es) s
    → Contains ms s.move × Contains es s.edge × Matches s
in_steps ms [] s stands = absurd (omega (arith, stands.1))
in_steps ms (e ∷ es) s stands = by (Contains-append_cases (edge_steps e ms) (steps_between ms es) s stands) (in_steps ms es s)
  where
    by : Contains (edge_steps e ms) s ⊎ Contains (steps_between ms es) s
        → (Contains (steps_between ms es) s → Contains ms s.move × Contains es s.edge × Matches s)
        → Contains ms s.move × Contains (e ∷ es) s.edge × Matches s
    by (inl here) rest = let r = in_along e ms s here in (r.0, (0, omega arith, r.1), r.2)
    by (inr later) rest = let r = rest later in (r.0, (suc r.1.0, omega (arith, r.1.1), r.1.2), r.2)

pub has_step : (ms : List MoveTree) (es : List EdgeTree) (m : MoveTree) (e : EdgeTree) → Contains ms m → Contains es e
    → cube_matches e.care e.want m.letter ≡ true → Contains (steps_between ms es) (record { move = m; edge = e })
has_step ms [] m e moved there matches = absurd (omega (arith, there.1))
has_step ms (d ∷ es) m e moved (zero, within, is) matches =
    Contains-append_left (edge_steps d ms) (steps_between ms es) (record { move = m; edge = e })
    (subst (λ k. Contains (edge_steps k ms) (record { move = m; edge = e })) (sym is) (has_along e ms m moved matches))
has_step ms (d ∷ es) m e moved (suc k, within, is) matches =
    Contains-append_right (edge_steps d ms) (steps_between ms es) (record { move = m; edge = e })
    (has_step ms es m e moved (k, omega arith, is) matches)
