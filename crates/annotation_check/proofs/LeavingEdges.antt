-- The edges that leave a state are those edges that leave it.
use Rattle.std.proofs.Common.{◌≡◌, ◌∙◌, ℕ, zero, suc, Bool, true, false, cond, List, [], ◌∷◌, filter, Contains, refl, ap, sym, eqb, arith}
use Rattle.std.proofs.lemmas.Bool.{eq-eqb}
use Rattle.cobuchi_automata.specs.Automata.{EdgeTree}
use Rattle.annotation_check.specs.Annotations.{edges_from}

module _ {X : Type 0} (p : X → Bool) where
  -- what passes stays in a list of those that pass, and nothing else stands there
  pub contains_filtered : (xs : List X) (x : X) → Contains xs x → p x ≡ true → Contains (filter p xs) x
  contains_filtered [] x stands passes = absurd (omega (arith, stands.1))
  contains_filtered (y ∷ ys) x (zero, within, is) passes = first (p y) (ap p is ∙ passes)
    where
      first : (b : Bool) → b ≡ true → Contains (cond b (y ∷ filter p ys) (filter p ys)) x
      first true e = (0, omega arith, is)
      first false e = absurd cc
  contains_filtered (y ∷ ys) x (suc k, within, is) passes = later (p y) (contains_filtered ys x (k, omega arith, is) passes)
    where
      later : (b : Bool) → Contains (filter p ys) x → Contains (cond b (y ∷ filter p ys) (filter p ys)) x
      later true rest = (suc rest.0, omega (arith, rest.1), rest.2)
      later false rest = rest

  pub passes_filtered : (xs : List X) (x : X) → Contains (filter p xs) x → Contains xs x × (p x ≡ true)
  passes_filtered [] x stands = absurd (omega (arith, stands.1))
  passes_filtered (y ∷ ys) x stands = by (p y) refl stands (passes_filtered ys x)
    where
      by : (b : Bool) → p y ≡ b → Contains (cond b (y ∷ filter p ys) (filter p ys)) x
          → (Contains (filter p ys) x → Contains ys x × (p x ≡ true)) → Contains (y ∷ ys) x × (p x ≡ true)
      by true e (zero, within, is) rest = ((0, omega arith, is), ap p (sym is) ∙ e)
      by true e (suc k, within, is) rest = let r = rest (k, omega arith, is) in ((suc r.0.0, omega (arith, r.0.1), r.0.2), r.1)
      by false e stands rest = let r = rest stands in ((suc r.0.0, omega (arith, r.0.1), r.0.2), r.1)

pub leaves : (edges : List EdgeTree) (q : ℕ) (e : EdgeTree) → Contains edges e → e.from ≡ q → Contains (edges_from edges q) e
leaves edges q e stands is = contains_filtered (λ d. eqb d.from q) edges e stands (eq-eqb e.from q is)
