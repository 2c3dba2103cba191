-- Where ranks fall along uses nothing reaches itself; and where each of some uses one of them, some of them does.
use Rattle.std.proofs.Common.{inl, inr, ℕ, ◌<◌, List, [], ◌∷◌, arith}
use Rattle.std.specs.Prelude.{◌⊎◌}
use Rattle.definition_expansion.specs.Reaching.{Reaches, one, more, Among, first, later, UsesOne}

module _ {A : Type 0} where
  pub lower : (uses : A → A → Type 0) (rank : A → ℕ) → ((x y : A) → uses x y → rank y < rank x) → (x y : A) → Reaches uses x y →
      rank y < rank x
  lower uses rank falls x y (one h) = falls x y h
  lower uses rank falls x z (more {y = y} h k) = omega (arith, falls x y h, lower uses rank falls y z k)

  pub ranked_has_no_cycle : (uses : A → A → Type 0) (rank : A → ℕ) → ((x y : A) → uses x y → rank y < rank x) → (x : A) →
      Reaches uses x x → ⊥
  ranked_has_no_cycle uses rank falls x h = omega (arith, lower uses rank falls x x h)

  -- uses, also through x
  Through : (A → A → Type 0) → A → A → A → Type 0
  Through uses x a b = uses a b ⊎ (uses a x × uses x b)

  go_through : (uses : A → A → Type 0) (x a b : A) → Reaches (Through uses x) a b → Reaches uses a b
  unfolding Through
  go_through uses x a b (one (inl h)) = one h
  go_through uses x a b (one (inr h)) = more h.0 (one h.1)
  go_through uses x a b (more {y = c} (inl h) k) = more h (go_through uses x c b k)
  go_through uses x a b (more {y = c} (inr h) k) = more h.0 (more h.1 (go_through uses x c b k))

  pub some_cycle : (xs : List A) (uses : A → A → Type 0) (a : A) → Among a xs → ((x : A) → Among x xs → UsesOne uses xs x) →
      (z : A) × Among z xs × Reaches uses z z
  unfolding Through
  some_cycle [] uses a h next = absurd (none a h)
    where
      none : (b : A) → Among b [] → ⊥
      none b k = elim k [ ]
  some_cycle (x ∷ xs) uses a h next = by (next x first).0 (next x first).1 (next x first).2
      (λ b among step. some_cycle xs (Through uses x) b among step)
    where
      shorter : (y : A) → Among y xs → uses x y → (c b : A) → Among b (x ∷ xs) → uses c b → UsesOne (Through uses x) xs c
      shorter y among u c b first v = (y, among, inr (v, u))
      shorter y among u c b (later k) v = (b, k, inl v)

      by : (y : A) → Among y (x ∷ xs) → uses x y →
          ((b : A) → Among b xs → ((c : A) → Among c xs → UsesOne (Through uses x) xs c) →
          (z : A) × Among z xs × Reaches (Through uses x) z z) →
          (z : A) × Among z (x ∷ xs) × Reaches uses z z
      by y first u rest = (x, first, one u)
      by y (later k) u rest =
          let found = rest y k (λ c among. shorter y k u c (next c (later among)).0 (next c (later among)).1 (next c (later among)).2) in
          (found.0, later found.1, go_through uses x found.0 found.0 found.2)
