-- The other words by the until, and their unrolling.
use Rattle.std.proofs.Common.{◌≡◌, ◌∙◌, ℕ, Bool, true, false, not, ◌&&◌, ◌||◌, List, [], ◌∷◌, refl, sym, ap}
use Rattle.std.specs.List.{list_all, list_any}
use Rattle.base_library.proofs.Booleans.{not_not}
use Rattle.loop_shape.specs.LoopShape.{LoopShape, IsPosition, after, reached}
use Rattle.loop_shape.specs.AlongLoop.{holds_until, finally_at, globally_at, until_at, release_at, weak_until_at}
use Rattle.loop_shape.proofs.Untils.{until_unrolls}

-- along any positions
any_is_until : (a : ℕ → Bool) (is : List ℕ) → list_any a is ≡ holds_until (λ _. true) a is
any_is_until a [] = refl
any_is_until a (i ∷ is) = ap (λ b. a i || b) (any_is_until a is)

not_any_is_all : (a : ℕ → Bool) (is : List ℕ) → not (list_any a is) ≡ list_all (λ j. not (a j)) is
not_any_is_all a [] = refl
not_any_is_all a (i ∷ is) = by (a i) (not_any_is_all a is)
  where
    by : (b : Bool) → not (list_any a is) ≡ list_all (λ j. not (a j)) is →
        not (b || list_any a is) ≡ (not b && list_all (λ j. not (a j)) is)
    by true rest = refl
    by false rest = rest

not_not_each : (a : ℕ → Bool) → (λ (j : ℕ). not (not (a j))) ≡ a
not_not_each a i j = not_not (a j) i

module _ (shape : LoopShape) where
  pub finally_is_until : (a : ℕ → Bool) (i : ℕ) → finally_at shape a i ≡ until_at shape (λ _. true) a i
  finally_is_until a i = any_is_until a (reached shape i)

  pub not_finally : (a : ℕ → Bool) (i : ℕ) → not (finally_at shape a i) ≡ globally_at shape (λ j. not (a j)) i
  not_finally a i = not_any_is_all a (reached shape i)

  pub globally_is_release : (a : ℕ → Bool) (i : ℕ) → globally_at shape a i ≡ release_at shape (λ _. false) a i
  globally_is_release a i =
      (λ k. globally_at shape (sym (not_not_each a) k) i)
      ∙ sym (not_finally (λ j. not (a j)) i)
      ∙ ap not (finally_is_until (λ j. not (a j)) i)

  pub not_until : (a b : ℕ → Bool) (i : ℕ) → not (until_at shape a b i) ≡ release_at shape (λ j. not (a j)) (λ j. not (b j)) i
  not_until a b i = λ k. not (until_at shape (sym (not_not_each a) k) (sym (not_not_each b) k) i)

  pub not_release : (a b : ℕ → Bool) (i : ℕ) → not (release_at shape a b i) ≡ until_at shape (λ j. not (a j)) (λ j. not (b j)) i
  not_release a b i = not_not (until_at shape (λ j. not (a j)) (λ j. not (b j)) i)

  module _ (i : ℕ) (p : IsPosition shape i) where
    pub finally_unrolls : (a : ℕ → Bool) → finally_at shape a i ≡ (a i || finally_at shape a (after shape i))
    finally_unrolls a =
        finally_is_until a i ∙ until_unrolls shape (λ _. true) a i p
        ∙ ap (λ b. a i || b) (sym (finally_is_until a (after shape i)))

    pub release_unrolls : (a b : ℕ → Bool) → release_at shape a b i ≡ (b i && (a i || release_at shape a b (after shape i)))
    release_unrolls a b =
        ap not (until_unrolls shape (λ j. not (a j)) (λ j. not (b j)) i p)
        ∙ by (a i) (b i) (until_at shape (λ j. not (a j)) (λ j. not (b j)) (after shape i))
      where
        by : (c d u : Bool) → not (not d || (not c && u)) ≡ (d && (c || not u))
        by true true u = refl
        by false true u = refl
        by c false u = refl

    pub globally_unrolls : (a : ℕ → Bool) → globally_at shape a i ≡ (a i && globally_at shape a (after shape i))
    globally_unrolls a =
        globally_is_release a i ∙ release_unrolls (λ _. false) a
        ∙ ap (λ b. a i && b) (sym (globally_is_release a (after shape i)))

    pub weak_until_unrolls : (a b : ℕ → Bool) → weak_until_at shape a b i ≡ (b i || (a i && weak_until_at shape a b (after shape i)))
    weak_until_unrolls a b = release_unrolls b (λ j. b j || a j) ∙ by (a i) (b i) (weak_until_at shape a b (after shape i))
      where
        by : (c d u : Bool) → ((d || c) && (d || u)) ≡ (d || (c && u))
        by c true u = refl
        by c false u = refl
