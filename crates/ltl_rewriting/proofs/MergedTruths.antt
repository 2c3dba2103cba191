-- What holds always of two truths, or sometime of one of them.
use Rattle.std.proofs.Common.{◌≡◌, ◌∙◌, ℕ, Bool, true, false, not, ◌&&◌, ◌||◌, List, [], ◌∷◌, refl, ap}
use Rattle.loop_shape.specs.LoopShape.{LoopShape, reached}
use Rattle.loop_shape.specs.AlongLoop.{holds_until, until_at, release_at}

-- four truths of which the middle ones change places
or_exchanged : (a b u v : Bool) → ((a || b) || (u || v)) ≡ ((a || u) || (b || v))
or_exchanged true b u v = refl
or_exchanged false true true v = refl
or_exchanged false true false v = refl
or_exchanged false false u v = refl

not_both : (a b : Bool) → not (a && b) ≡ (not a || not b)
not_both true b = refl
not_both false b = refl

not_either : (a b : Bool) → not (a || b) ≡ (not a && not b)
not_either true b = refl
not_either false b = refl

-- along any positions
until_merged : (a b : ℕ → Bool) (is : List ℕ) →
    holds_until (λ _. true) (λ j. a j || b j) is ≡ (holds_until (λ _. true) a is || holds_until (λ _. true) b is)
until_merged a b [] = refl
until_merged a b (i ∷ is) =
    ap (λ u. (a i || b i) || u) (until_merged a b is)
    ∙ or_exchanged (a i) (b i) (holds_until (λ _. true) a is) (holds_until (λ _. true) b is)

never_until : (is : List ℕ) → holds_until (λ _. true) (λ _. false) is ≡ false
never_until [] = refl
never_until (i ∷ is) = never_until is

module _ (shape : LoopShape) where
  pub sometime_merged : (a b : ℕ → Bool) (i : ℕ) →
      until_at shape (λ _. true) (λ j. a j || b j) i ≡ (until_at shape (λ _. true) a i || until_at shape (λ _. true) b i)
  sometime_merged a b i = until_merged a b (reached shape i)

  pub always_merged : (a b : ℕ → Bool) (i : ℕ) →
      release_at shape (λ _. false) (λ j. a j && b j) i ≡ (release_at shape (λ _. false) a i && release_at shape (λ _. false) b i)
  always_merged a b i =
      (λ k. not (until_at shape (λ _. true) (λ j. not_both (a j) (b j) k) i))
      ∙ ap not (sometime_merged (λ j. not (a j)) (λ j. not (b j)) i)
      ∙ not_either (until_at shape (λ _. true) (λ j. not (a j)) i) (until_at shape (λ _. true) (λ j. not (b j)) i)

  -- what is false does not come, and what is true holds always
  pub false_never : (i : ℕ) → until_at shape (λ _. true) (λ _. false) i ≡ false
  false_never i = never_until (reached shape i)

  pub true_always : (i : ℕ) → release_at shape (λ _. false) (λ _. true) i ≡ true
  true_always i = ap not (false_never i)
