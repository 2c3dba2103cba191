-- Loops that gather the members of a range that pass a test.
use Rattle.std.proofs.Common.{◌≡◌, ◌∙◌, ◌<◌, ◌≤◌, ◌+◌, ℕ, List, [], ◌∷◌, ◌++◌, map, filter, refl, sym, ap, append_assoc, append-nil, arith, Bool, true, false, cond}
use Rattle.std.proofs.Common.{◌^◌, ◌%◌, nat_lt, length, zero, suc}
use Rattle.std.specs.List.{range_with_len, AllByRecursion}
use Rattle.letter_space.specs.SpaceTree.{bit_count}
use Rattle.bounded_encoding.specs.Question.{QuestionTree}
use Rattle.std.specs.Prelude.{nat_le}
use Rattle.ltl_formula.specs.Cubes.{cube_matches}
use Rattle.cobuchi_automata.specs.Automata.{EdgeTree}
use Rattle.bounded_encoding.specs.Variables.{valuations_of}
use Rattle.bounded_encoding.specs.Encoding.{meeting, met_valuations}
use Rattle.bounded_encoding.specs.ClauseLists.{between}
use Rattle.bounded_encoding.proofs.Between.{between_more, between_none}

passing : {X : Type 0} (t : Bool) (a : ℕ) (g : ℕ → X) (later : List ℕ) → map g (cond t (a ∷ later) later)
    ≡ cond t (g a ∷ []) [] ++ map g later
passing true a g later = refl
passing false a g later = refl

-- one turn, and the end
pub gathered : {X : Type 0} (whole xs ys : List X) (a b : ℕ) (t : ℕ → Bool) (g : ℕ → X) → a < b → xs ++ map g (filter t (between a b))
    ≡ whole
    → ys ≡ xs ++ cond (t a) (g a ∷ []) [] → ys ++ map g (filter t (between (a + 1) b)) ≡ whole
gathered whole xs ys a b t g h e is =
    ap (λ (zs : List _). zs ++ map g (filter t (between (a + 1) b))) is
    ∙ (append_assoc xs (cond (t a) (g a ∷ []) []) (map g (filter t (between (a + 1) b)))
    ∙ (ap (λ (zs : List _). xs ++ zs) (sym (passing (t a) a g (filter t (between (a + 1) b))))
    ∙ (ap (λ (ns : List ℕ). xs ++ map g (filter t ns)) (sym (between_more a b h)) ∙ e)))

pub gathered_all : {X : Type 0} (whole xs : List X) (a b : ℕ) (t : ℕ → Bool) (g : ℕ → X) → b ≤ a → xs ++ map g (filter t (between a b))
    ≡ whole → xs ≡ whole
gathered_all whole xs a b t g h e = sym (append-nil xs) ∙ (ap (λ (ns : List ℕ). xs ++ map g (filter t ns)) (sym (between_none a b h)) ∙ e)

-- what is below a power is not reached beyond it
pub not_reached : (bits p q n : ℕ) → 64 ≤ bits → q ≤ p → n < q → nat_lt bits 64 ≡ nat_le p n
not_reached bits p q n h up low =
    let a : nat_lt bits 64 ≡ false = grind (arith, h) in
    let b : nat_le p n ≡ false = grind (arith, up, low) in
    a ∙ sym b

-- what is gathered of the numbers below another is below it
pub below_filtered : (n : ℕ) (t : ℕ → Bool) (a k : ℕ) → a + k ≤ n → AllByRecursion (λ v. v < n) (filter t (range_with_len a k))
below_filtered n t a zero h = tt
below_filtered n t a (suc k) h = by_test (below_filtered n t (a + 1) k (omega (arith, h))) (t a)
  where
    by_test : AllByRecursion (λ v. v < n) (filter t (range_with_len (a + 1) k)) → (pass : Bool)
        → AllByRecursion (λ v. v < n) (cond pass (a ∷ filter t (range_with_len (a + 1) k)) (filter t (range_with_len (a + 1) k)))
    by_test later true = (omega (arith, h), later)
    by_test later false = later

pub met_below : (q : QuestionTree) (e : EdgeTree) → AllByRecursion (λ v. v < valuations_of q) (met_valuations q e)
met_below q e = by_test (nat_le (2 ^ bit_count q.space) e.want)
  where
    by_test : (out : Bool) → AllByRecursion (λ v. v < valuations_of q)
        (cond out [] (meeting (length q.space.predicates) (e.care % 2 ^ length q.space.predicates)
        (e.want % 2 ^ length q.space.predicates)))
    by_test true = tt
    by_test false = below_filtered (valuations_of q)
        (cube_matches (e.care % 2 ^ length q.space.predicates) (e.want % 2 ^ length q.space.predicates))
        0 (valuations_of q) (omega arith)
