-- A clause of a transition that does not lead from a pair to itself has no literal with its negation.
use Rattle.std.proofs.Common.{◌≡◌, ◌≢◌, ◌∙◌, ◌<◌, ◌≤◌, ◌+◌, ◌-◌, ◌*◌, ◌/◌, ◌%◌, ◌==◌, ℕ, List, [], ◌∷◌, ◌++◌, map, filter, not, Bool, true, false, cond, refl, sym, ap, arith, nat_lt}
use Rattle.std.specs.Prelude.{nat_le}
use Rattle.std.specs.List.{AllByRecursion}
use Rattle.std.proofs.lemmas.Bool.{true≢false, false≢true, false_from_ne_true, eqb-true}
use Rattle.std.proofs.lemmas.Nat.{div-mul-add, mod-mul-add}
use Rattle.base_library.proofs.Each.{each_map, each_weaker}
use Rattle.ltl_formula.specs.Cubes.{has_bit}
use Rattle.clause_core.specs.Literals.{Lit, negation}
use Rattle.clause_core.specs.Clauses.{in_order, has_pair}
use Rattle.clause_core.proofs.Sets.{AllByRecursion-has, All-in_order, pair_from}
use Rattle.cobuchi_automata.specs.Automata.{EdgeTree}
use Rattle.annotation_check.specs.Annotations.{after_edge}
use Rattle.bounded_encoding.specs.ClauseLists.{below}
use Rattle.bounded_encoding.specs.SimpleClauses.{yes_at, no_at}
use Rattle.bounded_encoding.specs.Frames.{FrameTree, next_at, number_at, before_pairs_of}
use Rattle.bounded_encoding.specs.Sides.{differing, numbered, clause_along}
use Rattle.bounded_encoding.proofs.Adding.{row}
use Rattle.bounded_encoding.proofs.Gathering.{below_filtered}

-- where the sign of a literal is told by its variable, no clause has a literal and its negation
module _ (sign : ℕ → Bool) where
  abbrev pub IsSigned : Lit → Type 0
  IsSigned l = l.positive ≡ sign l.index

  differs : (b : Bool) → b ≡ not b → ⊥
  differs true h = true≢false h
  differs false h = false≢true h

  pub no_pair : (clause : List Lit) → AllByRecursion IsSigned clause → has_pair (in_order clause) ≡ false
  no_pair clause signed = false_from_ne_true (has_pair (in_order clause)) (λ paired. refuted paired)
    where
      refuted : has_pair (in_order clause) ≡ true → ⊥
      refuted paired =
          let pair = pair_from (in_order clause) paired in
          let all = All-in_order IsSigned clause signed in
          let one : pair.literal.positive ≡ sign pair.literal.index = AllByRecursion-has IsSigned (in_order clause) pair.literal all pair.one in
          let other : not pair.literal.positive ≡ sign pair.literal.index
          = AllByRecursion-has IsSigned (in_order clause) (negation pair.literal) all pair.other in
          differs pair.literal.positive (one ∙ sym other)

  pub signed_both : (xs ys : List Lit) → AllByRecursion IsSigned xs → AllByRecursion IsSigned ys → AllByRecursion IsSigned (xs ++ ys)
  signed_both [] ys h g = g
  signed_both (x ∷ xs) ys h g = (h.0, signed_both xs ys h.1 g)

-- two numbers of pairs with one index are of one pair
same_place : (w k i l j : ℕ) → i < w → j < w → k * w + i ≡ l * w + j → (k ≡ l) × (i ≡ j)
same_place w k i l j a b h = (
  sym (div-mul-add k w i a) ∙ (ap (λ (n : ℕ). n / w) h ∙ div-mul-add l w j b),
  sym (mod-mul-add k w i a) ∙ (ap (λ (n : ℕ). n % w) h ∙ mod-mul-add l w j b),
)

one_number : (f : FrameTree) (s p i t q j : ℕ) → p < f.automaton_states → q < f.automaton_states → i < f.bound + 1 → j < f.bound + 1 →
    number_at f s p i ≡ number_at f t q j → (s ≡ t) × (p ≡ q) × (i ≡ j)
one_number f s p i t q j in_left in_reached low high h =
    let inner : (s * f.automaton_states + p) * (f.bound + 1) + i ≡ (t * f.automaton_states + q) * (f.bound + 1) + j = omega (arith, h) in
    let outer = same_place (f.bound + 1) (s * f.automaton_states + p) i (t * f.automaton_states + q) j low high inner in
    let states = same_place f.automaton_states s p t q in_left in_reached outer.0 in
    (states.0, states.1, outer.1)

-- an edge that keeps a number is not rejecting
kept_number : (b : Bool) (i : ℕ) → i ≡ i + cond b 1 0 → b ≡ false
kept_number true i h = absurd (omega (arith, h))
kept_number false i h = refl

module _ (f : FrameTree) (base : ℕ) (e : EdgeTree) (s r t i : ℕ) (own : base + f.bits ≤ f.own) (in_states : s < f.states) (in_rows : r < f.rows)
    (in_next : t < f.states) (in_from : e.from < f.automaton_states) (in_to : e.to < f.automaton_states) (low : i < f.bound + 1)
    (apart : (s ≡ t) × (e.from ≡ e.to) × (e.rejecting ≡ false) → ⊥) where
  abbrev x : ℕ
  x = number_at f s e.from i

  abbrev y : ℕ
  y = next_at f s r t

  abbrev later : ℕ
  later = after_edge i e

  abbrev z : ℕ
  z = number_at f t e.to later

  -- the signs of own variables, and of others
  abbrev sign_by : (ℕ → Bool) → ℕ → Bool
  sign_by others n = cond (nat_lt n f.own) (not (has_bit (f.first_bit + (n - base)) e.want)) (others n)

  own_signed : (others : ℕ → Bool) (b : ℕ) → b < f.bits → not (has_bit (f.first_bit + b) e.want) ≡ sign_by others (base + b)
  own_signed others b h =
      let inside : nat_lt (base + b) f.own ≡ true = grind (arith, h, own) in
      let back : base + b - base ≡ b = omega arith in
      sym (ap (λ (c : Bool). cond c (not (has_bit (f.first_bit + (base + b - base)) e.want)) (others (base + b))) inside
      ∙ ap (λ (n : ℕ). not (has_bit (f.first_bit + n) e.want)) back)

  unless_signed : (others : ℕ → Bool) → AllByRecursion (IsSigned (sign_by others)) (differing base f.first_bit f.bits e)
  unless_signed others = each_map (IsSigned (sign_by others))
      (λ b. record { index = base + b; positive = not (has_bit (f.first_bit + b) e.want) })
      (filter (λ b. has_bit (f.first_bit + b) e.care) (below f.bits))
      (each_weaker (λ b. b < f.bits) (λ b. not (has_bit (f.first_bit + b) e.want) ≡ sign_by others (base + b)) (own_signed others)
      (filter (λ b. has_bit (f.first_bit + b) e.care) (below f.bits))
      (below_filtered f.bits (λ b. has_bit (f.first_bit + b) e.care) 0 f.bits (omega arith)))

  other_signed : (others : ℕ → Bool) (n : ℕ) → f.own ≤ n → sign_by others n ≡ others n
  other_signed others n h =
      let outside : nat_lt n f.own ≡ false = grind (arith, h) in
      ap (λ (c : Bool). cond c (not (has_bit (f.first_bit + (n - base)) e.want)) (others n)) outside

  next_before : y < before_pairs_of f
  next_before = omega (arith, row f.states f.rows f.states s r in_states in_rows, in_next)

  differ : later < f.bound + 1 → x ≢ z
  differ within h =
      let same = one_number f s e.from i t e.to later in_from in_to low within h in
      apart (same.0, same.1, kept_number e.rejecting i same.2)

  unequal : (a b : ℕ) → a ≢ b → (a == b) ≡ false
  unequal a b h = false_from_ne_true (a == b) (λ is. h (eqb-true a b is))

  pub none_paired_along : has_pair (in_order (clause_along f (differing base f.first_bit f.bits e) s e r t i)) ≡ false
  none_paired_along = by (nat_le later f.bound) refl
    where
      by : (within : Bool) → nat_le later f.bound ≡ within → has_pair (in_order
          (no_at x ∷ no_at y ∷ (differing base f.first_bit f.bits e ++ cond within (yes_at z ∷ []) []))) ≡ false
      by true is =
          let others : ℕ → Bool = λ n. n == z in
          let inside : later < f.bound + 1 = grind (arith, is) in
          let itself : (z == z) ≡ true = grind arith in
          no_pair (sign_by others) (no_at x ∷ no_at y ∷ (differing base f.first_bit f.bits e ++ yes_at z ∷ [])) (
            sym (other_signed others x (omega arith) ∙ unequal x z (differ inside)),
            (
              sym (other_signed others y (omega arith) ∙ unequal y z (λ same. absurd (omega (arith, same, next_before)))),
              signed_both (sign_by others) (differing base f.first_bit f.bits e) (yes_at z ∷ []) (unless_signed others)
                  (sym (other_signed others z (omega arith) ∙ itself), tt),
            ),
          )
      by false is =
          let others : ℕ → Bool = λ n. false in
          no_pair (sign_by others) (no_at x ∷ no_at y ∷ (differing base f.first_bit f.bits e ++ [])) (
            sym (other_signed others x (omega arith)),
            (
              sym (other_signed others y (omega arith)),
              signed_both (sign_by others) (differing base f.first_bit f.bits e) [] (unless_signed others) tt,
            ),
          )
