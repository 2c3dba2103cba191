-- The numbering of the variables: each is the one with its index.
use Rattle.std.proofs.Common.{◌≡◌, ◌∙◌, ℕ, ◌+◌, ◌-◌, ◌*◌, ◌/◌, ◌%◌, ◌<◌, ◌≤◌, cond, sym, ap, arith}
use Rattle.std.specs.Prelude.{nat_lt}
use Rattle.std.proofs.lemmas.Bool.{lt-ltb, le-ltb}
use Rattle.std.proofs.lemmas.Nat.{div-mul-add, mod-mul-add}
use Rattle.bounded_encoding.specs.Question.{QuestionTree}
use Rattle.bounded_encoding.proofs.Tables.{place_within}
use Rattle.counterstrategy.specs.DualVariables.{DualVariable, holds_in, moves_to, has_number, tests_in_all, vectors_in_all}
use Rattle.counterstrategy.specs.DualVariables.{before_moves, before_pairs, dual_variable_count, IsDualVariable, dual_index}
use Rattle.counterstrategy.specs.DualVariables.{variable_at_place, dual_variable}

-- a cell of a table of three numbers lies within it, and is read back
cell_inside : (l m n a b c : ℕ) → a < l → b < m → c < n → (a * m + b) * n + c < l * m * n
cell_inside l m n a b c in_pages in_rows in_row = place_within (l * m) n (a * m + b) c (place_within l m a b in_pages in_rows) in_row

place_read : (f : ℕ → ℕ → ℕ → DualVariable) (m n a b c : ℕ) → b < m → c < n → variable_at_place f m n ((a * m + b) * n + c) ≡ f a b c
place_read f m n a b c in_rows in_row =
    (λ i. f (div-mul-add (a * m + b) n c in_row i / m) (div-mul-add (a * m + b) n c in_row i % m) (mod-mul-add (a * m + b) n c in_row i))
    ∙ (λ i. f (div-mul-add a m b in_rows i) (mod-mul-add a m b in_rows i) c)

module _ (q : QuestionTree) where
  -- the three kinds of variables, one behind another
  abbrev test_at : ℕ → DualVariable
  test_at k = holds_in (k / tests_in_all q) (k % tests_in_all q)

  abbrev move_at : ℕ → DualVariable
  move_at k = variable_at_place moves_to (vectors_in_all q) q.states (k - before_moves q)

  abbrev number_at : ℕ → DualVariable
  number_at k = variable_at_place has_number q.automaton_states (q.bound + 1) (k - before_pairs q)

  first_kind : (k : ℕ) → k < before_moves q → dual_variable q k ≡ test_at k
  first_kind k within =
      ap (λ t. cond t (test_at k) (cond (nat_lt k (before_pairs q)) (move_at k) (number_at k))) (lt-ltb k (before_moves q) within)

  behind_first : (k : ℕ) → before_moves q ≤ k → dual_variable q k ≡ cond (nat_lt k (before_pairs q)) (move_at k) (number_at k)
  behind_first k past =
      ap (λ t. cond t (test_at k) (cond (nat_lt k (before_pairs q)) (move_at k) (number_at k))) (le-ltb k (before_moves q) past)

  second_kind : (k : ℕ) → before_moves q ≤ k → k < before_pairs q → dual_variable q k ≡ move_at k
  second_kind k past within = behind_first k past ∙ ap (λ t. cond t (move_at k) (number_at k)) (lt-ltb k (before_pairs q) within)

  third_kind : (k : ℕ) → before_pairs q ≤ k → dual_variable q k ≡ number_at k
  third_kind k past = behind_first k (omega (arith, past)) ∙ ap (λ t. cond t (move_at k) (number_at k)) (le-ltb k (before_pairs q) past)

  -- each variable is the one with its index
  pub variable_is : (x : DualVariable) → IsDualVariable q x → dual_variable q (dual_index q x) ≡ x
  variable_is (holds_in s b) inside =
      first_kind (dual_index q (holds_in s b)) (place_within q.states (tests_in_all q) s b inside.0 inside.1)
      ∙ (λ i. holds_in (div-mul-add s (tests_in_all q) b inside.1 i) (mod-mul-add s (tests_in_all q) b inside.1 i))
  variable_is (moves_to s u t) inside =
      let cell = cell_inside q.states (vectors_in_all q) q.states s u t inside.0 inside.1 inside.2 in
      let place : dual_index q (moves_to s u t) - before_moves q ≡ (s * vectors_in_all q + u) * q.states + t = omega arith in
      second_kind (dual_index q (moves_to s u t)) (omega arith) (omega (arith, cell))
      ∙ (ap (variable_at_place moves_to (vectors_in_all q) q.states) place
      ∙ place_read moves_to (vectors_in_all q) q.states s u t inside.1 inside.2)
  variable_is (has_number s p i) inside =
      let place : dual_index q (has_number s p i) - before_pairs q ≡ (s * q.automaton_states + p) * (q.bound + 1) + i = omega arith in
      third_kind (dual_index q (has_number s p i)) (omega arith)
      ∙ (ap (variable_at_place has_number q.automaton_states (q.bound + 1)) place
      ∙ place_read has_number q.automaton_states (q.bound + 1) s p i inside.1 inside.2)

  -- one index, one variable
  pub one_variable : (x y : DualVariable) → IsDualVariable q x → IsDualVariable q y → dual_index q x ≡ dual_index q y → x ≡ y
  one_variable x y inside inside_too same = sym (variable_is x inside) ∙ (ap (dual_variable q) same ∙ variable_is y inside_too)

  pub index_below : (x : DualVariable) → IsDualVariable q x → dual_index q x < dual_variable_count q
  index_below (holds_in s b) inside =
      let cell = place_within q.states (tests_in_all q) s b inside.0 inside.1 in omega (arith, cell)
  index_below (moves_to s u t) inside =
      let cell = cell_inside q.states (vectors_in_all q) q.states s u t inside.0 inside.1 inside.2 in omega (arith, cell)
  index_below (has_number s p i) inside =
      let cell = cell_inside q.states q.automaton_states (q.bound + 1) s p i inside.0 inside.1 inside.2 in omega (arith, cell)
