-- The numbering of the variables: each stands in their list at its index, so no two have one index.
use Rattle.std.proofs.Common.{◌≡◌, ◌∙◌, ℕ, zero, suc, ◌+◌, ◌*◌, ◌<◌, List, ◌++◌, map, length, Some, slice_get, refl, sym, ap, arith}
use Rattle.std.proofs.Common.{length-append}
use Rattle.std.specs.List.{flat_map, range_with_len}
use Rattle.std.proofs.Math.Nat.{mul_assoc}
use Rattle.std.proofs.lemmas.List.FromFn.{length-map-range_with_len}
use Rattle.base_library.proofs.Places.{slice_get-front, slice_get-append, slice_get_one}
use Rattle.bounded_encoding.specs.Question.{QuestionTree}
use Rattle.bounded_encoding.specs.ClauseLists.{below}
use Rattle.bounded_encoding.specs.Variables.{Variable, chooses, goes_to, is_numbered, valuations_of, choices_in_all, before_next}
use Rattle.bounded_encoding.specs.Variables.{variable_count, IsInRange, index_of, grid, variables}
use Rattle.bounded_encoding.proofs.Ranges.{range_at}
use Rattle.bounded_encoding.proofs.Tables.{place_within}

-- blocks of one length
module _ {X : Type 0} (f : ℕ → List X) (k : ℕ) (same : (a : ℕ) → length (f a) ≡ k) where
  blocks_length : (i n : ℕ) → length (flat_map f (range_with_len i n)) ≡ n * k
  blocks_length i zero = omega arith
  blocks_length i (suc n) =
      length-append (f i) (flat_map f (range_with_len (i + 1) n)) ∙ rw (same i, blocks_length (i + 1) n) (grind arith)

  block_at : (i n a c j : ℕ) → a < n → c < k → j ≡ a * k + c → slice_get (flat_map f (range_with_len i n)) j ≡ slice_get (f (i + a)) c
  block_at i zero a c j in_blocks in_block is = absurd (omega arith)
  block_at i (suc n) zero c j in_blocks in_block is =
      let place : j ≡ c = omega (arith, is) in
      ap (slice_get (f i ++ flat_map f (range_with_len (i + 1) n))) place
      ∙ (slice_get-front (f i) (flat_map f (range_with_len (i + 1) n)) c (omega (arith, same i, in_block))
      ∙ ap (λ m. slice_get (f m) c) (let e : i ≡ i + zero = omega arith in e))
  block_at i (suc n) (suc a) c j in_blocks in_block is =
      let more : suc a * k ≡ a * k + k = grind arith in
      slice_get-append (f i) (flat_map f (range_with_len (i + 1) n)) (a * k + c) j (omega (arith, is, more, same i))
      ∙ (block_at (i + 1) n a c (a * k + c) (omega arith) in_block refl
      ∙ ap (λ m. slice_get (f m) c) (let e : i + 1 + a ≡ i + suc a = omega arith in e))

-- a table of variables
module _ (variable : ℕ → ℕ → ℕ → Variable) (l m n : ℕ) where
  abbrev row : ℕ → ℕ → List Variable
  row a b = map (λ c. variable a b c) (below n)

  abbrev page : ℕ → List Variable
  page a = flat_map (λ b. row a b) (below m)

  page_length : (a : ℕ) → length (page a) ≡ m * n
  page_length a = blocks_length (λ b. row a b) n (λ b. length-map-range_with_len (λ c. variable a b c) 0 n) 0 m

  grid_length : length (grid variable l m n) ≡ l * m * n
  grid_length = blocks_length (λ a. page a) (m * n) page_length 0 l ∙ sym (mul_assoc l m n)

  grid_at : (a b c j : ℕ) → a < l → b < m → c < n → j ≡ (a * m + b) * n + c → slice_get (grid variable l m n) j ≡ Some (variable a b c)
  grid_at a b c j in_pages in_rows in_row is =
      let place : j ≡ a * (m * n) + (b * n + c) = grind (arith, is) in
      let in_page = place_within m n b c in_rows in_row in
      let first : 0 + a ≡ a = omega arith in
      let second : 0 + b ≡ b = omega arith in
      let third : 0 + c ≡ c = omega arith in
      block_at (λ a. page a) (m * n) page_length 0 l a (b * n + c) j in_pages in_page place
      ∙ (ap (λ k. slice_get (page k) (b * n + c)) first
      ∙ (block_at (λ k. row a k) n (λ k. length-map-range_with_len (λ c. variable a k c) 0 n) 0 m b c (b * n + c) in_rows in_row refl
      ∙ (ap (λ k. slice_get (row a k) c) second
      ∙ (range_at (λ k. variable a b k) 0 n c in_row ∙ ap (λ k. Some (variable a b k)) third))))

  -- a cell lies within the table
  cell_inside : (a b c : ℕ) → a < l → b < m → c < n → (a * m + b) * n + c < l * m * n
  cell_inside a b c in_pages in_rows in_row = place_within (l * m) n (a * m + b) c (place_within l m a b in_pages in_rows) in_row

module _ (q : QuestionTree) where
  abbrev choice_grid : List Variable
  choice_grid = grid chooses q.states (valuations_of q) (choices_in_all q)

  abbrev next_grid : List Variable
  next_grid = grid goes_to q.states (valuations_of q) q.states

  abbrev number_grid : List Variable
  number_grid = grid is_numbered q.states q.automaton_states (q.bound + 1)

  choice_grid_length : length choice_grid ≡ before_next q
  choice_grid_length = grid_length chooses q.states (valuations_of q) (choices_in_all q)

  next_grid_length : length next_grid ≡ q.states * valuations_of q * q.states
  next_grid_length = grid_length goes_to q.states (valuations_of q) q.states

  -- each variable stands at its index
  pub variable_at : (x : Variable) → IsInRange q x → slice_get (variables q) (index_of q x) ≡ Some x
  variable_at (chooses s v b) inside =
      let cell = cell_inside chooses q.states (valuations_of q) (choices_in_all q) s v b inside.0 inside.1 inside.2 in
      slice_get-front choice_grid (next_grid ++ number_grid) (index_of q (chooses s v b)) (omega (arith, cell, choice_grid_length))
      ∙ grid_at chooses q.states (valuations_of q) (choices_in_all q) s v b (index_of q (chooses s v b)) inside.0 inside.1 inside.2 refl
  variable_at (goes_to s v t) inside =
      let cell = cell_inside goes_to q.states (valuations_of q) q.states s v t inside.0 inside.1 inside.2 in
      slice_get-append choice_grid (next_grid ++ number_grid) ((s * valuations_of q + v) * q.states + t) (index_of q (goes_to s v t))
      (omega (arith, choice_grid_length))
      ∙ (slice_get-front next_grid number_grid ((s * valuations_of q + v) * q.states + t) (omega (arith, cell, next_grid_length))
      ∙ grid_at goes_to q.states (valuations_of q) q.states s v t ((s * valuations_of q + v) * q.states + t) inside.0 inside.1
      inside.2 refl)
  variable_at (is_numbered s p i) inside =
      slice_get-append choice_grid (next_grid ++ number_grid)
      (q.states * valuations_of q * q.states + ((s * q.automaton_states + p) * (q.bound + 1) + i)) (index_of q (is_numbered s p i))
      (omega (arith, choice_grid_length))
      ∙ (slice_get-append next_grid number_grid ((s * q.automaton_states + p) * (q.bound + 1) + i)
      (q.states * valuations_of q * q.states + ((s * q.automaton_states + p) * (q.bound + 1) + i)) (omega (arith, next_grid_length))
      ∙ grid_at is_numbered q.states q.automaton_states (q.bound + 1) s p i ((s * q.automaton_states + p) * (q.bound + 1) + i)
      inside.0 inside.1 inside.2 refl)

  -- there are as many as are counted
  pub variables_counted : length (variables q) ≡ variable_count q
  variables_counted =
      let all = length-append choice_grid (next_grid ++ number_grid) in
      let rest = length-append next_grid number_grid in
      let numbers : length number_grid ≡ q.states * q.automaton_states * (q.bound + 1)
      = grid_length is_numbered q.states q.automaton_states (q.bound + 1) in
      omega (arith, all, rest, numbers, choice_grid_length, next_grid_length)

  -- one index, one variable
  pub one_index : (x y : Variable) → IsInRange q x → IsInRange q y → index_of q x ≡ index_of q y → x ≡ y
  one_index x y inside inside_too same =
      slice_get_one (variables q) (index_of q x) x y (variable_at x inside) (ap (slice_get (variables q)) same ∙ variable_at y inside_too)

  pub index_within : (x : Variable) → IsInRange q x → index_of q x < variable_count q
  index_within (chooses s v b) inside =
      let cell = cell_inside chooses q.states (valuations_of q) (choices_in_all q) s v b inside.0 inside.1 inside.2 in omega (arith, cell)
  index_within (goes_to s v t) inside =
      let cell = cell_inside goes_to q.states (valuations_of q) q.states s v t inside.0 inside.1 inside.2 in omega (arith, cell)
  index_within (is_numbered s p i) inside =
      let cell = cell_inside is_numbered q.states q.automaton_states (q.bound + 1) s p i inside.0 inside.1 inside.2 in omega (arith, cell)
