-- What is read number by number is what the definitions read in states and under valuations.
use Rattle.std.proofs.Common.{◌≡◌, ◌∙◌, ℕ, ◌+◌, ◌-◌, ◌*◌, ◌/◌, ◌%◌, ◌<◌, ◌≤◌, Bool, List, [], ◌∷◌, ◌++◌, map, length, slice_get}
use Rattle.std.proofs.Common.{sym, ap, subst, arith, mul_comm}
use Rattle.std.proofs.lemmas.List.{map_push, length-map}
use Rattle.std.proofs.lemmas.List.FromFn.{map-range_with_len_more, length-map-range_with_len}
use Rattle.std.proofs.Math.Nat.{div-add-mod}
use Rattle.base_library.proofs.Lists.{map_agree, map_map}
use Rattle.base_library.proofs.Places.{slice_get_mapped}
use Rattle.machines.specs.declared.controller.Entry.{Entry}
use Rattle.machines.specs.MachineTree.{EntryTree, NameStates}
use Rattle.machines.specs.MachineView.{entry_tree}
use Rattle.letter_space.specs.SpaceTree.{SpaceTree}
use Rattle.bounded_encoding.specs.ClauseLists.{below}
use Rattle.bounded_encoding.specs.Question.{QuestionTree}
use Rattle.bounded_encoding.specs.Variables.{valuations_of, before_next}
use Rattle.bounded_encoding.specs.Frames.{FrameTree, before_pairs_of, variables_of}
use Rattle.bounded_encoding.specs.Decoding.{entry_read}
use Rattle.bounded_encoding.specs.internal.Reading.{entry_numbered}
use Rattle.bounded_encoding.specs.Reading.{pair_number, numbers_of, number_from, numbers_from_index}
use Rattle.bounded_encoding.proofs.Ranges.{first_below}

-- a number by its row and its column
pub row_and_column : (k columns : ℕ) → k ≡ k / columns * columns + k % columns
row_and_column k columns = sym (ap (λ n. n + k % columns) (mul_comm (k / columns) columns) ∙ div-add-mod k columns)

module _ (q : QuestionTree) (a : ℕ → Bool) where
  pub entries_agree : (count : ℕ) →
      map (entry_numbered a q.space q.states (before_next q)) (below count)
      ≡ map (λ k. entry_read q a (k / valuations_of q) (k % valuations_of q)) (below count)
  entries_agree count = map_agree (entry_numbered a q.space q.states (before_next q))
      (λ k. entry_read q a (k / valuations_of q) (k % valuations_of q))
      (λ k i. entry_numbered a q.space q.states (before_next q) (row_and_column k (valuations_of q) i)) (below count)

-- numbers of pairs, one state after another
module _ (f : FrameTree) (a : ℕ → Bool) where
  numbers_agree : numbers_from_index a (before_pairs_of f) (f.bound + 1) (f.states * f.automaton_states) ≡ numbers_of f a
  numbers_agree = map_agree (λ k. number_from a (before_pairs_of f + k * (f.bound + 1)) (f.bound + 1))
      (λ k. pair_number f a (k / f.automaton_states) (k % f.automaton_states))
      (λ k i. number_from a (before_pairs_of f + row_and_column k f.automaton_states i * (f.bound + 1)) (f.bound + 1))
      (below (f.states * f.automaton_states))

  -- their variables are the last ones
  pub numbers_at_end : (n : ℕ) → n ≡ variables_of f →
      numbers_from_index a (n - f.states * f.automaton_states * (f.bound + 1)) (f.bound + 1) (f.states * f.automaton_states)
      ≡ numbers_of f a
  numbers_at_end n is =
      let base : n - f.states * f.automaton_states * (f.bound + 1) ≡ before_pairs_of f = omega (arith, is) in
      ap (λ m. numbers_from_index a m (f.bound + 1) (f.states * f.automaton_states)) base ∙ numbers_agree

  pub numbers_counted : length (numbers_of f a) ≡ f.states * f.automaton_states
  numbers_counted =
      length-map-range_with_len (λ k. pair_number f a (k / f.automaton_states) (k % f.automaton_states)) 0 (f.states * f.automaton_states)

-- one more member of a list that is made number by number
pub numbered_more : {X Y : Type 0} (f : ℕ → Y) (view : X → Y) (old new : List X) (x : X) (n : ℕ) → map view old ≡ map f (below n) →
    view x ≡ f n → new ≡ old ++ x ∷ [] → map view new ≡ map f (below (n + 1))
numbered_more f view old new x n so_far same pushed =
    ap (map view) pushed ∙ map_push view old x ∙ (λ i. so_far i ++ same i ∷ [])
    ∙ sym (map-range_with_len_more f 0 n n (omega arith))

pub numbered_next : {Y : Type 0} (f : ℕ → Y) (old new : List Y) (x : Y) (n : ℕ) → old ≡ map f (below n) → x ≡ f n → new ≡ old ++ x ∷ [] →
    new ≡ map f (below (n + 1))
numbered_next f old new x n so_far same pushed =
    pushed ∙ (λ i. so_far i ++ same i ∷ []) ∙ sym (map-range_with_len_more f 0 n n (omega arith))

module _ (a : ℕ → Bool) (space : SpaceTree) (states before count : ℕ) (entries : List Entry)
    (are : map entry_tree entries ≡ map (entry_numbered a space states before) (below count)) where
  pub entries_counted : length entries ≡ count
  entries_counted =
      sym (length-map entries entry_tree) ∙ ap length are
      ∙ length-map-range_with_len (entry_numbered a space states before) 0 count

  -- the first state that a variable names is a state
  pub entries_stay : 1 ≤ states → NameStates states (map (λ e. e.next) entries)
  entries_stay some i n at =
      let nexts : map (λ (e : Entry). e.next) entries ≡ map (λ k. (entry_numbered a space states before k).next) (below count) =
      sym (map_map (λ (e : EntryTree). e.next) entry_tree entries) ∙ ap (map (λ (e : EntryTree). e.next)) are
      ∙ map_map (λ (e : EntryTree). e.next) (entry_numbered a space states before) (below count) in
      let found = slice_get_mapped (λ k. (entry_numbered a space states before k).next) (below count) i n
      (sym (ap (λ ns. slice_get ns i) nexts) ∙ at) in
      subst (λ m. m < states) found.2 (first_below (λ t. a (before + found.0 * states + t)) states some)
