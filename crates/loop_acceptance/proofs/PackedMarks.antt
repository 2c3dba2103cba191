-- Marks that take two bits each.
use Rattle.std.proofs.Common.{◌≡◌, ◌∙◌, ℕ, zero, suc, ◌+◌, ◌-◌, ◌*◌, ◌/◌, ◌%◌, ◌^◌, ◌<◌, ◌≤◌, inl, inr, List, length, set, get_or}
use Rattle.std.proofs.Common.{replicate, Some, slice_get, refl, sym, ap, subst, arith, get_or-set_same, get_or-set_other}
use Rattle.std.proofs.lemmas.Bool.Decides.{eqb_tells}
use Rattle.std.proofs.lemmas.Nat.{div-add-mod', same_from_place, mod_below, mul-le, le-div}
use Rattle.std.proofs.lemmas.Option.{slice_get-get_or}
use Rattle.std.proofs.lemmas.List.{same_lists, length-set, length-replicate, get_or-replicate, get_or_read}
use Rattle.std.proofs.lemmas.List.FromFn.{length-map-range_with_len, get_or-map-range_with_len}
use Rattle.loop_acceptance.specs.declared.marks.Mark.{Mark}
use Rattle.loop_acceptance.specs.declared.marks.Mark.TheVariants.{New, Open, Done, Red}
use Rattle.loop_acceptance.specs.internal.PackedMarks.{number_of, mark_of, bits_at, mark_at, place_of, room_for, marks_in}

-- ---- the marks of a byte

-- what holds at each of the four places
at_each : (P : ℕ → Type 0) → P 0 → P 1 → P 2 → P 3 → (place : ℕ) → place < 4 → P place
at_each P a b c d zero within = a
at_each P a b c d (suc zero) within = b
at_each P a b c d (suc (suc zero)) within = c
at_each P a b c d (suc (suc (suc zero))) within = d
at_each P a b c d (suc (suc (suc (suc n)))) within = absurd (omega arith)

pub bits_below : (byte place : ℕ) → place < 4 → bits_at byte place * 2 ^ (2 * place) % 256 ≤ byte
bits_below byte =
    at_each (λ place. bits_at byte place * 2 ^ (2 * place) % 256 ≤ byte) (omega arith) (omega arith) (omega arith) (omega arith)

-- the bits of one place change, and no others
module _ (byte bits : ℕ) (fits : byte < 256) (few : bits < 4) where
  abbrev changed : ℕ → ℕ
  changed place = byte - bits_at byte place * 2 ^ (2 * place) % 256 + bits * 2 ^ (2 * place) % 256

  pub changed_below : (place : ℕ) → place < 4 → changed place < 256
  changed_below = at_each (λ place. changed place < 256) (omega arith) (omega arith) (omega arith) (omega arith)

  pub changed_there : (place : ℕ) → place < 4 → bits_at (changed place) place ≡ bits
  changed_there = at_each (λ place. bits_at (changed place) place ≡ bits) (omega arith) (omega arith) (omega arith) (omega arith)

  abbrev IsKept : ℕ → ℕ → Type 0
  IsKept place other = (other ≡ place → ⊥) → bits_at (changed place) other ≡ bits_at byte other

  pub changed_elsewhere : (place : ℕ) → place < 4 → (other : ℕ) → other < 4 → IsKept place other
  changed_elsewhere = at_each (λ place. (other : ℕ) → other < 4 → IsKept place other)
      (at_each (IsKept 0) (λ apart. absurd (apart refl)) (λ _. omega arith) (λ _. omega arith) (λ _. omega arith))
      (at_each (IsKept 1) (λ _. omega arith) (λ apart. absurd (apart refl)) (λ _. omega arith) (λ _. omega arith))
      (at_each (IsKept 2) (λ _. omega arith) (λ _. omega arith) (λ apart. absurd (apart refl)) (λ _. omega arith))
      (at_each (IsKept 3) (λ _. omega arith) (λ _. omega arith) (λ _. omega arith) (λ apart. absurd (apart refl)))

pub number_below : (m : Mark) → number_of m < 4
number_below New = omega arith
number_below Open = omega arith
number_below Done = omega arith
number_below Red = omega arith

pub mark_of_number : (m : Mark) → mark_of (number_of m) ≡ m
mark_of_number New = refl
mark_of_number Open = refl
mark_of_number Done = refl
mark_of_number Red = refl

-- ---- places

module _ (states : ℕ) (some : 1 ≤ states) where
  -- nodes that have one place are one
  pub one_place : (k node : ℕ) → place_of states k ≡ place_of states node → k ≡ node
  one_place k node same =
      let parts = same_from_place (k / states / 16 * states + k % states) (k / states % 16)
      (node / states / 16 * states + node % states) (node / states % 16) 16 (omega arith) (omega arith) same in
      let in_block = same_from_place (k / states / 16) (k % states) (node / states / 16) (node % states) states
      (mod_below k states some) (mod_below node states some) parts.0 in
      let position : k / states ≡ node / states = (let block = in_block.0 in let within = parts.1 in omega (arith, block, within)) in
      sym (div-add-mod' k states) ∙ ap (λ n. n * states + k % states) position
      ∙ ap (λ n. node / states * states + n) in_block.1 ∙ div-add-mod' node states

  -- the room is enough
  pub place_below : (count node : ℕ) → node < count → place_of states node < room_for states count
  place_below count node within =
      let before : node / states ≤ count / states =
      le-div (node / states) count states some (let whole = div-add-mod' node states in omega (arith, whole, within)) in
      let blocks = mul-le (node / states / 16) states (count / states / 16) states (omega (arith, before)) (omega arith) in
      let state = mod_below node states some in
      let last : (count / states / 16 + 1) * states ≡ count / states / 16 * states + states = grind arith in
      omega (arith, blocks, state, last)

-- ---- the marks of all

no_bits : (place : ℕ) → place < 4 → mark_at 0 place ≡ New
no_bits = at_each (λ place. mark_at 0 place ≡ New) refl refl refl refl

-- the mark of a node
abbrev mark_of_node : ℕ → List ℕ → ℕ → Mark
mark_of_node states bytes node = mark_at (get_or bytes (place_of states node / 4) 0) (place_of states node % 4)

length-marks_in : (states count : ℕ) (bytes : List ℕ) → length (marks_in states count bytes) ≡ count
length-marks_in states count bytes = length-map-range_with_len (mark_of_node states bytes) 0 count

at_node : (states count : ℕ) (bytes : List ℕ) (node : ℕ) (d : Mark) → node < count →
    get_or (marks_in states count bytes) node d ≡ mark_of_node states bytes node
at_node states count bytes node d within =
    get_or-map-range_with_len (mark_of_node states bytes) 0 count node node d within (omega arith)

pub all_marks_new : (states : ℕ) → 1 ≤ states → (count many : ℕ) (bytes : List ℕ) → room_for states count ≤ 4 * many →
    bytes ≡ replicate many 0 → marks_in states count bytes ≡ replicate count New
all_marks_new states some count many bytes room are =
    let long = length-marks_in states count bytes in
    same_lists (marks_in states count bytes) (replicate count New) (long ∙ sym (length-replicate count New)) (λ k d less.
    let within : k < count = omega (arith, long, less) in
    let below = place_below states some count k within in
    at_node states count bytes k d within
    ∙ (ap (λ bs. mark_of_node states bs k) are
    ∙ (ap (λ b. mark_at b (place_of states k % 4)) (get_or-replicate many (place_of states k / 4) 0 0 (omega (arith, below, room)))
    ∙ (no_bits (place_of states k % 4) (omega arith) ∙ sym (get_or-replicate count k New d within)))))

-- the byte of a node in a list of marks
module _ (states : ℕ) (some : 1 ≤ states) (count : ℕ) (bytes : List ℕ) (marks : List Mark) (node : ℕ)
    (room : room_for states count ≤ 4 * length bytes) (are : marks_in states count bytes ≡ marks) (inside : node < length marks) where
  abbrev place : ℕ
  place = place_of states node

  node_below : node < count
  node_below = let long = length-marks_in states count bytes in let same = ap length are in omega (arith, long, same, inside)

  pub byte_within : place / 4 < length bytes
  byte_within = let below = place_below states some count node node_below in omega (arith, below, room)

  module _ (old : ℕ) (read : old ≡ get_or bytes (place / 4) old) where
    old_is : get_or bytes (place / 4) 0 ≡ old
    old_is = sym (get_or_read bytes (place / 4) old byte_within read 0)

    pub mark_read : slice_get marks node ≡ Some (mark_at old (place % 4))
    mark_read =
        slice_get-get_or marks node New inside ∙ ap Some (ap (λ ms. get_or ms node New) (sym are)
        ∙ (at_node states count bytes node New node_below ∙ ap (λ b. mark_at b (place % 4)) old_is))

    -- another byte, which has the mark of one node changed
    module _ (new : ℕ) (mark : Mark) (there : mark_at new (place % 4) ≡ mark)
        (others : (other : ℕ) → other < 4 → (other ≡ place % 4 → ⊥) → mark_at new other ≡ mark_at old other) where
      abbrev after : List ℕ
      after = set bytes (place / 4) new

      at_place : (other : ℕ) → (other ≡ place → ⊥) →
          mark_at (get_or after (other / 4) 0) (other % 4) ≡ mark_at (get_or bytes (other / 4) 0) (other % 4)
      at_place other apart = elim (eqb_tells (other / 4) (place / 4)) [
        | inl same ↦
            let distinct : other % 4 ≡ place % 4 → ⊥ = (let s = same.1 in λ e. apart (omega (arith, s, e))) in
            subst (λ n. mark_at (get_or after n 0) (other % 4) ≡ mark_at (get_or bytes n 0) (other % 4)) (sym same.1)
            (ap (λ b. mark_at b (other % 4)) (get_or-set_same bytes (place / 4) new 0 byte_within)
            ∙ (others (other % 4) (omega arith) distinct ∙ ap (λ b. mark_at b (other % 4)) (sym old_is)))
        | inr far ↦ ap (λ b. mark_at b (other % 4)) (get_or-set_other bytes (place / 4) (other / 4) new 0 far.1)
      ]

      here : mark_of_node states after node ≡ mark
      here = ap (λ b. mark_at b (place % 4)) (get_or-set_same bytes (place / 4) new 0 byte_within) ∙ there

      elsewhere : (k : ℕ) → (k ≡ node → ⊥) → mark_of_node states after k ≡ mark_of_node states bytes k
      elsewhere k apart = at_place (place_of states k) (λ same. apart (one_place states some k node same))

      at_each_node : (k : ℕ) (d : Mark) → k < count → mark_of_node states after k ≡ get_or (set (marks_in states count bytes) node mark) k d
      at_each_node k d below = elim (eqb_tells k node) [
        | inl same ↦
            let long = length-marks_in states count bytes in
            subst (λ n. mark_of_node states after n ≡ get_or (set (marks_in states count bytes) node mark) n d) (sym same.1)
            (here ∙ sym (get_or-set_same (marks_in states count bytes) node mark d (let w = node_below in omega (arith, long, w))))
        | inr far ↦
            elsewhere k far.1
            ∙ (sym (at_node states count bytes k d below) ∙ sym (get_or-set_other (marks_in states count bytes) node k mark d far.1))
      ]

      pub mark_set : marks_in states count after ≡ set marks node mark
      mark_set =
          let long = length-marks_in states count after in
          same_lists (marks_in states count after) (set (marks_in states count bytes) node mark)
          (long ∙ sym (length-set (marks_in states count bytes) node mark ∙ length-marks_in states count bytes))
          (λ k d less. let below : k < count = omega (arith, long, less) in at_node states count after k d below ∙ at_each_node k d below)
          ∙ ap (λ ms. set ms node mark) are
