-- Sets of updates of cells: a vector has all updates of its own set, and vectors that have all updates of one set have the same
-- updates of cells.
use Rattle.std.proofs.Common.{◌≡◌, ◌∙◌, ℕ, ◌^◌, ◌<◌, ◌==◌, Bool, true, false, cond, ◌&&◌, min, bit_and, bit_or}
use Rattle.std.proofs.Common.{List, [], ◌∷◌, length, Option, Some, None, slice_get, inl, inr, refl, sym, ap, arith}
use Rattle.std.specs.Prelude.{◌↔◌, option_and_then}
use Rattle.std.specs.Option.{option_map_or}
use Rattle.std.specs.Int.{bit_at}
use Rattle.std.proofs.Math.Nat.{one-le-pow}
use Rattle.std.proofs.lemmas.Bool.{and_parts, cases_eq, cases_lt, eq-eqb, eqb-true, false≢true}
use Rattle.std.proofs.lemmas.Bool.Decides.{eqb_tells}
use Rattle.std.proofs.lemmas.Nat.Bits.{bit_at_and, bit_at-lt, bit_at-zero, bit_at_above, bit_at-pow_same, bit_at-pow_other, same_from_bits}
use Rattle.std.proofs.lemmas.Option.{none-some}
use Rattle.base_library.specs.Numbers.{is_among}
use Rattle.base_library.proofs.Places.{slice_get_some}
use Rattle.tsl_terms.specs.TermTree.{TermTree}
use Rattle.tsl_terms.specs.FormulaTree.{update}
use Rattle.tsl_terms.specs.SameTree.{same_tree}
use Rattle.tsl_terms.proofs.SameLemmas.{same_tree_is, same_tree_itself}
use Rattle.ltl_formula.specs.Cubes.{has_bit}
use Rattle.letter_space.specs.SpaceTree.{ControlledTree, SpaceTree, IsSpace}
use Rattle.letter_space.specs.Bits.{bit_of_update}
use Rattle.letter_space.specs.Letters.{valuation_count, ArePicks, letter_of, term_taken}
use Rattle.letter_space.specs.Vectors.{vector_count, picks_of}
use Rattle.letter_space.proofs.LetterBits.{atom_is_read, bit_is_read, letter_is_word}
use Rattle.letter_space.proofs.VectorPicks.{vectors_pick}
use Rattle.lane_planes.specs.Planes.{is_match}
use Rattle.lane_planes.proofs.BitLemmas.{and_word, or_word}
use Rattle.branch_finder.proofs.PlaneLemmas.{or_cases, or_from_left, or_from_right}
use Rattle.branch_finder.specs.internal.Sets.{bit_taken, with_updates, set_of, HasAll}

-- a mask has the wanted bits where it has each of them
pub match_tells : (set mask : ℕ) → (is_match set set mask ≡ true) ↔ ((b : ℕ) → has_bit b set ≡ true → has_bit b mask ≡ true)
match_tells set mask = (
  λ same b has.
      let both : (has_bit b mask && has_bit b set) ≡ true
      = sym (and_word mask set b) ∙ ap (has_bit b) (eqb-true (bit_and mask set) set same) ∙ has in
      (and_parts (has_bit b mask) (has_bit b set) both).0,
  λ all. eq-eqb (bit_and mask set) set (same_from_bits (bit_and mask set) set (λ i. bit_at_and mask set i ∙ each all i)),
)
  where
    each : ((b : ℕ) → has_bit b set ≡ true → has_bit b mask ≡ true) → (i : ℕ) → min (bit_at mask i) (bit_at set i) ≡ bit_at set i
    each all i = elim (eqb_tells (bit_at set i) 1) [
      | inl one ↦
          let there = eqb-true (bit_at mask i) 1 (all i one.0) in
          omega (arith, there, one.1)
      | inr other ↦ omega (arith, other.1, bit_at-lt set i)
    ]

module _ (space : SpaceTree) (is_space : IsSpace space) where
  some_valuation : 0 < valuation_count space
  some_valuation = one-le-pow (length space.predicates) 2 (omega arith)

  module _ (picks : List ℕ) (are : ArePicks space.controlled picks) where
    -- the bit of an update that is taken is one of the mask
    pub bit_there : (s : ℕ) (t : TermTree) → term_taken space.controlled picks s ≡ Some t →
        (b : ℕ) × (bit_of_update space s t ≡ Some b) × (has_bit b (letter_of space 0 picks) ≡ true)
    bit_there s t taken =
        by (bit_of_update space s t) refl
        (atom_is_read space is_space 0 some_valuation picks are (update s t)
        ∙ ap (λ o. option_map_or (λ x. same_tree x t) o false) taken ∙ same_tree_itself t)
      where
        by : (o : Option ℕ) → bit_of_update space s t ≡ o → option_map_or (λ b. has_bit b (letter_of space 0 picks)) o false ≡ true →
            (b : ℕ) × (bit_of_update space s t ≡ Some b) × (has_bit b (letter_of space 0 picks) ≡ true)
        by None at none = absurd (false≢true none)
        by (Some b) at has = (b, at, has)

    pub bit_below : (b : ℕ) → has_bit b (letter_of space 0 picks) ≡ true → b < 64
    bit_below b has = elim (cases_lt b 64) [
      | inl below ↦ below
      | inr over ↦
          let none = bit_at_above (letter_of space 0 picks) 64 b (letter_is_word space is_space 0 some_valuation picks are) over in
          absurd (false≢true (sym (ap (λ n. n == 1) none) ∙ has))
    ]

    -- what a signal takes, as a set
    pub taken_is : (s : ℕ) (t : TermTree) (b : ℕ) → term_taken space.controlled picks s ≡ Some t → bit_of_update space s t ≡ Some b →
        bit_taken space picks s ≡ 2 ^ b
    taken_is s t b taken at =
        ap (λ o. option_map_or (λ n. 2 ^ n) (option_and_then (bit_of_update space s) o) 0) taken
        ∙ ap (λ o. option_map_or (λ n. 2 ^ n) o 0) at

    pub none_taken : (s : ℕ) → term_taken space.controlled picks s ≡ None → bit_taken space picks s ≡ 0
    none_taken s none = ap (λ o. option_map_or (λ n. 2 ^ n) (option_and_then (bit_of_update space s) o) 0) none

    taken_within : (s b : ℕ) → has_bit b (bit_taken space picks s) ≡ true → has_bit b (letter_of space 0 picks) ≡ true
    taken_within s b has = by (term_taken space.controlled picks s) refl
      where
        by : (o : Option TermTree) → term_taken space.controlled picks s ≡ o → has_bit b (letter_of space 0 picks) ≡ true
        by None none =
            absurd (false≢true (sym (ap (has_bit b) (none_taken s none) ∙ ap (λ n. n == 1) (bit_at-zero b)) ∙ has))
        by (Some t) taken =
            let there = bit_there s t taken in
            let set = ap (has_bit b) (taken_is s t there.0 taken there.1) in
            elim (cases_eq b there.0) [
              | inl same ↦ ap (λ n. has_bit n (letter_of space 0 picks)) same ∙ there.2
              | inr other ↦ absurd (false≢true (sym (set ∙ ap (λ n. n == 1) (bit_at-pow_other there.0 b other)) ∙ has))
            ]

    updates_within : (cells : List ℕ) (set : ℕ) → ((b : ℕ) → has_bit b set ≡ true → has_bit b (letter_of space 0 picks) ≡ true) →
        (b : ℕ) → has_bit b (with_updates space picks set cells) ≡ true → has_bit b (letter_of space 0 picks) ≡ true
    updates_within [] set within b has = within b has
    updates_within (s ∷ cells) set within b has =
        updates_within cells (bit_or set (bit_taken space picks s))
        (λ n there. elim (or_cases (has_bit n set) (has_bit n (bit_taken space picks s)) (sym (or_word set (bit_taken space picks s) n) ∙ there)) [
          | inl old ↦ within n old
          | inr new ↦ taken_within s n new
        ]) b has

    still_there : (cells : List ℕ) (set b : ℕ) → has_bit b set ≡ true → has_bit b (with_updates space picks set cells) ≡ true
    still_there [] set b has = has
    still_there (s ∷ cells) set b has =
        still_there cells (bit_or set (bit_taken space picks s)) b
        (or_word set (bit_taken space picks s) b ∙ or_from_left (has_bit b set) (has_bit b (bit_taken space picks s)) has)

    taken_there : (s : ℕ) (t : TermTree) (b : ℕ) → term_taken space.controlled picks s ≡ Some t → bit_of_update space s t ≡ Some b →
        (cells : List ℕ) (set : ℕ) → is_among cells s ≡ true → has_bit b (with_updates space picks set cells) ≡ true
    taken_there s t b taken at [] set among = absurd (false≢true among)
    taken_there s t b taken at (r ∷ cells) set among = elim (or_cases (r == s) (is_among cells s) among) [
      | inl here ↦
          let same : r ≡ s = eqb-true r s here in
          still_there cells (bit_or set (bit_taken space picks r)) b
          (or_word set (bit_taken space picks r) b
          ∙ or_from_right (has_bit b set) (has_bit b (bit_taken space picks r))
          (ap (λ n. has_bit b (bit_taken space picks n)) same ∙ ap (has_bit b) (taken_is s t b taken at)
          ∙ ap (λ n. n == 1) (bit_at-pow_same b)))
      | inr later ↦ taken_there s t b taken at cells (bit_or set (bit_taken space picks r)) later
    ]

  -- a vector has all updates of its own set
  pub own_set : (cells : List ℕ) (v : ℕ) → v < vector_count space.controlled → HasAll space (set_of space cells v) v
  own_set cells v below b has =
      updates_within (picks_of space.controlled v) (vectors_pick space.controlled v below) cells 0
      (λ n none. absurd (false≢true (sym (ap (λ m. m == 1) (bit_at-zero n)) ∙ none))) b has

  both_take : (cs : List ControlledTree) (ps qs : List ℕ) (s : ℕ) (t : TermTree) → ArePicks cs ps → ArePicks cs qs →
      term_taken cs ps s ≡ Some t → (u : TermTree) × (term_taken cs qs s ≡ Some u)
  both_take [] ps qs s t are too taken = absurd (none-some t taken)
  both_take (c ∷ cs) [] qs s t are too taken = absurd are
  both_take (c ∷ cs) (p ∷ ps) [] s t are too taken = absurd too
  both_take (c ∷ cs) (p ∷ ps) (q ∷ qs) s t are too taken =
      by (c.signal == s) taken (slice_get_some c.choices q too.0) (both_take cs ps qs s t are.1 too.1)
    where
      by : (here : Bool) → cond here (slice_get c.choices p) (term_taken cs ps s) ≡ Some t →
          ((u : TermTree) × (slice_get c.choices q ≡ Some u)) →
          (term_taken cs ps s ≡ Some t → (u : TermTree) × (term_taken cs qs s ≡ Some u)) →
          (u : TermTree) × (cond here (slice_get c.choices q) (term_taken cs qs s) ≡ Some u)
      by true is there rest = there
      by false is there rest = rest is

  -- a vector with all updates of another one's set takes what that one takes
  module _ (cells : List ℕ) (v w s : ℕ) (below : v < vector_count space.controlled) (below_too : w < vector_count space.controlled)
      (among : is_among cells s ≡ true) (has : HasAll space (set_of space cells v) w) where
    pub taken_too : (t : TermTree) → term_taken space.controlled (picks_of space.controlled v) s ≡ Some t →
        term_taken space.controlled (picks_of space.controlled w) s ≡ Some t
    taken_too t taken =
        let picks = picks_of space.controlled v in
        let are = vectors_pick space.controlled v below in
        let there = bit_there picks are s t taken in
        let set = has there.0 (taken_there picks are s t there.0 taken there.1 cells 0 among) in
        by (term_taken space.controlled (picks_of space.controlled w) s)
        (sym (bit_is_read space is_space 0 some_valuation (picks_of space.controlled w) (vectors_pick space.controlled w below_too)
        (update s t) there.0 there.1) ∙ set)
      where
        by : (o : Option TermTree) → option_map_or (λ x. same_tree x t) o false ≡ true → o ≡ Some t
        by None none = absurd (false≢true none)
        by (Some x) same = ap Some (same_tree_is x t same)

    pub taken_before : (t : TermTree) → term_taken space.controlled (picks_of space.controlled w) s ≡ Some t →
        term_taken space.controlled (picks_of space.controlled v) s ≡ Some t
    taken_before t taken =
        let other = both_take space.controlled (picks_of space.controlled w) (picks_of space.controlled v) s t
        (vectors_pick space.controlled w below_too) (vectors_pick space.controlled v below) taken in
        other.1 ∙ sym (taken_too other.0 other.1) ∙ taken
