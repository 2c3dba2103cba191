-- The windows of a chain: each is one of the specification's cells, congruent, and made of predicate terms and choices. So it reads
-- the specification's signals alone, and can be written over its names.
use Rattle.std.proofs.Common.{◌≡◌, ◌∙◌, ℕ, ◌+◌, ◌==◌, Bool, true, false, cond, ◌&&◌, List, [], ◌∷◌, ◌++◌, Option, None, Some}
use Rattle.std.proofs.Common.{slice_get, nat_le, nat_lt, refl, sym, ap}
use Rattle.std.specs.Prelude.{is_some, option_map, option_and_then, position}
use Rattle.std.specs.List.{list_all, AllByRecursion}
use Rattle.std.proofs.lemmas.Bool.{and_parts, and_from}
use Rattle.std.proofs.lemmas.Option.{none-some}
use Rattle.base_library.specs.Numbers.{is_among}
use Rattle.base_library.proofs.Each.{each_weaker}
use Rattle.base_library.proofs.Numbers.{among_filter}
use Rattle.base_library.proofs.Passes.{each_from_list_all, list_all_from_each, list_all_weaker}
use Rattle.tsl_terms.specs.TermTree.{TermTree, ProbeTree}
use Rattle.tsl_terms.specs.SameTree.{same_tree, same_probe_tree}
use Rattle.tsl_terms.specs.OnlyThese.{reads_only, read_only, atom_reads_only}
use Rattle.tsl_terms.specs.SpecTree.{SpecTree, whole_formula}
use Rattle.tsl_terms.specs.Signals.{formula_reads, formula_updates, is_cell, name_numbers, inputs_of, cells_of}
use Rattle.tsl_terms.specs.WindowTree.{ListedTree, WindowTree, window_probes}
use Rattle.tsl_terms.specs.Congruence.{IsCongruent}
use Rattle.tsl_terms.specs.Equality.{equality_in}
use Rattle.tsl_terms.specs.Laws.{FormulasFit}
use Rattle.tsl_terms.proofs.SameLemmas.{same_tree_itself, same_probe_itself}
use Rattle.tsl_terms.proofs.SignalFacts.{read_is_input_or_cell, whole_reads}
use Rattle.program_tree.specs.Fits.{longest, rises, window_is_shaped, window_reads_only, window_fits}
use Rattle.letter_space.specs.SpaceTree.{ControlledTree, SpaceTree}
use Rattle.letter_space.specs.Bits.{bit_of_probe, bit_of_choice, controlled_with, bit_of_update}
use Rattle.letter_space.specs.Letters.{term_taken}
use Rattle.letter_space.specs.Vectors.{picks_of}
use Rattle.letter_space.specs.SpecSpace.{spec_space}
use Rattle.machines.specs.MachineTree.{EnvironmentTree}
use Rattle.machines.specs.Rounds.{RoundTree, windows_of}
use Rattle.control_flow_model.proofs.FlowLemmas.{position_there}
use Rattle.program_check.specs.Verdicts.{window_has_bits}
use Rattle.program_check.proofs.ProgramNames.{cell_named}
use Rattle.program_check.proofs.SpaceTerms.{probe_with_bit, update_with_bit}
use Rattle.branch_finder.specs.Spurious.{IsOneOf, IsSpurious}
use Rattle.branch_finder.proofs.SpuriousProbes.{spurious_probes}
use Rattle.refinement_loop.specs.Chains.{IsChainFrom}
use Rattle.refinement_loop.specs.declared.outcome.Search.{Search}

-- what each window of a chain keeps
pub record IsKnown (spec : SpecTree) (w : WindowTree) : Type 0 where
  pub shaped : window_is_shaped (cells_of spec) w ≡ true
  pub congruent : IsCongruent (cells_of spec) (equality_in spec.names) w
  pub bits : window_has_bits (spec_space spec) w ≡ true

-- a choice has a bit
mapped_there : (f : ℕ → ℕ) (o : Option ℕ) → is_some o ≡ true → is_some (option_map f o) ≡ true
mapped_there f None there = there
mapped_there f (Some x) there = refl

choice_has_bit : (c : ControlledTree) (k : ℕ) (t : TermTree) → slice_get c.choices k ≡ Some t → is_some (bit_of_choice c t) ≡ true
choice_has_bit c k t at =
    mapped_there (λ n. c.first + n) (position (λ u. same_tree u t) c.choices)
    (position_there (λ u. same_tree u t) c.choices k t at (same_tree_itself t))

-- and so has a term that a signal takes
taken_has_bit : (cs : List ControlledTree) (picks : List ℕ) (s : ℕ) (t : TermTree) → term_taken cs picks s ≡ Some t →
    is_some (option_and_then (λ (c : ControlledTree). bit_of_choice c t) (controlled_with cs s)) ≡ true
taken_has_bit [] picks s t taken = absurd (none-some t taken)
taken_has_bit (c ∷ cs) [] s t taken = absurd (none-some t taken)
taken_has_bit (c ∷ cs) (pick ∷ picks) s t taken = by (c.signal == s) taken (taken_has_bit cs picks s t)
  where
    by : (here : Bool) → cond here (slice_get c.choices pick) (term_taken cs picks s) ≡ Some t →
        (term_taken cs picks s ≡ Some t →
        is_some (option_and_then (λ (d : ControlledTree). bit_of_choice d t) (controlled_with cs s)) ≡ true) →
        is_some (option_and_then (λ (d : ControlledTree). bit_of_choice d t) (cond here (Some c) (controlled_with cs s))) ≡ true
    by true at later = choice_has_bit c pick t at
    by false at later = later at

module _ (space : SpaceTree) where
  listed_have_bits : (vector : ℕ → ℕ) (us : List ListedTree) → AllByRecursion (λ u. IsOneOf space (vector u.offset) u) us →
      list_all (λ (u : ListedTree). is_some (bit_of_update space u.signal u.term)) us ≡ true
  listed_have_bits vector us listed =
      list_all_from_each (λ (u : ListedTree). is_some (bit_of_update space u.signal u.term)) us
      (each_weaker (λ (u : ListedTree). IsOneOf space (vector u.offset) u)
      (λ (u : ListedTree). is_some (bit_of_update space u.signal u.term) ≡ true)
      (λ (u : ListedTree) is. taken_has_bit space.controlled (picks_of space.controlled (vector u.offset)) u.signal u.term is) us listed)

  probe_has_bit : (bit : ℕ) (p : ProbeTree) → slice_get space.predicates bit ≡ Some p → is_some (bit_of_probe space p) ≡ true
  probe_has_bit bit p at = position_there (λ q. same_probe_tree q p) space.predicates bit p at (same_probe_itself p)

  -- a window that is spurious is made of the space's predicate terms and choices
  pub spurious_has_bits : (e : EnvironmentTree) (w : WindowTree) → IsSpurious space e w → window_has_bits space w ≡ true
  spurious_has_bits e w spurious =
      and_from (list_all (λ p. is_some (bit_of_probe space p)) (window_probes w))
      (list_all (λ (u : ListedTree). is_some (bit_of_update space u.signal u.term)) w.updates)
      (list_all_from_each (λ p. is_some (bit_of_probe space p)) (window_probes w)
      (spurious_probes space (λ p. is_some (bit_of_probe space p) ≡ true) probe_has_bit e w spurious))
      (listed_have_bits spurious.vector w.updates spurious.listed)

-- the windows of a chain
pub each_known : (spec : SpecTree) (search : Search) (windows : List WindowTree) (rounds : List RoundTree) →
    IsChainFrom spec search windows rounds → AllByRecursion (IsKnown spec) (windows_of rounds)
each_known spec search windows [] chain = tt
each_known spec search windows (round ∷ rounds) chain = (
  record {
    shaped = chain.0.shaped;
    congruent = chain.0.congruent;
    bits = spurious_has_bits (spec_space spec) round.environment round.window chain.0.spurious;
  },
  each_known spec search (windows ++ round.window ∷ []) rounds chain.1,
)

module _ (spec : SpecTree) (fits : FormulasFit spec) where
  abbrev readable : List ℕ
  readable = inputs_of spec ++ cells_of spec

  of_cell : (s : ℕ) → is_cell spec s ≡ true → is_among readable s ≡ true
  of_cell s cell =
      read_is_input_or_cell spec s (cell_named spec fits s cell)
      (and_parts (formula_updates s (whole_formula spec)) (formula_reads s (whole_formula spec)) cell).1

  probe_read : (p : ProbeTree) → is_some (bit_of_probe (spec_space spec) p) ≡ true → read_only readable p.arguments ≡ true
  probe_read =
      probe_with_bit spec (atom_reads_only readable) (whole_reads spec fits) (λ (p : ProbeTree). read_only readable p.arguments)
      (λ p reads. reads) (reads_only readable) (λ s t reads. reads) of_cell

  listed_read : (u : ListedTree) → is_some (bit_of_update (spec_space spec) u.signal u.term) ≡ true → reads_only readable u.term ≡ true
  listed_read u =
      update_with_bit spec (atom_reads_only readable) (whole_reads spec fits) (λ (p : ProbeTree). read_only readable p.arguments)
      (λ p reads. reads) (reads_only readable) (λ s t reads. reads) of_cell u.signal u.term

  window_read : (w : WindowTree) → window_has_bits (spec_space spec) w ≡ true → window_reads_only readable w ≡ true
  window_read w has =
      let both = and_parts _ _ has in
      and_from _ _
      (list_all_weaker (λ p. is_some (bit_of_probe (spec_space spec) p)) (λ p. read_only readable p.arguments) probe_read
      (window_probes w) both.0)
      (list_all_weaker (λ (u : ListedTree). is_some (bit_of_update (spec_space spec) u.signal u.term))
      (λ (u : ListedTree). reads_only readable u.term) listed_read w.updates both.1)

  -- a program with the specification's signals may have them
  pub known_fit : (windows : List WindowTree) → AllByRecursion (IsKnown spec) windows →
      list_all (window_fits readable (cells_of spec)) windows ≡ true
  known_fit [] known = refl
  known_fit (w ∷ windows) known =
      and_from (window_fits readable (cells_of spec) w) (list_all (window_fits readable (cells_of spec)) windows)
      (and_from (window_is_shaped (cells_of spec) w) (window_reads_only readable w) known.0.shaped (window_read w known.0.bits))
      (known_fit windows known.1)

-- the listed updates are of cells
pub listed_of_cell : (spec : SpecTree) (w : WindowTree) → window_is_shaped (cells_of spec) w ≡ true →
    AllByRecursion (λ (u : ListedTree). is_cell spec u.signal ≡ true) w.updates
listed_of_cell spec w shaped =
    let halves = and_parts (nat_le w.length longest && nat_le w.left_at w.length) _ (and_parts _ _ shaped).0 in
    let updates = and_parts (list_all (λ (u : ListedTree). nat_lt u.offset w.length && is_among (cells_of spec) u.signal) w.updates)
    (rises (cells_of spec) w.updates) halves.1 in
    each_weaker (λ (u : ListedTree). (nat_lt u.offset w.length && is_among (cells_of spec) u.signal) ≡ true)
    (λ (u : ListedTree). is_cell spec u.signal ≡ true)
    (λ (u : ListedTree) passes.
    (and_parts (is_among (name_numbers spec) u.signal) (is_cell spec u.signal)
    (sym (among_filter (is_cell spec) u.signal (name_numbers spec))
    ∙ (and_parts (nat_lt u.offset w.length) (is_among (cells_of spec) u.signal) passes).1)).1)
    w.updates
    (each_from_list_all (λ (u : ListedTree). nat_lt u.offset w.length && is_among (cells_of spec) u.signal) w.updates updates.0)
