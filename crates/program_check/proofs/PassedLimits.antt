-- Where a limit is passed, a program has no verdict within the limits of bits.
use Rattle.std.proofs.Common.{ℕ, ◌<◌, ◌≤◌, List, length, arith}
use Rattle.base_library.proofs.Options.{none_never_some}
use Rattle.tsl_terms.specs.SpecTree.{SpecTree}
use Rattle.tsl_terms.specs.Predicates.{predicates_of}
use Rattle.program_tree.specs.ProgramTree.{ProgramTree}
use Rattle.letter_space.specs.declared.limits.TheConstants.{MOST_PREDICATES, MOST_BITS}
use Rattle.letter_space.specs.SpaceTree.{bit_count}
use Rattle.letter_space.specs.SpecSpace.{spec_space}
use Rattle.cobuchi_automata.specs.Automata.{EdgeTree}
use Rattle.cobuchi_automata.specs.Refusals.{most_automaton_states, most_automaton_edges}
use Rattle.cobuchi_automata.proofs.AutomatonLemmas.{has_choices, passes_states, passes_edges}
use Rattle.machines.specs.declared.side.Side.TheVariants.{Controller}
use Rattle.machines.specs.MachineTree.{ControllerTree}
use Rattle.program_check.specs.declared.verdict.Verdict.{Verdict}
use Rattle.program_check.specs.declared.verdict.Verdict.TheVariants.{Signals, Test, Choice, Foreign, Unsound, NoAnnotation, Yes}
use Rattle.program_check.specs.declared.verdict.Limit.{Limit}
use Rattle.program_check.specs.declared.verdict.Limit.TheVariants.{Predicates, Bits, Choices, States, Edges, Vectors, Clauses, Branches}
use Rattle.program_check.specs.Verdicts.{HasFewBits, first_refused_node, first_foreign_window, form_for, IsQuestion, IsOverBits, IsVerdict}
use Rattle.program_check.specs.Verdicts.{IsPassed}
use Rattle.program_check.proofs.SoundWindows.{never_sound}

module _ (spec : SpecTree) (program : ProgramTree) (bound : ℕ) where
  -- a program over the bits has no verdict where no question can be asked
  without_question : IsOverBits spec program → ((c : ControllerTree) (edges : List EdgeTree) → IsQuestion spec program c edges → ⊥) →
      (v : Verdict) → IsVerdict spec program bound v → ⊥
  without_question over none Signals is = is over.signals
  without_question over none (Test i) is = none_never_some (first_refused_node spec program) i over.nodes is.1.first
  without_question over none (Choice i) is = none_never_some (first_refused_node spec program) i over.nodes is.1.first
  without_question over none (Foreign i) is = none_never_some (first_foreign_window spec program) i over.foreign is.2
  without_question over none (Unsound i) is = never_sound spec program i is.3 over.sound
  without_question over none NoAnnotation is = none is.1.controller is.1.edges is.1.question
  without_question over none Yes is = none is.1.controller is.1.edges is.1.question

  pub no_verdict : (limit : Limit) (v : Verdict) → HasFewBits spec → IsPassed spec program limit →
      IsVerdict spec program bound v → ⊥
  no_verdict Predicates v few passed is =
      let within : length (predicates_of spec) ≤ MOST_PREDICATES = few.few_predicates in
      let beyond : MOST_PREDICATES < length (predicates_of spec) = passed in
      omega (arith, within, beyond)
  no_verdict Bits v few passed is =
      let within : bit_count (spec_space spec) ≤ MOST_BITS = few.few_bits in
      let beyond : MOST_BITS < bit_count (spec_space spec) = passed.1 in
      omega (arith, within, beyond)
  no_verdict Choices v few passed is =
      without_question passed.1 (λ c edges asked.
      has_choices (form_for Controller spec program.windows) asked.states edges asked.automaton passed.2) v is
  no_verdict States v few passed is =
      without_question passed.1 (λ c edges asked.
      let within : length asked.states ≤ most_automaton_states = asked.few_states in
      let beyond : most_automaton_states < length asked.states =
      passes_states (form_for Controller spec program.windows) asked.states edges asked.automaton passed.2 in
      omega (arith, within, beyond)) v is
  no_verdict Edges v few passed is =
      without_question passed.1 (λ c edges asked.
      let within : length edges ≤ most_automaton_edges = asked.few_edges in
      let beyond : most_automaton_edges < length edges =
      passes_edges (form_for Controller spec program.windows) asked.states edges asked.automaton passed.2 in
      omega (arith, within, beyond)) v is
  no_verdict Vectors v few passed is = passed
  no_verdict Clauses v few passed is = passed
  no_verdict Branches v few passed is = passed
