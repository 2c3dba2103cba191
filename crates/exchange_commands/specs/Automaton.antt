-- What the command `automaton` replies.
use Rattle.std.specs.Prelude.{◌≡◌, ◌≤◌, ℕ, List, [], length, ⊤}
use Rattle.tsl_terms.specs.declared.operator.UnaryOperator.TheVariants.{Negation}
use Rattle.tsl_terms.specs.FormulaTree.{unary}
use Rattle.tsl_terms.specs.SpecTree.{SpecTree, whole_formula}
use Rattle.tsl_reader.specs.Spells.{Spells}
use Rattle.ltl_formula.specs.LtlTree.{LtlTree}
use Rattle.letter_space.specs.declared.space_error.SpaceError.TheVariants as spaces
use Rattle.letter_space.specs.SpecSpace.{spec_space, HasSpaceCause}
use Rattle.underapprox.specs.LetterForm.{letter_form}
use Rattle.cobuchi_automata.specs.declared.automaton.Automaton.{Automaton}
use Rattle.cobuchi_automata.specs.Automata.{StateTree, EdgeTree, IsAutomaton}
use Rattle.cobuchi_automata.specs.Edges.{edge_trees}
use Rattle.cobuchi_automata.specs.Refusals.{HasTooManyChoices, HasTooManyStates, HasTooManyEdges, most_automaton_states, most_automaton_edges}
use Rattle.program_check.specs.declared.verdict.CheckError.{CheckError}
use Rattle.program_check.specs.declared.verdict.CheckError.TheVariants.{Large as PastLimit, NoMemory}
use Rattle.program_check.specs.declared.verdict.Limit.{Limit}
use Rattle.program_check.specs.declared.verdict.Limit.TheVariants.{Predicates, Bits, Choices, States, Edges, Vectors, Clauses, Branches}
use Rattle.program_check.specs.Verdicts.{HasFewBits}
use Rattle.automaton_text.specs.BitNames.{bit_names}
use Rattle.automaton_text.specs.HoaText.{hoa_text}
use Rattle.tsl_report.specs.declared.fault.Fault.{Fault}
use Rattle.tool_io.specs.declared.status.Status.TheVariants.{Done}
use Rattle.tool_io.specs.declared.reply.Reply.{Reply}
use Rattle.command_faults.specs.Refusals.{HasSpecFault, fault_at_limit}
use Rattle.command_faults.specs.Replies.{fault_reply}

-- the negation of the whole formula, over the bits of the specification
abbrev pub negated_form : SpecTree → LtlTree
negated_form spec = letter_form (spec_space spec) (unary Negation (whole_formula spec))

-- its automaton has so many states, and these edges
abbrev pub IsNegationOf : SpecTree → Automaton → Type 0
IsNegationOf spec automaton =
    (states : List StateTree) × (length states ≡ automaton.states) × IsAutomaton (negated_form spec) states (edge_trees automaton.edges)

-- a limit that is passed: those of bits before those of the automaton, and no other
abbrev pub IsPastFor : SpecTree → Limit → Type 0
IsPastFor spec Predicates = HasSpaceCause spec spaces.Predicates
IsPastFor spec Bits = HasSpaceCause spec spaces.Bits
IsPastFor spec Choices = HasFewBits spec × HasTooManyChoices (negated_form spec)
IsPastFor spec States = HasFewBits spec × HasTooManyStates (negated_form spec)
IsPastFor spec Edges = HasFewBits spec × HasTooManyEdges (negated_form spec)
IsPastFor spec Vectors = ⊥
IsPastFor spec Clauses = ⊥
IsPastFor spec Branches = ⊥

-- why there is no automaton
abbrev pub HasAutomatonCause : SpecTree → CheckError → Type 0
HasAutomatonCause spec (PastLimit limit) = IsPastFor spec limit
HasAutomatonCause spec NoMemory = ⊤

-- the specification is within the limits of bits, and the text is that of the automaton of the negated formula, with some numbering of
-- its states, which is within the limits of automata
pub record IsWrittenAutomaton (spec : SpecTree) (text : List ℕ) : Type 0 where
  pub few_bits : HasFewBits spec
  pub states : List StateTree
  pub edges : List EdgeTree
  pub is_automaton : IsAutomaton (negated_form spec) states edges
  pub few_states : length states ≤ most_automaton_states
  pub few_edges : length edges ≤ most_automaton_edges
  pub text_is : text ≡ hoa_text (bit_names spec.names (spec_space spec)) (length states) edges

pub record TellsAutomaton (spec : SpecTree) (reply : Reply) : Type 0 where
  pub status : reply.status ≡ Done
  pub written : IsWrittenAutomaton spec reply.text

-- what is replied to a specification
pub data NegationOutcome (spec : SpecTree) (reply : Reply) : Type 0 where
  too_large : (limit : Limit) → IsPastFor spec limit → reply ≡ fault_reply (fault_at_limit limit) → NegationOutcome spec reply
  told : TellsAutomaton spec reply → NegationOutcome spec reply

pub data AutomatonOutcome (bytes : List ℕ) (reply : Reply) : Type 0 where
  -- the bytes are refused at a fault
  refused : (fault : Fault) → HasSpecFault bytes fault → reply ≡ fault_reply fault → AutomatonOutcome bytes reply
  -- they spell a specification
  of_spec : (spec : SpecTree) → Spells bytes spec → NegationOutcome spec reply → AutomatonOutcome bytes reply
