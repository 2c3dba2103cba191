-- The faults that are answered where a text is refused as a specification, and where a limit of the work on it is passed.
use Rattle.std.specs.Prelude.{◌≡◌, ℕ, ◌+◌, ◌-◌, ◌==◌, List, take, drop, count_by}
use Rattle.tsl_text.specs.declared.places.Place.{Place}
use Rattle.tsl_text.specs.Places.{IsColumn}
use Rattle.tsl_reader.specs.declared.SpecError.{SpecError}
use Rattle.tsl_reader.specs.declared.SpecError.TheVariants.{Byte, OpenComment, Form, Deep, Defined, Cycle, Kind, Arity}
use Rattle.tsl_reader.specs.declared.SpecError.TheVariants.{DeepUse, Nodes, NoMemory}
use Rattle.tsl_reader.specs.Spells.{HasCause, SpellsNoSpec, most_formula_nodes}
use Rattle.letter_space.specs.declared.limits.TheConstants.{MOST_PREDICATES, MOST_BITS, MOST_VECTORS}
use Rattle.obligations.specs.Choices.{most_choices}
use Rattle.cobuchi_automata.specs.Refusals.{most_automaton_states, most_automaton_edges}
use Rattle.refutation_check.specs.declared.limits.TheConstants.{MOST_CLAUSES}
use Rattle.branch_finder.specs.declared.limits.TheConstants.{MOST_BRANCHES}
use Rattle.program_check.specs.declared.verdict.Limit.{Limit}
use Rattle.program_check.specs.declared.verdict.Limit.TheVariants as limits
use Rattle.tsl_report.specs.declared.fault.TokenPart.TheVariants.{Spec}
use Rattle.tsl_report.specs.declared.fault.LimitName.TheVariants.{Nodes as NodesLimit, Predicates, Bits, Choices, States, Edges}
use Rattle.tsl_report.specs.declared.fault.LimitName.TheVariants.{Vectors, Clauses, Branches}
use Rattle.tsl_report.specs.declared.fault.Fault.{Fault}
use Rattle.tsl_report.specs.declared.fault.Fault.TheVariants.{Byte as ByteFault, Comment as CommentFault, Form as FormFault}
use Rattle.tsl_report.specs.declared.fault.Fault.TheVariants.{Deep as DeepFault, Defined as DefinedFault, Cycle as CycleFault}
use Rattle.tsl_report.specs.declared.fault.Fault.TheVariants.{Kind as KindFault, Arity as ArityFault, DeepUse as DeepUseFault, Large}

-- the place of the byte at this offset, or of the text's end
pub record IsPlaceOf (text : List ℕ) (at : ℕ) (place : Place) : Type 0 where
  pub line : place.line ≡ 1 + count_by (λ byte. byte == 10) (take at text)
  pub column : IsColumn (take at text) place.column

-- the name between two offsets
abbrev pub name_between : List ℕ → ℕ → ℕ → List ℕ
name_between text start end = take (end - start) (drop start text)

-- the fault of each refusal: its kind, its place, and the name that stands there where it speaks of a name
abbrev pub IsFaultOf : List ℕ → SpecError → Fault → Type 0
IsFaultOf text (Byte at) fault = (place : Place) × IsPlaceOf text at place × (fault ≡ ByteFault Spec place)
IsFaultOf text (OpenComment at) fault = (place : Place) × IsPlaceOf text at place × (fault ≡ CommentFault Spec place)
IsFaultOf text (Form at) fault = (place : Place) × IsPlaceOf text at place × (fault ≡ FormFault Spec place)
IsFaultOf text (Deep at) fault = (place : Place) × IsPlaceOf text at place × (fault ≡ DeepFault place)
IsFaultOf text (Defined start end) fault =
    (place : Place) × IsPlaceOf text start place × (fault ≡ DefinedFault place (name_between text start end))
IsFaultOf text (Cycle start end) fault =
    (place : Place) × IsPlaceOf text start place × (fault ≡ CycleFault place (name_between text start end))
IsFaultOf text (Kind start end) fault =
    (place : Place) × IsPlaceOf text start place × (fault ≡ KindFault place (name_between text start end))
IsFaultOf text (Arity start end) fault =
    (place : Place) × IsPlaceOf text start place × (fault ≡ ArityFault place (name_between text start end))
IsFaultOf text (DeepUse start end) fault =
    (place : Place) × IsPlaceOf text start place × (fault ≡ DeepUseFault place (name_between text start end))
IsFaultOf text Nodes fault = fault ≡ Large NodesLimit most_formula_nodes
IsFaultOf text NoMemory fault = ⊥

-- the bytes spell no specification for a cause, and this is its fault
pub record HasSpecFault (bytes : List ℕ) (fault : Fault) : Type 0 where
  pub error : SpecError
  pub cause : HasCause bytes error
  pub spells_none : SpellsNoSpec bytes error
  pub is_fault : IsFaultOf bytes error fault

-- the fault of a limit that is passed
abbrev pub fault_at_limit : Limit → Fault
fault_at_limit limits.Predicates = Large Predicates MOST_PREDICATES
fault_at_limit limits.Bits = Large Bits MOST_BITS
fault_at_limit limits.Choices = Large Choices most_choices
fault_at_limit limits.States = Large States most_automaton_states
fault_at_limit limits.Edges = Large Edges most_automaton_edges
fault_at_limit limits.Vectors = Large Vectors MOST_VECTORS
fault_at_limit limits.Clauses = Large Clauses MOST_CLAUSES
fault_at_limit limits.Branches = Large Branches MOST_BRANCHES
