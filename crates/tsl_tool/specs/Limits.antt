-- The limits of texts and of the work, in numbers. The definitions cite them as constants of the code, and here each constant has its
-- number.
use Rattle.std.specs.Prelude.{◌≡◌, ℕ, Some, None}
use Rattle.command_words.specs.declared.task.SynthSizes.{SynthSizes}
use Rattle.command_words.specs.declared.task.ProveSizes.{ProveSizes}
use Rattle.command_words.specs.declared.task.Task.TheVariants.{Synth, Check, Run, Prove, Recheck, Gen, Circuit, Automaton, Accepts}
use Rattle.tsl_text.specs.declared.numbers.TheConstants.{MOST_DIGITS}
use Rattle.tsl_terms.specs.WellFormed.{deepest as deepest_brackets}
use Rattle.tsl_reader.specs.Spells.{deepest_level, most_formula_nodes}
use Rattle.program_tree.specs.Fits.{longest as longest_window}
use Rattle.program_tree.specs.Writable.{most_windows, most_nodes as most_program_nodes, most_states as most_program_states}
use Rattle.table_interp.specs.declared.TheConstants.{MOST_VALUES, MOST_ENTRIES, MOST_ROWS}
use Rattle.word_interp.specs.declared.TheConstants.{MOST_BITS as MOST_WORD_BITS}
use Rattle.refutation_check.specs.declared.limits.TheConstants.{MOST_VARIABLES, MOST_CLAUSES}
use Rattle.letter_space.specs.declared.limits.TheConstants.{MOST_PREDICATES, MOST_BITS, MOST_VECTORS}
use Rattle.branch_finder.specs.declared.limits.TheConstants.{MOST_BRANCHES}
use Rattle.obligations.specs.Choices.{most_choices, letter_bits}
use Rattle.cobuchi_automata.specs.Refusals.{most_automaton_states, most_automaton_edges}
use Rattle.checking_commands.specs.declared.running.TheConstants.{MOST_CONFIGURATIONS}
use Rattle.tsl_tool.specs.Tasks.{most_bytes}

pub record LimitsAreThese : Type 0 where
  -- bytes of what is read; the numbers of options stand in the definition of their commands
  pub specification_bytes : (sizes : SynthSizes) → most_bytes (Synth sizes) ≡ Some 1048576
  pub question_bytes : (sizes : ProveSizes) → most_bytes (Prove sizes) ≡ Some 1048576
  pub check_bytes : (bound : ℕ) → most_bytes (Check bound) ≡ Some 16777216
  pub run_bytes : most_bytes Run ≡ Some 16777216
  pub log_bytes : most_bytes Recheck ≡ Some 268435456
  pub circuit_bytes : (bound : ℕ) → most_bytes (Circuit bound) ≡ Some 16777216
  pub automaton_bytes : most_bytes Automaton ≡ Some 1048576
  pub accepts_bytes : most_bytes Accepts ≡ Some 16777216
  pub no_bytes : (n : ℕ) → most_bytes (Gen n) ≡ None
  -- a specification: levels, nodes of the whole formula, brackets of a term
  pub levels : deepest_level ≡ 200
  pub formula_nodes : most_formula_nodes ≡ 10000
  pub brackets : deepest_brackets ≡ 200
  -- a program
  pub window_length : longest_window ≡ 3
  pub windows : most_windows ≡ 64
  pub program_nodes : most_program_nodes ≡ 65536
  pub program_states : most_program_states ≡ 64
  -- the letters of a specification, and its automaton
  pub predicates : MOST_PREDICATES ≡ 10
  pub bits : MOST_BITS ≡ 64
  pub bits_of_letters : letter_bits ≡ 64
  pub choices : most_choices ≡ 65536
  pub automaton_states : most_automaton_states ≡ 4096
  pub automaton_edges : most_automaton_edges ≡ 200000
  -- the vectors of an environment, and the cases of a search for a window
  pub vectors : MOST_VECTORS ≡ 1024
  pub branches : MOST_BRANCHES ≡ 10000000
  -- tables, the bits of machine words, inputs, and the configurations of a run
  pub values : MOST_VALUES ≡ 256
  pub entries : MOST_ENTRIES ≡ 65536
  pub word_bits : MOST_WORD_BITS ≡ 16
  pub rows : MOST_ROWS ≡ 65536
  pub configurations : MOST_CONFIGURATIONS ≡ 65536
  -- numbers in formulas in conjunctive normal form and in logs, and what such a formula may have, be it read or be it that of a question
  pub digits : MOST_DIGITS ≡ 18
  pub variables : MOST_VARIABLES ≡ 1048576
  pub clauses : MOST_CLAUSES ≡ 2000000
