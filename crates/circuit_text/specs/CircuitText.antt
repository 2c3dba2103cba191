-- Circuits as texts, in the ASCII form of AIGER, with neither symbols nor comments; and the first wrong line of a text.
-- Source: Biere, Heljanko, Wieringa: AIGER 1.9 And Beyond (2011).
use Rattle.std.specs.Prelude.{◌≡◌, ℕ, suc, ◌+◌, ◌*◌, List, [], ◌∷◌, ◌++◌, length, map, codes, decimal, IsTrue}
use Rattle.std.specs.List.{list_all}
use Rattle.base_library.specs.Numbers.{numbers_from}
use Rattle.tsl_text.specs.Written.{is_line, line_of_fields, text_of_lines}
use Rattle.circuits.specs.Circuits.{GateTree, CircuitTree, IsCircuit, variables}

-- ---- what is written

-- numbers in decimal digits, with single spaces between them
abbrev pub numbers_line : List ℕ → List ℕ
numbers_line numbers = line_of_fields (map decimal numbers)

-- how many variables, inputs, latches, outputs and gates there are
abbrev pub header_line : CircuitTree → List ℕ
header_line c =
    codes "aag " ++ numbers_line (variables c ∷ c.inputs ∷ length c.latches ∷ length c.outputs ∷ length c.gates ∷ [])

-- the literal of an input, which is this variable
abbrev pub input_line : ℕ → List ℕ
input_line variable = numbers_line (2 * variable ∷ [])

-- the literal of the latch that comes after so many variables, and its next literal
abbrev pub latch_line : ℕ → ℕ → List ℕ
latch_line before next = numbers_line (2 * (before + 1) ∷ next ∷ [])

abbrev pub latch_lines : ℕ → List ℕ → List (List ℕ)
latch_lines before [] = []
latch_lines before (next ∷ more) = latch_line before next ∷ latch_lines (before + 1) more

-- the literal of an output
abbrev pub output_line : ℕ → List ℕ
output_line literal = numbers_line (literal ∷ [])

-- the literal of the gate that comes after so many variables, and the two that it joins
abbrev pub gate_line : ℕ → GateTree → List ℕ
gate_line before g = numbers_line (2 * (before + 1) ∷ g.left ∷ g.right ∷ [])

abbrev pub gate_lines : ℕ → List GateTree → List (List ℕ)
gate_lines before [] = []
gate_lines before (g ∷ more) = gate_line before g ∷ gate_lines (before + 1) more

abbrev pub circuit_lines : CircuitTree → List (List ℕ)
circuit_lines c =
    header_line c
    ∷ (map input_line (numbers_from 1 c.inputs)
    ++ (latch_lines c.inputs c.latches ++ (map output_line c.outputs ++ gate_lines (c.inputs + length c.latches) c.gates)))

abbrev pub circuit_text : CircuitTree → List ℕ
circuit_text c = text_of_lines (circuit_lines c)

-- ---- what is wrong

-- the text of some circuit begins so
abbrev pub Begins : List ℕ → Type 0
Begins front = (c : CircuitTree) × IsCircuit c × (rest : List ℕ) × (circuit_text c ≡ front ++ rest)

-- The line with this number, from 1, is the first wrong one of a text: the text of some circuit begins with the lines before it,
-- but none with these and it, and the text itself is that of no circuit. Where the next line lacks its line feed, or there is
-- none, only the last counts.
pub record IsFirstWrongLine (text : List ℕ) (line : ℕ) : Type 0 where
  pub before : List (List ℕ)
  pub after : List ℕ
  pub split : text ≡ text_of_lines before ++ after
  pub are_lines : IsTrue (list_all is_line before)
  pub number : line ≡ suc (length before)
  pub goes_on : Begins (text_of_lines before)
  pub here : (next rest : List ℕ) → after ≡ next ++ 10 ∷ rest → IsTrue (is_line next) →
      Begins (text_of_lines before ++ (next ++ 10 ∷ [])) → ⊥
  pub none : (c : CircuitTree) → IsCircuit c → text ≡ circuit_text c → ⊥
