-- Program text: the one spelling of a program over a list of names.
-- This format is the project's own.
use Rattle.std.specs.Prelude.{◌≡◌, ℕ, suc, List, [], ◌∷◌, ◌++◌, flat_map, codes, decimal}
use Rattle.tsl_terms.specs.Name.{Name}
use Rattle.tsl_terms.specs.TermTree.{TermTree}
use Rattle.term_text.specs.TermText.{name_text, probe_text, update_text}
use Rattle.term_text.specs.WindowText.{window_text}
use Rattle.program_tree.specs.NodeTree.{NodeTree, branch, assign}
use Rattle.program_tree.specs.ProgramTree.{ProgramTree, controlled}
use Rattle.program_tree.specs.Fits.{IsProgram}
use Rattle.program_tree.specs.Writable.{IsWritable}

-- a word and a name on each line
abbrev pub declarations : List ℕ → List Name → List ℕ → List ℕ
declarations word names ids = flat_map (λ id. word ++ name_text names id ++ codes "\n") ids

-- each signal's update, a space before it
abbrev pub updates_text : List Name → List ℕ → List TermTree → List ℕ
updates_text names (s ∷ ss) (t ∷ ts) = codes " " ++ update_text names s t ++ updates_text names ss ts
updates_text names [] ts = []
updates_text names (s ∷ ss) [] = []

abbrev pub node_text : List Name → List ℕ → ℕ → NodeTree → List ℕ
node_text names signals i (branch t then_node else_node) =
    codes "node " ++ decimal i ++ codes " if " ++ probe_text names t
    ++ codes " then " ++ decimal then_node ++ codes " else " ++ decimal else_node ++ codes "\n"
node_text names signals i (assign ts go) =
    codes "node " ++ decimal i ++ codes " set" ++ updates_text names signals ts ++ codes " go " ++ decimal go ++ codes "\n"

abbrev pub nodes_text : List Name → List ℕ → ℕ → List NodeTree → List ℕ
nodes_text names signals i [] = []
nodes_text names signals i (n ∷ ns) = node_text names signals i n ++ nodes_text names signals (suc i) ns

abbrev pub states_text : ℕ → List ℕ → List ℕ
states_text s [] = []
states_text s (i ∷ is) = codes "state " ++ decimal s ++ codes " at " ++ decimal i ++ codes "\n" ++ states_text (suc s) is

abbrev pub program_text : List Name → ProgramTree → List ℕ
program_text names p =
    codes "tslprogram 1\n"
    ++ declarations (codes "input ") names p.inputs
    ++ declarations (codes "cell ") names p.cells
    ++ declarations (codes "output ") names p.outputs
    ++ flat_map (window_text names) p.windows
    ++ nodes_text names (controlled p) 0 p.nodes
    ++ states_text 0 p.states
    ++ codes "end\n"

-- the bytes spell the program over the names
pub record ProgramText (bytes : List ℕ) (names : List Name) (p : ProgramTree) : Type 0 where
  pub is_program : IsProgram p
  pub is_writable : IsWritable names p
  pub text : bytes ≡ program_text names p
