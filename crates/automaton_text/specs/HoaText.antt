-- Automata as texts: as Büchi automata with marks on edges, in the Hanoi Omega-Automata format, version 1.
-- Source: Babiak, Blahoudek, Duret-Lutz, Klein, Kretinsky, Mueller, Parker, Strejcek: The Hanoi Omega-Automata Format (CAV 2015).
use Rattle.std.specs.Prelude.{◌≡◌, ℕ, ◌<◌, ◌≤◌, ◌^◌, Bool, List, [], ◌∷◌, ◌++◌, length, map, filter, flat_map, codes, decimal}
use Rattle.std.specs.Prelude.{IsTrue, if◌then◌else◌}
use Rattle.std.specs.List.{list_all, AllByRecursion}
use Rattle.base_library.specs.Numbers.{numbers_from}
use Rattle.tsl_text.specs.Written.{text_of_lines}
use Rattle.line_formats.specs.Format.{Bytes, has}
use Rattle.ltl_formula.specs.Cubes.{has_bit, IsWithin}
use Rattle.cobuchi_automata.specs.Automata.{EdgeTree}
use Rattle.annotation_check.specs.Annotations.{edges_from}

-- ---- one edge

-- the number of a bit, after `!` where the bit is not to be set
abbrev pub literal_text : ℕ → ℕ → List ℕ
literal_text want b = (if has_bit b want then [] else codes "!") ++ decimal b

-- the bits that a cube asks for, of so many, rising
abbrev pub bits_asked : ℕ → ℕ → List ℕ
bits_asked bits care = filter (λ b. has_bit b care) (numbers_from 0 bits)

-- literals with `&` between them, or `t` where there is none
abbrev pub joined : List (List ℕ) → List ℕ
joined [] = codes "t"
joined (l ∷ ls) = l ++ flat_map (λ m. codes "&" ++ m) ls

abbrev pub label_text : ℕ → EdgeTree → List ℕ
label_text bits e = joined (map (literal_text e.want) (bits_asked bits e.care))

abbrev pub mark_text : Bool → List ℕ
mark_text rejecting = if rejecting then codes " {0}" else []

-- the line of an edge, where there are so many bits
abbrev pub edge_text : ℕ → EdgeTree → List ℕ
edge_text bits e = codes "[" ++ label_text bits e ++ codes "] " ++ decimal e.to ++ mark_text e.rejecting

-- ---- states

-- the edges of states below a number, those of one state after those of another
abbrev pub grouped : ℕ → List EdgeTree → List EdgeTree
grouped states edges = flat_map (edges_from edges) (numbers_from 0 states)

abbrev pub state_text : ℕ → List ℕ
state_text q = codes "State: " ++ decimal q

-- the lines of a state: its number, and its edges
abbrev pub state_lines : ℕ → List EdgeTree → ℕ → List (List ℕ)
state_lines bits edges q = state_text q ∷ map (edge_text bits) (edges_from edges q)

-- ---- the whole text

abbrev pub states_text : ℕ → List ℕ
states_text states = codes "States: " ++ decimal states

abbrev pub quoted_text : List ℕ → List ℕ
quoted_text name = codes " \"" ++ name ++ codes "\""

-- how many bits there are, and what each is called
abbrev pub bits_text : List (List ℕ) → List ℕ
bits_text names = codes "AP: " ++ decimal (length names) ++ flat_map quoted_text names

-- the lines before those of states
abbrev pub header_lines : List (List ℕ) → ℕ → List (List ℕ)
header_lines names states =
    codes "HOA: v1" ∷ states_text states ∷ codes "Start: 0" ∷ bits_text names ∷ codes "acc-name: Buchi" ∷ codes "Acceptance: 1 Inf(0)"
    ∷ codes "--BODY--" ∷ []

abbrev pub hoa_lines : List (List ℕ) → ℕ → List EdgeTree → List (List ℕ)
hoa_lines names states edges =
    header_lines names states ++ flat_map (state_lines (length names) edges) (numbers_from 0 states) ++ codes "--END--" ∷ []

-- the text of an automaton, of whose bits these are the names
abbrev pub hoa_text : List (List ℕ) → ℕ → List EdgeTree → List ℕ
hoa_text names states edges = text_of_lines (hoa_lines names states edges)

-- ---- what a text tells

-- an edge between two of so many states, which asks of so many bits
pub record IsEdgeOf (bits states : ℕ) (e : EdgeTree) : Type 0 where
  pub from : e.from < states
  pub to : e.to < states
  pub asks : e.care < 2 ^ bits
  pub within : IsWithin e.care e.want

-- numbers in a text have at most 18 digits
abbrev pub number_bound : ℕ
number_bound = 10 ^ 18

-- all bytes but quotes and line feeds
abbrev pub quotable : Bytes
quotable = (0, 9) ∷ (11, 33) ∷ (35, 255) ∷ []

abbrev pub is_quotable : List ℕ → Bool
is_quotable name = list_all (has quotable) name

-- the names of bits, states and edges that a text may tell
pub record IsHoa (names : List (List ℕ)) (states : ℕ) (edges : List EdgeTree) : Type 0 where
  pub plain : IsTrue (list_all is_quotable names)
  pub few_bits : length names < number_bound
  pub some_state : 1 ≤ states
  pub few_states : states < number_bound
  pub are_edges : AllByRecursion (IsEdgeOf (length names) states) edges

-- The text is that of an automaton over so many bits, whatever they are called, with so many states and these edges, which are in
-- the order of their first states.
pub record IsHoaText (text : List ℕ) (bits states : ℕ) (edges : List EdgeTree) : Type 0 where
  pub names : List (List ℕ)
  pub named : length names ≡ bits
  pub is_hoa : IsHoa names states edges
  pub in_order : edges ≡ grouped states edges
  pub written : text ≡ hoa_text names states edges
