-- Worked examples: lines of automata as formats. Each is read in one way, and no line feed is written.
use Rattle.std.proofs.Common.{◌≡◌, ℕ, Bool, true, List, [], ◌∷◌, codes, refl}
use Rattle.line_formats.specs.Format.{Bytes, Leaf, Format, nothing, fixed, leaf, many, choice, is_clear, is_feedless}
use Rattle.line_formats.specs.Leaves.{number, run}

data Part : Type 0 where
  a_number : Part
  quoted : Part

abbrev Of : Part → Type 0
Of a_number = ℕ
Of quoted = List ℕ

-- any bytes but `"` and line feeds
abbrev inside : Bytes
inside = (0, 9) ∷ (11, 33) ∷ (35, 255) ∷ []

abbrev any : List ℕ → Bool
any bytes = true

abbrev leaves : (p : Part) → Leaf (Of p)
leaves a_number = number
leaves quoted = run inside any

abbrev propositions : Format Part
propositions = fixed (codes "AP: ") (leaf a_number (many (fixed (codes " \"") (leaf quoted (fixed (codes "\"") nothing))) nothing))

abbrev literal : Format Part
literal = choice (fixed (codes "!") (leaf a_number nothing)) (leaf a_number nothing)

-- the first literal, and the further ones after `&`
abbrev literals : Format Part → Format Part
literals rest = choice
    (fixed (codes "!") (leaf a_number (many (fixed (codes "&") literal) rest)))
    (leaf a_number (many (fixed (codes "&") literal) rest))

abbrev after_label : Format Part
after_label = fixed (codes "] ") (leaf a_number (choice (fixed (codes " {0}") nothing) nothing))

abbrev edge : Format Part
edge = fixed (codes "[") (choice (fixed (codes "t") after_label) (literals after_label))

propositions_clear : is_clear Of leaves propositions ≡ true
propositions_clear = refl

propositions_feedless : is_feedless Of leaves propositions ≡ true
propositions_feedless = refl

edge_clear : is_clear Of leaves edge ≡ true
edge_clear = refl

edge_feedless : is_feedless Of leaves edge ≡ true
edge_feedless = refl
