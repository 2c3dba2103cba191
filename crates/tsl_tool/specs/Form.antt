-- The form of plain updates: `always guarantee { [y <- x]; [z <- y]; }`, with up to 1,000 updates of signals by
-- signals. Blanks may stand anywhere between the tokens. Its definition stands on nothing of the grammar.
use Rattle.std.specs.Prelude.{◌≡◌, ℕ, ◌≤◌, Bool, not, ◌&&◌, ◌==◌, List, [], ◌∷◌, ◌++◌, length, map, flat_map, codes, Some, IsTrue}
use Rattle.std.specs.List.{list_all}
use Rattle.tsl_text.specs.declared.TokenKind.TheVariants.{OpenBrace, CloseBrace, OpenSquare, CloseSquare, Semicolon, LeftArrow}
use Rattle.tsl_text.specs.Division.{Part, Divides, lexemes_of}
use Rattle.tsl_text.specs.Lexeme.{Lexeme, name, symbol}
use Rattle.tsl_terms.specs.declared.names.NameKind.TheVariants.{Signal}
use Rattle.tsl_terms.specs.Name.{Name, number_of}
use Rattle.tsl_text.specs.Names.{is_usable}
use Rattle.tsl_terms.specs.Clashes.{first_uses}
use Rattle.tsl_terms.specs.TermTree.{signal}
use Rattle.tsl_terms.specs.FormulaTree.{FormulaTree, atom, update}
use Rattle.tsl_terms.specs.SpecTree.{SpecTree}

-- an update of a signal by a signal: the two names
pub record Pair : Type 0 where
  pub left : List ℕ
  pub right : List ℕ

abbrev pub update_lexemes : Pair → List Lexeme
update_lexemes pair =
    symbol OpenSquare ∷ name pair.left ∷ symbol LeftArrow ∷ name pair.right ∷ symbol CloseSquare ∷ symbol Semicolon ∷ []

abbrev pub form_lexemes : List Pair → List Lexeme
form_lexemes pairs =
    name (codes "always") ∷ name (codes "guarantee") ∷ symbol OpenBrace ∷ (flat_map update_lexemes pairs ++ symbol CloseBrace ∷ [])

-- the names of the updates, from the left
abbrev pub sides : Pair → List (List ℕ)
sides pair = pair.left ∷ pair.right ∷ []

-- the names may be names of a specification
abbrev pub has_usable_names : Pair → Bool
has_usable_names pair = is_usable pair.left && is_usable pair.right

abbrev pub signal_named : List ℕ → Name
signal_named text = record { text = text; kind = Signal; arity = 0 }

-- the names of the updates, by first appearance
abbrev pub names_of_pairs : List Pair → List Name
names_of_pairs pairs = first_uses (map signal_named (flat_map sides pairs))

-- each formula is the update of its pair
abbrev pub AreUpdates : List Name → List Pair → List FormulaTree → Type 0
AreUpdates names [] [] = Unit {0}
AreUpdates names (pair ∷ pairs) (f ∷ fs) =
    ((left right : ℕ) × (number_of names pair.left ≡ Some left) × (number_of names pair.right ≡ Some right)
    × (f ≡ atom (update left (signal right))))
    × AreUpdates names pairs fs
AreUpdates names [] (f ∷ fs) = ⊥
AreUpdates names (pair ∷ pairs) [] = ⊥

abbrev pub is_no_slash : ℕ → Bool
is_no_slash byte = not (byte == 47)

-- the most updates of the form
abbrev pub most_updates : ℕ
most_updates = 1000

-- The text divides into blanks and the tokens of these updates, whose names are not reserved, and of which
-- there are not too many. No comment stands in it: a comment begins with a slash, and no blank and no token of
-- the form has one.
pub record IsForm (bytes : List ℕ) (pairs : List Pair) : Type 0 where
  pub parts : List Part
  pub divides : Divides bytes parts []
  pub tokens : lexemes_of parts ≡ form_lexemes pairs
  pub no_comment : IsTrue (list_all is_no_slash bytes)
  pub usable : IsTrue (list_all has_usable_names pairs)
  pub few : length pairs ≤ most_updates

-- the text is of the form, and the specification always guarantees its updates and nothing else
pub record SpellsUpdates (bytes : List ℕ) (spec : SpecTree) : Type 0 where
  pub pairs : List Pair
  pub form : IsForm bytes pairs
  pub names : spec.names ≡ names_of_pairs pairs
  pub guarantees : AreUpdates spec.names pairs spec.guarantee_always
  pub nothing_assumed_first : spec.assume_first ≡ []
  pub nothing_assumed_always : spec.assume_always ≡ []
  pub nothing_guaranteed_first : spec.guarantee_first ≡ []
