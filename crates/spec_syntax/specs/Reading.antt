-- Reading terminals, as functions that compute. Each gives what is read at the front and the terminals after it,
-- or the first fault. Each decides by its first terminal.
use Rattle.std.specs.Prelude.{ℕ, zero, suc, Bool, true, false, List, [], ◌∷◌, ◌++◌, Option, Some, None, Ok, if◌then◌else◌}
use Rattle.tsl_text.specs.declared.TokenKind.TheVariants.{
  OpenBrace,
  CloseBrace,
  OpenRound,
  CloseRound,
  OpenSquare,
  CloseSquare,
  Semicolon,
  And,
  Or,
  Arrow,
  BothArrow,
  LeftArrow,
  Equals,
}
use Rattle.reader_combinators.specs.Readers.{Answer, Reader, form_at, deep_at, closed_by, and_then, map_read, iterate, members, below}
use Rattle.reader_combinators.specs.Readers.{found_or_wrong}
use Rattle.spec_syntax.specs.declared.syntax.Word.TheVariants.{Assume, Guarantee, Always, Initially, True, False}
use Rattle.tsl_terms.specs.declared.operator.UnaryOperator.{UnaryOperator}
use Rattle.tsl_terms.specs.declared.operator.BinaryOperator.{BinaryOperator}
use Rattle.tsl_terms.specs.declared.operator.BinaryOperator.TheVariants.{Implication, Equivalence}
use Rattle.tsl_terms.specs.declared.operator.ManyOperator.{ManyOperator}
use Rattle.tsl_terms.specs.declared.operator.ManyOperator.TheVariants.{Conjunction, Disjunction}
use Rattle.spec_syntax.specs.declared.syntax.ArrowKind.{ArrowKind}
use Rattle.spec_syntax.specs.declared.syntax.ArrowKind.TheVariants.{Single, Double}
use Rattle.spec_syntax.specs.declared.syntax.Closer.{Closer}
use Rattle.spec_syntax.specs.declared.syntax.Closer.TheVariants.{Round, Square, Brace, Equals as EqualsAfter, Semicolon as SemicolonAfter}
use Rattle.spec_syntax.specs.declared.syntax.Part.{Part}
use Rattle.spec_syntax.specs.declared.syntax.Part.TheVariants.{AssumeFirst, AssumeAlways, GuaranteeFirst, GuaranteeAlways}
use Rattle.spec_syntax.specs.Syntax.{
  Terminal,
  free,
  word,
  mark,
  TermSyntax,
  alone,
  applied,
  grouped_term,
  no_terms,
  listed_terms,
  FormulaSyntax,
  truth,
  falsehood,
  bare,
  tested,
  updated,
  grouped,
  under,
  between,
  join,
  SectionSyntax,
  Definition,
  Declaration,
  the_section,
  the_definition,
}
use Rattle.spec_syntax.specs.Grammar.{unary_of, temporal_of}

abbrev pub is_close_round : Terminal → Bool
is_close_round (mark CloseRound) = true
is_close_round _ = false

abbrev pub is_close_square : Terminal → Bool
is_close_square (mark CloseSquare) = true
is_close_square _ = false

abbrev pub is_close_brace : Terminal → Bool
is_close_brace (mark CloseBrace) = true
is_close_brace _ = false

abbrev pub is_equals : Terminal → Bool
is_equals (mark Equals) = true
is_equals _ = false

abbrev pub is_semicolon : Terminal → Bool
is_semicolon (mark Semicolon) = true
is_semicolon _ = false

-- whether the terminal is what closes a form so
abbrev pub closes : Closer → Terminal → Bool
closes Round = is_close_round
closes Square = is_close_square
closes Brace = is_close_brace
closes EqualsAfter = is_equals
closes SemicolonAfter = is_semicolon

-- the readers of one level: of the forms on the right of an arrow too
pub record Level : Type 0 where
  pub term : Reader Terminal TermSyntax
  pub prefix : Reader Terminal FormulaSyntax
  pub right : ArrowKind → Reader Terminal FormulaSyntax
  pub formula : Reader Terminal FormulaSyntax

-- a term of a level in brackets, after the opening one
abbrev pub bracketed_term : Level → Reader Terminal TermSyntax
bracketed_term l = closed_by is_close_round l.term

-- a formula of a level in brackets, after the opening one
abbrev pub bracketed_formula : Level → Reader Terminal FormulaSyntax
bracketed_formula l = closed_by is_close_round l.formula

-- whether a term begins here
abbrev pub begins_term : List Terminal → Bool
begins_term (free x ∷ rest) = true
begins_term (mark OpenRound ∷ rest) = true
begins_term _ = false

-- After a name and an opening bracket, where there is no level below: the closing bracket could follow, but a term
-- would be a level too many.
abbrev pub beyond : {V : Type 0} → Reader Terminal V
beyond xs = if begins_term xs then deep_at xs else form_at xs

-- after a name and an opening bracket: the closing one, or a term and the closing one
unfoldable pub opened : Option Level → Reader Terminal (Option TermSyntax)
opened lower (mark CloseRound ∷ rest) = Ok (None, rest)
opened None xs = beyond xs
opened (Some l) xs = map_read (λ t. Some t) (bracketed_term l xs)

-- the arguments of a name so far
pub data Arguments : Type 0 where
  -- there is none yet
  fresh : Arguments
  -- there is none, by `()`
  empty : Arguments
  -- the last one is a name, which brackets may follow
  name_last : (before : List TermSyntax) → (last : List ℕ) → Arguments
  -- the last one is complete
  term_last : (terms : List TermSyntax) → Arguments

abbrev pub complete : Arguments → List TermSyntax
complete fresh = []
complete empty = []
complete (name_last ts x) = ts ++ alone x ∷ []
complete (term_last ts) = ts

-- a further argument that begins with a name
abbrev pub with_name : Arguments → List ℕ → Arguments
with_name s x = name_last (complete s) x

-- a further argument in brackets
abbrev pub with_term : Arguments → TermSyntax → Arguments
with_term s t = term_last (complete s ++ grouped_term t ∷ [])

-- brackets after a name: a further argument, or `()`, which is the name's
abbrev pub with_brackets : Option TermSyntax → Arguments → Arguments
with_brackets (Some t) s = with_term s t
with_brackets None fresh = empty
with_brackets None empty = empty
with_brackets None (name_last ts x) = term_last (ts ++ applied x no_terms ∷ [])
with_brackets None (term_last ts) = term_last ts

-- a name or brackets, where arguments go on
unfoldable pub argument : Option Level → Arguments → List Terminal → Option (Answer Terminal Arguments)
argument lower empty xs = None
argument lower s (free x ∷ rest) = Some (Ok (with_name s x, rest))
argument lower (term_last ts) (mark OpenRound ∷ rest) =
    Some (map_read (with_term (term_last ts)) (below lower bracketed_term (mark OpenRound ∷ rest)))
argument lower s (mark OpenRound ∷ rest) = Some (map_read (λ o. with_brackets o s) (opened lower rest))
argument lower s _ = None

-- an argument where there has to be one
abbrev pub argument_wanted : Option Level → Arguments → Reader Terminal Arguments
argument_wanted lower s xs = found_or_wrong (argument lower s xs) xs

-- whether arguments go on with this terminal, and with the first of these
abbrev pub starts_argument : Arguments → Terminal → Bool
starts_argument empty x = false
starts_argument s (free x) = true
starts_argument s (mark OpenRound) = true
starts_argument s _ = false

abbrev pub goes_on : Arguments → List Terminal → Bool
goes_on s [] = false
goes_on s (x ∷ rest) = starts_argument s x

abbrev pub arguments_of : Arguments → Option (List TermSyntax)
arguments_of fresh = None
arguments_of empty = Some []
arguments_of (name_last ts x) = Some (ts ++ alone x ∷ [])
arguments_of (term_last ts) = Some ts

-- what follows a name: nothing, or arguments, of which `()` has none
unfoldable pub after_name : Option Level → Reader Terminal (Option (List TermSyntax))
after_name lower xs = map_read arguments_of (iterate (argument lower) fresh xs)

abbrev pub term_named : List ℕ → Option (List TermSyntax) → TermSyntax
term_named x None = alone x
term_named f (Some ts) = applied f (listed_terms ts)

abbrev pub atom_named : List ℕ → Option (List TermSyntax) → FormulaSyntax
atom_named x None = bare x
atom_named p (Some ts) = tested p (listed_terms ts)

unfoldable pub term_with : Option Level → Reader Terminal TermSyntax
term_with lower (free f ∷ rest) = map_read (term_named f) (after_name lower rest)
term_with lower (mark OpenRound ∷ rest) = map_read grouped_term (below lower bracketed_term (mark OpenRound ∷ rest))
term_with lower xs = form_at xs

-- an update after its opening bracket
unfoldable pub update_with : Option Level → Reader Terminal FormulaSyntax
update_with lower (free x ∷ mark LeftArrow ∷ rest) = map_read (updated x) (closed_by is_close_square (term_with lower) rest)
update_with lower (free x ∷ rest) = form_at rest
update_with lower xs = form_at xs

unfoldable pub atom_with : Option Level → Reader Terminal FormulaSyntax
atom_with lower (word True ∷ rest) = Ok (truth, rest)
atom_with lower (word False ∷ rest) = Ok (falsehood, rest)
atom_with lower (mark OpenRound ∷ rest) = map_read grouped (below lower bracketed_formula (mark OpenRound ∷ rest))
atom_with lower (mark OpenSquare ∷ rest) = update_with lower rest
atom_with lower (free p ∷ rest) = map_read (atom_named p) (after_name lower rest)
atom_with lower xs = form_at xs

-- the operand of an operator before it, or an atom where there is no operator
unfoldable pub prefix_from : Option Level → Option UnaryOperator → Reader Terminal FormulaSyntax
prefix_from lower (Some op) xs = map_read (under op) (below lower (λ l. l.prefix) xs)
prefix_from lower None xs = atom_with lower xs

abbrev pub unary_in : List Terminal → Option UnaryOperator
unary_in [] = None
unary_in (x ∷ rest) = unary_of x

unfoldable pub prefix_with : Option Level → Reader Terminal FormulaSyntax
prefix_with lower xs = prefix_from lower (unary_in xs) xs

-- whether the terminal is this operator
abbrev pub is_sign : ManyOperator → Terminal → Bool
is_sign Conjunction (mark And) = true
is_sign Disjunction (mark Or) = true
is_sign op _ = false

-- a further operand of `&&` or of `||`, each read so, where the operator is there
unfoldable pub further_from : Bool → Reader Terminal FormulaSyntax → List Terminal → Option (Answer Terminal FormulaSyntax)
further_from true operand rest = Some (operand rest)
further_from false operand rest = None

unfoldable pub further : ManyOperator → Reader Terminal FormulaSyntax → List Terminal → Option (Answer Terminal FormulaSyntax)
further op operand [] = None
further op operand (x ∷ rest) = further_from (is_sign op x) operand rest

-- the operands after the first one
unfoldable pub chain_after : ManyOperator → Reader Terminal FormulaSyntax → FormulaSyntax → Reader Terminal FormulaSyntax
chain_after op operand a xs = map_read (join op a) (members (further op operand) xs)

unfoldable pub and_with : Option Level → Reader Terminal FormulaSyntax
and_with lower xs = and_then (prefix_with lower xs) (chain_after Conjunction (prefix_with lower))

-- an operand of `&&`, and of `||`
abbrev pub operand_with : ManyOperator → Option Level → Reader Terminal FormulaSyntax
operand_with Conjunction lower = prefix_with lower
operand_with Disjunction lower = and_with lower

-- a form of `||` whose first prefix was read
unfoldable pub or_after : Option Level → FormulaSyntax → Reader Terminal FormulaSyntax
or_after lower a xs = and_then (chain_after Conjunction (prefix_with lower) a xs) (chain_after Disjunction (and_with lower))

-- whether the terminal is this arrow, and whether it begins these
abbrev pub is_arrow : ArrowKind → Terminal → Bool
is_arrow Single (mark Arrow) = true
is_arrow Double (mark BothArrow) = true
is_arrow kind _ = false

abbrev pub begins_with_arrow : ArrowKind → List Terminal → Bool
begins_with_arrow kind [] = false
begins_with_arrow kind (x ∷ rest) = is_arrow kind x

abbrev pub operator_of : ArrowKind → BinaryOperator
operator_of Single = Implication
operator_of Double = Equivalence

-- the arrow and its right side where it is there, and the left side alone where it is not
unfoldable pub arrow_from : Option Level → ArrowKind → Bool → FormulaSyntax → Reader Terminal FormulaSyntax
arrow_from lower kind true a xs = map_read (between (operator_of kind) a) (below lower (λ l. l.right kind) xs)
arrow_from lower kind false a xs = Ok (a, xs)

-- an arrow and its right side, where they follow
unfoldable pub arrow_after : Option Level → ArrowKind → FormulaSyntax → Reader Terminal FormulaSyntax
arrow_after lower kind a xs = arrow_from lower kind (begins_with_arrow kind xs) a xs

unfoldable pub imp_after : Option Level → FormulaSyntax → Reader Terminal FormulaSyntax
imp_after lower a xs = and_then (or_after lower a xs) (arrow_after lower Single)

unfoldable pub iff_after : Option Level → FormulaSyntax → Reader Terminal FormulaSyntax
iff_after lower a xs = and_then (imp_after lower a xs) (arrow_after lower Double)

-- the form on the right of an arrow, whose first prefix was read
abbrev pub right_after : ArrowKind → Option Level → FormulaSyntax → Reader Terminal FormulaSyntax
right_after Single lower = imp_after lower
right_after Double lower = iff_after lower

unfoldable pub right_with : ArrowKind → Option Level → Reader Terminal FormulaSyntax
right_with kind lower xs = and_then (prefix_with lower xs) (right_after kind lower)

abbrev pub temporal_in : List Terminal → Option BinaryOperator
temporal_in [] = None
temporal_in (x ∷ rest) = temporal_of x

-- the right side of an operator after it, or the rest of a chain where there is no operator
unfoldable pub formula_from : Option Level → Option BinaryOperator → FormulaSyntax → Reader Terminal FormulaSyntax
formula_from lower (Some op) a [] = form_at []
formula_from lower (Some op) a (x ∷ rest) = map_read (between op a) (prefix_with lower rest)
formula_from lower None a xs = iff_after lower a xs

unfoldable pub formula_after : Option Level → FormulaSyntax → Reader Terminal FormulaSyntax
formula_after lower a xs = formula_from lower (temporal_in xs) a xs

unfoldable pub formula_with : Option Level → Reader Terminal FormulaSyntax
formula_with lower xs = and_then (prefix_with lower xs) (formula_after lower)

-- the level above this one
unfoldable pub above : Option Level → Level
above lower = record {
  term = term_with lower;
  prefix = prefix_with lower;
  right = λ kind. right_with kind lower;
  formula =
      formula_with lower;
}

-- the next level, where so many levels are left
unfoldable pub lower : ℕ → Option Level
lower zero = None
lower (suc levels_left) = Some (above (lower levels_left))

-- the items of a section so far
pub data Items : Type 0 where
  -- an item may follow
  open_items : (formulas : List FormulaSyntax) → Items
  -- the last one may be closed by a semicolon
  item_last : (formulas : List FormulaSyntax) → Items

abbrev pub items_of : Items → List FormulaSyntax
items_of (open_items fs) = fs
items_of (item_last fs) = fs

-- a formula or a semicolon, where items go on
unfoldable pub item : ℕ → Items → List Terminal → Option (Answer Terminal Items)
item levels_left s [] = None
item levels_left (open_items fs) (mark CloseBrace ∷ rest) = None
item levels_left (open_items fs) xs = Some (map_read (λ f. item_last (fs ++ f ∷ [])) (formula_with (lower levels_left) xs))
item levels_left (item_last fs) (mark Semicolon ∷ rest) = Some (Ok (open_items fs, rest))
item levels_left (item_last fs) xs = None

-- whether an item begins here
abbrev pub begins_item : List Terminal → Bool
begins_item [] = false
begins_item (mark CloseBrace ∷ rest) = false
begins_item _ = true

-- the formulas of a section
unfoldable pub formulas : ℕ → Reader Terminal (List FormulaSyntax)
formulas levels_left xs = map_read items_of (iterate (item levels_left) (open_items []) xs)

abbrev pub section_made : Part → List FormulaSyntax → SectionSyntax
section_made part formulas = record { part = part; formulas = formulas }

-- the items of a section between their braces
unfoldable pub items : ℕ → Part → Reader Terminal SectionSyntax
items levels_left part (mark OpenBrace ∷ rest) = map_read (section_made part) (closed_by is_close_brace (formulas levels_left) rest)
items levels_left part xs = form_at xs

-- a section after its first word
unfoldable pub side : ℕ → Part → Part → Reader Terminal SectionSyntax
side levels_left assumed guaranteed (word Assume ∷ rest) = items levels_left assumed rest
side levels_left assumed guaranteed (word Guarantee ∷ rest) = items levels_left guaranteed rest
side levels_left assumed guaranteed xs = form_at xs

unfoldable pub section_at : ℕ → Reader Terminal SectionSyntax
section_at levels_left (word Always ∷ rest) = side levels_left AssumeAlways GuaranteeAlways rest
section_at levels_left (word Initially ∷ rest) = side levels_left AssumeFirst GuaranteeFirst rest
section_at levels_left xs = side levels_left AssumeFirst GuaranteeFirst xs

-- the section at the front, unless the text ends here
unfoldable pub section : ℕ → List Terminal → Option (Answer Terminal SectionSyntax)
section levels_left [] = None
section levels_left (x ∷ xs) = Some (section_at levels_left (x ∷ xs))

-- the sections of a text
unfoldable pub sections : ℕ → Reader Terminal (List SectionSyntax)
sections levels_left = members (section levels_left)

-- the name at the front, unless none stands there
unfoldable pub name_at : List Terminal → Option (Answer Terminal (List ℕ))
name_at (free x ∷ rest) = Some (Ok (x, rest))
name_at _ = None

-- the parameters of a definition, and the `=` behind them
unfoldable pub parameters : Reader Terminal (List (List ℕ))
parameters xs = closed_by is_equals (members name_at) xs

-- what a definition stands for, and the `;` behind it
unfoldable pub body : ℕ → Reader Terminal FormulaSyntax
body levels_left xs = closed_by is_semicolon (formula_with (lower levels_left)) xs

abbrev pub definition_made : List ℕ → List (List ℕ) → FormulaSyntax → Definition
definition_made x ps a = record { name = x; parameters = ps; body = a }

-- a definition after its name
unfoldable pub definition : ℕ → List ℕ → Reader Terminal Definition
definition levels_left x xs = and_then (parameters xs) (λ ps ys. map_read (definition_made x ps) (body levels_left ys))

-- a definition where a name begins, and else a section
unfoldable pub declaration_at : ℕ → Reader Terminal Declaration
declaration_at levels_left (free x ∷ rest) = map_read the_definition (definition levels_left x rest)
declaration_at levels_left xs = map_read the_section (section_at levels_left xs)

-- the declaration at the front, unless the text ends here
unfoldable pub declaration : ℕ → List Terminal → Option (Answer Terminal Declaration)
declaration levels_left [] = None
declaration levels_left (x ∷ xs) = Some (declaration_at levels_left (x ∷ xs))

-- the sections and definitions of a text
unfoldable pub declarations : ℕ → Reader Terminal (List Declaration)
declarations levels_left = members (declaration levels_left)
