-- The grammar of specifications, by cases on whole lists of terminals. A form stands at a level from 0; `levels_left` is
-- how many levels there may be below it, so that the grammar with levels up to 200 begins with 200 levels left, and the
-- grammar without a bound is that of any number of them.
-- The grammar is that of tsltools' specification format, in this project's profile.
use Rattle.std.specs.Prelude.{◌≡◌, ℕ, suc, List, [], ◌∷◌, ◌++◌, map, Option, Some, None}
use Rattle.tsl_text.specs.declared.TokenKind.TheVariants.{
  OpenBrace,
  CloseBrace,
  OpenRound,
  CloseRound,
  OpenSquare,
  CloseSquare,
  Semicolon,
  Equals,
  Not,
  And,
  Or,
  Arrow,
  BothArrow,
  LeftArrow,
}
use Rattle.spec_syntax.specs.declared.syntax.Word.TheVariants.{Assume, Guarantee, Always, Initially, True, False, X, F, G, U, W, R}
use Rattle.tsl_terms.specs.declared.operator.UnaryOperator.{UnaryOperator}
use Rattle.tsl_terms.specs.declared.operator.UnaryOperator.TheVariants.{Negation, Next, Finally, Globally}
use Rattle.tsl_terms.specs.declared.operator.BinaryOperator.{BinaryOperator}
use Rattle.tsl_terms.specs.declared.operator.BinaryOperator.TheVariants.{Implication, Equivalence, Until, WeakUntil, Release}
use Rattle.tsl_terms.specs.declared.operator.ManyOperator.TheVariants.{Conjunction, Disjunction}
use Rattle.spec_syntax.specs.declared.syntax.Part.{Part}
use Rattle.spec_syntax.specs.declared.syntax.Part.TheVariants.{AssumeFirst, AssumeAlways, GuaranteeFirst, GuaranteeAlways}
use Rattle.spec_syntax.specs.Syntax.{
  Terminal,
  free,
  word,
  mark,
  TermSyntax,
  alone,
  applied,
  grouped_term,
  no_terms,
  listed_terms,
  FormulaSyntax,
  truth,
  falsehood,
  bare,
  tested,
  updated,
  grouped,
  under,
  between,
  join,
  SectionSyntax,
  Definition,
  Declaration,
  the_section,
  the_definition,
}

-- the operators `!`, `X`, `F` and `G`
abbrev pub unary_of : Terminal → Option UnaryOperator
unary_of (mark Not) = Some Negation
unary_of (word X) = Some Next
unary_of (word F) = Some Finally
unary_of (word G) = Some Globally
unary_of _ = None

-- the operators `U`, `W` and `R`
abbrev pub temporal_of : Terminal → Option BinaryOperator
temporal_of (word U) = Some Until
temporal_of (word W) = Some WeakUntil
temporal_of (word R) = Some Release
temporal_of _ = None

-- between round brackets
abbrev pub in_brackets : List Terminal → List Terminal
in_brackets xs = mark OpenRound ∷ (xs ++ mark CloseRound ∷ [])

mutual
  -- term(l) = name | name "(" ")" | name argument(l) argument(l)* | "(" term(l+1) ")"
  pub data IsTerm : ℕ → List Terminal → TermSyntax → Type 0 where
    signal : {levels_left : ℕ} (x : List ℕ) → IsTerm levels_left (free x ∷ []) (alone x)
    constant : {levels_left : ℕ} (c : List ℕ) → IsTerm levels_left (free c ∷ mark OpenRound ∷ mark CloseRound ∷ []) (applied c no_terms)
    application : {levels_left : ℕ} {xs : List Terminal} {t : TermSyntax} {ts : List TermSyntax} (f : List ℕ) →
        AreArguments levels_left xs (t ∷ ts) → IsTerm levels_left (free f ∷ xs) (applied f (listed_terms (t ∷ ts)))
    brackets : {levels_left : ℕ} {xs : List Terminal} {t : TermSyntax} →
        IsTerm levels_left xs t → IsTerm (suc levels_left) (in_brackets xs) (grouped_term t)

  -- argument(l) argument(l)*
  pub data AreArguments : ℕ → List Terminal → List TermSyntax → Type 0 where
    one_argument : {levels_left : ℕ} {xs : List Terminal} {t : TermSyntax} →
        IsArgument levels_left xs t → AreArguments levels_left xs (t ∷ [])
    more_arguments : {levels_left : ℕ} {xs ys : List Terminal} {t : TermSyntax} {ts : List TermSyntax} →
        IsArgument levels_left xs t → AreArguments levels_left ys ts → AreArguments levels_left (xs ++ ys) (t ∷ ts)

  -- argument(l) = name | name "(" ")" | "(" term(l+1) ")"
  pub data IsArgument : ℕ → List Terminal → TermSyntax → Type 0 where
    signal_argument : {levels_left : ℕ} (x : List ℕ) → IsArgument levels_left (free x ∷ []) (alone x)
    constant_argument : {levels_left : ℕ} (c : List ℕ) →
        IsArgument levels_left (free c ∷ mark OpenRound ∷ mark CloseRound ∷ []) (applied c no_terms)
    brackets_argument : {levels_left : ℕ} {xs : List Terminal} {t : TermSyntax} →
        IsTerm levels_left xs t → IsArgument (suc levels_left) (in_brackets xs) (grouped_term t)

mutual
  -- formula(l) = prefix(l) ("U" | "W" | "R") prefix(l) | iff(l)
  pub data IsFormula : ℕ → List Terminal → FormulaSyntax → Type 0 where
    temporal : {levels_left : ℕ} {xs ys : List Terminal} {a b : FormulaSyntax} (op : BinaryOperator) (t : Terminal) → temporal_of t ≡ Some op →
        IsPrefix levels_left xs a → IsPrefix levels_left ys b → IsFormula levels_left (xs ++ t ∷ ys) (between op a b)
    chain : {levels_left : ℕ} {xs : List Terminal} {a : FormulaSyntax} → IsIff levels_left xs a → IsFormula levels_left xs a

  -- iff(l) = imp(l) | imp(l) "<->" iff(l+1)
  pub data IsIff : ℕ → List Terminal → FormulaSyntax → Type 0 where
    no_iff : {levels_left : ℕ} {xs : List Terminal} {a : FormulaSyntax} → IsImp levels_left xs a → IsIff levels_left xs a
    iff : {levels_left : ℕ} {xs ys : List Terminal} {a b : FormulaSyntax} →
        IsImp (suc levels_left) xs a → IsIff levels_left ys b → IsIff (suc levels_left) (xs ++ mark BothArrow ∷ ys) (between Equivalence a b)

  -- imp(l) = or(l) | or(l) "->" imp(l+1)
  pub data IsImp : ℕ → List Terminal → FormulaSyntax → Type 0 where
    no_imp : {levels_left : ℕ} {xs : List Terminal} {a : FormulaSyntax} → IsOr levels_left xs a → IsImp levels_left xs a
    imp : {levels_left : ℕ} {xs ys : List Terminal} {a b : FormulaSyntax} →
        IsOr (suc levels_left) xs a → IsImp levels_left ys b → IsImp (suc levels_left) (xs ++ mark Arrow ∷ ys) (between Implication a b)

  -- or(l) = and(l) ("||" and(l))*
  pub data IsOr : ℕ → List Terminal → FormulaSyntax → Type 0 where
    disjunction : {levels_left : ℕ} {xs ys : List Terminal} {a : FormulaSyntax} {fs : List FormulaSyntax} →
        IsAnd levels_left xs a → AreDisjuncts levels_left ys fs → IsOr levels_left (xs ++ ys) (join Disjunction a fs)

  -- ("||" and(l))*
  pub data AreDisjuncts : ℕ → List Terminal → List FormulaSyntax → Type 0 where
    no_disjunct : {levels_left : ℕ} → AreDisjuncts levels_left [] []
    more_disjuncts : {levels_left : ℕ} {xs ys : List Terminal} {a : FormulaSyntax} {fs : List FormulaSyntax} →
        IsAnd levels_left xs a → AreDisjuncts levels_left ys fs → AreDisjuncts levels_left (mark Or ∷ (xs ++ ys)) (a ∷ fs)

  -- and(l) = prefix(l) ("&&" prefix(l))*
  pub data IsAnd : ℕ → List Terminal → FormulaSyntax → Type 0 where
    conjunction : {levels_left : ℕ} {xs ys : List Terminal} {a : FormulaSyntax} {fs : List FormulaSyntax} →
        IsPrefix levels_left xs a → AreConjuncts levels_left ys fs → IsAnd levels_left (xs ++ ys) (join Conjunction a fs)

  -- ("&&" prefix(l))*
  pub data AreConjuncts : ℕ → List Terminal → List FormulaSyntax → Type 0 where
    no_conjunct : {levels_left : ℕ} → AreConjuncts levels_left [] []
    more_conjuncts : {levels_left : ℕ} {xs ys : List Terminal} {a : FormulaSyntax} {fs : List FormulaSyntax} →
        IsPrefix levels_left xs a → AreConjuncts levels_left ys fs → AreConjuncts levels_left (mark And ∷ (xs ++ ys)) (a ∷ fs)

  -- prefix(l) = ("!" | "X" | "F" | "G") prefix(l+1) | atom(l)
  pub data IsPrefix : ℕ → List Terminal → FormulaSyntax → Type 0 where
    prefix : {levels_left : ℕ} {xs : List Terminal} {a : FormulaSyntax} (op : UnaryOperator) (t : Terminal) → unary_of t ≡ Some op →
        IsPrefix levels_left xs a → IsPrefix (suc levels_left) (t ∷ xs) (under op a)
    atom : {levels_left : ℕ} {xs : List Terminal} {a : FormulaSyntax} → IsAtom levels_left xs a → IsPrefix levels_left xs a

  -- atom(l) = "true" | "false" | "(" formula(l+1) ")" | "[" name "<-" term(l) "]"
  --         | name | name "(" ")" | name argument(l) argument(l)*
  pub data IsAtom : ℕ → List Terminal → FormulaSyntax → Type 0 where
    true_atom : {levels_left : ℕ} → IsAtom levels_left (word True ∷ []) truth
    false_atom : {levels_left : ℕ} → IsAtom levels_left (word False ∷ []) falsehood
    brackets_atom : {levels_left : ℕ} {xs : List Terminal} {a : FormulaSyntax} →
        IsFormula levels_left xs a → IsAtom (suc levels_left) (in_brackets xs) (grouped a)
    update : {levels_left : ℕ} {xs : List Terminal} {t : TermSyntax} (x : List ℕ) → IsTerm levels_left xs t →
        IsAtom levels_left (mark OpenSquare ∷ free x ∷ mark LeftArrow ∷ (xs ++ mark CloseSquare ∷ [])) (updated x t)
    bare_name : {levels_left : ℕ} (x : List ℕ) → IsAtom levels_left (free x ∷ []) (bare x)
    no_argument : {levels_left : ℕ} (p : List ℕ) → IsAtom levels_left (free p ∷ mark OpenRound ∷ mark CloseRound ∷ []) (tested p no_terms)
    test : {levels_left : ℕ} {xs : List Terminal} {t : TermSyntax} {ts : List TermSyntax} (p : List ℕ) →
        AreArguments levels_left xs (t ∷ ts) → IsAtom levels_left (free p ∷ xs) (tested p (listed_terms (t ∷ ts)))

-- items = nothing | formula(0) (";" formula(0))* [";"]
pub data AreItems : ℕ → List Terminal → List FormulaSyntax → Type 0 where
  nothing : {levels_left : ℕ} → AreItems levels_left [] []
  last_item : {levels_left : ℕ} {xs : List Terminal} {f : FormulaSyntax} → IsFormula levels_left xs f → AreItems levels_left xs (f ∷ [])
  item : {levels_left : ℕ} {xs ys : List Terminal} {f : FormulaSyntax} {fs : List FormulaSyntax} →
      IsFormula levels_left xs f → AreItems levels_left ys fs → AreItems levels_left (xs ++ mark Semicolon ∷ ys) (f ∷ fs)

-- ["always" | "initially"] ("assume" | "guarantee"), and the list of formulas that it means
pub data IsHead : List Terminal → Part → Type 0 where
  assume : IsHead (word Assume ∷ []) AssumeFirst
  guarantee : IsHead (word Guarantee ∷ []) GuaranteeFirst
  initially_assume : IsHead (word Initially ∷ word Assume ∷ []) AssumeFirst
  initially_guarantee : IsHead (word Initially ∷ word Guarantee ∷ []) GuaranteeFirst
  always_assume : IsHead (word Always ∷ word Assume ∷ []) AssumeAlways
  always_guarantee : IsHead (word Always ∷ word Guarantee ∷ []) GuaranteeAlways

-- section = ["always" | "initially"] ("assume" | "guarantee") "{" items "}"
pub data IsSection : ℕ → List Terminal → SectionSyntax → Type 0 where
  braces : {levels_left : ℕ} {xs ys : List Terminal} {part : Part} {fs : List FormulaSyntax} → IsHead xs part → AreItems levels_left ys fs →
      IsSection levels_left (xs ++ mark OpenBrace ∷ (ys ++ mark CloseBrace ∷ [])) (record { part = part; formulas = fs })

-- spec = section*
pub data AreSections : ℕ → List Terminal → List SectionSyntax → Type 0 where
  no_section : {levels_left : ℕ} → AreSections levels_left [] []
  section : {levels_left : ℕ} {xs ys : List Terminal} {s : SectionSyntax} {ss : List SectionSyntax} →
      IsSection levels_left xs s → AreSections levels_left ys ss → AreSections levels_left (xs ++ ys) (s ∷ ss)

-- definition = name name* "=" formula(0) ";"
pub data IsDefinition : ℕ → List Terminal → Definition → Type 0 where
  equation : {levels_left : ℕ} {xs : List Terminal} {a : FormulaSyntax} (x : List ℕ) (ps : List (List ℕ)) → IsFormula levels_left xs a →
      IsDefinition levels_left (free x ∷ (map free ps ++ mark Equals ∷ (xs ++ mark Semicolon ∷ [])))
      (record { name = x; parameters = ps; body = a })

-- declarations = (section | definition)*. The second list of terminals are those of the sections alone.
pub data AreDeclarations : ℕ → List Terminal → List Terminal → List Declaration → Type 0 where
  no_declaration : {levels_left : ℕ} → AreDeclarations levels_left [] [] []
  a_section : {levels_left : ℕ} {xs ys own : List Terminal} {s : SectionSyntax} {ds : List Declaration} →
      IsSection levels_left xs s → AreDeclarations levels_left ys own ds → AreDeclarations levels_left (xs ++ ys) (xs ++ own) (the_section s ∷ ds)
  a_definition : {levels_left : ℕ} {xs ys own : List Terminal} {d : Definition} {ds : List Declaration} →
      IsDefinition levels_left xs d → AreDeclarations levels_left ys own ds → AreDeclarations levels_left (xs ++ ys) own (the_definition d ∷ ds)
