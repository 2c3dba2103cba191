-- What the grammar reads, and where it stops.
use Rattle.std.proofs.Common.{◌≡◌, ℕ, List, [], ◌∷◌, ◌++◌, refl, map}
use Rattle.std.specs.Prelude.{codes, Ok, Err}
use Rattle.tsl_text.specs.declared.TokenKind.TheVariants.{OpenBrace, CloseBrace, OpenRound, CloseRound, OpenSquare, CloseSquare, Semicolon}
use Rattle.tsl_text.specs.declared.TokenKind.TheVariants.{Not, And, Or, Arrow, BothArrow, LeftArrow}
use Rattle.tsl_text.specs.Lexeme.{name}
use Rattle.spec_syntax.specs.declared.syntax.Word.TheVariants.{Assume, Guarantee, Always, Initially, X, U, A}
use Rattle.tsl_terms.specs.declared.operator.UnaryOperator.TheVariants.{Negation, Next}
use Rattle.tsl_terms.specs.declared.operator.BinaryOperator.TheVariants.{Implication, Equivalence}
use Rattle.tsl_terms.specs.declared.operator.ManyOperator.TheVariants.{Conjunction, Disjunction}
use Rattle.spec_syntax.specs.declared.syntax.Part.TheVariants.{AssumeAlways, GuaranteeFirst}
use Rattle.spec_syntax.specs.Syntax.{Terminal, free, word, mark, terminal_of, alone, applied, grouped_term, no_terms, more_terms}
use Rattle.spec_syntax.specs.Syntax.{FormulaSyntax, bare, tested, grouped, under, between, joined, no_formulas, more_formulas}
use Rattle.spec_syntax.specs.Syntax.{SectionSyntax}
use Rattle.reader_combinators.specs.Readers.{form, deep, Answer, closing, iterate_most, iterate}
use Rattle.spec_syntax.specs.Reading.{opened, argument, after_name, term_with, update_with, atom_with, prefix_from, prefix_with}
use Rattle.spec_syntax.specs.Reading.{further_from}
use Rattle.spec_syntax.specs.Reading.{further, chain_after, and_with, or_after, arrow_from, arrow_after, imp_after, iff_after, right_with}
use Rattle.spec_syntax.specs.Reading.{formula_from, formula_after, formula_with, above, lower, item}
use Rattle.spec_syntax.specs.Reading.{formulas, section_made, items, side, section_at, section, sections}
use Rattle.spec_syntax.specs.Grammar.{AreSections, IsAtom, test, one_argument, constant_argument}
use Rattle.spec_syntax.specs.Texts.{NoTextBegins}
use Rattle.spec_syntax.proofs.ExactSections.{sections_exact, sections_derive}
use Rattle.spec_syntax.proofs.FirstFaults.{form_stops, deep_stops}

-- ---- terminals

words_are_reserved : map terminal_of (name (codes "X") ∷ name (codes "A") ∷ name (codes "always") ∷ []) ≡ word X ∷ word A ∷ word Always ∷ []
words_are_reserved = refl

other_names_are_free : map terminal_of (name (codes "X1") ∷ name (codes "x") ∷ name (codes "Always") ∷ [])
    ≡ free (codes "X1") ∷ free (codes "x") ∷ free (codes "Always") ∷ []
other_names_are_free = refl

-- ---- formulas

abbrev a : Terminal
a = free (codes "a")

abbrev b : Terminal
b = free (codes "b")

abbrev c : Terminal
c = free (codes "c")

abbrev p : Terminal
p = free (codes "p")

-- `guarantee { .. }`
abbrev guaranteed : List Terminal → List Terminal
guaranteed xs = word Guarantee ∷ mark OpenBrace ∷ (xs ++ mark CloseBrace ∷ [])

abbrev one_formula : FormulaSyntax → Answer Terminal (List SectionSyntax)
one_formula f = Ok (section_made GuaranteeFirst (f ∷ []) ∷ [], [])

record FormulasAreRead : Type 0 where
  -- `a -> b -> c` is `a -> (b -> c)`
  pub arrows_are_right : sections 2 (guaranteed (a ∷ mark Arrow ∷ b ∷ mark Arrow ∷ c ∷ [])) ≡
      one_formula (between Implication (bare (codes "a")) (between Implication (bare (codes "b")) (bare (codes "c"))))
  -- `a && b && c` is one conjunction, and one in brackets stays a node of its own
  pub brackets_keep_conjunctions : sections 1
      (guaranteed (a ∷ mark And ∷ b ∷ mark And ∷ mark OpenRound ∷ a ∷ mark And ∷ c ∷ mark CloseRound ∷ [])) ≡
      one_formula (joined Conjunction (more_formulas (bare (codes "a")) (more_formulas (bare (codes "b")) (more_formulas
      (grouped (joined Conjunction (more_formulas (bare (codes "a")) (more_formulas (bare (codes "c")) no_formulas)))) no_formulas))))
  -- `a || b && c`
  pub and_binds_stronger : sections 0 (guaranteed (a ∷ mark Or ∷ b ∷ mark And ∷ c ∷ [])) ≡
      one_formula (joined Disjunction (more_formulas (bare (codes "a")) (more_formulas
      (joined Conjunction (more_formulas (bare (codes "b")) (more_formulas (bare (codes "c")) no_formulas))) no_formulas)))
  -- `p()` and `p ()` are the same tokens: a predicate without arguments
  pub brackets_alone : sections 0 (guaranteed (p ∷ mark OpenRound ∷ mark CloseRound ∷ [])) ≡ one_formula (tested (codes "p") no_terms)
  -- `p (a)`
  pub bracketed_argument : sections 1 (guaranteed (p ∷ mark OpenRound ∷ a ∷ mark CloseRound ∷ []))
      ≡ one_formula (tested (codes "p") (more_terms (grouped_term (alone (codes "a"))) no_terms))
  -- `p a ()`: the argument takes the brackets
  pub arguments_take_brackets : sections 0 (guaranteed (p ∷ a ∷ mark OpenRound ∷ mark CloseRound ∷ []))
      ≡ one_formula (tested (codes "p") (more_terms (applied (codes "a") no_terms) no_terms))
  -- `a U b U c` stops at the second `U`
  pub no_chain_of_until : sections 5 (guaranteed (a ∷ word U ∷ b ∷ word U ∷ c ∷ [])) ≡ Err (form 3)
  -- `a U b && c` stops at `&&`
  pub until_wants_brackets : sections 5 (guaranteed (a ∷ word U ∷ b ∷ mark And ∷ c ∷ [])) ≡ Err (form 3)
  -- `! X a` takes two levels
  pub two_levels_fit : sections 2 (guaranteed (mark Not ∷ word X ∷ a ∷ [])) ≡ one_formula (under Negation (under Next (bare (codes "a"))))
  pub a_third_level_is_deep : sections 1 (guaranteed (mark Not ∷ word X ∷ a ∷ [])) ≡ Err (deep 3)
  -- behind arrows of two levels a `<->` of the outer chain is fine
  pub levels_of_chains_are_their_own : sections 2 (guaranteed (a ∷ mark Arrow ∷ b ∷ mark Arrow ∷ c ∷ mark BothArrow ∷ a ∷ [])) ≡
      one_formula (between Equivalence (between Implication (bare (codes "a")) (between Implication (bare (codes "b")) (bare (codes "c"))))
      (bare (codes "a")))
  -- without a level left, `p (a` is deep at `a`
  pub deep_behind_the_bracket : sections 0 (guaranteed (p ∷ mark OpenRound ∷ a ∷ [])) ≡ Err (deep 2)
  -- and `p (;` a form fault at `;`
  pub form_behind_the_bracket : sections 0 (guaranteed (p ∷ mark OpenRound ∷ mark Semicolon ∷ [])) ≡ Err (form 2)
  -- behind `p a ()` a further bracket is itself deep
  pub deep_at_the_bracket : sections 0 (guaranteed (p ∷ a ∷ mark OpenRound ∷ mark CloseRound ∷ mark OpenRound ∷ [])) ≡ Err (deep 2)
  -- a reserved word is no name
  pub no_word_as_a_name : sections 0 (guaranteed (mark OpenSquare ∷ word A ∷ mark LeftArrow ∷ a ∷ mark CloseSquare ∷ [])) ≡ Err (form 5)

formulas_are_read : FormulasAreRead
unfolding closing iterate_most iterate opened argument after_name term_with update_with atom_with prefix_from prefix_with further_from
    further chain_after and_with or_after arrow_from arrow_after imp_after iff_after right_with formula_from formula_after formula_with
    above lower item formulas items side section_at section sections
formulas_are_read = record {
  arrows_are_right = refl;
  brackets_keep_conjunctions = refl;
  and_binds_stronger = refl;
  brackets_alone = refl;
  bracketed_argument = refl;
  arguments_take_brackets = refl;
  no_chain_of_until = refl;
  until_wants_brackets = refl;
  two_levels_fit = refl;
  a_third_level_is_deep = refl;
  levels_of_chains_are_their_own = refl;
  deep_behind_the_bracket = refl;
  form_behind_the_bracket = refl;
  deep_at_the_bracket = refl;
  no_word_as_a_name = refl;
}

-- ---- sections

record SectionsAreRead : Type 0 where
  -- the last semicolon may be missing
  pub last_semicolon : sections 0 (guaranteed (a ∷ mark Semicolon ∷ b ∷ []))
      ≡ sections 0 (guaranteed (a ∷ mark Semicolon ∷ b ∷ mark Semicolon ∷ []))
  pub no_semicolon_alone : sections 0 (guaranteed (mark Semicolon ∷ [])) ≡ Err (form 2)
  pub no_section_is_a_text : sections 0 [] ≡ Ok ([], [])
  pub a_section_without_formulas : sections 0 (guaranteed ([])) ≡ Ok (section_made GuaranteeFirst [] ∷ [], [])
  pub always_is_a_list_of_its_own : sections 0
      (word Always ∷ word Assume ∷ mark OpenBrace ∷ mark CloseBrace ∷ word Initially ∷ word Guarantee ∷ mark OpenBrace ∷ mark
      CloseBrace ∷ []) ≡
      Ok (section_made AssumeAlways [] ∷ section_made GuaranteeFirst [] ∷ [], [])
  -- a text that ends within a section
  pub cut_off : sections 0 (word Guarantee ∷ mark OpenBrace ∷ a ∷ []) ≡ Err (form 0)

sections_are_read : SectionsAreRead
unfolding closing iterate_most iterate opened argument after_name term_with update_with atom_with prefix_from prefix_with further_from
    further chain_after and_with or_after arrow_from arrow_after imp_after iff_after right_with formula_from formula_after formula_with
    above lower item formulas items side section_at section sections
sections_are_read = record {
  last_semicolon = refl;
  no_semicolon_alone = refl;
  no_section_is_a_text = refl;
  a_section_without_formulas = refl;
  always_is_a_list_of_its_own = refl;
  cut_off = refl;
}

-- ---- the grammar itself

-- a form of the grammar by its cases: `p a ()` as an atom
an_atom : IsAtom 0 (p ∷ a ∷ mark OpenRound ∷ mark CloseRound ∷ []) (tested (codes "p") (more_terms (applied (codes "a") no_terms) no_terms))
an_atom = test (codes "p") (one_argument (constant_argument (codes "a")))

-- `guarantee { a -> b -> c }` derives with two levels
arrows_derive : AreSections 2 (guaranteed (a ∷ mark Arrow ∷ b ∷ mark Arrow ∷ c ∷ []))
    (section_made GuaranteeFirst (between Implication (bare (codes "a")) (between Implication (bare (codes "b")) (bare
    (codes "c"))) ∷ []) ∷ [])
arrows_derive = (sections_derive 2 _ _ [] formulas_are_read.arrows_are_right).1

-- and `guarantee { a U b U c }` with no number of levels, nor any text that begins with `guarantee { a U b U`
no_chain_derives : (levels_left : ℕ) → NoTextBegins levels_left (word Guarantee ∷ mark OpenBrace ∷ a ∷ word U ∷ b ∷ word U ∷ [])
no_chain_derives levels_left =
    form_stops (sections_exact 5) _ 3 formulas_are_read.no_chain_of_until (word Guarantee ∷ mark OpenBrace ∷ a ∷ word U ∷ b ∷ []) (word U)
    (c ∷ mark CloseBrace ∷ []) refl refl levels_left

-- `guarantee { ! X a }` derives with no text of one level
no_third_level_derives : NoTextBegins 1 (word Guarantee ∷ mark OpenBrace ∷ mark Not ∷ word X ∷ [])
no_third_level_derives =
    deep_stops (sections_exact 1) _ 3 formulas_are_read.a_third_level_is_deep (word Guarantee ∷ mark OpenBrace ∷ mark Not ∷ []) (word X)
    (a ∷ mark CloseBrace ∷ []) refl refl
