-- The names of a text's terminals are, one after another, those of its occurrences.
use Rattle.std.proofs.Common.{◌≡◌, ℕ, suc, Bool, List, [], ◌∷◌, ◌++◌, map, refl, ap, sym, ◌∙◌}
use Rattle.std.specs.Prelude.{flat_map}
use Rattle.std.proofs.lemmas.List.{map-append, append-nil}
use Rattle.tsl_text.specs.declared.TokenKind.{TokenKind}
use Rattle.tsl_text.specs.declared.TokenKind.TheVariants.{CloseRound, CloseSquare}
use Rattle.tsl_terms.specs.declared.operator.UnaryOperator.{UnaryOperator}
use Rattle.tsl_terms.specs.declared.operator.UnaryOperator.TheVariants.{Negation, Next, Finally, Globally}
use Rattle.tsl_terms.specs.declared.operator.BinaryOperator.{BinaryOperator}
use Rattle.tsl_terms.specs.declared.operator.BinaryOperator.TheVariants.{Implication, Equivalence, Until, WeakUntil, Release}
use Rattle.tsl_terms.specs.declared.operator.ManyOperator.{ManyOperator}
use Rattle.tsl_terms.specs.declared.operator.ManyOperator.TheVariants.{Conjunction, Disjunction}
use Rattle.tsl_terms.specs.Name.{Name}
use Rattle.tsl_terms.specs.Clashes.{with_uses}
use Rattle.spec_syntax.specs.Syntax.{Terminal, free, word, mark, TermSyntax, alone, applied, grouped_term, TermsSyntax, no_terms, more_terms}
use Rattle.spec_syntax.specs.Syntax.{FormulaSyntax, truth, falsehood, bare, tested, updated, grouped, under, between}
use Rattle.spec_syntax.specs.Syntax.{joined, FormulasSyntax, no_formulas, more_formulas, Declaration, the_section, the_definition}
use Rattle.spec_syntax.specs.Grammar.{AreDeclarations}
use Rattle.spec_syntax.specs.Written.{sign_under, sign_between, sign_many, written_term, written_arguments, written_terms, written, written_members}
use Rattle.spec_syntax.specs.Written.{written_further, free_texts, declaration_texts}
use Rattle.spec_syntax.proofs.DeclarationLaws.{all_names}
use Rattle.name_resolution.specs.Heads.{is_name, head_names}
use Rattle.name_resolution.specs.Occurrences.{Occurrence, Scope, of_section, of_body, term_occurrences, terms_occurrences, formula_occurrences}
use Rattle.name_resolution.specs.Occurrences.{members_occurrences, is_repeated, parameter_name, declaration_occurrences}
use Rattle.name_resolution.specs.Occurrences.{occurrences_behind, occurrences}
use Rattle.name_resolution.specs.WrittenNames.{free_names}

abbrev texts : List Occurrence → List (List ℕ)
texts os = map (λ o. o.text) os

free_append : (xs ys : List Terminal) → free_texts (xs ++ ys) ≡ free_texts xs ++ free_texts ys
free_append [] ys = refl
free_append (free x ∷ xs) ys = ap (λ ts. x ∷ ts) (free_append xs ys)
free_append (word w ∷ xs) ys = free_append xs ys
free_append (mark m ∷ xs) ys = free_append xs ys

put_together : (us vs : List Occurrence) (xs ys : List Terminal) → texts us ≡ free_texts xs → texts vs ≡ free_texts ys →
    texts (us ++ vs) ≡ free_texts (xs ++ ys)
put_together us vs xs ys h k = map-append (λ o. o.text) us vs ∙ (λ i. h i ++ k i) ∙ sym (free_append xs ys)

-- a mark behind has no name
closed : (xs : List Terminal) (m : TokenKind) → free_texts (xs ++ mark m ∷ []) ≡ free_texts xs
closed xs m = free_append xs (mark m ∷ []) ∙ append-nil (free_texts xs)

no_name_under : (op : UnaryOperator) (xs : List Terminal) → free_texts (sign_under op ∷ xs) ≡ free_texts xs
no_name_under Negation xs = refl
no_name_under Next xs = refl
no_name_under Finally xs = refl
no_name_under Globally xs = refl

no_name_between : (op : BinaryOperator) (xs : List Terminal) → free_texts (sign_between op ∷ xs) ≡ free_texts xs
no_name_between Implication xs = refl
no_name_between Equivalence xs = refl
no_name_between Until xs = refl
no_name_between WeakUntil xs = refl
no_name_between Release xs = refl

no_name_many : (op : ManyOperator) (xs : List Terminal) → free_texts (sign_many op ∷ xs) ≡ free_texts xs
no_name_many Conjunction xs = refl
no_name_many Disjunction xs = refl

module _ (s : Scope) where
  mutual
    term_texts : (level : ℕ) (t : TermSyntax) → texts (term_occurrences s level t) ≡ free_texts (written_term t)
    term_texts level (alone x) = refl
    term_texts level (applied f ts) = ap (λ xs. f ∷ xs) (arguments_texts level ts)
    term_texts level (grouped_term t) = term_texts level t ∙ sym (closed (written_term t) CloseRound)

    arguments_texts : (level : ℕ) (ts : TermsSyntax) → texts (terms_occurrences s level ts) ≡ free_texts (written_arguments ts)
    arguments_texts level no_terms = refl
    arguments_texts level (more_terms t ts) =
        put_together (term_occurrences s level t) (terms_occurrences s level ts) (written_term t) (written_terms ts)
        (term_texts level t) (terms_texts level ts)

    terms_texts : (level : ℕ) (ts : TermsSyntax) → texts (terms_occurrences s level ts) ≡ free_texts (written_terms ts)
    terms_texts level no_terms = refl
    terms_texts level (more_terms t ts) =
        put_together (term_occurrences s level t) (terms_occurrences s level ts) (written_term t) (written_terms ts)
        (term_texts level t) (terms_texts level ts)

  mutual
    pub formula_texts : (level : ℕ) (a : FormulaSyntax) → texts (formula_occurrences s level a) ≡ free_texts (written a)
    formula_texts level truth = refl
    formula_texts level falsehood = refl
    formula_texts level (bare x) = refl
    formula_texts level (tested p ts) = ap (λ xs. p ∷ xs) (arguments_texts level ts)
    formula_texts level (updated x t) = ap (λ xs. x ∷ xs) (term_texts level t ∙ sym (closed (written_term t) CloseSquare))
    formula_texts level (grouped a) = formula_texts (suc level) a ∙ sym (closed (written a) CloseRound)
    formula_texts level (under op a) = formula_texts (suc level) a ∙ sym (no_name_under op (written a))
    formula_texts level (between op a b) =
        put_together (formula_occurrences s level a) _ (written a) (sign_between op ∷ written b) (formula_texts level a)
        (formula_texts _ b ∙ sym (no_name_between op (written b)))
    formula_texts level (joined op fs) = members_texts level op fs

    members_texts : (level : ℕ) (op : ManyOperator) (fs : FormulasSyntax) →
        texts (members_occurrences s level fs) ≡ free_texts (written_members op fs)
    members_texts level op no_formulas = refl
    members_texts level op (more_formulas f fs) =
        put_together (formula_occurrences s level f) (members_occurrences s level fs) (written f) (written_further op fs)
        (formula_texts level f) (further_texts level op fs)

    further_texts : (level : ℕ) (op : ManyOperator) (fs : FormulasSyntax) →
        texts (members_occurrences s level fs) ≡ free_texts (written_further op fs)
    further_texts level op no_formulas = refl
    further_texts level op (more_formulas f fs) =
        put_together (formula_occurrences s level f) (members_occurrences s level fs) (written f) (written_further op fs)
        (formula_texts level f) (further_texts level op fs)
        ∙ sym (no_name_many op (written f ++ written_further op fs))

formulas_texts : (s : Scope) (fs : List FormulaSyntax) →
    texts (flat_map (formula_occurrences s 0) fs) ≡ flat_map (λ a. free_texts (written a)) fs
formulas_texts s [] = refl
formulas_texts s (f ∷ fs) =
    map-append (λ o. o.text) (formula_occurrences s 0 f) (flat_map (formula_occurrences s 0) fs)
    ∙ (λ i. formula_texts s 0 f i ++ formulas_texts s fs i)

parameters_texts : (is_defined is_twice : List ℕ → Bool) (ps : List (List ℕ)) → texts (map (parameter_name is_defined is_twice) ps) ≡ ps
parameters_texts is_defined is_twice [] = refl
parameters_texts is_defined is_twice (p ∷ ps) = ap (λ xs. p ∷ xs) (parameters_texts is_defined is_twice ps)

declaration_names : (heads before : List Name) (d : Declaration) → texts (declaration_occurrences heads before d) ≡ declaration_texts d
declaration_names heads before (the_section s) = formulas_texts (of_section heads) s.formulas
declaration_names heads before (the_definition d) =
    ap (λ xs. d.name ∷ xs)
    (map-append (λ o. o.text) (map (parameter_name (is_name heads) (is_repeated d.parameters)) d.parameters) _
    ∙ (λ i. parameters_texts (is_name heads) (is_repeated d.parameters) d.parameters i ++ formula_texts (of_body heads d.parameters) 0 d.body i))

behind_texts : (heads before : List Name) (ds : List Declaration) → texts (occurrences_behind heads before ds) ≡ flat_map declaration_texts ds
behind_texts heads before [] = refl
behind_texts heads before (d ∷ ds) =
    map-append (λ o. o.text) (declaration_occurrences heads before d) (occurrences_behind heads (with_uses before (head_names d)) ds)
    ∙ (λ i. declaration_names heads before d i ++ behind_texts heads (with_uses before (head_names d)) ds i)

-- the names of terminals, in the words of either crate
pub texts_are_names : (xs : List Terminal) → free_texts xs ≡ free_names xs
texts_are_names [] = refl
texts_are_names (free x ∷ xs) = ap (λ rest. x ∷ rest) (texts_are_names xs)
texts_are_names (word w ∷ xs) = texts_are_names xs
texts_are_names (mark m ∷ xs) = texts_are_names xs

-- each name of a text occurs once, in the order of the text
pub occurrences_texts : (heads : List Name) (levels_left : ℕ) (xs own : List Terminal) (ds : List Declaration) → AreDeclarations levels_left xs own ds →
    map (λ o. o.text) (occurrences heads ds) ≡ free_names xs
occurrences_texts heads levels_left xs own ds h = behind_texts heads [] ds ∙ sym (all_names h) ∙ texts_are_names xs
