-- The text of a formula over names that may be written has no line feed.
use Rattle.std.proofs.Common.{◌≡◌, ℕ, Bool, true, false, not, ◌&&◌, eqb, List, [], ◌++◌, Option, Some, None, IsTrue, codes, refl, sym, ap, ◌∙◌, inl, inr}
use Rattle.std.specs.Prelude.{slice_get, if◌then◌else◌}
use Rattle.std.specs.List.{list_all}
use Rattle.std.specs.Option.{option_map_or}
use Rattle.std.specs.Str.{bytes_eq}
use Rattle.std.proofs.lemmas.Bool.{and_parts, and_from, or_cases, eqb-true, false≢true, false_from_ne_true}
use Rattle.std.proofs.lemmas.List.Folds.{list_all-append}
use Rattle.std.proofs.lemmas.Slice.Eq.{bytes_eq-Decides}
use Rattle.base_library.proofs.Passes.{list_all_weaker, passes_at}
use Rattle.tsl_text.specs.Lines.{is_line_byte}
use Rattle.tsl_text.specs.Names.{is_name_byte, is_usable}
use Rattle.tsl_text.specs.Written.{is_line}
use Rattle.tsl_terms.specs.declared.names.NameKind.TheVariants.{Predicate}
use Rattle.tsl_terms.specs.declared.operator.UnaryOperator.{UnaryOperator}
use Rattle.tsl_terms.specs.declared.operator.UnaryOperator.TheVariants.{Negation, Next, Finally, Globally}
use Rattle.tsl_terms.specs.declared.operator.BinaryOperator.{BinaryOperator}
use Rattle.tsl_terms.specs.declared.operator.BinaryOperator.TheVariants.{Implication, Equivalence, Until, WeakUntil, Release}
use Rattle.tsl_terms.specs.declared.operator.ManyOperator.{ManyOperator}
use Rattle.tsl_terms.specs.declared.operator.ManyOperator.TheVariants.{Conjunction, Disjunction}
use Rattle.tsl_terms.specs.Name.{Name, same_kind, question}
use Rattle.tsl_terms.specs.TermTree.{TermTree, signal, apply, TermTrees, no_terms, more_terms, ProbeTree}
use Rattle.tsl_terms.specs.FormulaTree.{Atom, test, update, FormulaTree, FormulaTrees, constant, atom, unary, binary, many, no_formulas, more_formulas}
use Rattle.tsl_terms.specs.WellFormed.{name_fits, is_question}
use Rattle.term_text.specs.TermText.{name_text, argument_text, applied_text, term_text, arguments_text, application_text, question_text, probe_text}
use Rattle.program_listing.proofs.WordsRead.{usable_run}
use Rattle.formula_text.specs.FormulaText.{constant_text, atom_text, unary_text, binary_text, many_text, formula_text, members_text, others_text}

-- ---- names

name_byte_in_line : (byte : ℕ) → is_name_byte byte ≡ true → is_line_byte byte ≡ true
name_byte_in_line byte h =
    ap not (false_from_ne_true (eqb byte 10) (λ e. false≢true (ap is_name_byte (sym (eqb-true byte 10 e)) ∙ h)))

question_in_line : (text : List ℕ) → bytes_eq text question ≡ true → is_line text ≡ true
question_in_line text h = ap is_line ((bytes_eq-Decides text question).0 h)

fitting_in_line : (n : Name) → name_fits n ≡ true → is_line n.text ≡ true
fitting_in_line n fits =
    elim (or_cases (is_usable n.text) ((bytes_eq n.text question && same_kind n.kind Predicate) && eqb n.arity 1) fits) [
      | inl usable ↦ list_all_weaker is_name_byte is_line_byte name_byte_in_line n.text (usable_run n.text usable)
      | inr tests ↦
          question_in_line n.text
          (and_parts (bytes_eq n.text question) (same_kind n.kind Predicate)
          (and_parts (bytes_eq n.text question && same_kind n.kind Predicate) (eqb n.arity 1) tests).0).0
    ]

lines_join : (a b : List ℕ) → is_line a ≡ true → is_line b ≡ true → is_line (a ++ b) ≡ true
lines_join a b first second = list_all-append is_line_byte a b ∙ and_from (is_line a) (is_line b) first second

module _ (names : List Name) (fit : IsTrue (list_all name_fits names)) where
  name_in_line : (id : ℕ) → is_line (name_text names id) ≡ true
  name_in_line id = by (slice_get names id) refl
    where
      by : (o : Option Name) → slice_get names id ≡ o → is_line (option_map_or (λ n. n.text) o []) ≡ true
      by None is = refl
      by (Some n) is = fitting_in_line n (passes_at name_fits names id n fit is)

  -- ---- terms

  applied_in_line : (ts : TermTrees) (text : List ℕ) → is_line text ≡ true → is_line (applied_text ts text) ≡ true
  applied_in_line no_terms text h = refl
  applied_in_line (more_terms t ts) text h = h

  bracketed_in_line : (text : List ℕ) → is_line text ≡ true → is_line (codes "(" ++ text ++ codes ")") ≡ true
  bracketed_in_line text h = lines_join (codes "(" ++ text) (codes ")") (lines_join (codes "(") text refl h) refl

  argument_in_line : (t : TermTree) (text : List ℕ) → is_line text ≡ true → is_line (argument_text t text) ≡ true
  argument_in_line (signal s) text h = h
  argument_in_line (apply f no_terms) text h = h
  argument_in_line (apply f (more_terms t ts)) text h = bracketed_in_line text h

  mutual
    term_in_line : (t : TermTree) → is_line (term_text names t) ≡ true
    term_in_line (signal s) = name_in_line s
    term_in_line (apply f ts) =
        lines_join (name_text names f) (applied_text ts (arguments_text names ts)) (name_in_line f)
        (applied_in_line ts (arguments_text names ts) (arguments_in_line ts))

    arguments_in_line : (ts : TermTrees) → is_line (arguments_text names ts) ≡ true
    arguments_in_line no_terms = refl
    arguments_in_line (more_terms t ts) =
        lines_join (codes " " ++ argument_text t (term_text names t)) (arguments_text names ts)
        (lines_join (codes " ") (argument_text t (term_text names t)) refl (argument_in_line t (term_text names t) (term_in_line t)))
        (arguments_in_line ts)

  application_in_line : (p : ProbeTree) → is_line (application_text names p) ≡ true
  application_in_line p =
      lines_join (name_text names p.predicate) (applied_text p.arguments (arguments_text names p.arguments)) (name_in_line p.predicate)
      (applied_in_line p.arguments (arguments_text names p.arguments) (arguments_in_line p.arguments))

  question_text_in_line : (p : ProbeTree) (ts : TermTrees) → is_line (question_text names p ts) ≡ true
  question_text_in_line p no_terms = application_in_line p
  question_text_in_line p (more_terms (signal s) no_terms) = name_in_line s
  question_text_in_line p (more_terms (signal s) (more_terms t ts)) = application_in_line p
  question_text_in_line p (more_terms (apply f us) ts) = application_in_line p

  probe_in_line : (p : ProbeTree) → is_line (probe_text names p) ≡ true
  probe_in_line p = by (is_question names p.predicate)
    where
      by : (b : Bool) → is_line (if b then question_text names p p.arguments else application_text names p) ≡ true
      by true = question_text_in_line p p.arguments
      by false = application_in_line p

  atom_in_line : (a : Atom) → is_line (atom_text names a) ≡ true
  atom_in_line (test p) = probe_in_line p
  atom_in_line (update s t) =
      lines_join (codes "[" ++ name_text names s ++ codes " <- " ++ term_text names t) (codes "]")
      (lines_join (codes "[" ++ name_text names s ++ codes " <- ") (term_text names t)
      (lines_join (codes "[" ++ name_text names s) (codes " <- ") (lines_join (codes "[") (name_text names s) refl (name_in_line s)) refl)
      (term_in_line t)) refl

  -- ---- formulas

  constant_in_line : (holds : Bool) → is_line (constant_text holds) ≡ true
  constant_in_line true = refl
  constant_in_line false = refl

  unary_in_line : (op : UnaryOperator) → is_line (unary_text op) ≡ true
  unary_in_line Negation = refl
  unary_in_line Next = refl
  unary_in_line Finally = refl
  unary_in_line Globally = refl

  binary_in_line : (op : BinaryOperator) → is_line (binary_text op) ≡ true
  binary_in_line Implication = refl
  binary_in_line Equivalence = refl
  binary_in_line Until = refl
  binary_in_line WeakUntil = refl
  binary_in_line Release = refl

  many_in_line : (op : ManyOperator) → is_line (many_text op) ≡ true
  many_in_line Conjunction = refl
  many_in_line Disjunction = refl

  mutual
    pub formula_in_line : (f : FormulaTree) → is_line (formula_text names f) ≡ true
    formula_in_line (constant holds) = constant_in_line holds
    formula_in_line (atom a) = atom_in_line a
    formula_in_line (unary op f) = lines_join (unary_text op) (formula_text names f) (unary_in_line op) (formula_in_line f)
    formula_in_line (binary op f g) =
        lines_join (codes "(" ++ formula_text names f ++ binary_text op ++ formula_text names g) (codes ")")
        (lines_join (codes "(" ++ formula_text names f ++ binary_text op) (formula_text names g)
        (lines_join (codes "(" ++ formula_text names f) (binary_text op)
        (lines_join (codes "(") (formula_text names f) refl (formula_in_line f)) (binary_in_line op)) (formula_in_line g)) refl
    formula_in_line (many op fs) =
        bracketed_in_line (members_text names (many_text op) fs) (members_in_line (many_text op) (many_in_line op) fs)

    members_in_line : (word : List ℕ) → is_line word ≡ true → (fs : FormulaTrees) → is_line (members_text names word fs) ≡ true
    members_in_line word h no_formulas = refl
    members_in_line word h (more_formulas f fs) =
        lines_join (formula_text names f) (others_text names word fs) (formula_in_line f) (others_in_line word h fs)

    others_in_line : (word : List ℕ) → is_line word ≡ true → (fs : FormulaTrees) → is_line (others_text names word fs) ≡ true
    others_in_line word h no_formulas = refl
    others_in_line word h (more_formulas f fs) =
        lines_join (word ++ formula_text names f) (others_text names word fs)
        (lines_join word (formula_text names f) h (formula_in_line f)) (others_in_line word h fs)
