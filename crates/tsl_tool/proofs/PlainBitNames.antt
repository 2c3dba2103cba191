-- The names of bits have neither quotes nor line feeds, and each bit has one.
use Rattle.std.proofs.Common.{◌≡◌, ◌∙◌, ℕ, ◌+◌, Bool, true, false, List, [], ◌∷◌, ◌++◌, length, map, refl, ap, arith, inl, inr}
use Rattle.std.proofs.Common.{Option, Some, None, codes, slice_get}
use Rattle.std.specs.Prelude.{flat_map, if◌then◌else◌}
use Rattle.std.specs.List.{list_all}
use Rattle.std.specs.Option.{option_map_or}
use Rattle.std.proofs.lemmas.Bool.{and_parts, and_from, or_cases}
use Rattle.std.proofs.lemmas.Bool.Decides.{nat_tests}
use Rattle.std.proofs.lemmas.List.{length-append, length-map}
use Rattle.std.proofs.lemmas.Slice.Eq.{bytes_eq-Decides}
use Rattle.base_library.proofs.Passes.{passes_at, list_all_weaker, list_all_joined, list_all_flat_map}
use Rattle.tsl_text.specs.Names.{is_name_byte, is_name_text, is_usable}
use Rattle.line_formats.specs.Format.{has}
use Rattle.tsl_terms.specs.Name.{Name, question}
use Rattle.tsl_terms.specs.TermTree.{TermTree, signal, apply, TermTrees, no_terms, more_terms, ProbeTree}
use Rattle.tsl_terms.specs.WellFormed.{name_fits, is_question}
use Rattle.term_text.specs.TermText.{name_text, argument_text, applied_text, term_text, arguments_text, application_text, question_text}
use Rattle.term_text.specs.TermText.{probe_text, update_text}
use Rattle.term_text.proofs.Fronts.{name_run}
use Rattle.letter_space.specs.SpaceTree.{ControlledTree, SpaceTree, choice_count, bit_count}
use Rattle.automaton_text.specs.BitNames.{choice_names, bit_names}
use Rattle.automaton_text.specs.HoaText.{quotable, is_quotable}

-- ---- names

byte_plain : (b : ℕ) → is_name_byte b ≡ true → has quotable b ≡ true
byte_plain b h = grind (arith, nat_tests)

name_plain : (n : Name) → name_fits n ≡ true → is_quotable n.text ≡ true
name_plain n fits = elim (or_cases (is_usable n.text) _ fits) [
  | inl usable ↦ list_all_weaker is_name_byte (has quotable) byte_plain n.text (name_run n.text (and_parts (is_name_text n.text) _ usable).0)
  | inr other ↦ ap is_quotable ((bytes_eq-Decides n.text question).0 (and_parts _ _ (and_parts _ _ other).0).0)
]

all_plain : (names : List Name) → list_all name_fits names ≡ true → list_all (λ n. is_quotable n.text) names ≡ true
all_plain names fits = list_all_weaker name_fits (λ n. is_quotable n.text) name_plain names fits

mapped : {X Y : Type 0} (p : Y → Bool) (f : X → Y) → ((x : X) → p (f x) ≡ true) → (xs : List X) → list_all p (map f xs) ≡ true
mapped p f each [] = refl
mapped p f each (x ∷ xs) = and_from (p (f x)) (list_all p (map f xs)) (each x) (mapped p f each xs)

-- ---- what is written of terms

module _ (names : List Name) (plain : list_all (λ n. is_quotable n.text) names ≡ true) where
  joined_plain : (a b : List ℕ) → is_quotable a ≡ true → is_quotable b ≡ true → is_quotable (a ++ b) ≡ true
  joined_plain a b first second = list_all_joined (has quotable) a b first second

  named : (id : ℕ) → is_quotable (name_text names id) ≡ true
  named id = by (slice_get names id) (λ n at. passes_at (λ m. is_quotable m.text) names id n plain at)
    where
      by : (o : Option Name) → ((n : Name) → o ≡ Some n → is_quotable n.text ≡ true) →
          is_quotable (option_map_or (λ n. n.text) o []) ≡ true
      by None each = refl
      by (Some n) each = each n refl

  argument_plain : (t : TermTree) (text : List ℕ) → is_quotable text ≡ true → is_quotable (argument_text t text) ≡ true
  argument_plain (signal s) text h = h
  argument_plain (apply f no_terms) text h = h
  argument_plain (apply f (more_terms t ts)) text h =
      joined_plain (codes "(") (text ++ codes ")") refl (joined_plain text (codes ")") h refl)

  applied_plain : (ts : TermTrees) (text : List ℕ) → is_quotable text ≡ true → is_quotable (applied_text ts text) ≡ true
  applied_plain no_terms text h = refl
  applied_plain (more_terms t ts) text h = h

  mutual
    term_plain : (t : TermTree) → is_quotable (term_text names t) ≡ true
    term_plain (signal s) = named s
    term_plain (apply f ts) =
        joined_plain (name_text names f) (applied_text ts (arguments_text names ts)) (named f)
        (applied_plain ts (arguments_text names ts) (arguments_plain ts))

    arguments_plain : (ts : TermTrees) → is_quotable (arguments_text names ts) ≡ true
    arguments_plain no_terms = refl
    arguments_plain (more_terms t ts) =
        joined_plain (codes " ") (argument_text t (term_text names t) ++ arguments_text names ts) refl
        (joined_plain (argument_text t (term_text names t)) (arguments_text names ts)
        (argument_plain t (term_text names t) (term_plain t)) (arguments_plain ts))

  application_plain : (p : ProbeTree) → is_quotable (application_text names p) ≡ true
  application_plain p =
      joined_plain (name_text names p.predicate) (applied_text p.arguments (arguments_text names p.arguments)) (named p.predicate)
      (applied_plain p.arguments (arguments_text names p.arguments) (arguments_plain p.arguments))

  question_plain : (p : ProbeTree) (ts : TermTrees) → is_quotable (question_text names p ts) ≡ true
  question_plain p no_terms = application_plain p
  question_plain p (more_terms (signal s) no_terms) = named s
  question_plain p (more_terms (signal s) (more_terms t ts)) = application_plain p
  question_plain p (more_terms (apply f us) ts) = application_plain p

  probe_plain : (p : ProbeTree) → is_quotable (probe_text names p) ≡ true
  probe_plain p = by (is_question names p.predicate)
    where
      by : (b : Bool) → is_quotable (if b then question_text names p p.arguments else application_text names p) ≡ true
      by true = question_plain p p.arguments
      by false = application_plain p

  update_plain : (s : ℕ) (t : TermTree) → is_quotable (update_text names s t) ≡ true
  update_plain s t =
      joined_plain (codes "[" ++ name_text names s ++ codes " <- " ++ term_text names t) (codes "]")
      (joined_plain (codes "[" ++ name_text names s ++ codes " <- ") (term_text names t)
      (joined_plain (codes "[" ++ name_text names s) (codes " <- ") (joined_plain (codes "[") (name_text names s) refl (named s)) refl)
      (term_plain t))
      refl

  choices_plain : (c : ControlledTree) → list_all is_quotable (choice_names names c) ≡ true
  choices_plain c = mapped is_quotable (update_text names c.signal) (update_plain c.signal) c.choices

  pub bits_plain : (space : SpaceTree) → list_all is_quotable (bit_names names space) ≡ true
  bits_plain space =
      list_all_joined is_quotable (map (probe_text names) space.predicates) (flat_map (choice_names names) space.controlled)
      (mapped is_quotable (probe_text names) probe_plain space.predicates)
      (list_all_flat_map is_quotable (choice_names names) choices_plain space.controlled)

pub names_plain : (names : List Name) → list_all name_fits names ≡ true → (space : SpaceTree) →
    list_all is_quotable (bit_names names space) ≡ true
names_plain names fits = bits_plain names (all_plain names fits)

-- ---- how many there are

choices_counted : (names : List Name) (cs : List ControlledTree) → length (flat_map (choice_names names) cs) ≡ choice_count cs
choices_counted names [] = refl
choices_counted names (c ∷ cs) =
    length-append (choice_names names c) (flat_map (choice_names names) cs)
    ∙ (λ i. length-map c.choices (update_text names c.signal) i + choices_counted names cs i)

pub names_counted : (names : List Name) (space : SpaceTree) → length (bit_names names space) ≡ bit_count space
names_counted names space =
    length-append (map (probe_text names) space.predicates) (flat_map (choice_names names) space.controlled)
    ∙ (λ i. length-map space.predicates (probe_text names) i + choices_counted names space.controlled i)
