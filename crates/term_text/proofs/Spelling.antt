-- A text spells at most one term and at most one test.
use Rattle.std.proofs.Common.{◌≡◌, ℕ, Bool, false, not, ◌&&◌, List, [], ◌∷◌, ◌++◌, codes, IsTrue, Option, Some, ⊎_elim, slice_get, refl, sym, ap, subst, ◌∙◌, append_assoc}
use Rattle.std.specs.Option.{option_map_or}
use Rattle.std.proofs.lemmas.Bool.{and_parts, or_cases, false≢true, false_from_ne_true, cond-true, cond-false}
use Rattle.std.proofs.lemmas.List.{append_cancel_left}
use Rattle.std.specs.Str.{bytes_eq}
use Rattle.std.proofs.lemmas.Slice.Eq.{bytes_eq-Decides}
use Rattle.base_library.proofs.Options.{some_passes}
use Rattle.tsl_text.specs.Names.{is_name_byte, is_name_text, is_usable, is_reserved}
use Rattle.tsl_terms.specs.Name.{Name, AreDistinct, question}
use Rattle.tsl_terms.specs.TermTree.{TermTree, signal, apply, TermTrees, no_terms, more_terms, ProbeTree}
use Rattle.tsl_terms.specs.WellFormed.{is_usable_at, is_question, term_fits, terms_fit, probe_fits, are_one_signal}
use Rattle.term_text.specs.TermText.{
  name_text,
  argument_text,
  applied_text,
  term_text,
  arguments_text,
  application_text,
  question_text,
  probe_text,
}
use Rattle.term_text.proofs.Fronts.{begins, other_front, is_round, is_space, tails, heads, one_run, no_bracket_begins, name_run, name_first}

-- ---- names

-- the name at a number that is usable
pub record Usable (names : List Name) (id : ℕ) : Type 0 where
  pub name : Name
  pub is : slice_get names id ≡ Some name
  pub text : name_text names id ≡ name.text
  pub letters : IsTrue (is_name_text (name_text names id))

pub usable_at : (names : List Name) (id : ℕ) → IsTrue (is_usable_at names id) → Usable names id
usable_at names id h =
    let found = some_passes (slice_get names id) (λ n. is_usable n.text) h in
    let same : name_text names id ≡ found.0.text = ap (λ (o : Option Name). option_map_or (λ n. n.text) o []) found.1 in
    record {
      name = found.0;
      is = found.1;
      text = same;
      letters = rw same ((and_parts (is_name_text found.0.text) (not (is_reserved found.0.text)) found.2).0);
    }

-- A name ends where no letter follows, and it has one number.
pub one_name : (names : List Name) → AreDistinct names → (r s : ℕ) (u v : List ℕ) → IsTrue (is_usable_at names r) →
    IsTrue (is_usable_at names s) → begins is_name_byte u ≡ false → begins is_name_byte v ≡ false →
    name_text names r ++ u ≡ name_text names s ++ v → (r ≡ s) × (u ≡ v)
one_name names distinct r s u v p q h k e =
    let m = usable_at names r p in
    let n = usable_at names s q in
    let run = one_run is_name_byte (name_text names r) (name_text names s) u v (name_run (name_text names r) m.letters)
    (name_run (name_text names s) n.letters) h k e in
    (distinct r s m.name n.name m.is n.is (sym m.text ∙ run.0 ∙ n.text), run.1)

-- ---- terms

-- each name of the term is usable, whatever it stands for
abbrev mutual
  IsUsable : List Name → TermTree → Type 0
  IsUsable names (signal s) = IsTrue (is_usable_at names s)
  IsUsable names (apply f ts) = IsTrue (is_usable_at names f) × AreUsable names ts

  AreUsable : List Name → TermTrees → Type 0
  AreUsable names no_terms = Unit {0}
  AreUsable names (more_terms t ts) = IsUsable names t × AreUsable names ts

mutual
  pub term_usable : (names : List Name) (t : TermTree) → IsTrue (term_fits names t) → IsUsable names t
  term_usable names (signal s) h = (and_parts _ _ h).1
  term_usable names (apply f ts) h =
      let parts = and_parts _ _ h in ((and_parts _ _ parts.0).1, terms_usable names ts parts.1)

  terms_usable : (names : List Name) (ts : TermTrees) → IsTrue (terms_fit names ts) → AreUsable names ts
  terms_usable names no_terms h = tt
  terms_usable names (more_terms t ts) h =
      let parts = and_parts _ _ h in (term_usable names t parts.0, terms_usable names ts parts.1)

-- A term's text is its name, and what follows that.
abbrev first_name : TermTree → ℕ
first_name (signal s) = s
first_name (apply f ts) = f

abbrev behind_name : List Name → TermTree → List ℕ → List ℕ
behind_name names (signal s) u = u
behind_name names (apply f ts) u = applied_text ts (arguments_text names ts) ++ u

-- neither a letter nor an opening bracket follows
abbrev IsFree : List ℕ → Type 0
IsFree u = (begins is_name_byte u ≡ false) × (begins is_round u ≡ false)

module _ (names : List Name) where
  split_name : (t : TermTree) (u : List ℕ) → term_text names t ++ u ≡ name_text names (first_name t) ++ behind_name names t u
  split_name (signal s) u = refl
  split_name (apply f ts) u = append_assoc (name_text names f) (applied_text ts (arguments_text names ts)) u

  first_usable : (t : TermTree) → IsUsable names t → IsTrue (is_usable_at names (first_name t))
  first_usable (signal s) h = h
  first_usable (apply f ts) h = h.0

  no_letter_behind : (t : TermTree) (u : List ℕ) → begins is_name_byte u ≡ false → begins is_name_byte (behind_name names t u) ≡ false
  no_letter_behind (signal s) u h = h
  no_letter_behind (apply f no_terms) u h = refl
  no_letter_behind (apply f (more_terms t ts)) u h = refl

  free_behind : (ts : TermTrees) (u : List ℕ) → IsFree u → IsFree (arguments_text names ts ++ u)
  free_behind no_terms u h = h
  free_behind (more_terms t ts) u h = (refl, refl)

  -- a term without brackets around it begins with a letter
  no_bracket : (t : TermTree) (u x : List ℕ) → IsUsable names t → 40 ∷ x ≡ term_text names t ++ u → ⊥
  no_bracket t u x h e =
      let first = name_first (name_text names (first_name t)) (usable_at names (first_name t) (first_usable t h)).letters in
      let rest = behind_name names t u in
      no_bracket_begins first.0 first.3
      (heads 40 first.0 x (first.1 ++ rest) (e ∙ split_name t u ∙ ap (λ (zs : List ℕ). zs ++ rest) first.2))

  module _ (distinct : AreDistinct names) where
    same_first : (t s : TermTree) (u v : List ℕ) → IsUsable names t → IsUsable names s → begins is_name_byte u ≡ false →
        begins is_name_byte v ≡ false → term_text names t ++ u ≡ term_text names s ++ v →
        (first_name t ≡ first_name s) × (behind_name names t u ≡ behind_name names s v)
    same_first t s u v p q h k e =
        one_name names distinct (first_name t) (first_name s) (behind_name names t u) (behind_name names s v) (first_usable t p)
        (first_usable s q) (no_letter_behind t u h) (no_letter_behind s v k) (sym (split_name t u) ∙ e ∙ split_name s v)

    mutual
      one_list : (ts us : TermTrees) (u v : List ℕ) → AreUsable names ts → AreUsable names us → IsFree u → IsFree v →
          begins is_space u ≡ false → begins is_space v ≡ false → arguments_text names ts ++ u ≡ arguments_text names us ++ v →
          (ts ≡ us) × (u ≡ v)
      one_list no_terms no_terms u v p q h k a b e = (refl, e)
      one_list no_terms (more_terms s us) u v p q h k a b e = absurd (other_front is_space u _ a refl e)
      one_list (more_terms t ts) no_terms u v p q h k a b e = absurd (other_front is_space v _ b refl (sym e))
      one_list (more_terms t ts) (more_terms s us) u v p q h k a b e =
          let T : List ℕ = argument_text t (term_text names t) in
          let S : List ℕ = argument_text s (term_text names s) in
          let first = one_argument t s (arguments_text names ts ++ u) (arguments_text names us ++ v) p.0 q.0 (free_behind ts u h)
          (free_behind us v k) (sym (append_assoc T (arguments_text names ts) u) ∙ tails 32 32 _ _ e
          ∙ append_assoc S (arguments_text names us) v) in
          let rest = one_list ts us u v p.1 q.1 h k a b first.1 in
          ((λ i. more_terms (first.0 i) (rest.0 i)), rest.1)

      one_argument : (t s : TermTree) (u v : List ℕ) → IsUsable names t → IsUsable names s → IsFree u → IsFree v →
          argument_text t (term_text names t) ++ u ≡ argument_text s (term_text names s) ++ v → (t ≡ s) × (u ≡ v)
      one_argument (apply f (more_terms a ts)) (apply g (more_terms b us)) u v p q h k e =
          let t = apply f (more_terms a ts) in
          let s = apply g (more_terms b us) in
          let inner = sym (append_assoc (term_text names t) (codes ")") u) ∙ tails 40 40 _ _ e
          ∙ append_assoc (term_text names s) (codes ")") v in
          let first = same_first t s (41 ∷ u) (41 ∷ v) p q refl refl inner in
          let lists = one_list (more_terms a ts) (more_terms b us) (41 ∷ u) (41 ∷ v) p.1 q.1 (refl, refl) (refl, refl) refl refl first.1 in
          ((λ i. apply (first.0 i) (lists.0 i)), tails 41 41 u v lists.1)
      one_argument (apply f (more_terms a ts)) s u v p q h k e = absurd (no_bracket s v _ q e)
      one_argument t (apply g (more_terms b us)) u v p q h k e = absurd (no_bracket t u _ p (sym e))
      one_argument (signal r) (signal s) u v p q h k e =
          let one = same_first (signal r) (signal s) u v p q h.0 k.0 e in (ap signal one.0, one.1)
      one_argument (signal r) (apply g no_terms) u v p q h k e =
          absurd (other_front is_round u _ h.1 refl (same_first (signal r) (apply g no_terms) u v p q h.0 k.0 e).1)
      one_argument (apply f no_terms) (signal s) u v p q h k e =
          absurd (other_front is_round v _ k.1 refl (sym (same_first (apply f no_terms) (signal s) u v p q h.0 k.0 e).1))
      one_argument (apply f no_terms) (apply g no_terms) u v p q h k e =
          let one = same_first (apply f no_terms) (apply g no_terms) u v p q h.0 k.0 e in
          (ap (λ (n : ℕ). apply n no_terms) one.0, append_cancel_left (codes "()") u v one.1)

    -- A text spells at most one term.
    pub one_term : (t s : TermTree) → IsUsable names t → IsUsable names s → term_text names t ≡ term_text names s → t ≡ s
    one_term (apply f (more_terms a ts)) (apply g (more_terms b us)) p q e =
        (one_argument (apply f (more_terms a ts)) (apply g (more_terms b us)) [] [] p q (refl, refl) (refl, refl)
        (ap (λ (zs : List ℕ). (codes "(" ++ zs ++ codes ")") ++ []) e)).0
    one_term (apply f (more_terms a ts)) s p q e =
        let first = same_first (apply f (more_terms a ts)) s [] [] p q refl refl (ap (λ (zs : List ℕ). zs ++ []) e) in
        absurd (other_front is_space (behind_name names s []) _ refl refl (sym first.1))
    one_term t (apply g (more_terms b us)) p q e =
        let first = same_first t (apply g (more_terms b us)) [] [] p q refl refl (ap (λ (zs : List ℕ). zs ++ []) e) in
        absurd (other_front is_space (behind_name names t []) _ refl refl first.1)
    one_term t s p q e = (one_argument t s [] [] p q (refl, refl) (refl, refl) (ap (λ (zs : List ℕ). zs ++ []) e)).0

-- ---- tests

-- the predicate `?` has one number, and its text is no name
question_at : (names : List Name) (k : ℕ) → IsTrue (is_question names k) → (n : Name) × (slice_get names k ≡ Some n) × (n.text ≡ question)
question_at names k h =
    let found = some_passes (slice_get names k) (λ n. bytes_eq n.text question) h in
    (found.0, found.1, (bytes_eq-Decides found.0.text question).0 found.2)

one_question : (names : List Name) → AreDistinct names → (j k : ℕ) → IsTrue (is_question names j) → IsTrue (is_question names k) → j ≡ k
one_question names distinct j k h l =
    let m = question_at names j h in
    let n = question_at names k l in
    distinct j k m.0 n.0 m.1 n.1 (m.2 ∙ sym n.2)

question_not_usable : (names : List Name) (k : ℕ) → IsTrue (is_usable_at names k) → is_question names k ≡ false
question_not_usable names k h = false_from_ne_true _ (λ l.
    let m = question_at names k l in
    let n = usable_at names k h in
    let text : name_text names k ≡ m.0.text = ap (λ (o : Option Name). option_map_or (λ x. x.text) o []) m.1 in
    false≢true (ap is_name_text (sym (text ∙ m.2)) ∙ n.letters))

one_signal_is : (ts : TermTrees) → IsTrue (are_one_signal ts) → (s : ℕ) × (ts ≡ more_terms (signal s) no_terms)
one_signal_is no_terms h = absurd (cc)
one_signal_is (more_terms (signal s) no_terms) h = (s, refl)
one_signal_is (more_terms (signal s) (more_terms t ts)) h = absurd (cc)
one_signal_is (more_terms (apply f us) ts) h = absurd (cc)

-- A test is written as a term: as the signal that it asks of, or as its predicate applied to its arguments.
abbrev IsWrittenAs : List Name → ProbeTree → TermTree → Type 0
IsWrittenAs names p (signal s) = IsTrue (is_question names p.predicate) × (p.arguments ≡ more_terms (signal s) no_terms)
IsWrittenAs names p (apply f ts) = (p.predicate ≡ f) × (p.arguments ≡ ts)

written_as : (names : List Name) (p : ProbeTree) → IsTrue (probe_fits names p) →
    (t : TermTree) × IsUsable names t × (probe_text names p ≡ term_text names t) × IsWrittenAs names p t
written_as names p h =
    let parts = and_parts _ _ h in
    let usable = terms_usable names p.arguments (and_parts _ _ parts.0).1 in
    let Q : Bool = is_question names p.predicate in
    ⊎_elim
    (λ named. (
      apply p.predicate p.arguments,
      (named, usable),
      cond-false Q (question_text names p p.arguments) (application_text names p) (question_not_usable names p.predicate named),
      (refl, refl),
    ))
    (λ asked.
    let both = and_parts Q (are_one_signal p.arguments) asked in
    let one = one_signal_is p.arguments both.1 in (
      signal one.0,
      (subst (AreUsable names) one.1 usable).0,
      cond-true Q (question_text names p p.arguments) (application_text names p) both.0 ∙ ap (question_text names p) one.1,
      (both.0, one.1),
    ))
    (or_cases (is_usable_at names p.predicate) (Q && are_one_signal p.arguments) parts.1)

one_written : (names : List Name) → AreDistinct names → (t : TermTree) (p q : ProbeTree) → IsWrittenAs names p t →
    IsWrittenAs names q t → p ≡ q
one_written names distinct (signal s) p q h k =
    λ i. record { predicate = one_question names distinct p.predicate q.predicate h.0 k.0 i; arguments = (h.1 ∙ sym k.1) i }
one_written names distinct (apply f ts) p q h k = λ i. record { predicate = (h.0 ∙ sym k.0) i; arguments = (h.1 ∙ sym k.1) i }

-- A text spells at most one test.
pub one_probe : (names : List Name) → AreDistinct names → (p q : ProbeTree) → IsTrue (probe_fits names p) → IsTrue (probe_fits names q) →
    probe_text names p ≡ probe_text names q → p ≡ q
one_probe names distinct p q a b e =
    let h = written_as names p a in
    let k = written_as names q b in
    let same = one_term names distinct h.0 k.0 h.1 k.1 (sym h.2 ∙ e ∙ k.2) in
    one_written names distinct h.0 p q h.3 (subst (IsWrittenAs names q) (sym same) k.3)
