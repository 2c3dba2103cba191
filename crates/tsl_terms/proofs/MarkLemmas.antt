-- Marks that are set one after another.
use Rattle.std.proofs.Common.{
  ◌≡◌,
  ℕ,
  zero,
  suc,
  ◌<◌,
  ◌≤◌,
  ◌==◌,
  Bool,
  true,
  false,
  ◌||◌,
  List,
  [],
  ◌∷◌,
  length,
  replicate,
  set,
  get_or,
  refl,
  sym,
  ap,
  ◌∙◌,
  arith,
}
use Rattle.std.proofs.lemmas.List.{length-replicate}
use Rattle.std.proofs.Math.Bool.{or_assoc, or-true, or-false}
use Rattle.std.proofs.Math.Dec.{eqb-suc-zero, eqb-zero-suc, eqb-suc-suc}
use Rattle.tsl_terms.specs.TermTree.{TermTree, TermTrees, no_terms, more_terms}
use Rattle.tsl_terms.specs.internal.Marked.{marked}
use Rattle.tsl_terms.specs.Signals.{term_reads, some_term_reads}

-- a test that nothing passes
pub mark_none : (marks : List Bool) → marked (λ _. false) marks ≡ marks
mark_none [] = refl
mark_none (b ∷ marks) = λ i. or-false b i ∷ mark_none marks i

-- one place
pub mark_place : (marks : List Bool) (place : ℕ) → set marks place true ≡ marked (λ s. place == s) marks
mark_place [] place = refl
mark_place (b ∷ marks) zero =
    λ i. sym (or-true b) i ∷ (sym (mark_none marks) ∙ (λ j. marked (λ s. sym (eqb-zero-suc s) j) marks)) i
mark_place (b ∷ marks) (suc place) =
    λ i. (sym (or-false b) ∙ ap (λ c. b || c) (sym (eqb-suc-zero place))) i
    ∷ (mark_place marks place ∙ (λ j. marked (λ s. sym (eqb-suc-suc place s) j) marks)) i

-- a place past the end
pub mark_past : (marks : List Bool) (place : ℕ) → length marks ≤ place → marks ≡ marked (λ s. place == s) marks
mark_past marks place past = sym (set_past marks place past) ∙ mark_place marks place
  where
    set_past : (marks : List Bool) (place : ℕ) → length marks ≤ place → set marks place true ≡ marks
    set_past [] place past = refl
    set_past (b ∷ marks) zero past = absurd (omega arith)
    set_past (b ∷ marks) (suc place) past = ap (λ rest. b ∷ rest) (set_past marks place (omega arith))

-- one test after another
pub mark_two : (p q : ℕ → Bool) (marks : List Bool) → marked q (marked p marks) ≡ marked (λ s. p s || q s) marks
mark_two p q [] = refl
mark_two p q (b ∷ marks) = λ i. or_assoc b (p 0) (q 0) i ∷ mark_two (λ s. p (suc s)) (λ s. q (suc s)) marks i

-- tests that are equal
pub mark_same : (p q : ℕ → Bool) (marks : List Bool) → ((s : ℕ) → p s ≡ q s) → marked p marks ≡ marked q marks
mark_same p q marks same = λ i. marked (λ s. same s i) marks

pub length-marked : (p : ℕ → Bool) (marks : List Bool) → length (marked p marks) ≡ length marks
length-marked p [] = refl
length-marked p (b ∷ marks) = ap suc (length-marked (λ s. p (suc s)) marks)

-- the mark of a place where none stood
pub at_mark : (p : ℕ → Bool) (count place : ℕ) (default : Bool) → place < count →
    get_or (marked p (replicate count false)) place default ≡ p place
at_mark p zero place default within = absurd (omega arith)
at_mark p (suc count) zero default within = refl
at_mark p (suc count) (suc place) default within = at_mark (λ s. p (suc s)) count place default (omega arith)

-- the marks of a first term, and then those of the rest
pub mark_terms_more : (old new all : List Bool) (t : TermTree) (ts : TermTrees) →
    marked (λ s. some_term_reads s (more_terms t ts)) old ≡ all → new ≡ marked (λ s. term_reads s t) old →
    marked (λ s. some_term_reads s ts) new ≡ all
mark_terms_more old new all t ts before step =
    ap (marked (λ s. some_term_reads s ts)) step ∙ mark_two (λ s. term_reads s t) (λ s. some_term_reads s ts) old ∙ before

pub mark_terms_end : (old all : List Bool) → marked (λ s. some_term_reads s no_terms) old ≡ all → old ≡ all
mark_terms_end old all before = sym (mark_none old) ∙ before

pub mark_end : (old all : List Bool) → marked (λ _. false) old ≡ all → old ≡ all
mark_end old all before = sym (mark_none old) ∙ before

pub length-marks : (p : ℕ → Bool) (count : ℕ) (marks : List Bool) → marks ≡ marked p (replicate count false) → length marks ≡ count
length-marks p count marks is = ap length is ∙ length-marked p (replicate count false) ∙ length-replicate count false

pub mark_at : (p : ℕ → Bool) (count place : ℕ) (marks : List Bool) (mark : Bool) → marks ≡ marked p (replicate count false) →
    mark ≡ get_or marks place mark → place < count → mark ≡ p place
mark_at p count place marks mark is here within = here ∙ ap (λ ms. get_or ms place mark) is ∙ at_mark p count place mark within
