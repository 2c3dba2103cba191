-- What each name of a formula is used as.
use Rattle.std.specs.Prelude.{◌≡◌, ℕ, suc, Bool, List, [], ◌∷◌, Option, IsTrue}
use Rattle.tsl_terms.specs.declared.names.NameKind.{NameKind}
use Rattle.tsl_terms.specs.declared.names.NameKind.TheVariants.{Signal, Function, Predicate}
use Rattle.spec_syntax.specs.Syntax.{TermSyntax, alone, applied, grouped_term, TermsSyntax, no_terms, more_terms}
use Rattle.spec_syntax.specs.Syntax.{FormulaSyntax, truth, falsehood, bare, tested, updated, grouped, under, between}
use Rattle.spec_syntax.specs.Syntax.{joined, FormulasSyntax, no_formulas, more_formulas}
use Rattle.spec_syntax.specs.Syntax.{Definition}
use Rattle.definition_expansion.specs.WellUsed.{IsFree}
use Rattle.definition_expansion.specs.Reaching.{Among}

-- a use of a name: its text, what it is used as, and with how many arguments
abbrev pub NameUses : Type 1
NameUses = List ℕ → NameKind → ℕ → Type 0

-- those that pass a test
abbrev pub Passing : (List ℕ → NameKind → ℕ → Bool) → NameUses
Passing test x kind arity = IsTrue (test x kind arity)

abbrev pub count_of : TermsSyntax → ℕ
count_of no_terms = 0
count_of (more_terms t ts) = suc (count_of ts)

module _ (P : NameUses) where
  abbrev mutual
    pub TermOccurs : TermSyntax → Type 0
    TermOccurs (alone x) = P x Signal 0
    TermOccurs (applied f ts) = P f Function (count_of ts) × TermsOccur ts
    TermOccurs (grouped_term t) = TermOccurs t

    pub TermsOccur : TermsSyntax → Type 0
    TermsOccur no_terms = Unit {0}
    TermsOccur (more_terms t ts) = TermOccurs t × TermsOccur ts

  -- each use of a name in the formula is such
  abbrev mutual
    pub Occurs : FormulaSyntax → Type 0
    Occurs truth = Unit {0}
    Occurs falsehood = Unit {0}
    Occurs (bare x) = P x Signal 0
    Occurs (tested p ts) = P p Predicate (count_of ts) × TermsOccur ts
    Occurs (updated x t) = P x Signal 0 × TermOccurs t
    Occurs (grouped a) = Occurs a
    Occurs (under op a) = Occurs a
    Occurs (between op a b) = Occurs a × Occurs b
    Occurs (joined op fs) = MembersOccur fs

    pub MembersOccur : FormulasSyntax → Type 0
    MembersOccur no_formulas = Unit {0}
    MembersOccur (more_formulas f fs) = Occurs f × MembersOccur fs

  -- the names are signals
  abbrev pub AreSignals : List (List ℕ) → Type 0
  AreSignals [] = Unit {0}
  AreSignals (y ∷ ys) = P y Signal 0 × AreSignals ys

  -- each use of a name that is no defined name is such
  module _ (named : List ℕ → Option Definition) (rank : List ℕ → ℕ) where
    abbrev mutual
      pub Plain : FormulaSyntax → Type 0
      Plain truth = Unit {0}
      Plain falsehood = Unit {0}
      Plain (bare x) = IsFree named rank x → P x Signal 0
      Plain (tested p ts) = (IsFree named rank p → P p Predicate (count_of ts)) × TermsOccur ts
      Plain (updated x t) = P x Signal 0 × TermOccurs t
      Plain (grouped a) = Plain a
      Plain (under op a) = Plain a
      Plain (between op a b) = Plain a × Plain b
      Plain (joined op fs) = MembersPlain fs

      pub MembersPlain : FormulasSyntax → Type 0
      MembersPlain no_formulas = Unit {0}
      MembersPlain (more_formulas f fs) = Plain f × MembersPlain fs

-- in a body: a parameter is a signal, and any other name is such
abbrev pub InBody : NameUses → List (List ℕ) → NameUses
InBody P parameters x kind arity = (Among x parameters → (kind ≡ Signal) × (arity ≡ 0)) × ((Among x parameters → ⊥) → P x kind arity)
