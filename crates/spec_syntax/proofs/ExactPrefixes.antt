-- Prefixes are read exactly: updates, atoms and the operators in front of them. What holds of the readers of each level.
use Rattle.std.proofs.Common.{◌≡◌, ℕ, zero, suc, ◌<◌, Bool, true, false, List, [], ◌∷◌, refl, ap, sym, ◌∙◌, arith}
use Rattle.std.specs.Prelude.{Option, Some, None, codes}
use Rattle.tsl_text.specs.declared.TokenKind.TheVariants.{OpenRound, CloseRound, OpenSquare, CloseSquare, LeftArrow}
use Rattle.reader_combinators.specs.Readers.{Reader, map_read, after, closed_by}
use Rattle.reader_combinators.specs.Exact.{Grammar, Begins, Exact}
use Rattle.reader_combinators.proofs.Runs.{map_same, exact_as}
use Rattle.reader_combinators.proofs.Then.{Any, IsClosed, closed_exact}
use Rattle.reader_combinators.proofs.Terminals.{Turn, by_first, end_wrong, turn_of, turn_wrong, turn_alone, turn_takes, turn_as, turn_goes_on}
use Rattle.reader_combinators.proofs.Terminals.{IsAfter, after_exact}
use Rattle.reader_combinators.proofs.Levels.{Below, Up, turn_below}
use Rattle.spec_syntax.specs.declared.syntax.Word.TheVariants.{True, False}
use Rattle.tsl_terms.specs.declared.operator.UnaryOperator.{UnaryOperator}
use Rattle.spec_syntax.specs.declared.syntax.Closer.{Closer}
use Rattle.spec_syntax.specs.declared.syntax.Closer.TheVariants.{Round, Square}
use Rattle.spec_syntax.specs.declared.syntax.ArrowKind.{ArrowKind}
use Rattle.spec_syntax.specs.declared.syntax.ArrowKind.TheVariants.{Single, Double}
use Rattle.spec_syntax.specs.Syntax.{Terminal, free, word, mark, TermSyntax, alone, FormulaSyntax, truth, falsehood, bare, updated, grouped}
use Rattle.spec_syntax.specs.Syntax.{under}
use Rattle.spec_syntax.specs.Grammar.{unary_of, IsTerm, signal, IsFormula, chain as chained, IsIff, no_iff}
use Rattle.spec_syntax.specs.Grammar.{IsImp, no_imp, IsOr, disjunction, no_disjunct, IsAnd, conjunction}
use Rattle.spec_syntax.specs.Grammar.{no_conjunct, IsPrefix, prefix, atom, IsAtom, true_atom, false_atom}
use Rattle.spec_syntax.specs.Grammar.{brackets_atom, update, bare_name, no_argument, test}
use Rattle.spec_syntax.specs.Reading.{closes, is_close_square, Level, bracketed_formula, atom_named, term_with, update_with}
use Rattle.spec_syntax.specs.Reading.{atom_with, after_name, prefix_from, prefix_with}
use Rattle.spec_syntax.proofs.MoreLevels.{formula_more, prefix_more}
use Rattle.spec_syntax.proofs.ExactTerms.{tie, Below_tie, TermExact, closer_mark, tells, closed_term, a, AreAfterName, nothing}
use Rattle.spec_syntax.proofs.ExactTerms.{no_arguments, some_arguments, after_name_exact, term_exact}

-- the forms on the right of an arrow and on its left, and how strongly it ties
abbrev pub IsRight : ArrowKind → Grammar Terminal FormulaSyntax
IsRight Single = IsImp
IsRight Double = IsIff

abbrev pub IsLeft : ArrowKind → Grammar Terminal FormulaSyntax
IsLeft Single = IsOr
IsLeft Double = IsImp

abbrev pub arrow_tie : ArrowKind → ℕ
arrow_tie Single = 3
arrow_tie Double = 2

-- what holds of each level's readers
pub record LevelExact (levels_left : ℕ) (l : Level) : Type 0 where
  pub term : TermExact levels_left l
  pub prefix : Exact IsPrefix (Below_tie 6) levels_left l.prefix
  pub right : (kind : ArrowKind) → Exact (IsRight kind) (Below_tie (arrow_tie kind)) levels_left (l.right kind)
  pub formula : Exact IsFormula (Below_tie 1) levels_left l.formula

pub terms_below : (levels_left : ℕ) (low : Option Level) → Below LevelExact levels_left low → Below TermExact levels_left low
terms_below zero None h = tt
terms_below zero (Some l) h = absurd h
terms_below (suc levels_left) None h = absurd h
terms_below (suc levels_left) (Some l) h = h.term

pub lift_prefixes : (r : ℕ) (xs : List Terminal) (f : FormulaSyntax) → IsPrefix r xs f → IsPrefix (suc (suc r)) xs f
lift_prefixes r xs f h = prefix_more (prefix_more h)

-- a formula and what closes it
pub closed_formula : (closer : Closer) → tie (closer_mark closer) < 1 → {levels_left : ℕ} {reader : Reader Terminal FormulaSyntax} →
    Exact IsFormula (Below_tie 1) levels_left reader →
    Exact (IsClosed (closer_mark closer) IsFormula) Any levels_left (closed_by (closes closer) reader)
closed_formula closer ends = closed_exact (tells closer) ends (λ r xs f h. formula_more (formula_more h))

-- ---- `a` as each form

a_prefix_alone : (r : ℕ) → IsPrefix r (a ∷ []) (bare (codes "a"))
a_prefix_alone r = atom (bare_name (codes "a"))

pub a_prefix : (r : ℕ) → Begins (IsPrefix r) []
a_prefix r = record { ending = a ∷ []; value = bare (codes "a"); derives = a_prefix_alone r }

pub an_and : (r : ℕ) → IsAnd r (a ∷ []) (bare (codes "a"))
an_and r = conjunction (a_prefix_alone r) no_conjunct

an_imp : (r : ℕ) → IsImp r (a ∷ []) (bare (codes "a"))
an_imp r = no_imp (disjunction (an_and r) no_disjunct)

pub a_right : (kind : ArrowKind) (r : ℕ) → Begins (IsRight kind r) []
a_right Single r = record { ending = a ∷ []; value = bare (codes "a"); derives = an_imp r }
a_right Double r = record { ending = a ∷ []; value = bare (codes "a"); derives = no_iff (an_imp r) }

pub a_formula : (r : ℕ) → IsFormula r (a ∷ []) (bare (codes "a"))
a_formula r = chained (no_iff (an_imp r))

-- ---- updates

is_left_arrow : Terminal → Bool
is_left_arrow (mark LeftArrow) = true
is_left_arrow _ = false

-- an update after its opening bracket
abbrev IsUpdate : Grammar Terminal FormulaSyntax
IsUpdate r (free x ∷ ys) f = (t : TermSyntax) × IsAfter is_left_arrow (IsClosed (mark CloseSquare) IsTerm) r ys t × (f ≡ updated x t)
IsUpdate r _ f = ⊥

update_is : (low : Option Level) (x : List ℕ) (rest : List Terminal) →
    update_with low (free x ∷ rest) ≡ map_read (updated x) (after is_left_arrow (closed_by is_close_square (term_with low)) rest)
unfolding update_with is_left_arrow after
update_is low x (mark LeftArrow ∷ rest) = refl
update_is low x [] = refl
update_is low x _ = refl

update_exact : (levels_left : ℕ) (low : Option Level) → Below TermExact levels_left low → Exact IsUpdate Any levels_left (update_with low)
unfolding update_with is_left_arrow
update_exact levels_left low b = by_first (end_wrong refl an_update (λ r v h. h)) turn where
  a_term : Begins (IsClosed (mark CloseSquare) IsTerm levels_left) []
  a_term = record { ending = a ∷ mark CloseSquare ∷ []; value = alone (codes "a"); derives = (a ∷ [], refl, signal (codes "a")) }

  an_update : Begins (IsUpdate levels_left) []
  an_update = record {
    ending = a ∷ mark LeftArrow ∷ a_term.ending;
    value = updated (codes "a") a_term.value;
    derives = (a_term.value, (refl, a_term.derives), refl);
  }

  turn : (y : Terminal) → Turn IsUpdate Any levels_left (update_with low) y
  turn (free x) =
      turn_takes (updated x) (after is_left_arrow (closed_by is_close_square (term_with low))) (update_is low x) (λ y h. h)
      (λ r ys t h. (t, h, refl)) (λ r ys f h. h)
      (after_exact is_left_arrow (mark LeftArrow) refl a_term (closed_term Square (omega arith) (term_exact levels_left low b)))
  turn _ = turn_wrong (λ rest. refl) an_update (λ r ys f h. h)

-- ---- atoms

abbrev AtomCase : Grammar Terminal FormulaSyntax
AtomCase r (word True ∷ ys) f = (ys ≡ []) × (f ≡ truth)
AtomCase r (word False ∷ ys) f = (ys ≡ []) × (f ≡ falsehood)
AtomCase r (mark OpenRound ∷ ys) f = (g : FormulaSyntax) × Up (IsClosed (mark CloseRound) IsFormula) r ys g × (f ≡ grouped g)
AtomCase r (mark OpenSquare ∷ ys) f = IsUpdate r ys f
AtomCase r (free p ∷ ys) f = (o : Option (List TermSyntax)) × AreAfterName r ys o × (f ≡ atom_named p o)
AtomCase r _ f = ⊥

atom_case : {r : ℕ} {xs : List Terminal} {f : FormulaSyntax} → IsAtom r xs f → AtomCase r xs f
unfolding is_left_arrow
atom_case true_atom = (refl, refl)
atom_case false_atom = (refl, refl)
atom_case (brackets_atom {xs = xs} {a = f} h) = (f, (xs, refl, h), refl)
atom_case (update {xs = xs} {t = t} x h) = (t, (refl, (xs, refl, h)), refl)
atom_case (bare_name x) = (None, nothing, refl)
atom_case (no_argument p) = (Some [], no_arguments, refl)
atom_case (test {t = t} {ts = ts} p h) = (Some (t ∷ ts), some_arguments h, refl)

atom_of_name : (r : ℕ) (p : List ℕ) (xs : List Terminal) (o : Option (List TermSyntax)) → AreAfterName r xs o →
    IsAtom r (free p ∷ xs) (atom_named p o)
atom_of_name r p xs o nothing = bare_name p
atom_of_name r p xs o no_arguments = no_argument p
atom_of_name r p xs o (some_arguments h) = test p h

atom_of_update : (r : ℕ) (xs : List Terminal) (f : FormulaSyntax) → IsUpdate r xs f → IsAtom r (mark OpenSquare ∷ xs) f
unfolding is_left_arrow
atom_of_update r (free x ∷ mark LeftArrow ∷ ys) f h = rw (h.1.1.1, h.2) (update x h.1.1.2)
atom_of_update r (free x ∷ []) f h = absurd h.1
atom_of_update r (free x ∷ _) f h = let never = h.1.0 in cc
atom_of_update r _ f h = absurd h

case_atom : (r : ℕ) (xs : List Terminal) (f : FormulaSyntax) → AtomCase r xs f → IsAtom r xs f
case_atom r (word True ∷ ys) f h = rw (h.0, h.1) true_atom
case_atom r (word False ∷ ys) f h = rw (h.0, h.1) false_atom
case_atom zero (mark OpenRound ∷ ys) f h = absurd h.1
case_atom (suc r) (mark OpenRound ∷ ys) f h = rw (h.2, h.1.1) (brackets_atom h.1.2)
case_atom r (mark OpenSquare ∷ ys) f h = atom_of_update r ys f h
case_atom r (free p ∷ ys) f h = rw h.2 (atom_of_name r p ys h.0 h.1)
case_atom r _ f h = absurd h

atom_exact : (levels_left : ℕ) (low : Option Level) → Below LevelExact levels_left low →
    Exact IsAtom (Below_tie 6) levels_left (atom_with low)
unfolding atom_with
atom_exact levels_left low b =
    exact_as case_atom (λ r xs f h. atom_case h) (λ x h. h) (by_first (end_wrong refl some_atom (λ r f h. h)) turn) where
      some_atom : Begins (AtomCase levels_left) []
      some_atom = record { ending = a ∷ []; value = bare (codes "a"); derives = (None, nothing, refl) }

      low_formula : Begins (IsClosed (mark CloseRound) IsFormula (suc levels_left)) []
      low_formula =
          record { ending = a ∷ mark CloseRound ∷ []; value = bare (codes "a"); derives = (a ∷ [], refl, a_formula (suc levels_left)) }

      turn : (x : Terminal) → Turn AtomCase (Below_tie 6) levels_left (atom_with low) x
      turn (word True) = turn_alone truth (λ rest. refl) (λ r. (refl, refl)) (λ r ys f h. h)
      turn (word False) = turn_alone falsehood (λ rest. refl) (λ r. (refl, refl)) (λ r ys f h. h)
      turn (mark OpenRound) =
          turn_below {Holds = LevelExact} grouped low bracketed_formula (λ k l h. closed_formula Round (omega arith) h.formula) b
          (λ rest. refl)
          (λ y h. tt) some_atom low_formula (λ r ys f h. (f, h, refl)) (λ r ys f h. h)
      turn (mark OpenSquare) =
          turn_goes_on (update_with low) (λ rest. refl) (λ y h. tt) (λ r ys f h. h) (λ r ys f h. h)
          (update_exact levels_left low (terms_below levels_left low b))
      turn (free p) =
          turn_takes (atom_named p) (after_name low) (λ rest. refl) (λ y h. h) (λ r ys o h. (o, h, refl)) (λ r ys f h. h)
          (after_name_exact levels_left low (terms_below levels_left low b))
      turn _ = turn_wrong (λ rest. refl) some_atom (λ r ys f h. h)

-- ---- prefixes

-- the operand of an operator, or an atom
abbrev PrefixFrom : Option UnaryOperator → Terminal → Grammar Terminal FormulaSyntax
PrefixFrom None x r ys f = IsAtom r (x ∷ ys) f
PrefixFrom (Some op) x r ys f = (g : FormulaSyntax) × Up IsPrefix r ys g × (f ≡ under op g)

abbrev PrefixCase : Grammar Terminal FormulaSyntax
PrefixCase r [] f = ⊥
PrefixCase r (x ∷ ys) f = PrefixFrom (unary_of x) x r ys f

prefix_of_atom : {r : ℕ} {xs : List Terminal} {f : FormulaSyntax} → IsAtom r xs f → PrefixCase r xs f
prefix_of_atom true_atom = true_atom
prefix_of_atom h = h

prefix_case : {r : ℕ} {xs : List Terminal} {f : FormulaSyntax} → IsPrefix r xs f → PrefixCase r xs f
prefix_case (prefix {a = g} op t is h) = rw is (g, h, refl)
prefix_case (atom h) = prefix_of_atom h

case_prefix : (r : ℕ) (xs : List Terminal) (f : FormulaSyntax) → PrefixCase r xs f → IsPrefix r xs f
case_prefix r [] f h = absurd h
case_prefix r (x ∷ ys) f h = by (unary_of x) refl r h where
  by : (found : Option UnaryOperator) → unary_of x ≡ found → (r : ℕ) → PrefixFrom found x r ys f → IsPrefix r (x ∷ ys) f
  by None e r h = atom h
  by (Some op) e zero h = absurd h.1
  by (Some op) e (suc r) h = rw h.2 (prefix op x e h.1)

pub prefix_exact : (levels_left : ℕ) (low : Option Level) → Below LevelExact levels_left low →
    Exact IsPrefix (Below_tie 6) levels_left (prefix_with low)
unfolding prefix_with prefix_from atom_with
prefix_exact levels_left low b =
    exact_as case_prefix (λ r xs f h. prefix_case h) (λ x h. h)
    (by_first (end_wrong refl some_prefix (λ r f h. h)) (λ x. by x (unary_of x) refl)) where
      some_prefix : Begins (PrefixCase levels_left) []
      some_prefix = record { ending = a ∷ []; value = bare (codes "a"); derives = bare_name (codes "a") }

      as_from : (x : Terminal) (found : Option UnaryOperator) → unary_of x ≡ found → (rest : List Terminal) →
          prefix_with low (x ∷ rest) ≡ prefix_from low found (x ∷ rest)
      as_from x found e rest = ap (λ o. prefix_from low o (x ∷ rest)) e

      by : (x : Terminal) (found : Option UnaryOperator) → unary_of x ≡ found →
          Turn PrefixCase (Below_tie 6) levels_left (prefix_with low) x
      by x None e =
          turn_as (λ f. f) (atom_with low) (λ rest. as_from x None e rest ∙ sym (map_same (atom_with low (x ∷ rest)))) (λ y h. h)
          (λ r ys f h. prefix_of_atom h) (λ r ys f h. (f, rw e at h, refl)) (turn_of (atom_exact levels_left low b) x)
      by x (Some op) e =
          turn_below {Holds = LevelExact} (under op) low (λ l. l.prefix) (λ k l h. h.prefix) b (as_from x (Some op) e)
          (λ y h. h) some_prefix
          (a_prefix (suc levels_left)) (λ r ys f h. rw e (f, h, refl)) (λ r ys f h. rw e at h)
