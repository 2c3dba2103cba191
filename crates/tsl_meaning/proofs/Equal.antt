-- The number of equality says what the names say.
use Rattle.std.proofs.Common.{◌≡◌, ◌∙◌, ℕ, ◌==◌, Bool, true, false, List, Option, Some, None, refl, sym, ap}
use Rattle.std.proofs.lemmas.Bool.{eqb-true, eq-eqb}
use Rattle.base_library.specs.Options.{passes}
use Rattle.tsl_terms.specs.Name.{Name}
use Rattle.tsl_terms.specs.Equality.{is_equality}
use Rattle.program_tree.specs.ProgramTree.{ProgramTree}
use Rattle.tsl_meaning.specs.Interpretation.{Interpretation, meanings_by, meanings_in, meanings_with, IsEqualityOf}

same_from_both : (a b : Bool) → (a ≡ true → b ≡ true) → (b ≡ true → a ≡ true) → a ≡ b
same_from_both true b there back = sym (there refl)
same_from_both false true there back = back refl
same_from_both false false there back = refl

numbered : (names : List Name) (equality : Option ℕ) → IsEqualityOf names equality → (p : ℕ) →
    passes (λ e. e == p) equality ≡ is_equality names p
numbered names equality is p = same_from_both (passes (λ e. e == p) equality) (is_equality names p)
    (λ it. (is p).0 (number equality it)) (λ named. ap (passes (λ e. e == p)) ((is p).1 named) ∙ eq-eqb p p refl)
  where
    number : (o : Option ℕ) → passes (λ e. e == p) o ≡ true → o ≡ Some p
    number None it = cc
    number (Some e) it = ap Some (eqb-true e p it)

-- so symbols mean the same by it and by the names
pub same_meanings : (names : List Name) (equality : Option ℕ) (program : ProgramTree) (interpretation : Interpretation) →
    IsEqualityOf names equality →
    meanings_with equality program.cells interpretation ≡ meanings_in names program interpretation
same_meanings names equality program interpretation is = λ i. meanings_by (λ p. numbered names equality is p i) program.cells interpretation
