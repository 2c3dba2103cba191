-- The letter forms of a specification have bits of its space alone.
use Rattle.std.proofs.Common.{◌≡◌, ℕ, ◌+◌, ◌<◌, ◌==◌, Bool, true, false, cond, List, [], ◌∷◌, length, refl, arith}
use Rattle.std.proofs.Common.{Option, Some, None, option_map, option_and_then}
use Rattle.std.specs.List.{position}
use Rattle.std.proofs.lemmas.Bool.{and_parts, eqb-true}
use Rattle.std.proofs.lemmas.Option.{none-some, same_Some}
use Rattle.tsl_terms.specs.declared.operator.UnaryOperator.TheVariants.{Negation, Next, Finally, Globally}
use Rattle.tsl_terms.specs.declared.operator.BinaryOperator.TheVariants.{Implication, Equivalence, Until, WeakUntil, Release}
use Rattle.tsl_terms.specs.declared.operator.ManyOperator.TheVariants.{Conjunction, Disjunction}
use Rattle.tsl_terms.specs.TermTree.{TermTree}
use Rattle.tsl_terms.specs.FormulaTree.{Atom, test, update, FormulaTree, constant, atom, unary, binary, many, FormulaTrees, no_formulas}
use Rattle.tsl_terms.specs.FormulaTree.{more_formulas}
use Rattle.tsl_terms.specs.SameTree.{same_tree, same_probe_tree}
use Rattle.letter_space.specs.SpaceTree.{ControlledTree, SpaceTree, choice_count, bit_count, bits_follow}
use Rattle.letter_space.specs.Bits.{bit_of_choice, controlled_with, bit_of_atom}
use Rattle.letter_space.proofs.Places.{place_within}
use Rattle.underapprox.specs.LetterForm.{atom_form, not_atom_form, letter_form, not_letter_form, letter_forms, not_letter_forms}
use Rattle.tsl_tool.proofs.ChoiceBits.{IsBelow, AreBelow}

-- ---- the bit of an atom

choice_below : (c : ControlledTree) (t : TermTree) (b : ℕ) → bit_of_choice c t ≡ Some b → b < c.first + length c.choices
choice_below c t b is = by (position (λ u. same_tree u t) c.choices) refl is
  where
    by : (o : Option ℕ) → position (λ u. same_tree u t) c.choices ≡ o → option_map (λ k. c.first + k) o ≡ Some b →
        b < c.first + length c.choices
    by None at is = absurd (none-some b is)
    by (Some k) at is =
        let within = place_within (λ u. same_tree u t) c.choices k at in
        let same : c.first + k ≡ b = same_Some (c.first + k) b is in
        omega (arith, within, same)

update_below : (first : ℕ) (cs : List ControlledTree) (s : ℕ) (t : TermTree) (b : ℕ) → bits_follow first cs ≡ true →
    option_and_then (λ c. bit_of_choice c t) (controlled_with cs s) ≡ Some b → b < first + choice_count cs
update_below first [] s t b follow is = absurd (none-some b is)
update_below first (c ∷ cs) s t b follow is =
    by (c.signal == s) (update_below (first + length c.choices) cs s t b parts.1) is
  where
    parts : ((c.first == first) ≡ true) × (bits_follow (first + length c.choices) cs ≡ true)
    parts = and_parts (c.first == first) (bits_follow (first + length c.choices) cs) follow

    by : (here : Bool) →
        (option_and_then (λ d. bit_of_choice d t) (controlled_with cs s) ≡ Some b → b < (first + length c.choices) + choice_count cs) →
        option_and_then (λ d. bit_of_choice d t) (cond here (Some c) (controlled_with cs s)) ≡ Some b →
        b < first + (length c.choices + choice_count cs)
    by true rest is = let below = choice_below c t b is in omega (arith, below, eqb-true c.first first parts.0)
    by false rest is = let below = rest is in omega (arith, below)

module _ (space : SpaceTree) (follow : bits_follow (length space.predicates) space.controlled ≡ true) where
  atom_below : (a : Atom) (b : ℕ) → bit_of_atom space a ≡ Some b → b < bit_count space
  atom_below (test p) b is =
      let within = place_within (λ q. same_probe_tree q p) space.predicates b is in omega (arith, within)
  atom_below (update s t) b is = update_below (length space.predicates) space.controlled s t b follow is

  bit_below : (o : Option ℕ) → ((b : ℕ) → o ≡ Some b → b < bit_count space) → IsBelow (bit_count space) (atom_form o)
  bit_below None below = tt
  bit_below (Some b) below = below b refl

  not_bit_below : (o : Option ℕ) → ((b : ℕ) → o ≡ Some b → b < bit_count space) → IsBelow (bit_count space) (not_atom_form o)
  not_bit_below None below = tt
  not_bit_below (Some b) below = below b refl

  -- ---- each formula

  mutual
    pub form_below : (f : FormulaTree) → IsBelow (bit_count space) (letter_form space f)
    form_below (constant true) = tt
    form_below (constant false) = tt
    form_below (atom a) = bit_below (bit_of_atom space a) (atom_below a)
    form_below (unary Negation f) = not_form_below f
    form_below (unary Next f) = form_below f
    form_below (unary Finally f) = (tt, form_below f)
    form_below (unary Globally f) = (tt, form_below f)
    form_below (binary Implication f g) = (not_form_below f, (form_below g, tt))
    form_below (binary Equivalence f g) =
        ((form_below f, (form_below g, tt)), ((not_form_below f, (not_form_below g, tt)), tt))
    form_below (binary Until f g) = (form_below f, form_below g)
    form_below (binary WeakUntil f g) = (form_below g, (form_below g, (form_below f, tt)))
    form_below (binary Release f g) = (form_below f, form_below g)
    form_below (many Conjunction fs) = forms_below fs
    form_below (many Disjunction fs) = forms_below fs

    not_form_below : (f : FormulaTree) → IsBelow (bit_count space) (not_letter_form space f)
    not_form_below (constant true) = tt
    not_form_below (constant false) = tt
    not_form_below (atom a) = not_bit_below (bit_of_atom space a) (atom_below a)
    not_form_below (unary Negation f) = form_below f
    not_form_below (unary Next f) = not_form_below f
    not_form_below (unary Finally f) = (tt, not_form_below f)
    not_form_below (unary Globally f) = (tt, not_form_below f)
    not_form_below (binary Implication f g) = (form_below f, (not_form_below g, tt))
    not_form_below (binary Equivalence f g) =
        ((form_below f, (not_form_below g, tt)), ((not_form_below f, (form_below g, tt)), tt))
    not_form_below (binary Until f g) = (not_form_below f, not_form_below g)
    not_form_below (binary WeakUntil f g) = (not_form_below g, (not_form_below g, (not_form_below f, tt)))
    not_form_below (binary Release f g) = (not_form_below f, not_form_below g)
    not_form_below (many Conjunction fs) = not_forms_below fs
    not_form_below (many Disjunction fs) = not_forms_below fs

    forms_below : (fs : FormulaTrees) → AreBelow (bit_count space) (letter_forms space fs)
    forms_below no_formulas = tt
    forms_below (more_formulas f fs) = (form_below f, forms_below fs)

    not_forms_below : (fs : FormulaTrees) → AreBelow (bit_count space) (not_letter_forms space fs)
    not_forms_below no_formulas = tt
    not_forms_below (more_formulas f fs) = (not_form_below f, not_forms_below fs)
