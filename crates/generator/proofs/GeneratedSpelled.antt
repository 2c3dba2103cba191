-- The generated texts spell specifications.
use Rattle.std.proofs.Common.{◌≡◌, ℕ, zero, suc, ◌≤◌, true, List, [], ◌∷◌, ◌++◌, length, map, refl, arith}
use Rattle.std.specs.Prelude.{Some, codes, decimal, unwrap_or}
use Rattle.std.specs.Fmt.{digits}
use Rattle.std.specs.List.{list_all}
use Rattle.base_library.specs.Numbers.{numbers_from}
use Rattle.tsl_text.specs.Division.{Part, lexemes_of}
use Rattle.tsl_terms.specs.FormulaTree.{FormulaTree}
use Rattle.tsl_terms.specs.Nodes.{nodes}
use Rattle.tsl_terms.specs.SpecTree.{SpecTree, whole_formula}
use Rattle.spec_syntax.specs.Syntax.{terminal_of}
use Rattle.tsl_reader.specs.Naming.{written_uses, names_of, numbered_list}
use Rattle.tsl_reader.specs.Spells.{Spells, most_formula_nodes}
use Rattle.generator.specs.Generated.{generated_text}
use Rattle.generator.proofs.Divided.{parts_within, divided}
use Rattle.generator.proofs.ReadTexts.{response, text_terminals, section_of, is_as_meant, spec_of, is_spelled}

-- `r7`
abbrev request : ℕ → List ℕ
request i = codes "r" ++ decimal i

abbrev requests : ℕ → List (List ℕ)
requests n = map request (numbers_from 0 n)

abbrev parts_of : ℕ → List Part
parts_of n = unwrap_or (parts_within 200 (generated_text n)) []

abbrev formulas_of : ℕ → List FormulaTree
formulas_of n = unwrap_or (numbered_list (names_of (section_of (requests n) ∷ [])) (map response (requests n) ++ [])) []

abbrev spec_for : ℕ → SpecTree
spec_for n = spec_of (requests n) (formulas_of n)

computed : (n nodes_of : ℕ) → parts_within 200 (generated_text n) ≡ Some (parts_of n) →
    map terminal_of (lexemes_of (parts_of n)) ≡ text_terminals (requests n) →
    list_all is_as_meant (written_uses (section_of (requests n) ∷ [])) ≡ true →
    numbered_list (names_of (section_of (requests n) ∷ [])) (map response (requests n) ++ []) ≡ Some (formulas_of n) →
    nodes (whole_formula (spec_for n)) ≡ nodes_of → nodes_of ≤ most_formula_nodes → (spec : SpecTree) × Spells (generated_text n) spec
computed n nodes_of divides are meant numbered counted few = (
  spec_for n,
  is_spelled (generated_text n) (requests n) (parts_of n) (formulas_of n) (divided 200 (generated_text n) (parts_of n) divides)
      are meant numbered (omega (arith, counted, few)),
)

of_one : (spec : SpecTree) × Spells (generated_text 1) spec
unfolding digits
of_one = computed 1 8 refl refl refl refl refl (omega arith)

of_two : (spec : SpecTree) × Spells (generated_text 2) spec
unfolding digits
of_two = computed 2 17 refl refl refl refl refl (omega arith)

of_three : (spec : SpecTree) × Spells (generated_text 3) spec
unfolding digits
of_three = computed 3 25 refl refl refl refl refl (omega arith)

of_four : (spec : SpecTree) × Spells (generated_text 4) spec
unfolding digits
of_four = computed 4 33 refl refl refl refl refl (omega arith)

of_five : (spec : SpecTree) × Spells (generated_text 5) spec
unfolding digits
of_five = computed 5 41 refl refl refl refl refl (omega arith)

pub generated_is_spelled : (n : ℕ) → 1 ≤ n → n ≤ 5 → (spec : SpecTree) × Spells (generated_text n) spec
generated_is_spelled zero some few = absurd (omega arith)
generated_is_spelled (suc zero) some few = of_one
generated_is_spelled (suc (suc zero)) some few = of_two
generated_is_spelled (suc (suc (suc zero))) some few = of_three
generated_is_spelled (suc (suc (suc (suc zero)))) some few = of_four
generated_is_spelled (suc (suc (suc (suc (suc zero))))) some few = of_five
generated_is_spelled (suc (suc (suc (suc (suc (suc n)))))) some few = absurd (omega arith)

-- ---- and they are short

short_one : length (generated_text 1) ≡ 49
unfolding digits
short_one = refl

short_two : length (generated_text 2) ≡ 77
unfolding digits
short_two = refl

short_three : length (generated_text 3) ≡ 105
unfolding digits
short_three = refl

short_four : length (generated_text 4) ≡ 133
unfolding digits
short_four = refl

short_five : length (generated_text 5) ≡ 161
unfolding digits
short_five = refl

pub generated_is_short : (n : ℕ) → 1 ≤ n → n ≤ 5 → length (generated_text n) ≤ 161
generated_is_short zero some few = absurd (omega arith)
generated_is_short (suc zero) some few = omega (arith, short_one)
generated_is_short (suc (suc zero)) some few = omega (arith, short_two)
generated_is_short (suc (suc (suc zero))) some few = omega (arith, short_three)
generated_is_short (suc (suc (suc (suc zero)))) some few = omega (arith, short_four)
generated_is_short (suc (suc (suc (suc (suc zero))))) some few = omega (arith, short_five)
generated_is_short (suc (suc (suc (suc (suc (suc n)))))) some few = absurd (omega arith)
