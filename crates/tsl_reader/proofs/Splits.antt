-- The sections and the definitions among declarations, which are taken from the last to the first of those that are turned round.
use Rattle.std.proofs.Common.{◌≡◌, ◌<◌, ◌^◌, List, [], ◌∷◌, ◌++◌, map, length, reverse, refl, ap, sym, ◌∙◌, arith}
use Rattle.std.proofs.lemmas.List.{append-nil, reverse-append}
use Rattle.base_library.proofs.Lists.{written_step}
use Rattle.spec_syntax.specs.Syntax.{Declaration, the_section, the_definition, sections_among}
use Rattle.spec_syntax.specs.declared.trees.ReadDeclaration.{ReadDeclaration}
use Rattle.spec_syntax.specs.SyntaxView.{declaration_syntax}
use Rattle.name_resolution.specs.Heads.{definitions_in, head_size, heads_size}
use Rattle.tsl_reader.specs.ReadText.{with_names_once}

-- declarations that are left, the first one at the end
abbrev pub left_in : List ReadDeclaration → List Declaration
left_in left = map declaration_syntax (reverse left)

-- what each declaration gives for itself
abbrev IsOfEach : {X : Type 0} → (List Declaration → List X) → Type 0
IsOfEach F = (d : Declaration) (ds : List Declaration) → F (d ∷ ds) ≡ F (d ∷ []) ++ F ds

pub sections_of_each : IsOfEach sections_among
sections_of_each (the_section s) ds = refl
sections_of_each (the_definition d) ds = refl

pub definitions_of_each : IsOfEach (λ ds. map with_names_once (definitions_in ds))
definitions_of_each (the_section s) ds = refl
definitions_of_each (the_definition d) ds = refl

module _ {before : List ReadDeclaration} (left : List ReadDeclaration) (d : ReadDeclaration) (is : before ≡ left ++ d ∷ []) where
  next : left_in before ≡ declaration_syntax d ∷ left_in left
  next = ap left_in is ∙ ap (map declaration_syntax) (reverse-append left (d ∷ []))

  pub one_taken : {X : Type 0} (F : List Declaration → List X) → IsOfEach F → (old new : List X) {whole : List X} →
      new ≡ old ++ F (declaration_syntax d ∷ []) → old ++ F (left_in before) ≡ whole → new ++ F (left_in left) ≡ whole
  one_taken F each old new {whole = whole} more h =
      written_step old new (F (declaration_syntax d ∷ [])) (F (left_in before)) (F (left_in left)) whole h
      (ap F next ∙ each (declaration_syntax d) (left_in left)) more

  pub few_left : heads_size (left_in before) < 2 ^ 32 → (heads_size (left_in left) < 2 ^ 32) × (head_size (declaration_syntax d) < 2 ^ 32)
  few_left few = (omega (arith, ap heads_size next, few), omega (arith, ap heads_size next, few))

-- where no declaration is left, all were taken
pub all_taken : {X : Type 0} (F : List Declaration → List X) → F [] ≡ [] → (left : List ReadDeclaration) {taken whole : List X} →
    length left ≡ 0 → taken ++ F (left_in left) ≡ whole → taken ≡ whole
all_taken F empty [] {taken = taken} e h = sym (ap (λ xs. taken ++ xs) empty ∙ append-nil taken) ∙ h
all_taken F empty (d ∷ left) e h = absurd (omega (arith, e))
