-- Texts of sections and definitions: one reading, their sections alone, and their names.
use Rattle.std.proofs.Common.{◌≡◌, ℕ, ◌+◌, ◌≤◌, List, [], ◌∷◌, ◌++◌, map, refl, ap, sym, ◌∙◌, arith}
use Rattle.std.proofs.lemmas.List.{append-nil}
use Rattle.std.specs.Prelude.{flat_map}
use Rattle.tsl_text.specs.declared.TokenKind.TheVariants.{Equals, Semicolon, CloseBrace}
use Rattle.reader_combinators.proofs.Then.{before_any}
use Rattle.reader_combinators.proofs.Whole.{one_value, one_front}
use Rattle.spec_syntax.specs.Syntax.{Terminal, free, word, mark, FormulaSyntax, SectionSyntax, Definition, Declaration, the_section}
use Rattle.spec_syntax.specs.Syntax.{the_definition, sections_among}
use Rattle.spec_syntax.specs.Grammar.{AreItems, nothing, last_item, item, assume}
use Rattle.spec_syntax.specs.Grammar.{IsSection, braces, AreSections, no_section, section}
use Rattle.spec_syntax.specs.Grammar.{IsDefinition, equation, AreDeclarations, no_declaration, a_section, a_definition}
use Rattle.spec_syntax.specs.Written.{written, free_texts, section_texts, declaration_texts}
use Rattle.spec_syntax.proofs.Lift.{lift_formula, lift_section}
use Rattle.spec_syntax.proofs.Written.{formula_is}
use Rattle.spec_syntax.proofs.ExactDeclarations.{IsDeclaration, declaration_exact, section_declares, definition_declares}
use Rattle.spec_syntax.proofs.ExactDeclarations.{declarations_exact}

-- ---- one reading

pub one_list : (levels_left : ℕ) (xs own other : List Terminal) (a b : List Declaration) → AreDeclarations levels_left xs own a →
    AreDeclarations levels_left xs other b →
    a ≡ b
one_list levels_left xs own other a b h k = one_value (declarations_exact levels_left) xs a b (own, h) (other, k)

-- the first declaration takes the same terminals of one text, whatever follows
module _ (levels_left : ℕ) {us vs ys zs : List Terminal} (p q : Declaration) where
  first_split : IsDeclaration levels_left us p → IsDeclaration levels_left vs q → us ++ ys ≡ vs ++ zs → (us ≡ vs) × (ys ≡ zs)
  first_split h k e = one_front (declaration_exact levels_left) us vs ys zs p q h k (before_any ys) (before_any zs) e

same_own : (levels_left : ℕ) {xs ys own other : List Terminal} {a : List Declaration} → AreDeclarations levels_left xs own a →
    AreDeclarations levels_left ys other a → xs ≡ ys → own ≡ other
same_own levels_left no_declaration no_declaration e = refl
same_own levels_left (a_section {xs = us} {s = s} h k) (a_section {xs = vs} i l) e =
    let split =
    first_split levels_left (the_section s) (the_section s) (section_declares levels_left us s h) (section_declares levels_left vs s i) e in
    let own = same_own levels_left k l split.1 in
    λ j. split.0 j ++ own j
same_own levels_left (a_definition {d = d} h k) (a_definition i l) e =
    let split = first_split levels_left (the_definition d) (the_definition d) (definition_declares h) (definition_declares i) e in
    same_own levels_left k l split.1

pub one_own : (levels_left : ℕ) (xs own other : List Terminal) (a b : List Declaration) → AreDeclarations levels_left xs own a →
    AreDeclarations levels_left xs other b →
    own ≡ other
one_own levels_left xs own other a b h k = same_own levels_left h (rw (one_list levels_left xs own other a b h k) k) refl

lift_definition : {levels_left r : ℕ} {xs : List Terminal} {d : Definition} → levels_left ≤ r → IsDefinition levels_left xs d →
    IsDefinition r xs d
lift_definition few (equation x ps h) = equation x ps (lift_formula few h)

lift_declarations : {levels_left r : ℕ} {xs own : List Terminal} {ds : List Declaration} → levels_left ≤ r →
    AreDeclarations levels_left xs own ds →
    AreDeclarations r xs own ds
lift_declarations few no_declaration = no_declaration
lift_declarations few (a_section h k) = a_section (lift_section few h) (lift_declarations few k)
lift_declarations few (a_definition h k) = a_definition (lift_definition few h) (lift_declarations few k)

pub more_room : (extra levels_left : ℕ) (xs own : List Terminal) (ds : List Declaration) → AreDeclarations levels_left xs own ds →
    AreDeclarations (extra + levels_left) xs own ds
more_room extra levels_left xs own ds h = lift_declarations (omega arith) h

-- ---- the sections alone

pub sections_derive : {levels_left : ℕ} {xs own : List Terminal} {ds : List Declaration} → AreDeclarations levels_left xs own ds →
    AreSections levels_left own (sections_among ds)
sections_derive no_declaration = no_section
sections_derive (a_section h k) = section h (sections_derive k)
sections_derive (a_definition h k) = sections_derive k

pub sections_are_all : {levels_left : ℕ} {xs : List Terminal} {ss : List SectionSyntax} → AreSections levels_left xs ss →
    AreDeclarations levels_left xs xs (map the_section ss)
sections_are_all no_section = no_declaration
sections_are_all (section h k) = a_section h (sections_are_all k)

pub only_sections : {levels_left : ℕ} {xs own : List Terminal} (ss : List SectionSyntax) →
    AreDeclarations levels_left xs own (map the_section ss) →
    (own ≡ xs) × AreSections levels_left xs ss
only_sections [] no_declaration = (refl, no_section)
only_sections (s ∷ ss) (a_section {xs = us} h k) = let rest = only_sections ss k in (ap (λ ts. us ++ ts) rest.0, section h rest.1)

-- ---- names

free_append : (xs ys : List Terminal) → free_texts (xs ++ ys) ≡ free_texts xs ++ free_texts ys
free_append [] ys = refl
free_append (free x ∷ xs) ys = ap (λ ts. x ∷ ts) (free_append xs ys)
free_append (word w ∷ xs) ys = free_append xs ys
free_append (mark m ∷ xs) ys = free_append xs ys

free_names : (ps : List (List ℕ)) → free_texts (map free ps) ≡ ps
free_names [] = refl
free_names (p ∷ ps) = ap (λ ts. p ∷ ts) (free_names ps)

item_names : {levels_left : ℕ} {xs : List Terminal} {fs : List FormulaSyntax} → AreItems levels_left xs fs →
    free_texts xs ≡ flat_map (λ a. free_texts (written a)) fs
item_names nothing = refl
item_names (last_item {f = f} h) = ap free_texts (formula_is h) ∙ sym (append-nil (free_texts (written f)))
item_names (item {xs = xs} {ys = ys} h k) = free_append xs (mark Semicolon ∷ ys) ∙ (λ i. free_texts (formula_is h i) ++ item_names k i)

braced_names : {levels_left : ℕ} {ys : List Terminal} {fs : List FormulaSyntax} → AreItems levels_left ys fs →
    free_texts (ys ++ mark CloseBrace ∷ []) ≡ flat_map (λ a. free_texts (written a)) fs
braced_names {ys = ys} k = free_append ys (mark CloseBrace ∷ []) ∙ append-nil (free_texts ys) ∙ item_names k

section_names : {levels_left : ℕ} {xs : List Terminal} {s : SectionSyntax} → IsSection levels_left xs s → free_texts xs ≡ section_texts s
section_names (braces assume k) = braced_names k
section_names (braces _ k) = braced_names k

body_names : (xs : List Terminal) (a : FormulaSyntax) (ps : List (List ℕ)) → xs ≡ written a →
    free_texts (map free ps ++ mark Equals ∷ (xs ++ mark Semicolon ∷ [])) ≡ ps ++ free_texts (written a)
body_names xs a ps e =
    free_append (map free ps) (mark Equals ∷ (xs ++ mark Semicolon ∷ []))
    ∙ (λ i. free_names ps i ++ (free_append xs (mark Semicolon ∷ []) ∙ append-nil (free_texts xs) ∙ ap free_texts e) i)

definition_names : {levels_left : ℕ} {xs : List Terminal} {d : Definition} → IsDefinition levels_left xs d →
    free_texts xs ≡ declaration_texts (the_definition d)
definition_names (equation {xs = xs} {a = a} x ps h) = ap (λ ts. x ∷ ts) (body_names xs a ps (formula_is h))

pub all_names : {levels_left : ℕ} {xs own : List Terminal} {ds : List Declaration} → AreDeclarations levels_left xs own ds →
    free_texts xs ≡ flat_map declaration_texts ds
all_names no_declaration = refl
all_names (a_section {xs = xs} {ys = ys} h k) = free_append xs ys ∙ (λ i. section_names h i ++ all_names k i)
all_names (a_definition {xs = xs} {ys = ys} h k) = free_append xs ys ∙ (λ i. definition_names h i ++ all_names k i)

pub own_names : {levels_left : ℕ} {xs own : List Terminal} {ds : List Declaration} → AreDeclarations levels_left xs own ds →
    free_texts own ≡ flat_map section_texts (sections_among ds)
own_names no_declaration = refl
own_names (a_section {xs = xs} {own = own} h k) = free_append xs own ∙ (λ i. section_names h i ++ own_names k i)
own_names (a_definition h k) = own_names k
