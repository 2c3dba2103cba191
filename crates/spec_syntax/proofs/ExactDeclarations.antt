-- Sections and definitions, in any order, are read exactly.
use Rattle.std.proofs.Common.{◌≡◌, ℕ, suc, Bool, true, false, List, [], ◌∷◌, ◌++◌, map, refl, ap, sym, ◌∙◌, append_assoc, arith}
use Rattle.std.specs.Prelude.{Some, None, Ok, codes}
use Rattle.tsl_text.specs.declared.TokenKind.TheVariants.{Equals, Semicolon}
use Rattle.reader_combinators.specs.Readers.{found_or_wrong, push}
use Rattle.reader_combinators.specs.Exact.{Grammar, Begins, Exact}
use Rattle.reader_combinators.proofs.Runs.{exact_map, exact_as}
use Rattle.reader_combinators.proofs.Then.{Any, before_any, IsThen, exact_then, lift_then, IsClosed, lift_closed, closed_exact}
use Rattle.reader_combinators.proofs.Terminals.{Turn, by_first, end_as, turn_of, turn_alone, turn_takes, turn_as}
use Rattle.reader_combinators.proofs.Iterates.{Shrinks, step_shrinks}
use Rattle.reader_combinators.proofs.Whole.{reads_all}
use Rattle.reader_combinators.proofs.WholeTexts.{ends_members, whole_derives}
use Rattle.reader_combinators.proofs.Taken.{Never}
use Rattle.reader_combinators.proofs.Lists.{AreAll, none, some, Member, stepping, members_exact, each_member}
use Rattle.spec_syntax.specs.declared.syntax.Closer.TheVariants.{Equals as EqualsAfter, Semicolon as SemicolonAfter}
use Rattle.spec_syntax.specs.Syntax.{Terminal, free, mark, FormulaSyntax, bare, SectionSyntax, Definition, Declaration, the_section}
use Rattle.spec_syntax.specs.Syntax.{the_definition}
use Rattle.spec_syntax.specs.Grammar.{IsFormula}
use Rattle.spec_syntax.specs.Grammar.{IsSection, IsDefinition, equation, AreDeclarations, no_declaration, a_section, a_definition}
use Rattle.spec_syntax.specs.Reading.{lower, side, section_at, name_at, parameters, body}
use Rattle.spec_syntax.specs.Reading.{definition_made, definition, declaration_at, declaration, declarations}
use Rattle.spec_syntax.specs.Texts.{IsText}
use Rattle.spec_syntax.proofs.MoreLevels.{formula_more, section_more}
use Rattle.spec_syntax.proofs.ExactTerms.{a, tells}
use Rattle.spec_syntax.proofs.ExactPrefixes.{a_formula, closed_formula}
use Rattle.spec_syntax.proofs.ExactFormulas.{formula_exact, below_exact}
use Rattle.spec_syntax.proofs.ExactSections.{section_case, section_exact}

-- ---- names

abbrev IsName : Grammar Terminal (List ℕ)
IsName r xs x = xs ≡ free x ∷ []

abbrev is_name : Terminal → Bool
is_name (free x) = true
is_name _ = false

abbrev NoName : Terminal → Type 0
NoName x = is_name x ≡ false

name_member : (levels_left : ℕ) → Member IsName Any NoName levels_left name_at is_name (λ xs. found_or_wrong (name_at xs) xs)
unfolding name_at
name_member levels_left = record {
  at_end = refl;
  none = none_here;
  some = some_here;
  begins = λ r xs x h. (free x, [], h, refl);
  lift = λ r xs x h. h;
  follows = λ x e. tt;
  stops = λ x e. e;
  weaker = λ x h. tt;
  turn = turn;
} where
  none_here : (x : Terminal) (rest : List Terminal) → is_name x ≡ false → name_at (x ∷ rest) ≡ None
  none_here (free x) rest e = cc
  none_here _ rest e = refl

  some_here : (x : Terminal) (rest : List Terminal) → is_name x ≡ true →
      name_at (x ∷ rest) ≡ Some (found_or_wrong (name_at (x ∷ rest)) (x ∷ rest))
  some_here (free x) rest e = refl
  some_here _ rest e = cc

  turn : (x : Terminal) → is_name x ≡ true → Turn IsName Any levels_left (λ xs. found_or_wrong (name_at xs) xs) x
  turn (free x) e = turn_alone x (λ rest. refl) (λ r. refl) (λ r ys j h. (cc, cc))
  turn _ e = cc

pub name_shrinks : Shrinks (push name_at)
name_shrinks = step_shrinks (stepping (name_member 0))

more_names : (r : ℕ) (xs : List Terminal) (ps : List (List ℕ)) → AreAll IsName r xs ps → AreAll IsName (suc (suc r)) xs ps
more_names r xs ps none = none
more_names r xs ps (some {g = g} {vs = qs} h k) = some h (more_names r g qs k)

names_are : (r : ℕ) (xs : List Terminal) (ps : List (List ℕ)) → AreAll IsName r xs ps → xs ≡ map free ps
names_are r xs ps none = refl
names_are r xs ps (some {g = g} {vs = qs} h k) = λ i. h i ++ names_are r g qs k i

all_names : (r : ℕ) (ps : List (List ℕ)) → AreAll IsName r (map free ps) ps
all_names r [] = none
all_names r (p ∷ ps) = some {f = free p ∷ []} refl (all_names r ps)

-- ---- definitions

abbrev IsParameters : Grammar Terminal (List (List ℕ))
IsParameters = IsClosed (mark Equals) (AreAll IsName)

-- a body after these parameters
abbrev WithBody : List ℕ → List (List ℕ) → Grammar Terminal Definition
WithBody x ps r xs d = (a : FormulaSyntax) × IsClosed (mark Semicolon) IsFormula r xs a × (d ≡ definition_made x ps a)

-- a definition after its name
abbrev IsAfterName : List ℕ → Grammar Terminal Definition
IsAfterName x = IsThen IsParameters (WithBody x)

definition_exact : (levels_left : ℕ) (x : List ℕ) → Exact (IsAfterName x) Any levels_left (definition levels_left x)
unfolding definition parameters body
definition_exact levels_left x =
    exact_then (record { lift = lift_closed (mark Equals) (AreAll IsName) more_names; default = some_body })
    (λ r ps xs d h rest b. before_any (xs ++ rest))
    (closed_exact (tells EqualsAfter) refl more_names (members_exact (name_member levels_left)))
    (λ ps. exact_map (definition_made x ps) (λ r xs a h. (a, h, refl)) (λ r xs d h. h)
    (closed_formula SemicolonAfter (omega arith) (formula_exact levels_left (lower levels_left) (below_exact levels_left))))
  where
    some_body : (r : ℕ) (ps : List (List ℕ)) → Begins (WithBody x ps r) []
    some_body r ps = record {
      ending = a ∷ mark Semicolon ∷ [];
      value = definition_made x ps (bare (codes "a"));
      derives = (bare (codes "a"), (a ∷ [], refl, a_formula r), refl);
    }

more_definition : (x : List ℕ) (r : ℕ) (xs : List Terminal) (d : Definition) → IsAfterName x r xs d → IsAfterName x (suc (suc r)) xs d
more_definition x = lift_then IsParameters (WithBody x) (lift_closed (mark Equals) (AreAll IsName) more_names)
    (λ ps r xs d h. (h.0, (h.1.0, h.1.1, formula_more (formula_more h.1.2)), h.2))

is_definition : (x : List ℕ) (r : ℕ) (xs : List Terminal) (d : Definition) → IsAfterName x r xs d → IsDefinition r (free x ∷ xs) d
is_definition x r xs d h =
    let body = h.second.1 in
    let names = names_are r h.first.0 h.value h.first.2 in
    let split : xs ≡ map free h.value ++ mark Equals ∷ (body.0 ++ mark Semicolon ∷ []) =
    h.split ∙ (λ i. (h.first.1 ∙ ap (λ ns. ns ++ mark Equals ∷ []) names) i ++ body.1 i)
    ∙ append_assoc (map free h.value) (mark Equals ∷ []) (body.0 ++ mark Semicolon ∷ []) in
    rw (split, h.second.2) (equation x h.value body.2)

after_name : (x : List ℕ) (r : ℕ) (ps : List (List ℕ)) (xs : List Terminal) (a : FormulaSyntax) → IsFormula r xs a →
    IsAfterName x r (map free ps ++ mark Equals ∷ (xs ++ mark Semicolon ∷ [])) (definition_made x ps a)
after_name x r ps xs a h = record {
  value = ps;
  front = map free ps ++ mark Equals ∷ [];
  tail = xs ++ mark Semicolon ∷ [];
  split = sym (append_assoc (map free ps) (mark Equals ∷ []) (xs ++ mark Semicolon ∷ []));
  first = (map free ps, refl, all_names r ps);
  second = (a, (xs, refl, h), refl);
}

-- ---- declarations

-- a definition where a name begins, and else a section
abbrev pub IsDeclaration : Grammar Terminal Declaration
IsDeclaration r (free x ∷ ys) p = (d : Definition) × IsAfterName x r ys d × (p ≡ the_definition d)
IsDeclaration r xs p = (s : SectionSyntax) × IsSection r xs s × (p ≡ the_section s)

pub section_declares : (r : ℕ) (xs : List Terminal) (s : SectionSyntax) → IsSection r xs s → IsDeclaration r xs (the_section s)
section_declares r (free x ∷ ys) s h = absurd (section_case h)
section_declares r _ s h = (s, h, refl)

pub definition_declares : {r : ℕ} {xs : List Terminal} {d : Definition} → IsDefinition r xs d → IsDeclaration r xs (the_definition d)
definition_declares {r = r} (equation {xs = xs} {a = a} x ps h) = (definition_made x ps a, after_name x r ps xs a h, refl)

pub declaration_exact : (levels_left : ℕ) → Exact IsDeclaration Any levels_left (declaration_at levels_left)
unfolding declaration_at section_at side
declaration_exact levels_left =
    by_first (end_as the_section (section_at levels_left) refl (λ y h. h) section_declares (λ r p h. h) (λ r p h. absurd (section_case h.1))
    (section_exact levels_left)) turn where
      turn : (x : Terminal) → Turn IsDeclaration Any levels_left (declaration_at levels_left) x
      turn (free x) =
          turn_takes the_definition (definition levels_left x) (λ rest. refl) (λ y h. h) (λ r ys d h. (d, h, refl)) (λ r ys p h. h)
          (definition_exact levels_left x)
      turn _ =
          turn_as the_section (section_at levels_left) (λ rest. refl) (λ y h. h) section_declares (λ r ys p h. h)
          (turn_of (section_exact levels_left) _)

declaration_member : (levels_left : ℕ) → Member IsDeclaration Any Never levels_left (declaration levels_left) (λ x. true)
    (declaration_at levels_left)
unfolding declaration
declaration_member levels_left =
    each_member refl (λ x rest. refl) (λ r p h. section_case h.1) (λ r xs p h. lift r xs p h) (declaration_exact levels_left) where
      lift : (r : ℕ) (xs : List Terminal) (p : Declaration) → IsDeclaration r xs p → IsDeclaration (suc (suc r)) xs p
      lift r (free x ∷ ys) p h = (h.0, more_definition x r ys h.0 h.1, h.2)
      lift r _ p h = (h.0, section_more (section_more h.1), h.2)

pub declaration_shrinks : (levels_left : ℕ) → Shrinks (push (declaration levels_left))
declaration_shrinks levels_left = step_shrinks (stepping (declaration_member levels_left))

-- ---- whole texts

with_first : (r : ℕ) (f g : List Terminal) (p : Declaration) (ps : List Declaration) → IsDeclaration r f p → IsText r g ps →
    IsText r (f ++ g) (p ∷ ps)
with_first r (free x ∷ ys) g p ps h k = rw h.2 (k.0, a_definition (is_definition x r ys h.0 h.1) k.1)
with_first r _ g p ps h k = rw h.2 (_, a_section h.1 k.1)

text_of : (r : ℕ) (xs : List Terminal) (ds : List Declaration) → AreAll IsDeclaration r xs ds → IsText r xs ds
text_of r xs ds none = ([], no_declaration)
text_of r xs ds (some {f = f} {g = g} {v = p} {vs = ps} h k) = with_first r f g p ps h (text_of r g ps k)

all_declarations : {r : ℕ} {xs own : List Terminal} {ds : List Declaration} → AreDeclarations r xs own ds → AreAll IsDeclaration r xs ds
all_declarations no_declaration = none
all_declarations {r = r} (a_section {xs = xs} {s = s} h k) = some (section_declares r xs s h) (all_declarations k)
all_declarations (a_definition h k) = some (definition_declares h) (all_declarations k)

-- a whole text is read exactly
pub declarations_exact : (levels_left : ℕ) → Exact IsText (λ x. ⊥) levels_left (declarations levels_left)
unfolding declarations
declarations_exact levels_left =
    exact_as text_of (λ r xs ds h. all_declarations h.1) (λ x h. h) (members_exact (declaration_member levels_left))

-- what is read as a whole text derives so, and nothing is left
pub whole_text : (levels_left : ℕ) (xs : List Terminal) (ds : List Declaration) (rest : List Terminal) →
    declarations levels_left xs ≡ Ok (ds, rest) →
    (rest ≡ []) × IsText levels_left xs ds
unfolding declarations
whole_text levels_left = whole_derives (declarations_exact levels_left) (ends_members (declaration_member levels_left))

pub declarations_derive : (levels_left : ℕ) (xs : List Terminal) (ds : List Declaration) (rest : List Terminal) →
    declarations levels_left xs ≡ Ok (ds, rest) →
    IsText levels_left xs ds
declarations_derive levels_left xs ds rest h = (whole_text levels_left xs ds rest h).1

pub declarations_read : (levels_left : ℕ) (xs own : List Terminal) (ds : List Declaration) → AreDeclarations levels_left xs own ds →
    declarations levels_left xs ≡ Ok (ds, [])
declarations_read levels_left xs own ds h = reads_all (declarations_exact levels_left) levels_left (omega arith) xs ds (own, h)
