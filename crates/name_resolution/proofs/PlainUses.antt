-- The plain names of a formula are used as they occur.
use Rattle.std.proofs.Common.{◌≡◌, ℕ, suc, Bool, true, false, not, List, [], ◌∷◌, refl, ap, sym, ◌∙◌, subst}
use Rattle.std.specs.Prelude.{◌&&◌, ◌||◌, ◌==◌, Option, Some, None, option_map, if◌then◌else◌}
use Rattle.std.specs.List.{list_all, AllByRecursion}
use Rattle.std.specs.Option.{is_some}
use Rattle.std.specs.Str.{bytes_eq}
use Rattle.std.specs.Cmp.Derive.{both_true}
use Rattle.std.proofs.lemmas.Bool.{or_right}
use Rattle.base_library.proofs.Booleans.{eqb_self}
use Rattle.base_library.proofs.Bytes.{same_bytes, bytes_same}
use Rattle.base_library.proofs.Each.{each_from_places, each_left, each_right, each_both}
use Rattle.base_library.proofs.Passes.{list_any_contained}
use Rattle.base_library.proofs.Places.{contains_at}
use Rattle.tsl_terms.specs.declared.names.NameKind.{NameKind}
use Rattle.tsl_terms.specs.declared.names.NameKind.TheVariants.{Signal, Function, Predicate}
use Rattle.tsl_terms.specs.Name.{Name, same_kind}
use Rattle.tsl_terms.specs.Clashes.{alike_in_kind}
use Rattle.spec_syntax.specs.Syntax.{TermSyntax, alone, applied, grouped_term, TermsSyntax, no_terms, more_terms}
use Rattle.spec_syntax.specs.Syntax.{FormulaSyntax, truth, falsehood, bare, tested, updated, grouped, under, between}
use Rattle.spec_syntax.specs.Syntax.{joined, FormulasSyntax, no_formulas, more_formulas, Definition}
use Rattle.definition_expansion.specs.Occurrences.{NameUses, Passing, count_of, TermOccurs, TermsOccur, Plain, MembersPlain, InBody}
use Rattle.definition_expansion.specs.Reaching.{Among, first, later}
use Rattle.definition_expansion.specs.UseLevels.{level_of_right}
use Rattle.name_resolution.specs.declared.occurrence.Role.{Role}
use Rattle.name_resolution.specs.declared.occurrence.Role.TheVariants.{Plain as PlainRole, Parameter, Used, Misused}
use Rattle.name_resolution.specs.Heads.{head_of, is_name, is_among}
use Rattle.name_resolution.specs.Occurrences.{Occurrence, Scope, of_section, of_body, role_in, atom_role, occurrence}
use Rattle.name_resolution.specs.Occurrences.{term_occurrences, terms_occurrences, formula_occurrences, members_occurrences}
use Rattle.name_resolution.specs.Faults.{is_plain, kind_fault_as, is_unlike_first, has_kind_fault, name_with}
use Rattle.name_resolution.specs.WellDeclared.{is_used_well, occurs_plain}
use Rattle.name_resolution.proofs.EachName.{each_name}
use Rattle.name_resolution.proofs.UsedWell.{free_name}

same_kind_self : (kind : NameKind) → same_kind kind kind ≡ true
same_kind_self Signal = refl
same_kind_self Function = refl
same_kind_self Predicate = refl

-- each plain occurrence of a text occurs so
pub plain_there : (all : List Occurrence) → AllByRecursion (λ o. is_plain o.role ≡ true → occurs_plain all o.text o.kind o.arity ≡ true) all
plain_there all = each_from_places (λ o. is_plain o.role ≡ true → occurs_plain all o.text o.kind o.arity ≡ true) all (λ i o there plain.
    list_any_contained (λ p. is_plain p.role && (bytes_eq o.text p.text && (same_kind o.kind p.kind && (o.arity == p.arity)))) all o
    (contains_at all i o there)
    (both_true plain (both_true (bytes_same o.text o.text refl) (both_true (same_kind_self o.kind) (eqb_self o.arity)))))

module _ (named : List ℕ → Option Definition) (rank : List ℕ → ℕ) (heads : List Name) (s : Scope) (same : (x : List ℕ) → s.is_defined x ≡ is_some (named x)) (arities : (x : List ℕ) → name_with heads x ≡ option_map head_of (named x)) where
  -- a name is used well, and is such where it is not defined
  abbrev pub Fits : NameUses → Occurrence → Type 0
  Fits Q o = (named o.text ≡ None → Q o.text o.kind o.arity) × (is_used_well heads o ≡ true)

  module _ (Q : NameUses) where
    -- a name in a place where no use stands
    free_fits : (x : List ℕ) (kind : NameKind) (n level : ℕ) → Fits Q (occurrence s level (role_in s x) kind n x) → Q x kind n
    free_fits x kind n level h = h.0 (free_name named rank heads s same arities x _ h.1)

    mutual
      term_occurs : (level : ℕ) (t : TermSyntax) → AllByRecursion (Fits Q) (term_occurrences s level t) → TermOccurs Q t
      term_occurs level (alone x) h = free_fits x Signal 0 level h.0
      term_occurs level (applied f ts) h = (free_fits f Function (count_of ts) level h.0, terms_occur level ts h.1)
      term_occurs level (grouped_term t) h = term_occurs level t h

      terms_occur : (level : ℕ) (ts : TermsSyntax) → AllByRecursion (Fits Q) (terms_occurrences s level ts) → TermsOccur Q ts
      terms_occur level no_terms h = tt
      terms_occur level (more_terms t ts) h = (
        term_occurs level t (each_left (Fits Q) (term_occurrences s level t) (terms_occurrences s level ts) h),
        terms_occur level ts (each_right (Fits Q) (term_occurrences s level t) (terms_occurrences s level ts) h),
      )

    mutual
      pub plain_from : (level : ℕ) (a : FormulaSyntax) → AllByRecursion (Fits Q) (formula_occurrences s level a) → Plain Q named rank a
      plain_from level truth h = tt
      plain_from level falsehood h = tt
      plain_from level (bare x) h = h.0.0
      plain_from level (tested p ts) h = (h.0.0, terms_occur level ts h.1)
      plain_from level (updated x t) h = (free_fits x Signal 0 level h.0, term_occurs level t h.1)
      plain_from level (grouped a) h = plain_from (suc level) a h
      plain_from level (under op a) h = plain_from (suc level) a h
      plain_from level (between op a b) h =
          let left = formula_occurrences s level a in
          let right = formula_occurrences s (level_of_right op level) b in
          (plain_from level a (each_left (Fits Q) left right h), plain_from (level_of_right op level) b (each_right (Fits Q) left right h))
      plain_from level (joined op fs) h = members_plain level fs h

      members_plain : (level : ℕ) (fs : FormulasSyntax) → AllByRecursion (Fits Q) (members_occurrences s level fs) →
          MembersPlain Q named rank fs
      members_plain level no_formulas h = tt
      members_plain level (more_formulas f fs) h =
          let left = formula_occurrences s level f in
          let right = members_occurrences s level fs in
          (plain_from level f (each_left (Fits Q) left right h), members_plain level fs (each_right (Fits Q) left right h))

  -- ---- the role of a name that is not defined, and signals have no arguments

  abbrev free_role : List ℕ → Role
  free_role x = if s.is_parameter x then Parameter else PlainRole

  role_free : (x : List ℕ) → named x ≡ None → role_in s x ≡ free_role x
  role_free x e = ap (λ b. if b then Misused else free_role x) (same x ∙ ap is_some e)

  atom_free : (x : List ℕ) (passed : Option (List (List ℕ))) → named x ≡ None → atom_role s x passed ≡ free_role x
  atom_free x None e = role_free x e
  atom_free x (Some ys) e =
      ap (λ b. if b && list_all (λ y. not (s.is_defined y)) ys then Used else role_in s x) (same x ∙ ap is_some e) ∙ role_free x e

  abbrev pub IsPlaced : Occurrence → Type 0
  IsPlaced o = (named o.text ≡ None → o.role ≡ free_role o.text) × (o.kind ≡ Signal → o.arity ≡ 0)

  pub placed : (a : FormulaSyntax) → AllByRecursion IsPlaced (formula_occurrences s 0 a)
  placed = each_name s IsPlaced (record {
    signal = λ l x. (role_free x, λ e. refl);
    function = λ l n f. (role_free f, λ e. cc);
    atom = λ l x u. (atom_free x (Some []), λ e. refl);
    test = λ l n p names us. (atom_free p names, λ e. cc);
  }) 0

-- ---- sections and bodies

among_from : (x : List ℕ) (ps : List (List ℕ)) → is_among ps x ≡ true → Among x ps
among_from x [] h = cc
among_from x (p ∷ ps) h = by (among_from x ps) (bytes_eq x p) refl h where
  by : (is_among ps x ≡ true → Among x ps) → (b : Bool) → bytes_eq x p ≡ b → (b || is_among ps x) ≡ true → Among x (p ∷ ps)
  by rest true e g = subst (λ y. Among x (y ∷ ps)) (same_bytes x p e) first
  by rest false e g = later (rest g)

among_is : (x : List ℕ) (ps : List (List ℕ)) → Among x ps → is_among ps x ≡ true
among_is x [] h = elim h [ ]
among_is x (p ∷ ps) first = ap (λ b. b || is_among ps x) (bytes_same x x refl)
among_is x (p ∷ ps) (later h) = or_right (bytes_eq x p) (is_among ps x) (among_is x ps h)

signal_is : (kind : NameKind) → not (same_kind kind Signal) ≡ false → kind ≡ Signal
signal_is Signal h = refl
signal_is Function h = cc
signal_is Predicate h = cc

-- what a plain occurrence gives
abbrev pub Occurs : List Occurrence → Occurrence → Type 0
Occurs all o = is_plain o.role ≡ true → occurs_plain all o.text o.kind o.arity ≡ true

-- a name is used well, has no fault of its kind, and where it is plain occurs so
pub record IsRight (heads : List Name) (all : List Occurrence) (o : Occurrence) : Type 0 where
  pub well : is_used_well heads o ≡ true
  pub kind : has_kind_fault all o ≡ false
  pub occurs : Occurs all o

module _ (named : List ℕ → Option Definition) (rank : List ℕ → ℕ) (heads : List Name) (same : (x : List ℕ) → is_name heads x ≡ is_some (named x)) (arities : (x : List ℕ) → name_with heads x ≡ option_map head_of (named x)) (all : List Occurrence) where
  pub section_plain : (a : FormulaSyntax) → AllByRecursion (IsRight heads all) (formula_occurrences (of_section heads) 0 a) →
      Plain (Passing (occurs_plain all)) named rank a
  section_plain a each =
      let s = of_section heads in
      plain_from named rank heads s same arities (Passing (occurs_plain all)) 0 a
      (each_both (IsRight heads all) (IsPlaced named rank heads s same arities) (Fits named rank heads s same arities (Passing (occurs_plain all)))
      (λ o right is. ((λ e. right.occurs (ap is_plain (is.0 e))), right.well)) (formula_occurrences s 0 a) each
      (placed named rank heads s same arities a))

  body_fits : (ps : List (List ℕ)) (o : Occurrence) → IsRight heads all o →
      IsPlaced named rank heads (of_body heads ps) same arities o → named o.text ≡ None → InBody (Passing (occurs_plain all)) ps o.text o.kind o.arity
  body_fits ps o right is e = by (is_among ps o.text) refl (is.0 e) where
    by : (b : Bool) → is_among ps o.text ≡ b → o.role ≡ (if b then Parameter else PlainRole) →
        InBody (Passing (occurs_plain all)) ps o.text o.kind o.arity
    by true among role =
        let kind : o.kind ≡ Signal = signal_is o.kind
        (sym (ap (λ r. kind_fault_as r o (is_unlike_first alike_in_kind all o)) role) ∙ right.kind) in
        (λ there. (kind, is.1 kind), λ absent. absurd (absent (among_from o.text ps among)))
    by false among role =
        (λ there. let clash : true ≡ false = sym (among_is o.text ps there) ∙ among in absurd cc, λ absent. right.occurs (ap is_plain role))

  pub body_plain : (ps : List (List ℕ)) (a : FormulaSyntax) → AllByRecursion (IsRight heads all) (formula_occurrences (of_body heads ps) 0 a) →
      Plain (InBody (Passing (occurs_plain all)) ps) named rank a
  body_plain ps a each =
      let s = of_body heads ps in
      plain_from named rank heads s same arities (InBody (Passing (occurs_plain all)) ps) 0 a
      (each_both (IsRight heads all) (IsPlaced named rank heads s same arities)
      (Fits named rank heads s same arities (InBody (Passing (occurs_plain all)) ps))
      (λ o right is. (body_fits ps o right is, right.well)) (formula_occurrences s 0 a) each (placed named rank heads s same arities a))
