-- Where no name has a fault of its kind or its number of arguments, plain occurrences of one name are alike.
use Rattle.std.proofs.Common.{◌≡◌, ℕ, zero, suc, Bool, true, false, not, List, [], ◌∷◌, refl, ap, sym, ◌∙◌, subst}
use Rattle.std.specs.Prelude.{◌&&◌, ◌==◌, Option, Some, None, cond, slice_get, position}
use Rattle.std.specs.List.{find}
use Rattle.std.specs.Option.{option_map_or}
use Rattle.std.specs.Str.{bytes_eq}
use Rattle.std.proofs.lemmas.Bool.{and_from, and_parts, not-false, eqb-true}
use Rattle.std.proofs.lemmas.Option.{none-some, same_Some}
use Rattle.base_library.proofs.Bytes.{same_bytes}
use Rattle.base_library.proofs.Each.{each_at}
use Rattle.base_library.proofs.Passes.{list_any_place}
use Rattle.tsl_terms.specs.declared.names.NameKind.{NameKind}
use Rattle.tsl_terms.specs.declared.names.NameKind.TheVariants.{Signal, Function, Predicate}
use Rattle.tsl_terms.specs.Name.{Name, same_kind}
use Rattle.tsl_terms.specs.Clashes.{alike_in_kind, same_arity}
use Rattle.name_resolution.specs.declared.occurrence.Role.{Role}
use Rattle.name_resolution.specs.declared.occurrence.Role.TheVariants.{Plain, Parameter, Head, Redefined, Used, Misused}
use Rattle.name_resolution.specs.Occurrences.{Occurrence}
use Rattle.name_resolution.specs.Faults.{is_plain, name_of, first_plain, is_unlike_first, kind_fault_as, has_kind_fault, arity_fault_as, has_arity_fault}
use Rattle.name_resolution.specs.Faults.{is_unlike_name}
use Rattle.name_resolution.specs.WellDeclared.{occurs_plain}
use Rattle.name_resolution.proofs.WholeText.{nowhere}

one_kind : (a b : NameKind) → same_kind a b ≡ true → a ≡ b
one_kind Signal Signal h = refl
one_kind Signal Function h = cc
one_kind Signal Predicate h = cc
one_kind Function Signal h = cc
one_kind Function Function h = refl
one_kind Function Predicate h = cc
one_kind Predicate Signal h = cc
one_kind Predicate Function h = cc
one_kind Predicate Predicate h = refl

-- a plain occurrence with a name, a kind and a number of arguments
record PlainAt (all : List Occurrence) (x : List ℕ) (kind : NameKind) (arity : ℕ) : Type 0 where
  place : ℕ
  o : Occurrence
  there : slice_get all place ≡ Some o
  plain : is_plain o.role ≡ true
  text : bytes_eq x o.text ≡ true
  kind_is : kind ≡ o.kind
  arity_is : arity ≡ o.arity

plain_at : (all : List Occurrence) (x : List ℕ) (kind : NameKind) (arity : ℕ) → occurs_plain all x kind arity ≡ true → PlainAt all x kind arity
plain_at all x kind arity h =
    let found = list_any_place (λ o. is_plain o.role && (bytes_eq x o.text && (same_kind kind o.kind && (arity == o.arity)))) all h in
    let o = found.1 in
    let one = and_parts (is_plain o.role) (bytes_eq x o.text && (same_kind kind o.kind && (arity == o.arity))) found.3 in
    let two = and_parts (bytes_eq x o.text) (same_kind kind o.kind && (arity == o.arity)) one.1 in
    let three = and_parts (same_kind kind o.kind) (arity == o.arity) two.1 in
    record {
      place = found.0;
      o = o;
      there = found.2;
      plain = one.0;
      text = two.0;
      kind_is = one_kind kind o.kind three.0;
      arity_is = eqb-true arity o.arity three.1;
    }

some_first : (p : Occurrence → Bool) (xs : List Occurrence) (i : ℕ) (o : Occurrence) → slice_get xs i ≡ Some o → p o ≡ true →
    (f : Occurrence) × (find p xs ≡ Some f)
some_first p [] i o at h = absurd (none-some o at)
some_first p (x ∷ xs) zero o at h = (x, ap (λ b. cond b (Some x) (find p xs)) (ap p (same_Some x o at) ∙ h))
some_first p (x ∷ xs) (suc i) o at h = by (p x) (some_first p xs i o at h) where
  by : (b : Bool) → (f : Occurrence) × (find p xs ≡ Some f) → (f : Occurrence) × (cond b (Some x) (find p xs) ≡ Some f)
  by true rest = (x, refl)
  by false rest = rest

like_kind : (role : Role) (o : Occurrence) (unlike : Bool) → is_plain role ≡ true → kind_fault_as role o unlike ≡ false → unlike ≡ false
like_kind Plain o unlike plain h = h
like_kind Parameter o unlike plain h = cc
like_kind Head o unlike plain h = cc
like_kind Redefined o unlike plain h = cc
like_kind Used o unlike plain h = cc
like_kind Misused o unlike plain h = cc

like_arity : (role : Role) (o : Occurrence) (others unlike : Bool) → is_plain role ≡ true → same_kind o.kind Signal ≡ false →
    arity_fault_as role o others unlike ≡ false → unlike ≡ false
like_arity Plain o others unlike plain other h = by (same_kind o.kind Signal) other h where
  by : (b : Bool) → b ≡ false → (not b && unlike) ≡ false → unlike ≡ false
  by true e g = cc
  by false e g = g
like_arity Parameter o others unlike plain other h = cc
like_arity Head o others unlike plain other h = cc
like_arity Redefined o others unlike plain other h = cc
like_arity Used o others unlike plain other h = cc
like_arity Misused o others unlike plain other h = cc

first_is_alike : (alike : Name → Name → Bool) (found : Option Occurrence) (o f : Occurrence) → found ≡ Some f →
    option_map_or (λ first. not (alike (name_of first) (name_of o))) found false ≡ false → alike (name_of f) (name_of o) ≡ true
first_is_alike alike None o f e h = cc
first_is_alike alike (Some g) o f e h =
    subst (λ k. alike (name_of k) (name_of o) ≡ true) (same_Some g f e) (not-false (alike (name_of g) (name_of o)) h)

module _ (all : List Occurrence) where
  first_of : (x : List ℕ) (kind : NameKind) (arity : ℕ) → PlainAt all x kind arity → (f : Occurrence) × (first_plain all x ≡ Some f)
  first_of x kind arity p =
      some_first (λ o. is_plain o.role && bytes_eq x o.text) all p.place p.o p.there
      (and_from (is_plain p.o.role) (bytes_eq x p.o.text) p.plain p.text)

  same_first : (x : List ℕ) (kind : NameKind) (arity : ℕ) (p : PlainAt all x kind arity) (f : Occurrence) → first_plain all x ≡ Some f →
      first_plain all p.o.text ≡ Some f
  same_first x kind arity p f e = ap (first_plain all) (sym (same_bytes x p.o.text p.text)) ∙ e

  module _ (kinds : position (has_kind_fault all) all ≡ None) where
    kind_of : (x : List ℕ) (kind : NameKind) (arity : ℕ) (p : PlainAt all x kind arity) (f : Occurrence) → first_plain all x ≡ Some f → f.kind ≡ kind
    kind_of x kind arity p f e =
        let right = each_at (λ o. has_kind_fault all o ≡ false) all p.place p.o (nowhere (has_kind_fault all) all kinds) p.there in
        one_kind f.kind p.o.kind (first_is_alike alike_in_kind (first_plain all p.o.text) p.o f (same_first x kind arity p f e)
        (like_kind p.o.role p.o (is_unlike_first alike_in_kind all p.o) p.plain right))
        ∙ sym p.kind_is

    pub plain_kinds : (x : List ℕ) (kind other : NameKind) (arity more : ℕ) → occurs_plain all x kind arity ≡ true →
        occurs_plain all x other more ≡ true → kind ≡ other
    plain_kinds x kind other arity more h k =
        let p = plain_at all x kind arity h in
        let q = plain_at all x other more k in
        let first = first_of x kind arity p in
        sym (kind_of x kind arity p first.0 first.1) ∙ kind_of x other more q first.0 first.1

  module _ (heads : List Name) (arities : position (has_arity_fault heads all) all ≡ None) where
    arity_of : (x : List ℕ) (kind : NameKind) (arity : ℕ) (p : PlainAt all x kind arity) (f : Occurrence) → first_plain all x ≡ Some f →
        same_kind kind Signal ≡ false → f.arity ≡ arity
    arity_of x kind arity p f e other =
        let right = each_at (λ o. has_arity_fault heads all o ≡ false) all p.place p.o (nowhere (has_arity_fault heads all) all arities) p.there in
        eqb-true f.arity p.o.arity (first_is_alike same_arity (first_plain all p.o.text) p.o f (same_first x kind arity p f e)
        (like_arity p.o.role p.o (is_unlike_name same_arity heads p.o) (is_unlike_first same_arity all p.o) p.plain
        (ap (λ k. same_kind k Signal) (sym p.kind_is) ∙ other) right))
        ∙ sym p.arity_is

    pub plain_arities : (x : List ℕ) (kind other : NameKind) (arity more : ℕ) → same_kind kind Signal ≡ false → same_kind other Signal ≡ false →
        occurs_plain all x kind arity ≡ true → occurs_plain all x other more ≡ true → arity ≡ more
    plain_arities x kind other arity more a b h k =
        let p = plain_at all x kind arity h in
        let q = plain_at all x other more k in
        let first = first_of x kind arity p in
        sym (arity_of x kind arity p first.0 first.1 a) ∙ arity_of x other more q first.0 first.1 b
