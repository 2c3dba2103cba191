-- In a text without a definition the first name that is wrong is the first clash of its written uses.
use Rattle.std.proofs.Common.{◌≡◌, ℕ, ◌<◌, ◌≤◌, Bool, true, false, not, List, [], ◌∷◌, map, length, get_or, refl, ap, sym, ◌∙◌, subst, arith}
use Rattle.std.proofs.Common.{◌↔◌, ◌⊎◌, inl, inr, true≢false}
use Rattle.std.specs.Prelude.{◌&&◌, Option, Some, None, option_map, cond, nat_lt, slice_get, position}
use Rattle.std.specs.List.{AllByRecursion, position_or_len}
use Rattle.std.proofs.lemmas.Bool.{cases_lt, lt-ltb, eq-eqb, not-true}
use Rattle.std.proofs.lemmas.Option.{none-some, slice_get_within, slice_get-get_or, get_or_from_slice_get, slice_get-map}
use Rattle.std.proofs.lemmas.List.Quantifiers.{position-Some}
use Rattle.std.proofs.lemmas.List.Sums.{position_or_len_is}
use Rattle.base_library.proofs.Each.{each_at}
use Rattle.base_library.proofs.Options.{none_never_some}
use Rattle.base_library.proofs.Places.{slice_get_one, slice_get_mapped}
use Rattle.tsl_text.specs.declared.Token.{Token}
use Rattle.tsl_text.specs.Division.{AreTokens}
use Rattle.tsl_text.proofs.OneAnswer.{one_list}
use Rattle.tsl_terms.specs.declared.names.NameKind.{NameKind}
use Rattle.tsl_terms.specs.declared.names.NameKind.TheVariants.{Signal, Function, Predicate}
use Rattle.tsl_terms.specs.Name.{Name, same_kind}
use Rattle.tsl_terms.specs.Clashes.{alike_in_kind, same_arity, IsClash, IsFirstClash, HasNoClash}
use Rattle.tsl_terms.proofs.FirstUses.{FirstAt, first_at, clash_of}
use Rattle.spec_syntax.specs.Syntax.{Terminal, SectionSyntax, Declaration}
use Rattle.spec_syntax.specs.Grammar.{AreSections}
use Rattle.spec_syntax.specs.Texts.{terminals}
use Rattle.spec_syntax.proofs.DeclarationLaws.{sections_are_all}
use Rattle.definition_expansion.specs.ExpansionSizes.{number_in}
use Rattle.definition_expansion.specs.Folds.{depths}
use Rattle.name_resolution.specs.declared.occurrence.Role.TheVariants.{Plain}
use Rattle.name_resolution.specs.Occurrences.{Occurrence}
use Rattle.name_resolution.specs.Faults.{is_redefined, name_of, kind_fault_as, arity_fault_as, has_kind_fault, has_arity_fault}
use Rattle.name_resolution.specs.Faults.{is_unlike_first, is_unlike_name, is_used, passes_deepest}
use Rattle.name_resolution.specs.Heads.{definitions_in}
use Rattle.name_resolution.specs.WellDeclared.{heads_of, names_in, NoneOnCycle, is_use_too_deep}
use Rattle.name_resolution.proofs.WholeText.{nowhere}
use Rattle.tsl_reader.specs.Naming.{written_uses}
use Rattle.tsl_reader.specs.Spells.{deepest_level, Derives, IsFirstName, HasHeadFault, HasCycleFault, HasKindFault, HasArityFault}
use Rattle.tsl_reader.specs.Spells.{HasDeepUse}
use Rattle.tsl_reader.specs.WrittenClashes.{IsFirstClashAt}
use Rattle.tsl_reader.proofs.Causes.{one_derivation}
use Rattle.tsl_reader.proofs.Known.{like_first}
use Rattle.tsl_reader.proofs.WithoutDefinitions.{as_text, names_plain, names_bare, IsBare, plain_at, none_redefined, unlike_there, no_cycle}

-- ---- the first member that passes

first_told : {X : Type 0} (p : X → Bool) (xs : List X) (at : ℕ) → position p xs ≡ Some at →
    (x : X) × (slice_get xs at ≡ Some x) × (p x ≡ true) × ((i : ℕ) (y : X) → i < at → slice_get xs i ≡ Some y → p y ≡ false)
first_told p [] at is = absurd (none-some at is)
first_told p (y ∷ xs) at is =
    let found = position-Some p (y ∷ xs) at y is in (
      get_or (y ∷ xs) at y,
      slice_get-get_or (y ∷ xs) at y found.0,
      found.1,
      λ i z less there. ap p (sym (get_or_from_slice_get (y ∷ xs) i z y there)) ∙ found.2 i less,
    )

told_first : {X : Type 0} (p : X → Bool) (xs : List X) (at : ℕ) (x : X) → slice_get xs at ≡ Some x → p x ≡ true →
    ((i : ℕ) (y : X) → i < at → slice_get xs i ≡ Some y → p y ≡ false) → position p xs ≡ Some at
told_first p xs at x there passes fails =
    let inside = slice_get_within xs at x there in
    let is : position_or_len p xs ≡ at =
    position_or_len_is p xs at x (omega (arith, inside))
    (λ k less. fails k (get_or xs k x) less (slice_get-get_or xs k x (omega (arith, less, inside))))
    (λ within. ap p (get_or_from_slice_get xs at x x there) ∙ passes) in
    ap (λ n. cond (nat_lt n (length xs)) (Some n) None) is ∙ ap (λ b. cond b (Some at) None) (lt-ltb at (length xs) inside)

-- ---- clashes of plain occurrences

module _ (os : List Occurrence) (us : List Name) (plain : (map name_of os ≡ us) × AllByRecursion (λ (o : Occurrence). o.role ≡ Plain) os) where
  use_there : (i : ℕ) (o : Occurrence) → slice_get os i ≡ Some o → slice_get us i ≡ Some (name_of o)
  use_there i o there =
      ap (λ ns. slice_get ns i) (sym plain.0) ∙ slice_get-map name_of os i ∙ ap (λ (found : Option Occurrence). option_map name_of found) there

  module _ (alike : Name → Name → Bool) where
    clash_there : (i : ℕ) (o : Occurrence) → slice_get os i ≡ Some o → is_unlike_first alike os o ≡ true → IsClash alike us i
    clash_there i o there unlike =
        let u = unlike_there os us plain alike i o there in
        clash_of alike us i (name_of o) u.0 (use_there i o there) u.1 (not-true (alike u.0 (name_of o)) (sym u.2 ∙ unlike))

    unlike_of : (i : ℕ) (o : Occurrence) → slice_get os i ≡ Some o → IsClash alike us i → is_unlike_first alike os o ≡ true
    unlike_of i o there h =
        let u = unlike_there os us plain alike i o there in
        let stands : FirstAt us o.text u.0 = first_at us o.text u.0 u.1 in
        let usage : h.usage ≡ name_of o = slice_get_one us i h.usage (name_of o) h.use_there (use_there i o there) in
        let text : h.first.text ≡ o.text = h.same_name ∙ ap (λ (n : Name). n.text) usage in
        u.2 ∙ ap not ((λ k. alike (same stands text (cases_lt stands.at h.first_at) (cases_lt h.first_at stands.at) k) (sym usage k)) ∙ h.differs)
      where
        same : {f : Name} (stands : FirstAt us o.text f) → h.first.text ≡ o.text → (stands.at < h.first_at) ⊎ (h.first_at ≤ stands.at) →
            (h.first_at < stands.at) ⊎ (stands.at ≤ h.first_at) → f ≡ h.first
        same {f = f} stands text (inl less) back =
            absurd (h.is_first stands.at f h.first less stands.there h.first_there (sym stands.same ∙ sym text))
        same {f = f} stands text (inr more) (inl less) =
            absurd (stands.none_before h.first_at h.first less h.first_there (sym text))
        same {f = f} stands text (inr more) (inr back) =
            let here : stands.at ≡ h.first_at = omega (arith, more, back) in
            slice_get_one us h.first_at f h.first (ap (slice_get us) (sym here) ∙ stands.there) h.first_there

    occurrence_of_clash : (i : ℕ) → IsClash alike us i → (o : Occurrence) × (slice_get os i ≡ Some o)
    occurrence_of_clash i h =
        let found = slice_get_mapped name_of os i h.usage (ap (λ ns. slice_get ns i) plain.0 ∙ h.use_there) in
        (found.0, found.1)

    -- a test that tells whether a name is not like its first use tells the first clash
    module _ (p : Occurrence → Bool) (is : (i : ℕ) (o : Occurrence) → slice_get os i ≡ Some o → p o ≡ is_unlike_first alike os o) where
      to_clash : (at : ℕ) → position p os ≡ Some at → IsFirstClash alike us at
      to_clash at h =
          let t = first_told p os at h in
          record {
            clash = clash_there at t.0 t.1 (sym (is at t.0 t.1) ∙ t.2);
            none_before = λ i less c.
                let o = occurrence_of_clash i c in
                true≢false (sym (is i o.0 o.1 ∙ unlike_of i o.0 o.1 c) ∙ t.3 i o.0 less o.1);
          }

      from_clash : (at : ℕ) → IsFirstClash alike us at → position p os ≡ Some at
      from_clash at c =
          let o = occurrence_of_clash at c.clash in
          told_first p os at o.0 o.1 (is at o.0 o.1 ∙ unlike_of at o.0 o.1 c.clash)
          (λ i x less there. is i x there ∙ by i x less there (is_unlike_first alike os x) refl)
        where
          by : (i : ℕ) (x : Occurrence) → i < at → slice_get os i ≡ Some x → (b : Bool) → is_unlike_first alike os x ≡ b → b ≡ false
          by i x less there true e = absurd (c.none_before i less (clash_there i x there e))
          by i x less there false e = refl

      no_clash : position p os ≡ None → HasNoClash alike us
      no_clash none i c =
          let o = occurrence_of_clash i c in
          true≢false (sym (is i o.0 o.1 ∙ unlike_of i o.0 o.1 c) ∙ each_at (λ x. p x ≡ false) os i o.0 (nowhere p os none) o.1)

      no_fault : HasNoClash alike us → position p os ≡ None
      no_fault none = by (position p os) refl where
        by : (o : Option ℕ) → position p os ≡ o → o ≡ None
        by None e = refl
        by (Some at) e = absurd (none at (to_clash at e).clash)

  kind_is : (i : ℕ) (o : Occurrence) → slice_get os i ≡ Some o → has_kind_fault os o ≡ is_unlike_first alike_in_kind os o
  kind_is i o there = ap (λ r. kind_fault_as r o (is_unlike_first alike_in_kind os o)) (plain_at os us plain i o there)

  -- where no kinds clash, a signal has as many arguments as its first use, which is none
  arity_is : AllByRecursion IsBare os → HasNoClash alike_in_kind us → (heads : List Name) (i : ℕ) (o : Occurrence) → slice_get os i ≡ Some o →
      has_arity_fault heads os o ≡ is_unlike_first same_arity os o
  arity_is bare kinds heads i o there =
      ap (λ r. arity_fault_as r o (is_unlike_name same_arity heads o) (is_unlike_first same_arity os o)) (plain_at os us plain i o there)
      ∙ by (same_kind o.kind Signal) refl
    where
      by : (b : Bool) → same_kind o.kind Signal ≡ b → (not b && is_unlike_first same_arity os o) ≡ is_unlike_first same_arity os o
      by false e = refl
      by true e =
          let u = unlike_there os us plain same_arity i o there in
          let stands : FirstAt us o.text u.0 = first_at us o.text u.0 u.1 in
          let like : alike_in_kind u.0 (name_of o) ≡ true = like_first alike_in_kind us kinds i (name_of o) u.0 (use_there i o there) u.1 in
          let found = slice_get_mapped name_of os stands.at u.0 (ap (λ ns. slice_get ns stands.at) plain.0 ∙ stands.there) in
          let none : o.arity ≡ 0 = each_at IsBare os i o bare there e in
          let first_none : found.0.arity ≡ 0 =
          each_at IsBare os stands.at found.0 bare found.1 (signal_too found.0.kind o.kind (ap (λ (n : Name). same_kind n.kind o.kind) found.2 ∙ like) e) in
          sym (u.2 ∙ ap not (eq-eqb u.0.arity o.arity (ap (λ (n : Name). n.arity) (sym found.2) ∙ first_none ∙ sym none)))
        where
          signal_too : (a b : NameKind) → same_kind a b ≡ true → same_kind b Signal ≡ true → same_kind a Signal ≡ true
          signal_too Signal b h k = refl
          signal_too Function Signal h k = h
          signal_too Function Function h k = k
          signal_too Function Predicate h k = k
          signal_too Predicate Signal h k = h
          signal_too Predicate Function h k = k
          signal_too Predicate Predicate h k = k

-- ---- a text without a definition

module _ (text : List ℕ) (tokens : List Token) (ss : List SectionSyntax) (start end : ℕ) (are : AreTokens text tokens)
    (sections : AreSections deepest_level (terminals text tokens) ss) where
  abbrev os : List Occurrence
  os = names_in (as_text ss)

  abbrev us : List Name
  us = written_uses ss

  mine : Derives text tokens (terminals text tokens) (as_text ss)
  mine = record { tokens_are = are; derived = sections_are_all sections }

  -- what is told of the names of any reading is told of these
  first_name : (test : List Declaration → Occurrence → Bool) {ts : List Token} {own : List Terminal} {es : List Declaration} →
      Derives text ts own es → IsFirstName (test es) text ts es start end → IsFirstName (test (as_text ss)) text tokens (as_text ss) start end
  first_name test {ts = ts} {own = own} {es = es} d named =
      subst (λ qs. IsFirstName (test qs) text tokens qs start end) (one_derivation text ts tokens own (terminals text tokens) es (as_text ss) d mine).0
      (subst (λ xs. IsFirstName (test es) text xs es start end) (one_list text ts tokens d.tokens_are are) named)

  abbrev kind_test : Occurrence → Bool
  kind_test = has_kind_fault os

  abbrev arity_test : Occurrence → Bool
  arity_test = has_arity_fault (heads_of (as_text ss)) os

  pub kinds_told : HasKindFault text start end ↔ IsFirstClashAt alike_in_kind text tokens ss start end
  kinds_told = (
    λ h.
        let n = first_name (λ qs. has_kind_fault (names_in qs)) h.derives h.named in
        record {
          at = n.at;
          first = to_clash os us (names_plain ss) alike_in_kind kind_test (kind_is os us (names_plain ss)) n.at n.first;
          token = n.token;
          there = n.there;
          starts = n.starts;
          ends = n.ends;
        },
    λ c. record {
      tokens = tokens;
      own = terminals text tokens;
      declarations = as_text ss;
      derives = mine;
      once = none_redefined os us (names_plain ss);
      acyclic = no_cycle ss;
      named = record {
        at = c.at;
        first = from_clash os us (names_plain ss) alike_in_kind kind_test (kind_is os us (names_plain ss)) c.at c.first;
        token = c.token;
        there = c.there;
        starts = c.starts;
        ends = c.ends;
      };
    },
  )

  no_kinds : {ts : List Token} {own : List Terminal} {es : List Declaration} → Derives text ts own es →
      position (has_kind_fault (names_in es)) (names_in es) ≡ None → HasNoClash alike_in_kind us
  no_kinds {ts = ts} {own = own} {es = es} d none =
      no_clash os us (names_plain ss) alike_in_kind kind_test (kind_is os us (names_plain ss))
      (subst (λ qs. position (has_kind_fault (names_in qs)) (names_in qs) ≡ None)
      (one_derivation text ts tokens own (terminals text tokens) es (as_text ss) d mine).0 none)

  pub arities_told : HasArityFault text start end ↔
      (HasNoClash alike_in_kind (written_uses ss) × IsFirstClashAt same_arity text tokens ss start end)
  arities_told = (
    λ h.
        let n = first_name (λ qs. has_arity_fault (heads_of qs) (names_in qs)) h.derives h.named in
        let kinds = no_kinds h.derives h.kinds in (
          kinds,
          record {
            at = n.at;
            first = to_clash os us (names_plain ss) same_arity arity_test
                (arity_is os us (names_plain ss) (names_bare ss) kinds (heads_of (as_text ss))) n.at n.first;
            token = n.token;
            there = n.there;
            starts = n.starts;
            ends = n.ends;
          },
        ),
    λ c. record {
      tokens = tokens;
      own = terminals text tokens;
      declarations = as_text ss;
      derives = mine;
      once = none_redefined os us (names_plain ss);
      acyclic = no_cycle ss;
      kinds = no_fault os us (names_plain ss) alike_in_kind kind_test (kind_is os us (names_plain ss)) c.0;
      named = record {
        at = c.1.at;
        first = from_clash os us (names_plain ss) same_arity arity_test
            (arity_is os us (names_plain ss) (names_bare ss) c.0 (heads_of (as_text ss))) c.1.at c.1.first;
        token = c.1.token;
        there = c.1.there;
        starts = c.1.starts;
        ends = c.1.ends;
      };
    },
  )

  -- nothing is told of definitions
  pub none_redefines : HasHeadFault text start end → ⊥
  none_redefines h =
      let n = first_name (λ qs o. is_redefined o.role) h.derives h.named in
      none_never_some (position (λ (o : Occurrence). is_redefined o.role) os) n.at (none_redefined os us (names_plain ss)) n.first

  pub none_on_cycle : HasCycleFault text start end → ⊥
  none_on_cycle h =
      let same = (one_derivation text h.tokens tokens h.own (terminals text tokens) h.declarations (as_text ss) h.derives mine).0 in
      subst (λ qs. NoneOnCycle (definitions_in qs)) (sym same) (no_cycle ss) h.number h.cycle.definition h.cycle.here h.cycle.reaches

  pub none_too_deep : HasDeepUse text start end → ⊥
  none_too_deep h =
      let n = first_name (λ qs. is_use_too_deep (definitions_in qs)) h.derives h.named in
      let t = first_told (is_use_too_deep (definitions_in (as_text ss))) os n.at n.first in
      let deep : Bool = passes_deepest t.0.level (number_in depths (definitions_in (as_text ss)) t.0.text) in
      true≢false (sym t.2 ∙ ap (λ r. is_used r && (t.0.in_section && deep)) (plain_at os us (names_plain ss) n.at t.0 t.1))
