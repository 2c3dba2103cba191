-- The names of a specification know each use: its number names what it is used as.
use Rattle.std.proofs.Common.{◌≡◌, ℕ, Bool, true, false, List, [], ◌∷◌, ◌++◌, refl, ap, sym, ◌∙◌, inl, inr, ⊎_elim, arith}
use Rattle.std.proofs.lemmas.Grind.{common_steps}
use Rattle.std.specs.Prelude.{Some, zero, suc, cond, slice_get, flat_map, IsTrue, ◌⊎◌}
use Rattle.std.specs.List.{AllByRecursion}
use Rattle.std.specs.Str.{bytes_eq}
use Rattle.base_library.proofs.Bytes.{same_bytes}
use Rattle.base_library.proofs.Each.{each_at}
use Rattle.tsl_text.specs.Names.{is_usable}
use Rattle.tsl_terms.specs.Name.{Name, question}
use Rattle.tsl_terms.specs.Clashes.{alike_in_kind, same_arity, HasNoClash}
use Rattle.tsl_terms.proofs.KnownNames.{Known, known_of}
use Rattle.tsl_terms.proofs.FirstUses.{first_of, named_first, first_some, FirstAt, first_at, clash_of}
use Rattle.spec_syntax.specs.Syntax.{SectionSyntax}
use Rattle.tsl_reader.specs.Naming.{Use, all_uses, written_uses, question_use, named_by, names_of}
use Rattle.tsl_reader.proofs.UseLemmas.{first_other}
use Rattle.tsl_reader.proofs.Usable.{IsUsable}

-- a name that gets a number is usable, or `?` as a test
abbrev pub MayBeNamed : Name → Type 0
MayBeNamed n = (n ≡ question_use) ⊎ IsUsable n.text

pub each_named : (us : List Use) → AllByRecursion (λ u. IsUsable u.name.text) us → AllByRecursion MayBeNamed (flat_map named_by us)
each_named [] h = tt
each_named (u ∷ us) h = (inr h.0, by u.is_tested (each_named us h.1)) where
  by : (asks : Bool) → AllByRecursion MayBeNamed (flat_map named_by us) →
      AllByRecursion MayBeNamed (cond asks (question_use ∷ []) [] ++ flat_map named_by us)
  by true k = (inl refl, k)
  by false k = k

-- `?` is not usable
question_unusable : (text : List ℕ) → IsUsable text → text ≡ question → ⊥
question_unusable text h e =
    let never : is_usable question ≡ true = ap is_usable (sym e) ∙ h in
    cc

usable_is_other : (text : List ℕ) → IsUsable text → bytes_eq text question ≡ false
usable_is_other text h =
    let never = question_unusable text h in
    grind (arith, common_steps, same_bytes text question)

-- the first use of a name is like each use
pub like_first : (alike : Name → Name → Bool) (us : List Name) → HasNoClash alike us → (at : ℕ) (u f : Name) → slice_get us at ≡ Some u →
    first_of us u.text ≡ Some f → alike f u ≡ true
like_first alike us none at u f there first = by (alike f u) refl where
  by : (is : Bool) → alike f u ≡ is → is ≡ true
  by true e = refl
  by false e = absurd (none at (clash_of alike us at u f there first e))

module _ (ss : List SectionSyntax) (usable : AllByRecursion (λ u. IsUsable u.name.text) (all_uses ss))
    (kinds : HasNoClash alike_in_kind (written_uses ss)) (arities : HasNoClash same_arity (written_uses ss)) where
  pub known_name : (at : ℕ) (u : Name) → slice_get (written_uses ss) at ≡ Some u → IsUsable u.text → Known (names_of ss) u
  known_name at u there h =
      let first = first_some (written_uses ss) at u there in
      let stands : FirstAt (written_uses ss) u.text first.0 = first_at (written_uses ss) u.text first.0 first.1 in
      known_of (names_of ss) u first.0
      (named_first (flat_map named_by (all_uses ss)) u.text ∙ first_other (all_uses ss) u.text (usable_is_other u.text h)
      ∙ first.1) (sym stands.same)
      (like_first alike_in_kind (written_uses ss) kinds at u first.0 there first.1)
      (like_first same_arity (written_uses ss) arities at u first.0 there first.1)

  -- where a signal is tested, the names know `?`
  asked_at : (us : List Use) (at : ℕ) (u : Use) → slice_get us at ≡ Some u → IsTrue u.is_tested →
      (k : ℕ) × (slice_get (flat_map named_by us) k ≡ Some question_use)
  asked_at [] at u there asks = cc
  asked_at (v ∷ us) zero u there asks =
      let same : v ≡ u = cc in
      (1, ap (λ b. slice_get (v.name ∷ (cond b (question_use ∷ []) [] ++ flat_map named_by us)) 1) (ap (λ w. w.is_tested) same ∙ asks))
  asked_at (v ∷ us) (suc at) u there asks = by v.is_tested (asked_at us at u there asks) where
    by : (b : Bool) → (k : ℕ) × (slice_get (flat_map named_by us) k ≡ Some question_use) →
        (k : ℕ) × (slice_get (v.name ∷ (cond b (question_use ∷ []) [] ++ flat_map named_by us)) k ≡ Some question_use)
    by true h = (1, refl)
    by false h = (suc h.0, h.1)

  pub known_question : (at : ℕ) (u : Use) → slice_get (all_uses ss) at ≡ Some u → IsTrue u.is_tested → Known (names_of ss) question_use
  known_question at u there asks =
      let stands_at = asked_at (all_uses ss) at u there asks in
      let first = first_some (flat_map named_by (all_uses ss)) stands_at.0 question_use stands_at.1 in
      let stands : FirstAt (flat_map named_by (all_uses ss)) question first.0 =
      first_at (flat_map named_by (all_uses ss)) question first.0 first.1 in
      let same : first.0 ≡ question_use =
      ⊎_elim (λ (is : first.0 ≡ question_use). is) (λ fine. absurd (question_unusable first.0.text fine (sym stands.same)))
      (each_at MayBeNamed (flat_map named_by (all_uses ss)) stands.at first.0 (each_named (all_uses ss) usable) stands.there) in
      known_of (names_of ss) question_use first.0 (named_first (flat_map named_by (all_uses ss)) question ∙ first.1) (sym stands.same)
      (ap (λ f. alike_in_kind f question_use) same) (ap (λ f. same_arity f question_use) same)

-- the names know a use, and the test of a signal that is tested
pub record KnownUse (names : List Name) (u : Use) : Type 0 where
  pub name : Known names u.name
  pub usable : IsUsable u.name.text
  pub asked : IsTrue u.is_tested → Known names question_use
