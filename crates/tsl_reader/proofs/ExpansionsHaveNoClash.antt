-- What a text expands to uses no name in two ways, where the names of the text are well.
use Rattle.std.proofs.Common.{◌≡◌, ℕ, Bool, true, false, List, refl, ap, sym, ◌∙◌, subst}
use Rattle.std.specs.List.{AllByRecursion}
use Rattle.std.proofs.lemmas.Bool.{eq-eqb, true≢false}
use Rattle.base_library.proofs.Each.{each_at}
use Rattle.tsl_terms.specs.declared.names.NameKind.{NameKind}
use Rattle.tsl_terms.specs.declared.names.NameKind.TheVariants.{Signal, Function, Predicate}
use Rattle.tsl_terms.specs.Name.{Name, same_kind}
use Rattle.tsl_terms.specs.Clashes.{alike_in_kind, same_arity, HasNoClash}
use Rattle.spec_syntax.specs.Syntax.{Terminal, SectionSyntax, Declaration}
use Rattle.spec_syntax.specs.Grammar.{AreSections, AreDeclarations}
use Rattle.definition_expansion.specs.DefinitionView.{named_in}
use Rattle.definition_expansion.specs.TextExpansion.{Expands}
use Rattle.definition_expansion.specs.WellUsed.{as_written}
use Rattle.definition_expansion.specs.Occurrences.{Passing}
use Rattle.name_resolution.specs.Heads.{definitions_in}
use Rattle.name_resolution.specs.WellDeclared.{occurs_plain, heads_of, names_in, AreNamedWell}
use Rattle.name_resolution.proofs.AlikePlain.{plain_kinds, plain_arities}
use Rattle.name_resolution.proofs.Expanded.{expanded_names}
use Rattle.tsl_reader.specs.Naming.{written_uses}
use Rattle.tsl_reader.proofs.UsesStand.{Stands, names_stand}

kind_itself : (k : NameKind) → same_kind k k ≡ true
kind_itself Signal = refl
kind_itself Function = refl
kind_itself Predicate = refl

signal_is : (kind : NameKind) → same_kind kind Signal ≡ true → kind ≡ Signal
signal_is Signal h = refl
signal_is Function h = cc
signal_is Predicate h = cc

module _ (ds : List Declaration) (well : AreNamedWell ds) where
  abbrev Such : Name → Type 0
  Such = Stands (Passing (occurs_plain (names_in ds)))

  kinds_agree : (m n : Name) → m.text ≡ n.text → Such m → Such n → m.kind ≡ n.kind
  kinds_agree m n e h k =
      plain_kinds (names_in ds) well.kinds n.text m.kind n.kind m.arity n.arity
      (subst (λ x. occurs_plain (names_in ds) x m.kind m.arity ≡ true) e h.0) k.0

  arities_agree : (m n : Name) → m.text ≡ n.text → Such m → Such n → m.arity ≡ n.arity
  arities_agree m n e h k = by (same_kind m.kind Signal) refl where
    kinds : m.kind ≡ n.kind
    kinds = kinds_agree m n e h k

    by : (b : Bool) → same_kind m.kind Signal ≡ b → m.arity ≡ n.arity
    by true is =
        let signal : m.kind ≡ Signal = signal_is m.kind is in
        h.1 signal ∙ sym (k.1 (sym kinds ∙ signal))
    by false is =
        plain_arities (names_in ds) (heads_of ds) well.arities n.text m.kind n.kind m.arity n.arity is
        (ap (λ kind. same_kind kind Signal) (sym kinds) ∙ is)
        (subst (λ x. occurs_plain (names_in ds) x m.kind m.arity ≡ true) e h.0) k.0

  no_clash : (alike : Name → Name → Bool) → ((m n : Name) → m.text ≡ n.text → Such m → Such n → alike m n ≡ true) → (us : List Name) →
      AllByRecursion Such us → HasNoClash alike us
  no_clash alike agree us such at c =
      let first = each_at Such us c.first_at c.first such c.first_there in
      let usage = each_at Such us at c.usage such c.use_there in
      absurd (true≢false (sym (agree c.first c.usage c.same_name first usage) ∙ c.differs))

pub expansions_have_no_clash : (ds : List Declaration) (levels_left r : ℕ) (xs own ys : List Terminal) (rs : List SectionSyntax) →
    AreNamedWell ds → AreDeclarations levels_left xs own ds →
    Expands (as_written (named_in (definitions_in ds))) own ys → AreSections r ys rs →
    HasNoClash alike_in_kind (written_uses rs) × HasNoClash same_arity (written_uses rs)
expansions_have_no_clash ds levels_left r xs own ys rs well derived to sections =
    let such = names_stand (Passing (occurs_plain (names_in ds))) rs (expanded_names ds well derived r ys rs to sections) in (
      no_clash ds well alike_in_kind (λ m n e h k. ap (same_kind m.kind) (sym (kinds_agree ds well m n e h k)) ∙ kind_itself m.kind)
          (written_uses rs) such,
      no_clash ds well same_arity (λ m n e h k. eq-eqb m.arity n.arity (arities_agree ds well m n e h k)) (written_uses rs) such,
    )
