-- A text expands to one text.
use Rattle.std.proofs.Common.{◌≡◌, ℕ, true, false, List, [], ◌∷◌, ◌++◌, length, map, Option, Some, refl, ap, sym, ◌∙◌}
use Rattle.std.specs.Option.{is_some}
use Rattle.spec_syntax.specs.Syntax.{Terminal, free}
use Rattle.spec_syntax.specs.Grammar.{in_brackets}
use Rattle.definition_expansion.specs.TextExpansion.{DefinitionText, body_with, is_defined, Expands, nothing, kept, used}

same_front : (ms ns : List (List ℕ)) (xs ys : List Terminal) → length ms ≡ length ns → map free ms ++ xs ≡ map free ns ++ ys →
    (ms ≡ ns) × (xs ≡ ys)
same_front [] [] xs ys h e = (refl, e)
same_front [] (n ∷ ns) xs ys h e = cc
same_front (m ∷ ms) [] xs ys h e = cc
same_front (m ∷ ms) (n ∷ ns) xs ys h e =
    let first : m ≡ n = cc in
    let rest : map free ms ++ xs ≡ map free ns ++ ys = cc in
    let few : length ms ≡ length ns = cc in
    let others = same_front ms ns xs ys few rest in
    ((λ i. first i ∷ others.0 i), others.1)

cons_same : {x y : Terminal} {xs ys : List Terminal} → x ≡ y → xs ≡ ys → x ∷ xs ≡ y ∷ ys
cons_same h k = λ i. h i ∷ k i

both_same : {xs ys us vs : List Terminal} → xs ≡ us → ys ≡ vs → in_brackets xs ++ ys ≡ in_brackets us ++ vs
both_same h k = λ i. in_brackets (h i) ++ k i

module _ (named : List ℕ → Option DefinitionText) where
  not_kept : (x : List ℕ) (d : DefinitionText) → is_defined named (free x) ≡ false → named x ≡ Some d → ⊥
  not_kept x d h is =
      let e : is_some (named x) ≡ true = ap is_some is in
      let f : true ≡ false = sym e ∙ h in
      cc

  one : {us vs ys zs : List Terminal} → us ≡ vs → Expands named us ys → Expands named vs zs → ys ≡ zs
  one e nothing nothing = refl
  one e nothing (kept x h k) = cc
  one e nothing (used x names d is many body k) = cc
  one e (kept x h k) nothing = cc
  one e (kept {xs = xs} x h k) (kept {xs = ys} y g l) =
      let first : x ≡ y = cc in
      let rest : xs ≡ ys = cc in
      cons_same first (one rest k l)
  one e (kept x h k) (used y names d is many body l) =
      let first : x ≡ free y = cc in
      absurd (not_kept y d (ap (is_defined named) (sym first) ∙ h) is)
  one e (used x names d is many body k) nothing = cc
  one e (used x names d is many body k) (kept y h l) =
      let first : free x ≡ y = cc in
      absurd (not_kept x d (ap (is_defined named) first ∙ h) is)
  one e (used {xs = xs} x names d is many body k) (used {xs = ys} y others c there much inner l) =
      let first : x ≡ y = cc in
      let both : Some d ≡ Some c = sym is ∙ ap named first ∙ there in
      let same : d ≡ c = cc in
      let few : length names ≡ length others = many ∙ ap (λ (k : DefinitionText). length k.parameters) same ∙ sym much in
      let tails : map free names ++ xs ≡ map free others ++ ys = cc in
      let parts = same_front names others xs ys few tails in
      both_same (one (λ j. body_with (same j) (parts.0 j)) body inner) (one parts.1 k l)

  pub one_expansion : (xs ys zs : List Terminal) → Expands named xs ys → Expands named xs zs → ys ≡ zs
  one_expansion xs ys zs h k = one refl h k
