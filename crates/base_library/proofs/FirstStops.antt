-- The first member with which no list of a kind begins stands at one place.
use Rattle.std.proofs.Common.{◌≡◌, List, [], ◌∷◌, ◌++◌, refl, sym, subst}
use Rattle.base_library.proofs.Lists.{heads, tails}

pub one_stop : {A : Type 0} (Begins : List A → Type 0) → ((p q : List A) → Begins (p ++ q) → Begins p) →
    (b c : List A) (t u : A) (a e : List A) →
    b ++ t ∷ a ≡ c ++ u ∷ e → Begins b → (Begins (b ++ t ∷ []) → ⊥) → Begins c → (Begins (c ++ u ∷ []) → ⊥) → (b ≡ c) × (t ≡ u)
one_stop Begins shorter [] [] t u a e same first stops second ends = (refl, heads t u a e same)
one_stop Begins shorter [] (y ∷ c) t u a e same first stops second ends =
    absurd (stops (subst (λ z. Begins (z ∷ [])) (sym (heads t y a (c ++ u ∷ e) same)) (shorter (y ∷ []) c second)))
one_stop Begins shorter (x ∷ b) [] t u a e same first stops second ends =
    absurd (ends (subst (λ z. Begins (z ∷ [])) (heads x u (b ++ t ∷ a) e same) (shorter (x ∷ []) b first)))
one_stop Begins shorter (x ∷ b) (y ∷ c) t u a e same first stops second ends =
    let head : x ≡ y = heads x y (b ++ t ∷ a) (c ++ u ∷ e) same in
    let rest = one_stop (λ zs. Begins (x ∷ zs)) (λ p q. shorter (x ∷ p) q) b c t u a e
    (tails x y (b ++ t ∷ a) (c ++ u ∷ e) same) first stops
    (subst (λ z. Begins (z ∷ c)) (sym head) second) (λ k. ends (subst (λ z. Begins (z ∷ (c ++ u ∷ []))) head k)) in
    ((λ i. head i ∷ rest.0 i), rest.1)
