-- Readers of one terminal by its value, and of the end.
use Rattle.std.proofs.Common.{◌≡◌, ℕ, List, [], ◌∷◌, refl, ap, sym, ◌∙◌}
use Rattle.std.specs.Prelude.{Option, Some, None}
use Rattle.reader_combinators.specs.Readers.{value_or_wrong, taking, at_end}
use Rattle.reader_combinators.specs.Exact.{Grammar, Begins, Exact}
use Rattle.reader_combinators.proofs.Terminals.{Turn, by_first, end_wrong, end_gives, turn_wrong, turn_alone}
use Rattle.reader_combinators.proofs.Then.{Any}

module _ {T V : Type 0} where
  -- one terminal that has this value
  abbrev pub IsTaken : (T → Option V) → Grammar T V
  IsTaken value r xs v = (x : T) × (xs ≡ x ∷ []) × (value x ≡ Some v)

  -- some terminal has a value
  pub record HasExample (value : T → Option V) : Type 0 where
    pub example : T
    pub result : V
    pub is : value example ≡ Some result

  -- the same, where levels play no part
  abbrev pub IsOne : (T → Option V) → List T → V → Type 0
  IsOne value xs v = IsTaken value 0 xs v

  pub taken_begins : (value : T → Option V) → HasExample value → (r : ℕ) → Begins (IsTaken value r) []
  taken_begins value e r = record { ending = e.example ∷ []; value = e.result; derives = (e.example, refl, e.is) }

  pub taken_exact : (value : T → Option V) → HasExample value → (levels_left : ℕ) → Exact (IsTaken value) Any levels_left (taking value)
  unfolding taking
  taken_exact value e levels_left =
      by_first (end_wrong refl (taken_begins value e levels_left) (λ r v h. nothing r v h)) (λ x. by x (value x) refl) where
        nothing : (r : ℕ) (v : V) → IsTaken value r [] v → ⊥
        nothing r v h = let same = h.1 in cc

        only : (x : T) (v : V) → value x ≡ Some v → (r : ℕ) (ys : List T) (w : V) → IsTaken value r (x ∷ ys) w → (ys ≡ []) × (w ≡ v)
        only x v is r ys w h =
            let first : x ≡ h.0 = cc in
            let found : Some v ≡ Some w = sym is ∙ ap value first ∙ h.2 in
            (cc, cc)

        none_is : (x : T) → value x ≡ None → (r : ℕ) (ys : List T) (w : V) → IsTaken value r (x ∷ ys) w → ⊥
        none_is x is r ys w h =
            let first : x ≡ h.0 = cc in
            let found : None ≡ Some w = sym is ∙ ap value first ∙ h.2 in
            cc

        by : (x : T) (o : Option V) → value x ≡ o → Turn (IsTaken value) Any levels_left (taking value) x
        by x (Some v) is = turn_alone v (λ rest. ap (λ o. value_or_wrong o x rest) is) (λ r. (x, refl, is)) (only x v is)
        by x None is = turn_wrong (λ rest. ap (λ o. value_or_wrong o x rest) is) (taken_begins value e levels_left) (none_is x is)

-- nothing more
abbrev pub IsEnd : {T : Type 0} → Grammar T (Unit {0})
IsEnd r xs v = xs ≡ []

-- no terminal
abbrev pub Never : {T : Type 0} → T → Type 0
Never x = ⊥

pub end_exact : {T : Type 0} (levels_left : ℕ) → Exact (IsEnd {T = T}) Never levels_left at_end
unfolding at_end
end_exact levels_left = by_first (end_gives tt refl refl (λ r w h. refl) (λ x rest h. absurd h))
    (λ x. turn_wrong (λ rest. refl) (record { ending = []; value = tt; derives = refl }) (λ r ys v h. cc))

pub end_begins : {T : Type 0} → Begins (IsEnd {T = T} 0) []
end_begins = record { ending = []; value = tt; derives = refl }
