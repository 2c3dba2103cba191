-- A fact on a result's value from what is known of the result.
use Rattle.std.proofs.Common.{◌≡◌, Result, Ok, Err, refl, subst}
use Rattle.std.specs.Prelude.{IfOk, OnOk}

module _ {T E : Type 0} (r : Result T E) where
  pub ok_from : (Q : T → Type 0) → ((x : T) → r ≡ Ok x → Q x) → IfOk r Q
  ok_from Q f = by r f
    where
      by : (s : Result T E) → ((x : T) → s ≡ Ok x → Q x) → IfOk s Q
      by (Ok x) g = g x refl
      by (Err e) g = tt

  pub value_has : (P : T → Type 0) (x : T) → r ≡ Ok x → IfOk r P → P x
  value_has P x is has = subst (λ s. IfOk s P) is has

  pub ok_has : (P : Type 0) (x : T) → r ≡ Ok x → OnOk r P → P
  ok_has P x is has = subst (λ s. OnOk s P) is has
