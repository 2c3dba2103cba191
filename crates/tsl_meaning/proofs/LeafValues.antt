-- The values that are copied for a position.
use Rattle.std.proofs.Common.{◌≡◌, ◌∙◌, ℕ, ◌==◌, Bool, true, false, cond, List, [], ◌∷◌, ◌++◌, ◌+◌, length, map, Some, refl, sym, ap, arith}
use Rattle.std.specs.Option.{option_or}
use Rattle.std.proofs.lemmas.List.{length-append, length-map}
use Rattle.tsl_terms.specs.Value.{beside}
use Rattle.tsl_terms.proofs.Beside.{beside_joined}

module _ {V S : Type 0} (seen : V → S) (signals inputs cells : List ℕ) (values row held : List V) (are_signals : signals ≡ inputs ++ cells)
    (are_values : map seen values ≡ map seen row ++ map seen held) (rows : length row ≡ length inputs) where
  pub as_many : length held ≡ length cells → length signals ≡ length values
  as_many held_fit =
      let left : length signals ≡ length inputs + length cells = ap length are_signals ∙ length-append inputs cells in
      let right : length values ≡ length row + length held =
      sym (length-map values seen) ∙ ap length are_values ∙ length-append (map seen row) (map seen held)
      ∙ (λ i. length-map row seen i + length-map held seen i) in
      left ∙ (λ i. sym rows i + sym held_fit i) ∙ sym right

  pub leaf_values : (s : ℕ) →
      beside s signals (map seen values) ≡ option_or (beside s inputs (map seen row)) (beside s cells (map seen held))
  leaf_values s =
      (λ k. beside s (are_signals k) (are_values k))
      ∙ beside_joined s inputs cells (map seen row) (map seen held) (length-map row seen ∙ rows)
