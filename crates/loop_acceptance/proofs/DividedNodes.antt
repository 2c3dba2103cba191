-- A node's position and state, found by a multiplication.
use Rattle.std.proofs.Common.{◌≡◌, ◌∙◌, ℕ, ◌+◌, ◌-◌, ◌*◌, ◌/◌, ◌%◌, ◌^◌, ◌<◌, ◌≤◌, sym, ap, arith}
use Rattle.std.proofs.lemmas.Nat.{div-add-mod', div-mul-add, mod-mul-add, mod_below, mul-le}

module _ (states factor node : ℕ) (some : 1 ≤ states) (goes_in : factor ≡ 2 ^ 32 / states) (fits : node < 2 ^ 32) where
  abbrev tried : ℕ
  tried = node * factor / 2 ^ 32

  -- the factor's multiple comes near to 2 ^ 32
  factor_below : factor * states ≤ 2 ^ 32
  factor_below =
      let split = div-add-mod' (2 ^ 32) states in
      let same : factor * states ≡ 2 ^ 32 / states * states = ap (λ f. f * states) goes_in in
      omega (arith, split, same)

  factor_near : 2 ^ 32 < factor * states + states
  factor_near =
      let split = div-add-mod' (2 ^ 32) states in
      let rest = mod_below (2 ^ 32) states some in
      let same : factor * states ≡ 2 ^ 32 / states * states = ap (λ f. f * states) goes_in in
      omega (arith, split, same, rest)

  -- so the product with the factor gives no more than the position
  pub tried_below : tried * states ≤ node
  tried_below =
      let most : tried * states * 2 ^ 32 ≤ node * (factor * states) =
      (let part : tried * 2 ^ 32 ≤ node * factor = omega arith in
      let times = mul-le (tried * 2 ^ 32) states (node * factor) states part (omega arith) in
      let left : tried * 2 ^ 32 * states ≡ tried * states * 2 ^ 32 = grind arith in
      let right : node * factor * states ≡ node * (factor * states) = grind arith in
      omega (arith, times, left, right)) in
      let few = mul-le node (factor * states) node (2 ^ 32) (omega arith) factor_below in
      omega (arith, most, few)

  -- and no less than the one before it: the next multiple but one is above the node
  pub tried_near : node < tried * states + states + states
  tried_near =
      let above : node * 2 ^ 32 < (tried * states + states + states) * 2 ^ 32 =
      (let part : node * factor + 1 ≤ tried * 2 ^ 32 + 2 ^ 32 = omega arith in
      let times = mul-le (node * factor + 1) states (tried * 2 ^ 32 + 2 ^ 32) states part (omega arith) in
      let near = mul-le node (2 ^ 32) node (factor * states + states) (omega arith) (let n = factor_near in omega (arith, n)) in
      let left : (node * factor + 1) * states ≡ node * (factor * states) + states = grind arith in
      let right : (tried * 2 ^ 32 + 2 ^ 32) * states ≡ (tried * states + states) * 2 ^ 32 = grind arith in
      let spread : node * (factor * states + states) ≡ node * (factor * states) + node * states = grind arith in
      let few = mul-le node states (2 ^ 32) states (omega arith) (omega arith) in
      omega (arith, times, near, left, right, spread, few, some)) in
      omega (arith, above)

  abbrev rest : ℕ
  rest = node - tried * states

  -- then it is the quotient, or one less
  pub is_quotient : rest < states → (tried ≡ node / states) × (rest ≡ node % states)
  is_quotient less =
      let whole : tried * states + rest ≡ node = (let below = tried_below in omega (arith, below)) in (
        sym (div-mul-add tried states rest less) ∙ ap (λ n. n / states) whole,
        sym (mod-mul-add tried states rest less) ∙ ap (λ n. n % states) whole,
      )

  pub is_one_less : states ≤ rest → (tried + 1 ≡ node / states) × (rest - states ≡ node % states)
  is_one_less more =
      let less : rest - states < states = (let near = tried_near in omega (arith, near, more, some)) in
      let one : (tried + 1) * states ≡ tried * states + states = grind arith in
      let whole : (tried + 1) * states + (rest - states) ≡ node = omega (arith, one, more) in (
        sym (div-mul-add (tried + 1) states (rest - states) less) ∙ ap (λ n. n / states) whole,
        sym (mod-mul-add (tried + 1) states (rest - states) less) ∙ ap (λ n. n % states) whole,
      )
