-- What an operator makes of planes is what the operator is found to be makes of them.
use Rattle.std.proofs.Common.{◌≡◌, ℕ, Bool, List, subst, sym}
use Rattle.loop_shape.specs.LoopShape.{LoopShape}
use Rattle.position_planes.specs.Positions.{IsPlaneOf}
use Rattle.tsl_terms.specs.declared.operator.UnaryOperator.{UnaryOperator}
use Rattle.tsl_terms.specs.declared.operator.BinaryOperator.{BinaryOperator}
use Rattle.tsl_meaning.specs.Lasso.{unary_at, binary_at}

module _ (n : ℕ) (shape : LoopShape) where
  abbrev pub MakesUnary : UnaryOperator → List ℕ → List ℕ → Type 0
  MakesUnary op plane new = (a : ℕ → Bool) → IsPlaneOf n a plane → IsPlaneOf n (unary_at shape op a) new

  abbrev pub MakesBinary : BinaryOperator → List ℕ → List ℕ → List ℕ → Type 0
  MakesBinary op left right new =
      (a b : ℕ → Bool) → IsPlaneOf n a left → IsPlaneOf n b right → IsPlaneOf n (binary_at shape op a b) new

  pub unary_known : (op known : UnaryOperator) (plane new : List ℕ) → op ≡ known → MakesUnary known plane new → MakesUnary op plane new
  unary_known op known plane new is makes = subst (λ o. MakesUnary o plane new) (sym is) makes

  -- the right plane may be lent
  pub binary_known : (op known : BinaryOperator) (left right lent new : List ℕ) → op ≡ known → lent ≡ right →
      MakesBinary known left lent new → MakesBinary op left right new
  binary_known op known left right lent new is same makes =
      subst (λ o. MakesBinary o left right new) (sym is) (subst (λ r. MakesBinary known left r new) same makes)
