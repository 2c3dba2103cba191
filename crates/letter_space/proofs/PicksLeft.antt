-- A loop that picks the choices of a vector, one signal after another.
use Rattle.std.proofs.Common.{◌≡◌, ◌∙◌, ℕ, ◌+◌, ◌*◌, ◌/◌, ◌%◌, ◌<◌, ◌≤◌, List, [], ◌∷◌, ◌++◌, length, map, drop, get_or}
use Rattle.std.proofs.Common.{sym, ap, append-nil, append_assoc, arith}
use Rattle.std.proofs.Math.Nat.{mul_comm, mul-div_cancel_left}
use Rattle.std.proofs.lemmas.List.{drop_more, drop_all}
use Rattle.letter_space.specs.declared.controlled.Controlled.{Controlled}
use Rattle.letter_space.specs.ControlledView.{controlled_tree}
use Rattle.letter_space.specs.Vectors.{picks_of}
use Rattle.letter_space.proofs.Bounds.{vectors_left, counted_next}
use Rattle.letter_space.proofs.VectorPicks.{some_columns}

module _ (xs : List Controlled) where
  abbrev pub picks_left : ℕ → ℕ → List ℕ
  picks_left i rest = picks_of (map controlled_tree (drop i xs)) rest

  -- how many vectors are left, by the choices of the next signal
  pub left_is : (i : ℕ) (x : Controlled) → i < length xs → x ≡ get_or xs i x →
      vectors_left xs i ≡ length x.choices * vectors_left xs (i + 1)
  left_is i x within is = let counted = counted_next xs i x 1 within is in grind (arith, counted)

  pub left_next : (i left rest count : ℕ) (x : Controlled) → i < length xs → x ≡ get_or xs i x → left ≡ vectors_left xs i →
      count ≡ length x.choices → rest < left → (left / count ≡ vectors_left xs (i + 1)) × (0 < left / count)
  left_next i left rest count x within is counted sized below =
      let whole : left ≡ count * vectors_left xs (i + 1)
      = counted ∙ (left_is i x within is ∙ ap (λ n. n * vectors_left xs (i + 1)) (sym sized)) in
      let inside : rest < count * vectors_left xs (i + 1) = omega (arith, whole, below) in
      let some = some_columns count (vectors_left xs (i + 1)) rest inside in
      let some_count = some_columns (vectors_left xs (i + 1)) count rest
      (omega (arith, inside, mul_comm (vectors_left xs (i + 1)) count)) in
      let next : left / count ≡ vectors_left xs (i + 1)
      = ap (λ n. n / count) whole ∙ mul-div_cancel_left (vectors_left xs (i + 1)) some_count in
      (next, omega (arith, next, some))

  -- one turn, and the end
  pub picked_turn : (whole old new : List ℕ) (i rest left : ℕ) (x : Controlled) → i < length xs → x ≡ get_or xs i x →
      left ≡ vectors_left xs (i + 1) → old ++ picks_left i rest ≡ whole → new ≡ old ++ (rest / left) ∷ [] →
      new ++ picks_left (i + 1) (rest % left) ≡ whole
  picked_turn whole old new i rest left x within is counted so_far pushed =
      ap (λ (ps : List ℕ). ps ++ picks_left (i + 1) (rest % left)) pushed
      ∙ (append_assoc old (rest / left ∷ []) (picks_left (i + 1) (rest % left))
      ∙ ((λ k. old ++ (rest / counted k) ∷ picks_left (i + 1) (rest % counted k))
      ∙ (ap (λ (ys : List Controlled). old ++ picks_of (map controlled_tree ys) rest) (sym signals) ∙ so_far)))
    where
      signals : drop i xs ≡ x ∷ drop (i + 1) xs
      signals = drop_more xs i x within ∙ ap (λ (y : Controlled). y ∷ drop (i + 1) xs) (sym is)

  pub picked_all : (whole picks : List ℕ) (i rest : ℕ) → length xs ≤ i → picks ++ picks_left i rest ≡ whole → picks ≡ whole
  picked_all whole picks i rest past so_far =
      sym (append-nil picks)
      ∙ (ap (λ (ys : List Controlled). picks ++ picks_of (map controlled_tree ys) rest) (sym (drop_all i xs past)) ∙ so_far)
