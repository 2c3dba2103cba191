-- When two configurations are the same.
use Rattle.std.proofs.Common.{◌≡◌, ◌∙◌, ℕ, ◌<◌, Bool, List, length, map, drop, get_or, slice_get, refl, sym, ap, arith}
use Rattle.std.specs.Prelude.{IsTrue, option_map}
use Rattle.std.proofs.lemmas.List.{drop-map}
use Rattle.std.proofs.lemmas.Option.{same_Some, slice_get-map, slice_get_read}
use Rattle.tsl_meaning.specs.Run.{Configuration}
use Rattle.table_runner.specs.declared.standing.Standing.{Standing}
use Rattle.table_runner.specs.Standings.{shown}

module _ {V S : Type 0} (seen : V → S) where
  -- what is seen of the members at a place
  pub same_at : (xs ys : List V) (i : ℕ) (x y : V) → map seen xs ≡ map seen ys → length xs ≡ length ys → i < length xs →
      x ≡ get_or xs i x → y ≡ get_or ys i y → seen x ≡ seen y
  same_at xs ys i x y same long within here there =
      same_Some (seen x) (seen y)
      (sym (slice_get-map seen xs i ∙ ap (option_map seen) (slice_get_read xs (length xs) i x refl within here))
      ∙ ap (λ zs. slice_get zs i) same
      ∙ slice_get-map seen ys i ∙ ap (option_map seen) (slice_get_read ys (length ys) i y refl (omega (arith, long, within)) there))

  pub same_shown : (n : ℕ) (a b : Standing V) (r : Bool) (us ws : List V) → a.place ≡ b.place → a.state ≡ b.state →
      us ≡ drop n a.leaves.values → ws ≡ drop n b.leaves.values →
      (IsTrue r → map seen us ≡ map seen ws) × (map seen us ≡ map seen ws → IsTrue r) →
      (IsTrue r → shown seen n a ≡ shown seen n b) × (shown seen n a ≡ shown seen n b → IsTrue r)
  same_shown n a b r us ws place state first second tells = (
    λ holds. by (tells.0 holds),
    λ same. tells.1 (ap (map seen) first ∙ sym (drop-map seen n a.leaves.values) ∙ ap (λ (c : Configuration S). c.cells) same
        ∙ drop-map seen n b.leaves.values ∙ sym (ap (map seen) second)),
  )
    where
      by : map seen us ≡ map seen ws → shown seen n a ≡ shown seen n b
      by same =
          let cells : drop n (map seen a.leaves.values) ≡ drop n (map seen b.leaves.values) =
          drop-map seen n a.leaves.values ∙ sym (ap (map seen) first) ∙ same ∙ ap (map seen) second
          ∙ sym (drop-map seen n b.leaves.values) in
          λ i. record { place = place i; state = state i; cells = cells i }
