-- Planes that were changed from one word up to another.
use Rattle.std.proofs.Common.{◌≡◌, ◌∙◌, ℕ, ◌+◌, ◌-◌, ◌<◌, ◌≤◌, inl, inr, List, [], ◌∷◌, map, length, refl, sym, ap, ap₂, arith}
use Rattle.std.proofs.lemmas.Bool.{cases_lt}
use Rattle.std.specs.Prelude.{slice_set}
use Rattle.std.proofs.lemmas.List.{get_or-set_same, get_or-set_other}
use Rattle.std.proofs.lemmas.Simd.{length-chunk, length-zip2, get_or-zip2, get_or-chunk, get_or-put_chunk_at, get_or-put_chunk_below}
use Rattle.std.proofs.lemmas.Simd.{get_or-put_chunk_above}
use lib.Lanes.{chunk, put_chunk, zip2}
use Rattle.lane_planes.specs.Planes.{word_at}
use Rattle.lane_planes.specs.internal.Parts.{IsJoined}

-- lanes that were loaded, put together and stored
pub lanes_joined : (op : ℕ → ℕ → ℕ) (at n : ℕ) (old other : List ℕ) → at + n ≤ length old → at + n ≤ length other →
    IsJoined op at (at + n) old other (put_chunk at old (zip2 op (chunk at n old) (chunk at n other)))
lanes_joined op at n old other room beside = record {
  inside = λ k from to.
      let j : ℕ = k - at in
      let back : at + j ≡ k = omega (arith, from) in
      let few : j < n = omega (arith, from, to) in
      ap (λ i. word_at (put_chunk at old lanes) i) (sym back)
      ∙ get_or-put_chunk_at at old lanes j 0 (omega (arith, few, long)) (omega (arith, room, long))
      ∙ get_or-zip2 op (chunk at n old) (chunk at n other) j 0 0 0 (omega (arith, few, left)) (omega (arith, few, right))
      ∙ ap₂ op (get_or-chunk at n old j 0 few ∙ ap (word_at old) back) (get_or-chunk at n other j 0 few ∙ ap (word_at other) back);
  below = λ k under. get_or-put_chunk_below at old lanes k 0 under;
  above = λ k over. get_or-put_chunk_above at old lanes k 0 (omega (arith, over, long));
}
  where
    lanes : List ℕ
    lanes = zip2 op (chunk at n old) (chunk at n other)

    left : length (chunk at n old) ≡ n
    left = length-chunk at n old room

    right : length (chunk at n other) ≡ n
    right = length-chunk at n other beside

    long : length lanes ≡ n
    long = length-zip2 op (chunk at n old) (chunk at n other) (left ∙ sym right) ∙ left

-- the next words of a plane of which those before are put together
pub joined_on : (op : ℕ → ℕ → ℕ) (from at to : ℕ) (old other now new : List ℕ) → from ≤ at → at ≤ to →
    IsJoined op from at old other now → IsJoined op at to now other new → IsJoined op from to old other new
joined_on op from at to old other now new begun ends before after = record {
  inside = λ k over under. elim (cases_lt k at) [
    | inl done ↦ after.below k done ∙ before.inside k over done
    | inr next ↦ after.inside k next under ∙ ap (λ w. op w (word_at other k)) (before.above k next)
  ];
  below = λ k under. after.below k (omega (arith, under, begun)) ∙ before.below k under;
  above = λ k over. after.above k over ∙ before.above k (omega (arith, over, ends));
}

-- no word
pub none_joined : (op : ℕ → ℕ → ℕ) (from : ℕ) (old other : List ℕ) → IsJoined op from from old other old
none_joined op from old other = record {
  inside = λ k over under. absurd (omega (arith, over, under));
  below = λ k under. refl;
  above = λ k over. refl;
}

-- lanes put together and then changed, and lanes that are changed alone
pub map_joined : (f : ℕ → ℕ) (op : ℕ → ℕ → ℕ) (xs ys : List ℕ) → map f (zip2 op xs ys) ≡ zip2 (λ x y. f (op x y)) xs ys
map_joined f op [] ys = refl
map_joined f op (x ∷ xs) [] = refl
map_joined f op (x ∷ xs) (y ∷ ys) = ap (λ zs. f (op x y) ∷ zs) (map_joined f op xs ys)

pub map_alone : (f : ℕ → ℕ) (xs : List ℕ) → map f xs ≡ zip2 (λ x y. f x) xs xs
map_alone f [] = refl
map_alone f (x ∷ xs) = ap (λ zs. f x ∷ zs) (map_alone f xs)

-- one word
pub word_joined : (op : ℕ → ℕ → ℕ) (at v : ℕ) (old other : List ℕ) → at < length old → v ≡ op (word_at old at) (word_at other at) →
    IsJoined op at (at + 1) old other (slice_set old at v)
word_joined op at v old other within is = record {
  inside = λ k from to.
      let here : k ≡ at = omega (arith, from, to) in
      ap (word_at (slice_set old at v)) here ∙ get_or-set_same old at v 0 within ∙ is
      ∙ (λ i. op (word_at old (sym here i)) (word_at other (sym here i)));
  below = λ k under. get_or-set_other old at k v 0 (λ same. absurd (omega (arith, same, under)));
  above = λ k over. get_or-set_other old at k v 0 (λ same. absurd (omega (arith, same, over)));
}
