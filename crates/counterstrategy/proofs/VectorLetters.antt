-- The letters of vectors in a table.
use Rattle.std.proofs.Common.{◌≡◌, ◌∙◌, ℕ, ◌+◌, ◌<◌, List, get_or, Some, ap, arith}
use Rattle.std.proofs.lemmas.Option.{get_or_from_slice_get}
use Rattle.letter_space.specs.SpaceTree.{SpaceTree}
use Rattle.bounded_encoding.proofs.Ranges.{range_at}
use Rattle.counterstrategy.specs.internal.DualAsking.{vector_letter, vector_letters}

-- what stands in the table of letters
pub letter_there : (space : SpaceTree) (n : ℕ) (letters : List ℕ) → letters ≡ vector_letters space n → (u : ℕ) → u < n →
    get_or letters u 0 ≡ vector_letter space u
letter_there space n letters is u below =
    let place : 0 + u ≡ u = omega arith in
    ap (λ (ls : List ℕ). get_or ls u 0) is
    ∙ get_or_from_slice_get (vector_letters space n) u (vector_letter space u) 0
    (range_at (vector_letter space) 0 n u below ∙ ap (λ k. Some (vector_letter space k)) place)
