-- Pieces that stand in a text one after another.
use Rattle.std.proofs.Common.{◌≡◌, ◌+◌, ◌≤◌, List, [], ◌∷◌, ◌++◌, length, length-append, refl, sym, ap, subst, ◌∙◌, arith}
use Rattle.program_listing.specs.LineText.{Piece, word, named, Place, Stand}

pub stand_append : (xs ys : List Piece) (p q r : Place) → Stand xs p q → Stand ys q r → Stand (xs ++ ys) p r
stand_append [] ys p q r h k = let P : Place → Type 0 = λ s. Stand ys s r in subst P (sym h) k
stand_append (word w ∷ xs) ys p q r h k = (h.0, h.1, stand_append xs ys _ q r h.2 k)
stand_append (named n ∷ xs) ys p q r h k = (h.0, h.1, h.2, h.3, h.4, stand_append xs ys _ q r h.5 k)

-- where the first pieces end and the others begin
pub stand_split : (xs ys : List Piece) (p r : Place) → Stand (xs ++ ys) p r → (q : Place) × Stand xs p q × Stand ys q r
stand_split [] ys p r h = (p, refl, h)
stand_split (word w ∷ xs) ys p r h =
    let rest = stand_split xs ys _ r h.2 in
    (rest.0, (h.0, h.1, rest.1), rest.2)
stand_split (named n ∷ xs) ys p r h =
    let rest = stand_split xs ys _ r h.5 in
    (rest.0, (h.0, h.1, h.2, h.3, h.4, rest.1), rest.2)

pub stand_shorter : (xs : List Piece) (p q : Place) → Stand xs p q → length q.bytes ≤ length p.bytes
stand_shorter [] p q h = let e : length p.bytes ≡ length q.bytes = ap (λ (s : Place). length s.bytes) h in omega arith
stand_shorter (word w ∷ xs) p q h =
    let rest : length q.bytes ≤ length h.0 = stand_shorter xs _ q h.2 in
    let whole : length p.bytes ≡ length w + length h.0 = ap length h.1 ∙ length-append w h.0 in
    omega arith
stand_shorter (named n ∷ xs) p q h =
    let rest : length q.bytes ≤ length h.1 = stand_shorter xs _ q h.5 in
    let whole : length p.bytes ≡ length h.0 + length h.1 = ap length h.2 ∙ length-append h.0 h.1 in
    omega arith
