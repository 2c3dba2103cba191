-- One take after another, and one write after another.
use Rattle.std.proofs.Common.{◌≡◌, ℕ, ◌+◌, ◌-◌, List, ◌++◌, length, take, drop, Option, Some, None, refl, sym, ap, [], ◌∙◌, append_assoc}
use Rattle.std.proofs.Common.{append-nil, length-append, ◌≤◌, arith}
use Rattle.std.proofs.lemmas.List.{take_rest}
use Rattle.std.proofs.Math.Seq.{take-add}
use Rattle.tsl_io.specs.Told.{before, with_added, WhereTold, TakesPrefix}

-- two takes are one
pub before-before : (xs ys : List ℕ) (told : Option (List ℕ)) → before xs (before ys told) ≡ before (xs ++ ys) told
before-before xs ys None = refl
before-before xs ys (Some rest) = ap Some (sym (append_assoc xs ys rest))

-- two writes are one
pub with_added-twice : (xs ys : List ℕ) (told : Option (List ℕ)) → with_added ys (with_added xs told) ≡ with_added (xs ++ ys) told
with_added-twice xs ys None = refl
with_added-twice xs ys (Some had) = ap Some (append_assoc had xs ys)

-- a piece leaves what was left for the text
pub piece_taken : (text piece : List ℕ) (told rest : Option (List ℕ)) → told ≡ before piece rest →
    before (text ++ piece) rest ≡ before text told
piece_taken text piece told rest more = sym (before-before text piece rest) ∙ ap (before text) (sym more)

-- a text that was taken so far, and some first bytes of the rest
pub takes_more : (text : List ℕ) (first told rest : Option (List ℕ)) → before text told ≡ first → TakesPrefix told rest →
    TakesPrefix first rest
takes_more text first told rest so_far more = (text ++ more.0, sym so_far ∙ ap (before text) more.1 ∙ before-before text more.0 rest)

-- bytes that were written so far, and the first of those that are left
pub added_more : (bytes : List ℕ) (done count : ℕ) (first told new : Option (List ℕ)) → told ≡ with_added (take done bytes) first →
    new ≡ with_added (take count (take (length bytes - done) (drop done bytes))) told → new ≡ with_added (take (done + count) bytes) first
added_more bytes done count first told new so_far more =
    more ∙ ap (λ rest. with_added (take count rest) told) (take_rest bytes done) ∙ ap (with_added (take count (drop done bytes))) so_far
    ∙ with_added-twice (take done bytes) (take count (drop done bytes)) first
    ∙ ap (λ front. with_added front first) (sym (take-add done count bytes))

-- a text that was taken so far is the whole, where no byte is left
pub finished : (text bytes : List ℕ) (first told : Option (List ℕ)) → before text told ≡ first → WhereTold told (λ rest. rest ≡ []) →
    first ≡ Some bytes → (text ≡ bytes) × (told ≡ Some [])
finished text bytes first None so_far none is = absurd (cc)
finished text bytes first (Some rest) so_far none is =
    let e : rest ≡ [] = none rest refl in
    let whole : text ++ rest ≡ bytes = cc in
    (sym (append-nil text) ∙ ap (λ xs. text ++ xs) (sym e) ∙ whole, ap Some e)

-- a text that was taken so far is no longer than what was there
pub length_taken : (text bytes : List ℕ) (first told : Option (List ℕ)) → before text told ≡ first → first ≡ Some bytes →
    length text ≤ length bytes
length_taken text bytes first None so_far is = absurd (cc)
length_taken text bytes first (Some rest) so_far is =
    let whole : text ++ rest ≡ bytes = cc in
    omega (arith, length-append text rest, ap length whole)
