-- Literals that lie behind each other, parted into clauses.
use Rattle.std.proofs.Common.{◌≡◌, ℕ, zero, suc, ◌+◌, ◌-◌, ◌<◌, ◌≤◌, List, [], ◌∷◌, ◌++◌, length, take, drop, sym, ap, ◌∙◌, subst, refl, arith}
use Rattle.std.specs.Prelude.{Some, slice_get, slice_index_or}
use Rattle.std.specs.List.{AllByRecursion}
use Rattle.std.proofs.lemmas.List.{take-append-le, drop-append-le, length-append, length-drop}
use Rattle.std.proofs.Math.Seq.{take-length, drop-append_seam}
use Rattle.base_library.proofs.Each.{each_at, each_joined}
use Rattle.clause_core.specs.Literals.{Lit}
use Rattle.clause_core.specs.Clauses.{IsIncreasing}
use Rattle.clause_core.specs.internal.Parts.{parts, start_of, Rise, AreClauses}

-- ---- places

rise_up : (start : ℕ) (ends : List ℕ) (last : ℕ) → Rise start ends last → start ≤ last
rise_up start [] last same = omega (arith, same)
rise_up start (end ∷ ends) last rise = omega (arith, rise.0, rise_up end ends last rise.1)

pub start_below : (start : ℕ) (ends : List ℕ) (last place : ℕ) → Rise start ends last → place < length ends →
    start_of start ends place ≤ slice_index_or ends place 0
start_below start [] last place rise within = absurd (omega (arith, within))
start_below start (end ∷ ends) last zero rise within = rise.0
start_below start (end ∷ ends) last (suc zero) rise within = start_below end ends last zero rise.1 (omega (arith, within))
start_below start (end ∷ ends) last (suc (suc place)) rise within = start_below end ends last (suc place) rise.1 (omega (arith, within))

pub before_below : (ends : List ℕ) (last place : ℕ) → Rise 0 ends last → place < length ends → (place ≡ 0 → ⊥) →
    slice_index_or ends (place - 1) 0 ≤ slice_index_or ends place 0
before_below ends last zero rise within some = absurd (some refl)
before_below ends last (suc place) rise within some =
    let same : place ≡ suc place - 1 = omega (arith) in
    subst (λ k. slice_index_or ends k 0 ≤ slice_index_or ends (suc place) 0) same (start_below 0 ends last (suc place) rise within)

pub end_below : (start : ℕ) (ends : List ℕ) (last place : ℕ) → Rise start ends last → place < length ends →
    slice_index_or ends place 0 ≤ last
end_below start [] last place rise within = absurd (omega (arith, within))
end_below start (end ∷ ends) last zero rise within = rise_up end ends last rise.1
end_below start (end ∷ ends) last (suc place) rise within = end_below end ends last place rise.1 (omega (arith, within))

pub rise_more : (start : ℕ) (ends : List ℕ) (last next : ℕ) → Rise start ends last → last ≤ next → Rise start (ends ++ next ∷ []) next
rise_more start [] last next same more = (omega (arith, same, more), refl)
rise_more start (end ∷ ends) last next rise more = (rise.0, rise_more end ends last next rise.1 more)

-- ---- clauses

pub length_parts : (start : ℕ) (ends : List ℕ) (ls : List Lit) → length (parts start ends ls) ≡ length ends
length_parts start [] ls = refl
length_parts start (end ∷ ends) ls = ap suc (length_parts end ends ls)

-- the clause at a place
pub part_at : (start : ℕ) (ends : List ℕ) (ls : List Lit) (place : ℕ) → place < length ends → slice_get (parts start ends ls) place ≡
    Some (take (slice_index_or ends place 0 - start_of start ends place) (drop (start_of start ends place) ls))
part_at start [] ls place within = absurd (omega (arith, within))
part_at start (end ∷ ends) ls zero within = refl
part_at start (end ∷ ends) ls (suc zero) within = part_at end ends ls zero (omega (arith, within))
part_at start (end ∷ ends) ls (suc (suc place)) within = part_at end ends ls (suc place) (omega (arith, within))

-- one more clause
pub parts_more : (start : ℕ) (ends : List ℕ) (ls more : List Lit) → Rise start ends (length ls) →
    parts start (ends ++ (length ls + length more) ∷ []) (ls ++ more) ≡ parts start ends ls ++ more ∷ []
parts_more start [] ls more same = ap (λ xs. xs ∷ []) (subst (λ s. take (length ls + length more - s) (drop s (ls ++ more)) ≡ more) (sym same)
    (ap (take (length ls + length more - length ls)) (drop-append_seam ls more)
    ∙ (ap (λ n. take n more) (omega (arith)) ∙ take-length more)))
parts_more start (end ∷ ends) ls more rise =
    let low : start ≤ length ls = omega (arith, rise.0, rise_up end ends (length ls) rise.1) in
    let high : end ≤ length ls = rise_up end ends (length ls) rise.1 in
    let here : take (end - start) (drop start (ls ++ more)) ≡ take (end - start) (drop start ls) =
    ap (take (end - start)) (drop-append-le start ls more low)
    ∙ take-append-le (end - start) (drop start ls) more (omega (arith, high, length-drop start ls)) in
    ap (λ xs. xs ∷ parts end (ends ++ (length ls + length more) ∷ []) (ls ++ more)) here
    ∙ ap (λ xss. take (end - start) (drop start ls) ∷ xss) (parts_more end ends ls more rise.1)

pub clauses_more : (ends : List ℕ) (ls more : List Lit) (new_ends : List ℕ) (new_ls : List Lit) → AreClauses ends ls → IsIncreasing more →
    new_ls ≡ ls ++ more → new_ends ≡ ends ++ length new_ls ∷ [] → AreClauses new_ends new_ls × (parts 0 new_ends new_ls ≡ parts 0 ends ls ++ more ∷ [])
clauses_more ends ls more new_ends new_ls are up longer ended =
    let long : length new_ls ≡ length ls + length more = ap length longer ∙ length-append ls more in
    let end_is : new_ends ≡ ends ++ (length ls + length more) ∷ [] = ended ∙ ap (λ n. ends ++ n ∷ []) long in
    let parts_are : parts 0 new_ends new_ls ≡ parts 0 ends ls ++ more ∷ [] =
    ap (λ es. parts 0 es new_ls) end_is ∙ ap (parts 0 (ends ++ (length ls + length more) ∷ [])) longer ∙ parts_more 0 ends ls more are.rise in (
      record {
        rise = subst (λ es. Rise 0 es (length new_ls)) (sym ended)
            (rise_more 0 ends (length ls) (length new_ls) are.rise (omega (arith, long)));
        increasing = subst (AllByRecursion IsIncreasing) (sym parts_are)
            (each_joined IsIncreasing (parts 0 ends ls) (more ∷ []) are.increasing (up, tt));
      },
      parts_are,
    )

-- the clause at a place, where its literals begin and end, and that they rise
pub clause_at : (ends : List ℕ) (ls : List Lit) (place start end : ℕ) → AreClauses ends ls → place < length ends →
    start ≡ start_of 0 ends place → end ≡ slice_index_or ends place 0 →
    (slice_get (parts 0 ends ls) place ≡ Some (take (end - start) (drop start ls))) × IsIncreasing (take (end - start) (drop start ls))
clause_at ends ls place start end are within begins ends_at =
    let there : slice_get (parts 0 ends ls) place ≡ Some (take (end - start) (drop start ls)) =
    part_at 0 ends ls place within
    ∙ ap (λ n. Some (take (n - start_of 0 ends place) (drop (start_of 0 ends place) ls))) (sym ends_at)
    ∙ ap (λ n. Some (take (end - n) (drop n ls))) (sym begins) in
    (there, each_at IsIncreasing (parts 0 ends ls) place (take (end - start) (drop start ls)) are.increasing there)
