-- Truths of variables and gates: those of first variables stay, and a gate has the truth of its two literals.
use Rattle.std.proofs.Common.{◌≡◌, ◌∙◌, ℕ, zero, suc, ◌+◌, ◌*◌, ◌/◌, ◌%◌, ◌<◌, ◌==◌, Bool, false, not, ◌&&◌, List, [], ◌∷◌, ◌++◌, length, get_or}
use Rattle.std.proofs.Common.{Some, slice_get, refl, sym, ap, arith, if◌then◌else◌, length-append}
use Rattle.std.proofs.lemmas.Option.{none-some, same_Some}
use Rattle.std.proofs.lemmas.List.{get_or_append_left, get_or_at}
use Rattle.circuits.specs.Circuits.{GateTree, truth, with_gates}

pub length-with_gates : (known : List Bool) (gates : List GateTree) → length (with_gates known gates) ≡ length known + length gates
length-with_gates known [] = omega arith
length-with_gates known (g ∷ gs) =
    length-with_gates (known ++ (truth known g.left && truth known g.right) ∷ []) gs
    ∙ (let one = length-append known ((truth known g.left && truth known g.right) ∷ []) in omega (arith, one))

pub with_gates-append : (known : List Bool) (gates more : List GateTree)
    → with_gates known (gates ++ more) ≡ with_gates (with_gates known gates) more
with_gates-append known [] more = refl
with_gates-append known (g ∷ gs) more = with_gates-append (known ++ (truth known g.left && truth known g.right) ∷ []) gs more

-- what is known of a variable stays so
pub known_stays : (known : List Bool) (gates : List GateTree) (v : ℕ) → v < length known
    → get_or (with_gates known gates) v false ≡ get_or known v false
known_stays known [] v within = refl
known_stays known (g ∷ gs) v within =
    let t = (truth known g.left && truth known g.right) ∷ [] in
    let longer : v < length (known ++ t) = omega (arith, length-append known t, within) in
    known_stays (known ++ t) gs v longer ∙ get_or_append_left known t false v within

-- the truth of a literal is that of its variable or the opposite
abbrev signed : ℕ → Bool → Bool
signed literal t = if (literal % 2) == 1 then not t else t

pub literal_stays : (known : List Bool) (gates : List GateTree) (literal : ℕ) → literal < 2 * length known
    → truth (with_gates known gates) literal ≡ truth known literal
literal_stays known gates literal within =
    let v : literal / 2 < length known = omega (arith, within) in
    ap (signed literal) (known_stays known gates (literal / 2) v)

pub gates_stay : (known : List Bool) (gates more : List GateTree) (literal : ℕ) → literal < 2 * (length known + length gates)
    → truth (with_gates known (gates ++ more)) literal ≡ truth (with_gates known gates) literal
gates_stay known gates more literal within =
    ap (λ ts. truth ts literal) (with_gates-append known gates more)
    ∙ literal_stays (with_gates known gates) more literal (omega (arith, within, length-with_gates known gates))

-- the literal of a gate
pub gate_truth : (known : List Bool) (gates : List GateTree) (k : ℕ) (g : GateTree) → slice_get gates k ≡ Some g
    → g.left < 2 * (length known + k) → g.right < 2 * (length known + k)
    → truth (with_gates known gates) ((length known + k) * 2) ≡
    (truth (with_gates known gates) g.left && truth (with_gates known gates) g.right)
gate_truth known [] k g at left right = absurd (none-some g at)
gate_truth known (h ∷ gs) zero g at left right =
    let t = truth known h.left && truth known h.right in
    let same : h ≡ g = same_Some h g at in
    let even : (length known + 0) * 2 % 2 ≡ 0 = omega arith in
    let half : (length known + 0) * 2 / 2 ≡ length known = omega arith in
    let longer : length known < length (known ++ t ∷ []) = omega (arith, length-append known (t ∷ [])) in
    let here : get_or (with_gates (known ++ t ∷ []) gs) (length known) false ≡ t =
    known_stays (known ++ t ∷ []) gs (length known) longer ∙ get_or_at known t [] false (length known) refl in
    even_literal (with_gates (known ++ t ∷ []) gs) ((length known + 0) * 2) even
    ∙ ap (λ v. get_or (with_gates (known ++ t ∷ []) gs) v false) half ∙ here
    ∙ ap (λ x. truth known x.left && truth known x.right) same
    ∙ both (sym (literal_stays known (h ∷ gs) g.left (omega (arith, left))))
    (sym (literal_stays known (h ∷ gs) g.right (omega (arith, right))))
  where
    both : {a b c d : Bool} → a ≡ b → c ≡ d → (a && c) ≡ (b && d)
    both e f = rw (e, f) refl

    even_literal : (ts : List Bool) (l : ℕ) → l % 2 ≡ 0 → truth ts l ≡ get_or ts (l / 2) false
    even_literal ts l even = rw even refl
gate_truth known (h ∷ gs) (suc k) g at left right =
    let t = (truth known h.left && truth known h.right) ∷ [] in
    let more : length (known ++ t) ≡ length known + 1 = length-append known t in
    let place : (length known + suc k) * 2 ≡ (length (known ++ t) + k) * 2 = omega (arith, more) in
    ap (truth (with_gates (known ++ t) gs)) place
    ∙ gate_truth (known ++ t) gs k g at (omega (arith, more, left)) (omega (arith, more, right))
