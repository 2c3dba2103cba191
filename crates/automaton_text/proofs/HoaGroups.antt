-- Edges in the order of their first states, as they grow.
use Rattle.std.proofs.Common.{◌≡◌, ◌∙◌, ℕ, zero, suc, ◌+◌, ◌<◌, ◌≤◌, ◌==◌, cond, List, [], ◌∷◌, ◌++◌, refl, sym, ap, arith}
use Rattle.std.proofs.Common.{append_assoc, append-nil, map}
use Rattle.std.specs.Prelude.{flat_map}
use Rattle.std.specs.List.{AllByRecursion}
use Rattle.std.proofs.lemmas.Bool.{ne_eqb, eq-eqb}
use Rattle.std.proofs.lemmas.Grind.{flat_map-append}
use Rattle.std.proofs.lemmas.List.{map-append}
use Rattle.base_library.specs.Numbers.{numbers_from}
use Rattle.base_library.proofs.Numbers.{numbers_more}
use Rattle.base_library.proofs.Passes.{filter_push}
use Rattle.cobuchi_automata.specs.Automata.{EdgeTree}
use Rattle.annotation_check.specs.Annotations.{edges_from}
use Rattle.automaton_text.specs.HoaText.{edge_text, grouped, state_text, state_lines}

-- all edges leave states below a number
abbrev pub AreBelow : ℕ → List EdgeTree → Type 0
AreBelow n edges = AllByRecursion (λ e. e.from < n) edges

none_yet : (edges : List EdgeTree) (n q : ℕ) → AreBelow n edges → n ≤ q → edges_from edges q ≡ []
none_yet [] n q below past = refl
none_yet (e ∷ edges) n q below past =
    ap (λ b. cond b (e ∷ edges_from edges q) (edges_from edges q)) (ne_eqb e.from q (let b = below.0 in λ is. omega (arith, is, b, past)))
    ∙ none_yet edges n q below.1 past

module _ {X : Type 0} (G : ℕ → List EdgeTree → List X) where
  -- what is made of the edges of each state, one state after another
  abbrev over : List EdgeTree → ℕ → ℕ → List X
  over edges first count = flat_map (λ q. G q (edges_from edges q)) (numbers_from first count)

  last_state : (edges : List EdgeTree) (n : ℕ) → over edges 0 (suc n) ≡ over edges 0 n ++ G n (edges_from edges n)
  last_state edges n =
      ap (flat_map (λ q. G q (edges_from edges q))) (numbers_more 0 n n (omega arith))
      ∙ flat_map-append (λ q. G q (edges_from edges q)) (numbers_from 0 n) (n ∷ [])
      ∙ ap (λ xs. over edges 0 n ++ xs) (append-nil (G n (edges_from edges n)))

  pub state_over : (edges : List EdgeTree) (n : ℕ) → AreBelow n edges → over edges 0 (suc n) ≡ over edges 0 n ++ G n []
  state_over edges n below = last_state edges n ∙ ap (λ es. over edges 0 n ++ G n es) (none_yet edges n n below (omega arith))

  same_over : (edges : List EdgeTree) (e : EdgeTree) (first count : ℕ) → first + count ≤ e.from →
      over (edges ++ e ∷ []) first count ≡ over edges first count
  same_over edges e first zero below = refl
  same_over edges e first (suc count) below =
      λ i. G first
      ((filter_push (λ d. d.from == first) edges e
      ∙ ap (λ b. edges_from edges first ++ cond b (e ∷ []) []) (ne_eqb e.from first (λ is. omega (arith, is, below)))
      ∙ append-nil (edges_from edges first)) i)
      ++ same_over edges e (suc first) count (omega (arith, below)) i

  pub edge_over : (edges : List EdgeTree) (e : EdgeTree) (n : ℕ) (more : List X) → e.from ≡ n →
      G n (edges_from edges n ++ e ∷ []) ≡ G n (edges_from edges n) ++ more → over (edges ++ e ∷ []) 0 (suc n) ≡ over edges 0 (suc n) ++ more
  edge_over edges e n more from is =
      last_state (edges ++ e ∷ []) n
      ∙ (λ i. same_over edges e 0 n (omega (arith, from)) i
      ++ G n
      ((filter_push (λ d. d.from == n) edges e ∙ ap (λ b. edges_from edges n ++ cond b (e ∷ []) []) (eq-eqb e.from n from)) i))
      ∙ ap (λ xs. over edges 0 n ++ xs) is
      ∙ sym (append_assoc (over edges 0 n) (G n (edges_from edges n)) more)
      ∙ ap (λ xs. xs ++ more) (sym (last_state edges n))

-- ---- the edges themselves, and the lines of states

pub state_grouped : (edges : List EdgeTree) (n : ℕ) → AreBelow n edges → grouped (suc n) edges ≡ grouped n edges
state_grouped edges n below = state_over (λ q es. es) edges n below ∙ append-nil (grouped n edges)

pub edge_grouped : (edges : List EdgeTree) (e : EdgeTree) (n : ℕ) → e.from ≡ n →
    grouped (suc n) (edges ++ e ∷ []) ≡ grouped (suc n) edges ++ e ∷ []
edge_grouped edges e n from = edge_over (λ q es. es) edges e n (e ∷ []) from refl

abbrev pub lines_of : ℕ → List EdgeTree → ℕ → List (List ℕ)
lines_of bits edges n = flat_map (state_lines bits edges) (numbers_from 0 n)

pub state_lined : (bits : ℕ) (edges : List EdgeTree) (n : ℕ) → AreBelow n edges →
    lines_of bits edges (suc n) ≡ lines_of bits edges n ++ state_text n ∷ []
state_lined bits edges n below = state_over (λ q es. state_text q ∷ map (edge_text bits) es) edges n below

pub edge_lined : (bits : ℕ) (edges : List EdgeTree) (e : EdgeTree) (n : ℕ) → e.from ≡ n →
    lines_of bits (edges ++ e ∷ []) (suc n) ≡ lines_of bits edges (suc n) ++ edge_text bits e ∷ []
edge_lined bits edges e n from =
    edge_over (λ q es. state_text q ∷ map (edge_text bits) es) edges e n (edge_text bits e ∷ []) from
    (ap (λ xs. state_text n ∷ xs) (map-append (edge_text bits) (edges_from edges n) (e ∷ [])))
