-- Rows of edges, filled one edge after the other.
use Rattle.std.proofs.Common.{◌≡◌, ◌∙◌, ℕ, zero, suc, ◌+◌, ◌<◌, inl, inr, List, [], ◌∷◌, ◌++◌, length, take, set, get_or}
use Rattle.std.proofs.Common.{Some, slice_get, Contains, All, Vec, refl, sym, ap, subst, arith}
use Rattle.std.specs.Prelude.{option_and_then, option_map}
use Rattle.std.specs.declared.alloc.Global.{Global}
use Rattle.std.specs.List.{AllByRecursion}
use Rattle.std.proofs.lemmas.Bool.Decides.{eqb_tells}
use Rattle.std.proofs.lemmas.List.{map-set, length-map, length-set}
use Rattle.std.proofs.lemmas.List.Elements.{Contains-append_left}
use Rattle.std.proofs.lemmas.Option.{none-some, slice_get-map, slice_get-get_or, slice_get_read, get_or_from_slice_get}
use Rattle.base_library.proofs.Places.{contains_at, slice_get_set, slice_get_set_same, slice_get_push, slice_get_grown, slice_get-behind}
use Rattle.base_library.proofs.Places.{take_next}
use Rattle.cobuchi_automata.specs.Edges.{IsBetween}
use Rattle.cobuchi_automata.specs.declared.automaton.Edge.{Edge}
use Rattle.loop_acceptance.specs.internal.Product.{row_lists, edge_at, AreEdgeRows}

-- a row with an edge more
pub row_added : (rows : List (Vec Edge Global)) (q : ℕ) (old new : Vec Edge Global) (e : Edge) → q < length rows →
    old ≡ get_or rows q old → new.items ≡ old.items ++ e ∷ [] →
    row_lists (set rows q new) ≡ set (row_lists rows) q (get_or (row_lists rows) q [] ++ e ∷ [])
row_added rows q old new e within is added =
    let at = slice_get-map (λ (row : Vec Edge Global). row.items) rows q
    ∙ ap (option_map (λ (row : Vec Edge Global). row.items)) (slice_get_read rows (length rows) q old refl within is) in
    let read = get_or_from_slice_get (row_lists rows) q old.items [] at in
    map-set (λ (row : Vec Edge Global). row.items) rows q new
    ∙ ap (set (row_lists rows) q) (added ∙ ap (λ es. es ++ e ∷ []) (sym read))

-- empty rows
pub no_rows : (rows : List (List Edge)) → AllByRecursion (λ row. row ≡ []) rows → AreEdgeRows rows []
no_rows rows empty = record {
  are_edges = λ q k e at. absurd (none rows q k e empty at);
  have_edges = λ i e at. absurd (none-some e at);
}
  where
    none : (rows : List (List Edge)) (q k : ℕ) (e : Edge) → AllByRecursion (λ row. row ≡ []) rows → edge_at rows q k ≡ Some e → ⊥
    none [] q k e empty at = none-some e at
    none (row ∷ rows) zero k e empty at = none-some e (ap (λ r. slice_get r k) (sym empty.0) ∙ at)
    none (row ∷ rows) (suc q) k e empty at = none rows q k e empty.1 at

module _ (rows : List (List Edge)) (edges : List Edge) (are : AreEdgeRows rows edges) (e : Edge) (within : e.from < length rows) where
  abbrev old_row : List Edge
  old_row = get_or rows e.from []

  abbrev filled : List (List Edge)
  filled = set rows e.from (old_row ++ e ∷ [])

  at_old : (k : ℕ) → edge_at rows e.from k ≡ slice_get old_row k
  at_old k = ap (option_and_then (λ (row : List Edge). slice_get row k)) (slice_get-get_or rows e.from [] within)

  at_new : (k : ℕ) → edge_at filled e.from k ≡ slice_get (old_row ++ e ∷ []) k
  at_new k = ap (option_and_then (λ (row : List Edge). slice_get row k)) (slice_get_set_same rows e.from (old_row ++ e ∷ []) within)

  elsewhere : (q k : ℕ) → (q ≡ e.from → ⊥) → edge_at filled q k ≡ edge_at rows q k
  elsewhere q k other = ap (option_and_then (λ (row : List Edge). slice_get row k)) (slice_get_set rows e.from q (old_row ++ e ∷ []) other)

  still : (d : Edge) (q : ℕ) → Contains edges d × (d.from ≡ q) → Contains (edges ++ e ∷ []) d × (d.from ≡ q)
  still d q here = (Contains-append_left edges (e ∷ []) d here.0, here.1)

  pub row_filled : AreEdgeRows filled (edges ++ e ∷ [])
  row_filled = record {
    are_edges = λ q k d at. elim (eqb_tells q e.from) [
      | inl same ↦ elim (slice_get_push old_row e k d (sym (at_new k) ∙ ap (λ n. edge_at filled n k) (sym same.1) ∙ at)) [
        | inl before ↦ still d q (are.are_edges q k d (ap (λ n. edge_at rows n k) same.1 ∙ at_old k ∙ before.1))
        | inr new ↦ (
          subst (Contains (edges ++ e ∷ [])) new.1
              (contains_at (edges ++ e ∷ []) (length edges) e (slice_get-behind edges e [])),
          ap (λ (x : Edge). x.from) (sym new.1) ∙ sym same.1,
        )
      ]
      | inr other ↦ still d q (are.are_edges q k d (sym (elsewhere q k other.1) ∙ at))
    ];
    have_edges = λ i d at. elim (slice_get_push edges e i d at) [
      | inl before ↦
          let r = are.have_edges i d before.1 in
          elim (eqb_tells d.from e.from) [
            | inl same ↦ (
              r.0,
              ap (λ n. edge_at filled n r.0) same.1 ∙ at_new r.0
                  ∙ slice_get_grown old_row (e ∷ []) r.0 d (sym (at_old r.0) ∙ ap (λ n. edge_at rows n r.0) (sym same.1) ∙ r.1),
            )
            | inr other ↦ (r.0, elsewhere d.from r.0 other.1 ∙ r.1)
          ]
      | inr new ↦ (
        length old_row,
        ap (λ (x : Edge). edge_at filled x.from (length old_row)) (sym new.1) ∙ at_new (length old_row) ∙ slice_get-behind old_row e []
            ∙ ap Some new.1,
      )
    ];
  }

-- an edge more of those that are listed
module _ (items edges : List Edge) (same : items ≡ edges) (i : ℕ) (e : Edge) (states : ℕ) (within : i < length items)
    (item : e ≡ get_or items i e) (between : All (IsBetween states) edges) where
  pub leaves_below : e.from < states
  leaves_below =
      let here : get_or edges i e ≡ e = ap (λ es. get_or es i e) (sym same) ∙ sym item in
      let below = between i e (subst (λ es. i < length es) same within) in
      subst (λ (x : Edge). x.from < states) here below.0

  pub rows_more : (rows new : List (List Edge)) → length rows ≡ states → AreEdgeRows rows (take i edges) →
      new ≡ set rows e.from (get_or rows e.from [] ++ e ∷ []) → AreEdgeRows new (take (i + 1) edges)
  rows_more rows new many are is =
      let here : slice_get edges i ≡ Some e = ap (λ es. slice_get es i) (sym same)
      ∙ slice_get_read items (length items) i e refl within item in
      let next : i + 1 ≡ suc i = omega arith in
      let below = leaves_below in
      subst (λ es. AreEdgeRows new es) (sym (ap (λ k. take k edges) next ∙ take_next edges i e here))
      (subst (λ rs. AreEdgeRows rs (take i edges ++ e ∷ [])) (sym is)
      (row_filled rows (take i edges) are e (omega (arith, many, below))))

pub rows_many : (old new : List (Vec Edge Global)) (q : ℕ) (row : List Edge) → row_lists new ≡ set (row_lists old) q row →
    length new ≡ length old
rows_many old new q row is =
    sym (length-map new (λ (r : Vec Edge Global). r.items)) ∙ ap length is ∙ length-set (row_lists old) q row
    ∙ length-map old (λ (r : Vec Edge Global). r.items)

pub rows_counted : (rows : List (Vec Edge Global)) (states : ℕ) → length rows ≡ states → length (row_lists rows) ≡ states
rows_counted rows states many = length-map rows (λ (r : Vec Edge Global). r.items) ∙ many
