-- The steps of a product: where they lead, how many there are, and that they are those of pairs.
use Rattle.std.proofs.Common.{◌≡◌, ◌∙◌, ℕ, zero, suc, ◌+◌, ◌*◌, ◌/◌, ◌%◌, ◌^◌, ◌<◌, ◌≤◌, ◌==◌, if◌then◌else◌, inl, inr}
use Rattle.std.proofs.Common.{Bool, true, false, cond, List, [], ◌∷◌, length, take, drop, get_or, Option, None, Some, slice_get, Contains}
use Rattle.std.proofs.Common.{All, Vec, refl, sym, ap, subst, arith, length-append}
use Rattle.std.specs.Prelude.{option_and_then, option_map}
use Rattle.std.specs.declared.alloc.Global.{Global}
use Rattle.std.proofs.lemmas.Bool.Decides.{eqb_tells}
use Rattle.std.proofs.lemmas.Bool.{eq-eqb}
use Rattle.std.proofs.lemmas.List.{take-append-drop, length-take-le, length-drop}
use Rattle.std.proofs.lemmas.List.Elements.{recursion_from_All}
use Rattle.std.proofs.lemmas.Nat.{div-mul-add, mod-mul-add, mul-le, div_below, mod_below}
use Rattle.std.proofs.lemmas.Option.{none-some, same_Some, slice_get-map, slice_get-get_or, slice_get_read, slice_get_within}
use Rattle.base_library.proofs.Each.{each_contained}
use Rattle.base_library.proofs.Options.{some_mapped}
use Rattle.base_library.proofs.Places.{contains_at}
use Rattle.loop_shape.specs.LoopShape.{after}
use Rattle.ltl_formula.specs.LetterLoop.{LetterLoop, shape_of, letter_at}
use Rattle.ltl_formula.specs.Cubes.{cube_matches}
use Rattle.cobuchi_automata.specs.Automata.{EdgeTree}
use Rattle.cobuchi_automata.specs.Edges.{edge_tree, edge_trees, IsBetween}
use Rattle.cobuchi_automata.specs.declared.automaton.Edge.{Edge}
use Rattle.loop_acceptance.specs.declared.product.Step.{Step}
use Rattle.loop_acceptance.specs.declared.product.Product.{Product}
use Rattle.loop_acceptance.specs.Accepts.{loop_of}
use Rattle.loop_acceptance.specs.internal.Product.{row_lists, edge_at, row_edges, position_after, step_by}
use Rattle.loop_acceptance.specs.internal.Product.{product_step, edge_rows_of, steps_in, nodes_of}
use Rattle.loop_acceptance.specs.internal.Product.{IsProduct, AreEdgeRows}
use Rattle.loop_acceptance.proofs.LoopTurns.{node, IsTaken, GoesAlong, IsLoopGraph}

-- ---- rows

pub row_at : (rows : List (Vec Edge Global)) (q : ℕ) (d : Vec Edge Global) → q < length rows →
    slice_get (row_lists rows) q ≡ Some (get_or rows q d).items
row_at rows q d within =
    slice_get-map (λ (row : Vec Edge Global). row.items) rows q
    ∙ ap (option_map (λ (row : Vec Edge Global). row.items)) (slice_get-get_or rows q d within)

pub row_short : (rows : List (List Edge)) (q : ℕ) (row : List Edge) → slice_get rows q ≡ Some row → length row ≤ row_edges rows
row_short [] q row at = absurd (none-some row at)
row_short (r ∷ rows) zero row at = let same = ap length (same_Some r row at) in omega (arith, same)
row_short (r ∷ rows) (suc q) row at = let rest = row_short rows q row at in omega (arith, rest)

-- ---- options

pub then_some : {X Y : Type 0} (f : X → Option Y) (o : Option X) (y : Y) → option_and_then f o ≡ Some y →
    (x : X) × (o ≡ Some x) × (f x ≡ Some y)
then_some f None y is = absurd (none-some y is)
then_some f (Some x) y is = (x, refl, is)

-- ---- what a step goes along

-- the edge and the letter of a step
pub record IsProductStep (states : ℕ) (rows : List (List Edge)) (letters : List ℕ) (back p k : ℕ) (s : Step) : Type 0 where
  pub edge : Edge
  pub stands : edge_at rows (p % states) k ≡ Some edge
  pub letter : ℕ
  pub reads : slice_get letters (p / states) ≡ Some letter
  pub matches : cube_matches edge.cube.care edge.cube.want letter ≡ true
  pub is : record { to = position_after letters back (p / states) * states + edge.to; rejecting = edge.rejecting } ≡ s

pub step_is_of : (states : ℕ) (rows : List (List Edge)) (letters : List ℕ) (back p k : ℕ) (s : Step) →
    product_step states rows letters back p k ≡ Some s → IsProductStep states rows letters back p k s
step_is_of states rows letters back p k s is =
    let first = then_some (λ e. option_and_then (step_by states (position_after letters back (p / states)) e)
    (slice_get letters (p / states))) (edge_at rows (p % states) k) s is in
    let second = then_some (step_by states (position_after letters back (p / states)) first.0) (slice_get letters (p / states)) s first.2 in
    by first.0 first.1 second.0 second.1 (cube_matches first.0.cube.care first.0.cube.want second.0) refl second.2
  where
    by : (e : Edge) → edge_at rows (p % states) k ≡ Some e → (letter : ℕ) → slice_get letters (p / states) ≡ Some letter → (b : Bool)
        → cube_matches e.cube.care e.cube.want letter ≡ b
        → cond b (Some (record { to = position_after letters back (p / states) * states + e.to; rejecting = e.rejecting })) None ≡ Some s
        → IsProductStep states rows letters back p k s
    by e stands letter reads true matches at = record {
      edge = e;
      stands = stands;
      letter = letter;
      reads = reads;
      matches = matches;
      is = same_Some (record { to = position_after letters back (p / states) * states + e.to; rejecting = e.rejecting }) s at;
    }
    by e stands letter reads false matches at = absurd (none-some s at)

pub position_below : (letters : List ℕ) (back i : ℕ) → back < length letters → i < length letters →
    position_after letters back i < length letters
position_below letters back i goes_on within = elim (eqb_tells (i + 1) (length letters)) [
  | inl same ↦
      let e : position_after letters back i ≡ back = ap (λ b. if b then back else i + 1) (eq-eqb (i + 1) (length letters) same.1) in
      omega (arith, e, goes_on)
  | inr other ↦
      let e : position_after letters back i ≡ i + 1 = ap (λ b. if b then back else i + 1) other.0 in
      let apart = other.1 in
      omega (arith, e, within, apart)
]

pub pair_below : (states positions i q : ℕ) → i < positions → q < states → i * states + q < positions * states
pair_below states positions i q within below =
    let more = mul-le (suc i) states positions states within (omega arith) in
    let one : suc i * states ≡ i * states + states = grind arith in
    omega (arith, more, one, below)

module _ (product : Product) (is : IsProduct product) where
  abbrev states : ℕ
  states = length product.rows.now

  -- a step leads to a node
  pub step_within : (p k : ℕ) (s : Step) → steps_in product p k ≡ Some s → s.to < nodes_of product
  step_within p k s at =
      let of = step_is_of states (edge_rows_of product) product.letters.now product.back p k s at in
      let below = position_below product.letters.now product.back (p / states) is.goes_on
      (slice_get_within product.letters.now (p / states) of.letter of.reads) in
      subst (λ (x : Step). x.to < nodes_of product) of.is
      (pair_below states (length product.letters.now) (position_after product.letters.now product.back (p / states)) of.edge.to below
      (is.stays (p % states) k of.edge of.stands))

  -- the pair that a node is
  module _ (p position state : ℕ) (below : p < nodes_of product) (at : position ≡ p / product.pairing.states)
      (in_state : state ≡ p % product.pairing.states) where
    position_is : p / states ≡ position
    position_is = sym (at ∙ ap (λ n. p / n) is.counted)

    state_is : p % states ≡ state
    state_is = sym (in_state ∙ ap (λ n. p % n) is.counted)

    position_within : position < length product.letters.now
    position_within =
        subst (λ n. n < length product.letters.now) position_is (div_below p states (length product.letters.now) is.starts below)

    pub state_within : state < states
    state_within = subst (λ n. n < states) state_is (mod_below p states is.starts)

    abbrev pair_step : ℕ → ℕ → ℕ → Option Step
    pair_step i q k = option_and_then (λ e. option_and_then (step_by states (position_after product.letters.now product.back i) e)
        (slice_get product.letters.now i)) (edge_at (edge_rows_of product) q k)

    step_at_pair : (k : ℕ) → steps_in product p k ≡ pair_step position state k
    step_at_pair k = ap (λ i. pair_step i (p % states) k) position_is ∙ ap (λ q. pair_step position q k) state_is

    -- the step at a place where an edge stands that the letter matches
    pub step_made : (k : ℕ) (row : Vec Edge Global) (es : List Edge) (e : Edge) → es ≡ (get_or product.rows.now state row).items →
        k < length es → e ≡ get_or es k e → cube_matches e.cube.care e.cube.want (get_or product.letters.now position 0) ≡ true →
        steps_in product p k
        ≡ Some (record {
          to = position_after product.letters.now product.back position * states + e.to;
          rejecting = e.rejecting;
        })
    step_made k row es e row_is within item matches =
        let reads = slice_get-get_or product.letters.now position 0 position_within in
        let stands : edge_at (edge_rows_of product) state k ≡ Some e =
        ap (option_and_then (λ r. slice_get r k)) (row_at product.rows.now state row state_within)
        ∙ ap (λ r. slice_get r k) (sym row_is) ∙ slice_get_read es (length es) k e refl within item in
        step_at_pair k
        ∙ ap (option_and_then (λ d. option_and_then (step_by states (position_after product.letters.now product.back position) d)
        (slice_get product.letters.now position))) stands
        ∙ ap (option_and_then (step_by states (position_after product.letters.now product.back position) e)) reads
        ∙ ap (λ b. cond b (Some (record {
          to = position_after product.letters.now product.back position * states + e.to;
          rejecting = e.rejecting;
        })) None) matches

    -- and its number has 32 bits
    pub step_fits : (k : ℕ) (row : Vec Edge Global) (es : List Edge) (e : Edge) (next : ℕ) →
        es ≡ (get_or product.rows.now state row).items → k < length es → e ≡ get_or es k e →
        cube_matches e.cube.care e.cube.want (get_or product.letters.now position 0) ≡ true →
        next ≡ position_after product.letters.now product.back position → next * states + e.to < 2 ^ 32
    step_fits k row es e next row_is within item matches next_is =
        let there = step_within p k (record {
          to = position_after product.letters.now product.back position * states + e.to;
          rejecting = e.rejecting;
        }) (step_made k row es e row_is within item matches) in
        let same = ap (λ n. n * states + e.to) next_is in
        let fits = is.fits in
        omega (arith, there, same, fits)

-- ---- steps are those of pairs

module _ (states : ℕ) (rows : List (List Edge)) (edges : List Edge) (are : AreEdgeRows rows edges) (between : All (IsBetween states) edges)
    (starts : 1 ≤ states) (letters : List ℕ) (back : ℕ) (goes_on : back < length letters) where
  abbrev loop : LetterLoop
  loop = loop_of letters back

  abbrev step : ℕ → ℕ → Option Step
  step = product_step states rows letters back

  letter_is : (i : ℕ) → letter_at loop i ≡ slice_get letters i
  letter_is i = ap (λ ls. slice_get ls i) (take-append-drop back letters)

  stem_long : length (take back letters) ≡ back
  stem_long = length-take-le back letters (omega (arith, goes_on))

  both_long : length (take back letters) + length (drop back letters) ≡ length letters
  both_long = sym (length-append (take back letters) (drop back letters)) ∙ ap length (take-append-drop back letters)

  after_is : (i : ℕ) → position_after letters back i ≡ after (shape_of loop) i
  after_is i =
      let long = sym both_long in
      let stem = sym stem_long in
      λ j. if (i + 1) == (long j) then (stem j) else i + 1

  node_position : (i q : ℕ) → q < states → node states i q / states ≡ i
  node_position i q below = div-mul-add i states q below

  node_state : (i q : ℕ) → q < states → node states i q % states ≡ q
  node_state i q below = mod-mul-add i states q below

  edge_below : (e : Edge) → Contains edges e → (e.from < states) × (e.to < states)
  edge_below e stands = each_contained (IsBetween states) edges e (recursion_from_All (IsBetween states) edges between) stands

  tree_stands : (e : Edge) → Contains edges e → Contains (edge_trees edges) (edge_tree e)
  tree_stands e (k, within, is) = contains_at (edge_trees edges) k (edge_tree e)
      (slice_get-map edge_tree edges k ∙ ap (option_map edge_tree) (slice_get-get_or edges k e within ∙ ap Some is))

  -- an edge of a tree that stands among them
  tree_edge : (e : EdgeTree) → Contains (edge_trees edges) e → (k : ℕ) × (d : Edge) × (slice_get edges k ≡ Some d) × (edge_tree d ≡ e)
  tree_edge e (k, within, is) =
      let r = some_mapped edge_tree (slice_get edges k) e (sym (slice_get-map edge_tree edges k)
      ∙ slice_get-get_or (edge_trees edges) k e within ∙ ap Some is) in
      (k, r.0, r.1, r.2)

  -- the step at a position in a state
  abbrev step_in : ℕ → ℕ → ℕ → Option Step
  step_in i q k =
      option_and_then (λ e. option_and_then (step_by states (position_after letters back i) e) (slice_get letters i)) (edge_at rows q k)

  step_at_node : (i q k : ℕ) → q < states → step (node states i q) k ≡ step_in i q k
  step_at_node i q k below =
      ap (λ m. step_in m (node states i q % states) k) (node_position i q below) ∙ ap (λ m. step_in i m k) (node_state i q below)

  has : (i q : ℕ) (e : EdgeTree) → q < states → IsTaken (edge_trees edges) loop i q e →
      (k : ℕ) × (s : Step) × (step (node states i q) k ≡ Some s) × GoesAlong states loop i e s
  has i q e below taken =
      let t = tree_edge e taken.stands in
      let d = t.1 in
      let listed = are.have_edges t.0 d t.2 in
      let leaves : d.from ≡ q = ap (λ x. x.from) t.3 ∙ taken.leaves in
      let matches : cube_matches d.cube.care d.cube.want taken.letter ≡ true =
      ap (λ x. cube_matches x.care x.want taken.letter) t.3 ∙ taken.matches in
      let s : Step = record { to = position_after letters back i * states + d.to; rejecting = d.rejecting } in
      let after_e = after_is i in
      let same = t.3 in (
        listed.0,
        s,
        step_at_node i q listed.0 below ∙ ap (λ m. step_in i m listed.0) (sym leaves)
            ∙ ap (option_and_then (λ e. option_and_then (step_by states (position_after letters back i) e) (slice_get letters i))) listed.1
            ∙ ap (option_and_then (step_by states (position_after letters back i) d)) (sym (letter_is i) ∙ taken.reads)
            ∙ ap (λ b. cond b (Some s) None) matches,
        record {
          to = λ j. after_e j * states + (same j).to;
          marked = ap (λ x. x.rejecting) t.3;
        },
      )

  only : (i q k : ℕ) (s : Step) → q < states → step (node states i q) k ≡ Some s →
      (e : EdgeTree) × IsTaken (edge_trees edges) loop i q e × GoesAlong states loop i e s
  only i q k s below at =
      let of = step_is_of states rows letters back (node states i q) k s at in
      let d = of.edge in
      let here = are.are_edges q k d (ap (λ m. edge_at rows m k) (sym (node_state i q below)) ∙ of.stands) in
      let there = node_position i q below in
      let after_e = after_is i in (
        edge_tree d,
        record {
          stands = tree_stands d here.0;
          leaves = here.1;
          letter = of.letter;
          reads = letter_is i ∙ ap (slice_get letters) (sym there) ∙ of.reads;
          matches = of.matches;
        },
        record {
          to = sym (ap (λ x. x.to) of.is) ∙ ap (λ m. position_after letters back m * states + d.to) there
              ∙ ap (λ m. m * states + d.to) after_e;
          marked = sym (ap (λ x. x.rejecting) of.is);
        },
      )

  pub graph : IsLoopGraph states (edge_trees edges) loop step
  graph = record {
    starts = starts;
    goes_round = let l = length-drop back letters in omega (arith, l, goes_on);
    stays = λ e stands.
        let t = tree_edge e stands in
        subst (λ (x : EdgeTree). x.to < states) t.3 (edge_below t.1 (contains_at edges t.0 t.1 t.2)).1;
    has = has;
    only = only;
  }
