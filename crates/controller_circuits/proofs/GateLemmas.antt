-- Gates that become more, and what literals of them mean.
use Rattle.std.proofs.Common.{◌≡◌, ◌∙◌, ℕ, zero, suc, ◌+◌, ◌-◌, ◌*◌, ◌/◌, ◌%◌, ◌<◌, ◌≤◌, ◌==◌, Bool, true, false, not, ◌&&◌, ◌||◌, List, [], ◌∷◌, ◌++◌, length, get_or}
use Rattle.std.proofs.Common.{map, Some, slice_get, refl, sym, ap, subst, arith, if◌then◌else◌, length-append, inl, inr, ◌⊎◌}
use Rattle.std.specs.List.{list_any}
use Rattle.std.proofs.lemmas.Option.{slice_get_within, slice_get-map}
use Rattle.std.specs.Prelude.{option_map}
use Rattle.std.proofs.lemmas.Bool.{eqb-true, and_parts}
use Rattle.std.proofs.lemmas.List.{map_push}
use Rattle.base_library.proofs.Places.{slice_get_push}
use Rattle.circuits.specs.declared.gate.Gate.{Gate}
use Rattle.circuits.specs.GateView.{gate_tree}
use Rattle.circuits.specs.Circuits.{GateTree, IsLiteral, truth, with_gates}
use Rattle.controller_circuits.specs.internal.Joining.{AreGates, negated_literal}
use Rattle.controller_circuits.specs.internal.Gates.{GatesTree, variables_so_far, value, Becomes, GivesLiteral}
use Rattle.controller_circuits.proofs.Truths.{literal_stays, gates_stay, gate_truth}

pub stays_same : (g : GatesTree) → Becomes g g
stays_same g = record { before = refl; longer = omega arith; keeps = λ bits count l is. refl }

pub becomes_further : (a b c : GatesTree) → Becomes a b → Becomes b c → Becomes a c
becomes_further a b c one two = record {
  before = two.before ∙ one.before;
  longer = omega (arith, one.longer, two.longer);
  keeps = λ bits count l is.
      two.keeps bits (count ∙ sym one.before) l (omega (arith, is, one.longer, one.before)) ∙ one.keeps bits count l is;
}

-- the constants
pub value_false : (g : GatesTree) (bits : List Bool) → value g bits 0 ≡ false
value_false g bits = literal_stays (false ∷ bits) g.gates 0 (omega arith)

pub value_true : (g : GatesTree) (bits : List Bool) → value g bits 1 ≡ true
value_true g bits = literal_stays (false ∷ bits) g.gates 1 (omega arith)

twice : (b : Bool) → b ≡ not (not b)
twice true = refl
twice false = refl

-- a negated literal has the same variable and the opposite truth
pub negation_value : (g : GatesTree) (bits : List Bool) (l : ℕ) → value g bits (negated_literal l) ≡ not (value g bits l)
negation_value g bits l = by (l % 2) refl (omega arith)
  where
    by : (r : ℕ) → l % 2 ≡ r → r < 2 → value g bits (negated_literal l) ≡ not (value g bits l)
    by zero even few =
        let odd : (l + 1) % 2 ≡ 1 = omega (arith, even) in
        let half : (l + 1) / 2 ≡ l / 2 = omega (arith, even) in
        rw (even, odd, half) refl
    by (suc zero) odd few =
        let even : (l - 1) % 2 ≡ 0 = omega (arith, odd) in
        let half : (l - 1) / 2 ≡ l / 2 = omega (arith, odd) in
        rw (odd, even, half) (twice (get_or (with_gates (false ∷ bits) g.gates) (l / 2) false))
    by (suc (suc r)) is few = absurd (omega arith)

pub negation_is : (most l : ℕ) → IsLiteral most l → IsLiteral most (negated_literal l)
negation_is most l is = by (l % 2) refl (omega arith)
  where
    by : (r : ℕ) → l % 2 ≡ r → r < 2 → IsLiteral most (negated_literal l)
    by zero even few = rw even (omega (arith, is, even))
    by (suc zero) odd few = rw odd (omega (arith, is, odd))
    by (suc (suc r)) is_ few = absurd (omega arith)

-- gates as keys
abbrev pub same_gate : Gate → Gate → Bool
same_gate g h = (g.left == h.left) && (g.right == h.right)

gate_is : (g h : Gate) → same_gate g h ≡ true → gate_tree h ≡ gate_tree g
gate_is g h same =
    let parts = and_parts (g.left == h.left) (g.right == h.right) same in
    let left : h.left ≡ g.left = sym (eqb-true g.left h.left parts.0) in
    let right : h.right ≡ g.right = sym (eqb-true g.right h.right parts.1) in
    λ i. record { left = left i; right = right i }

-- a gate that is put behind others where it is not among them
pub kept_or_last : (ks new : List Gate) (g : Gate) → new ≡ (if list_any (same_gate g) ks then ks else ks ++ g ∷ [])
    → (new ≡ ks) ⊎ (new ≡ ks ++ g ∷ [])
kept_or_last ks new g is = by (list_any (same_gate g) ks) is
  where
    by : (b : Bool) → new ≡ (if b then ks else ks ++ g ∷ []) → (new ≡ ks) ⊎ (new ≡ ks ++ g ∷ [])
    by true e = inl e
    by false e = inr e

pub stands : (new : List Gate) (g : Gate) (n : ℕ) → (k : Gate) × (slice_get new n ≡ Some k) × (same_gate g k ≡ true)
    → slice_get (map gate_tree new) n ≡ Some (gate_tree g)
stands new g n (k, at, same) = slice_get-map gate_tree new n ∙ ap (option_map gate_tree) at ∙ ap Some (gate_is g k same)

abbrev tree_of : ℕ → List Gate → GatesTree
tree_of before ks = record { before = before; gates = map gate_tree ks }

both_same : {a b c d : Bool} → a ≡ b → c ≡ d → (a && c) ≡ (b && d)
both_same e f = rw (e, f) refl

module _ (before : ℕ) (ks new : List Gate) (g : Gate) (grown : (new ≡ ks) ⊎ (new ≡ ks ++ g ∷ []))
    (gates : AreGates before (map gate_tree ks))
    (left : IsLiteral (before + length (map gate_tree ks)) g.left) (right : IsLiteral (before + length (map gate_tree ks)) g.right) where
  pub joined_gates : AreGates before (map gate_tree new)
  joined_gates = elim grown [
    | inl e ↦ subst (λ (x : List Gate). AreGates before (map gate_tree x)) (sym e) gates
    | inr e ↦ subst (λ (x : List Gate). AreGates before (map gate_tree x)) (sym e) more
  ]
    where
      more : AreGates before (map gate_tree (ks ++ g ∷ []))
      more k h at = elim (slice_get_push (map gate_tree ks) (gate_tree g) k h
          (ap (λ hs. slice_get hs k) (sym (map_push gate_tree ks g)) ∙ at)) [
            | inl p ↦ gates k h p.1
            | inr p ↦ (
              subst (λ (x : GateTree). IsLiteral (before + k) x.left) p.1 (omega (arith, left, p.0)),
              subst (λ (x : GateTree). IsLiteral (before + k) x.right) p.1 (omega (arith, right, p.0)),
            )
          ]

  becomes : Becomes (tree_of before ks) (tree_of before new)
  becomes = elim grown [
    | inl e ↦ subst (λ (x : List Gate). Becomes (tree_of before ks) (tree_of before x)) (sym e) (stays_same (tree_of before ks))
    | inr e ↦ subst (λ (x : List Gate). Becomes (tree_of before ks) (tree_of before x)) (sym e) more
  ]
    where
      more : Becomes (tree_of before ks) (tree_of before (ks ++ g ∷ []))
      more = record {
        before = refl;
        longer = omega (arith, ap length (map_push gate_tree ks g), length-append (map gate_tree ks) (gate_tree g ∷ []));
        keeps = λ bits count l literal.
            ap (λ gs. truth (with_gates (false ∷ bits) gs) l) (map_push gate_tree ks g)
            ∙ gates_stay (false ∷ bits) (map gate_tree ks) (gate_tree g ∷ []) l
            (let n : length bits ≡ before = count in omega (arith, n, literal));
      }

  few : length (map gate_tree new) ≤ length (map gate_tree ks) + 1
  few = elim grown [
    | inl e ↦ omega (arith, ap (λ (x : List Gate). length (map gate_tree x)) e)
    | inr e ↦ omega (
      arith,
      ap (λ (x : List Gate). length (map gate_tree x)) e,
      ap length (map_push gate_tree ks g),
      length-append (map gate_tree ks) (gate_tree g ∷ []),
    )
  ]

  pub joined_gives : (n : ℕ) → slice_get (map gate_tree new) n ≡ Some (gate_tree g) → (made : ℕ) → made ≡ (before + n + 1) * 2
      → GivesLiteral (tree_of before ks) (tree_of before new) 1 made (λ t. t g.left && t g.right)
  joined_gives n there made number =
      let within : n < length (map gate_tree new) = slice_get_within (map gate_tree new) n (gate_tree g) there in
      let parts = joined_gates n (gate_tree g) there in
      record {
        becomes = becomes;
        few = few;
        is_literal = omega (arith, within, number);
        means = λ bits count.
            let size : length bits ≡ before = count in
            let place : made ≡ (length (false ∷ bits) + n) * 2 = omega (arith, size, number) in
            ap (value (tree_of before new) bits) place
            ∙ gate_truth (false ∷ bits) (map gate_tree new) n (gate_tree g) there (omega (arith, parts.0, size))
            (omega (arith, parts.1, size))
            ∙ both_same (becomes.keeps bits count g.left left) (becomes.keeps bits count g.right right);
      }

-- what takes no gate
pub gives_same : (g : GatesTree) (most l : ℕ) (meaning : (ℕ → Bool) → Bool) → IsLiteral (variables_so_far g) l
    → ((bits : List Bool) → value g bits l ≡ meaning (value g bits)) → GivesLiteral g g most l meaning
gives_same g most l meaning is means = record {
  becomes = stays_same g;
  few = omega arith;
  is_literal = is;
  means = λ bits count. means bits;
}

and_false : (b : Bool) → false ≡ (b && false)
and_false true = refl
and_false false = refl

and_true : (b : Bool) → b ≡ (b && true)
and_true true = refl
and_true false = refl

and_same : (b : Bool) → b ≡ (b && b)
and_same true = refl
and_same false = refl

not_both : (b : Bool) → false ≡ (not b && b)
not_both true = refl
not_both false = refl

module _ (g : GatesTree) (left right : ℕ) where
  module _ (is_left : IsLiteral (variables_so_far g) left) (is_right : IsLiteral (variables_so_far g) right) where
    pub left_false : left ≡ 0 → GivesLiteral g g 1 0 (λ t. t left && t right)
    left_false e = gives_same g 1 0 _ (omega arith) (λ bits. rw (e, value_false g bits) refl)

    pub right_false : right ≡ 0 → GivesLiteral g g 1 0 (λ t. t left && t right)
    right_false e = gives_same g 1 0 _ (omega arith) (λ bits. rw (e, value_false g bits) (and_false (value g bits left)))

    pub opposites : left ≡ negated_literal right → GivesLiteral g g 1 0 (λ t. t left && t right)
    opposites e = gives_same g 1 0 _ (omega arith)
        (λ bits. value_false g bits ∙ not_both (value g bits right)
        ∙ ap (λ b. b && value g bits right) (sym (ap (value g bits) e ∙ negation_value g bits right)))

    pub left_true : left ≡ 1 → GivesLiteral g g 1 right (λ t. t left && t right)
    left_true e = gives_same g 1 right _ is_right (λ bits. rw (e, value_true g bits) refl)

    pub same_literal : left ≡ right → GivesLiteral g g 1 right (λ t. t left && t right)
    same_literal e = gives_same g 1 right _ is_right (λ bits. rw e (and_same (value g bits right)))

    pub right_true : right ≡ 1 → GivesLiteral g g 1 left (λ t. t left && t right)
    right_true e = gives_same g 1 left _ is_left (λ bits. rw (e, value_true g bits) (and_true (value g bits left)))

-- what means the same
pub gives_as : (a b : GatesTree) (l : ℕ) (m n : ℕ) (f h : (ℕ → Bool) → Bool) → n ≤ m
    → ((bits : List Bool) → f (value a bits) ≡ h (value a bits)) → GivesLiteral a b n l f → GivesLiteral a b m l h
gives_as a b l m n f h fewer same gives = record {
  becomes = gives.becomes;
  few = omega (arith, gives.few, fewer);
  is_literal = gives.is_literal;
  means = λ bits count. gives.means bits count ∙ same bits;
}

exchanged : (x y : Bool) → (x && y) ≡ (y && x)
exchanged true true = refl
exchanged true false = refl
exchanged false true = refl
exchanged false false = refl

pub gives_exchanged : (a b : GatesTree) (l left right : ℕ) → GivesLiteral a b 1 l (λ t. t right && t left) → GivesLiteral a b 1 l
    (λ t. t left && t right)
gives_exchanged a b l left right gives = gives_as a b l 1 1 _ _ (omega arith)
    (λ bits. exchanged (value a bits right) (value a bits left)) gives

not_neither : (x y : Bool) → not (not x && not y) ≡ (x || y)
not_neither true true = refl
not_neither true false = refl
not_neither false true = refl
not_neither false false = refl

pub gives_either : (a b : GatesTree) (left right not_left not_right neither made : ℕ) → not_left ≡ negated_literal left
    → not_right ≡ negated_literal right
    → made ≡ negated_literal neither → GivesLiteral a b 1 neither (λ t. t not_left && t not_right) → GivesLiteral a b 1 made
    (λ t. t left || t right)
gives_either a b left right not_left not_right neither made is_left is_right is_made gives = record {
  becomes = gives.becomes;
  few = gives.few;
  is_literal = rw is_made (negation_is (variables_so_far b) neither gives.is_literal);
  means = λ bits count. ap (value b bits) is_made ∙ negation_value b bits neither
      ∙ ap not (gives.means bits count ∙ both_same (ap (value a bits) is_left ∙ negation_value a bits left)
      (ap (value a bits) is_right ∙ negation_value a bits right))
      ∙ not_neither (value a bits left) (value a bits right);
}

module _ (a : GatesTree) (test high low : ℕ) where
  if_true_high : (x y : Bool) → (x || y) ≡ (if x then true else y)
  if_true_high true y = refl
  if_true_high false y = refl

  if_true_low : (x y : Bool) → (not x || y) ≡ (if x then y else true)
  if_true_low true y = refl
  if_true_low false y = refl

  if_parts : (x y z : Bool) → ((x && y) || (not x && z)) ≡ (if x then y else z)
  if_parts true true z = refl
  if_parts true false z = refl
  if_parts false y z = refl

  pub gives_high : (b : GatesTree) (l : ℕ) → high ≡ 1 → GivesLiteral a b 1 l (λ t. t test || t low)
      → GivesLiteral a b 3 l (λ t. if t test then t high else t low)
  gives_high b l e gives = gives_as a b l 3 1 _ _ (omega arith)
      (λ bits. rw (e, value_true a bits) (if_true_high (value a bits test) (value a bits low))) gives

  pub gives_low : (b : GatesTree) (l : ℕ) → low ≡ 1 → GivesLiteral a b 1 l (λ t. t (negated_literal test) || t high)
      → GivesLiteral a b 3 l (λ t. if t test then t high else t low)
  gives_low b l e gives = gives_as a b l 3 1 _ _ (omega arith)
      (λ bits. rw (e, value_true a bits, negation_value a bits test) (if_true_low (value a bits test) (value a bits high))) gives

  pub gives_chosen : (b c d : GatesTree) (h l made : ℕ) → IsLiteral (variables_so_far a) test → IsLiteral (variables_so_far a) low
      → GivesLiteral a b 1 h (λ t. t test && t high) → GivesLiteral b c 1 l (λ t. t (negated_literal test) && t low)
      → GivesLiteral c d 1 made (λ t. t h || t l)
      → GivesLiteral a d 3 made (λ t. if t test then t high else t low)
  gives_chosen b c d h l made is_test is_low one two three = record {
    becomes = becomes_further a c d (becomes_further a b c one.becomes two.becomes) three.becomes;
    few = omega (arith, one.few, two.few, three.few);
    is_literal = three.is_literal;
    means = λ bits count.
        let count_b : length bits ≡ b.before = count ∙ sym one.becomes.before in
        let count_c : length bits ≡ c.before = count_b ∙ sym two.becomes.before in
        let high_there : value c bits h ≡ (value a bits test && value a bits high) =
        two.becomes.keeps bits count_b h one.is_literal ∙ one.means bits count in
        let low_there : value c bits l ≡ (not (value a bits test) && value a bits low) =
        two.means bits count_b ∙ both_same
        (one.becomes.keeps bits count (negated_literal test) (negation_is (variables_so_far a) test is_test) ∙ negation_value a bits test)
        (one.becomes.keeps bits count low is_low) in
        three.means bits count_c ∙ either_same high_there low_there
        ∙ if_parts (value a bits test) (value a bits high) (value a bits low);
  }
    where
      either_same : {x y z w : Bool} → x ≡ y → z ≡ w → (x || z) ≡ (y || w)
      either_same e f = rw (e, f) refl
