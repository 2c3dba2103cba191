-- The choices of each signal are among all choices, and its clauses by the indices from a base on.
use Rattle.std.proofs.Common.{◌≡◌, ◌≤◌, ◌+◌, ◌-◌, ◌*◌, ℕ, List, [], ◌∷◌, length, refl, sym, ap, arith, ◌∙◌, true, ◌==◌, All}
use Rattle.std.specs.List.{AllByRecursion}
use Rattle.std.proofs.lemmas.List.{length-map}
use Rattle.std.proofs.lemmas.List.Elements.{All-from_recursion}
use Rattle.std.proofs.lemmas.Bool.{and_parts, eqb-true}
use Rattle.base_library.proofs.Each.{each_unmapped}
use Rattle.letter_space.specs.SpaceTree.{ControlledTree, choice_count, bits_follow}
use Rattle.letter_space.specs.ControlledView.{controlled_tree}
use Rattle.letter_space.specs.declared.controlled.Controlled.{Controlled}
use Rattle.bounded_encoding.specs.Variables.{valuations_of, choices_in_all}
use Rattle.bounded_encoding.specs.Question.{QuestionTree}
use Rattle.bounded_encoding.specs.SimpleClauses.{exactly_one}
use Rattle.bounded_encoding.specs.Encoding.{signal_clauses}
use Rattle.bounded_encoding.specs.declared.asking.Question.{Question}
use Rattle.bounded_encoding.specs.internal.Asking.{tree_of, IsCounted, IsPlaced}

-- signals whose choices' bits follow each other from a first one on
pub placed_from : (p all first : ℕ) (gs : List ControlledTree) → p ≤ first → first + choice_count gs ≤ p + all → bits_follow first gs ≡ true
    → AllByRecursion (λ g. (p ≤ g.first) × (g.first + length g.choices ≤ p + all)) gs
placed_from p all first [] l m h = tt
placed_from p all first (g ∷ gs) l m h =
    let both = and_parts (g.first == first) (bits_follow (first + length g.choices) gs) h in
    let here : g.first ≡ first = eqb-true g.first first both.0 in
    ((omega (arith, here), omega (arith, here)), placed_from p all (first + length g.choices) gs (omega arith) (omega arith) both.1)

pub all_placed : (q : QuestionTree) → bits_follow (length q.space.predicates) q.space.controlled ≡ true
    → AllByRecursion (IsPlaced q) q.space.controlled
all_placed q h = placed_from (length q.space.predicates) (choices_in_all q) (length q.space.predicates) q.space.controlled (omega arith)
    (omega arith) h

pub placed_signals : (q : Question) → All (λ g. IsPlaced (tree_of q) (controlled_tree g)) q.space.now.controlled
placed_signals q = All-from_recursion (λ g. IsPlaced (tree_of q) (controlled_tree g)) q.space.now.controlled
    (each_unmapped (IsPlaced (tree_of q)) controlled_tree q.space.now.controlled (all_placed (tree_of q) q.space.now.is_space.in_order))

-- the clauses of a signal by the index of the first choice
pub signal_by_base : (q : Question) → IsCounted q → (s v : ℕ) (g : Controlled) (base first size : ℕ)
    → base ≡ (s * valuations_of (tree_of q) + v) * choices_in_all (tree_of q) → first ≡ g.first - q.predicates → size ≡ length g.choices
    → exactly_one (λ x. base + x) first (first + size) ≡ signal_clauses (tree_of q) s v (controlled_tree g)
signal_by_base q h s v g base first size a b c =
    let d : size ≡ length (controlled_tree g).choices = c ∙ sym (length-map g.choices _) in
    let e : first ≡ g.first - length (tree_of q).space.predicates = b ∙ ap (λ (n : ℕ). g.first - n) h.predicates in
    rw (a, d, e) refl
