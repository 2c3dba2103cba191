-- How many choices there are, signal by signal.
use Rattle.std.proofs.Common.{◌≡◌, ℕ, ◌+◌, ◌<◌, ◌≤◌, List, ◌∷◌, length, map, drop, get_or, ap, sym, ◌∙◌, arith}
use Rattle.std.proofs.lemmas.List.{drop_all, drop_more, length-map}
use Rattle.tsl_terms.specs.TermTree.{term_tree}
use Rattle.tsl_terms.specs.declared.term.Probe.{Probe}
use Rattle.letter_space.specs.declared.controlled.Controlled.{Controlled}
use Rattle.letter_space.specs.ControlledView.{controlled_tree, space_with}
use Rattle.letter_space.specs.SpaceTree.{choice_count, IsSpace}

-- the choices of the signals from a place on
abbrev pub choices_left : List Controlled → ℕ → ℕ
choices_left items i = choice_count (map controlled_tree (drop i items))

pub next_counted : (items : List Controlled) (i : ℕ) (item : Controlled) → i < length items → item ≡ get_or items i item →
    choices_left items i ≡ length item.choices + choices_left items (i + 1)
next_counted items i item within is =
    ap (λ xs. choice_count (map controlled_tree xs)) (drop_more items i item within ∙ ap (λ x. x ∷ drop (i + 1) items) (sym is))
    ∙ ap (λ n. n + choices_left items (i + 1)) (length-map item.choices term_tree)

pub few_choices : (predicates : List Probe) (items : List Controlled) → IsSpace (space_with predicates items) → choices_left items 0 ≤ 64
few_choices predicates items space = omega (arith, space.few_bits)

pub none_left : (items : List Controlled) (i : ℕ) → length items ≤ i → choices_left items i ≡ 0
none_left items i past = ap (λ xs. choice_count (map controlled_tree xs)) (drop_all i items past)
