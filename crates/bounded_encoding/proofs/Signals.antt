-- The variables of the choices of a signal are among those of all choices.
use Rattle.std.proofs.Common.{◌≡◌, ◌+◌, ◌<◌, ◌≤◌, ℕ, List, length, map, get_or, refl, arith}
use Rattle.std.proofs.lemmas.List.{length-map}
use Rattle.std.proofs.lemmas.Option.{slice_get_read}
use Rattle.tsl_terms.specs.declared.term.Probe.{Probe}
use Rattle.tsl_terms.specs.TermTree.{term_tree, probe_tree}
use Rattle.letter_space.specs.declared.controlled.Controlled.{Controlled}
use Rattle.letter_space.specs.SpaceTree.{choice_count, IsSpace}
use Rattle.letter_space.specs.ControlledView.{controlled_tree, space_with}
use Rattle.letter_space.proofs.Places.{slice_get_image}
use Rattle.bounded_encoding.proofs.SolutionsAreAssignments.LetterChoices.{signal_within}

pub item_within : (predicates : List Probe) (xs : List Controlled) (i : ℕ) (x : Controlled) → IsSpace (space_with predicates xs) →
    i < length xs → x ≡ get_or xs i x →
    (length predicates ≤ x.first) × (x.first + length x.choices ≤ length predicates + choice_count (map controlled_tree xs))
    × (length predicates + choice_count (map controlled_tree xs) ≤ 64)
item_within predicates xs i x is_space within is =
    let around = signal_within (length (map probe_tree predicates)) (map controlled_tree xs) is_space.in_order i (controlled_tree x)
    (slice_get_image controlled_tree xs i x (slice_get_read xs (length xs) i x refl within is)) in
    let few = is_space.few_bits in (
      omega (arith, around.0, length-map predicates probe_tree),
      omega (arith, around.1, length-map predicates probe_tree, length-map x.choices term_tree),
      omega (arith, few, length-map predicates probe_tree),
    )
