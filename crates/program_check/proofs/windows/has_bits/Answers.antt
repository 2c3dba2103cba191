use Rattle.std.proofs.Common.{◌∙◌, sym, ap}
use Rattle.std.specs.Prelude.{is_some}
use Rattle.std.specs.List.{list_all}
use Rattle.std.proofs.lemmas.List.Folds.{list_all-map}
use Rattle.base_library.proofs.Booleans.{and_then}
use Rattle.tsl_terms.specs.declared.window.Listed.{Listed}
use Rattle.tsl_terms.specs.WindowTree.{ListedTree, listed_tree}
use Rattle.letter_space.specs.SpaceView.{space_tree}
use Rattle.letter_space.specs.Bits.{bit_of_update}
use Rattle.program_check.proofs.windows.has_bits.Goals as goal

pub returns-then-has_tests : goal.returns-then-has_tests
returns-then-has_tests c =
    let has : ListedTree → _ = λ u. is_some (bit_of_update (space_tree c.args.space.now) u.signal u.term) in
    and_then _ _ _ (sym c.has_tests.ensures ∙ c.if-has_tests.true)
    (c.are_choices.ensures ∙ ap (list_all (λ (u : Listed). has (listed_tree u))) c.as_slice.ensures
    ∙ sym (list_all-map has listed_tree c.args.window.now.updates))
