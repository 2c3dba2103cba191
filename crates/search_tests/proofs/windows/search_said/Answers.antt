use Rattle.std.proofs.Common.{◌≡◌, ◌∙◌, ℕ, true, List, map, sym, subst, arith}
use Rattle.std.specs.List.{AllByRecursion}
use Rattle.base_library.specs.Numbers.{is_among, IsDistinct}
use Rattle.base_library.proofs.Each.{each_from_places}
use Rattle.base_library.proofs.Numbers.{among_at}
use Rattle.letter_space.specs.SpaceTree.{ControlledTree}
use Rattle.letter_space.specs.SpaceView.{space_tree}
use Rattle.branch_finder.specs.Finding.{AreControlled}
use Rattle.search_tests.proofs.windows.search_said.Goals as goal

-- each number of a list is among them
each_among : (ns : List ℕ) → AllByRecursion (λ n. is_among ns n ≡ true) ns
each_among ns = each_from_places (λ n. is_among ns n ≡ true) ns (λ i n at. among_at ns i n at)

pub find_window-requires : goal.find_window-requires
find_window-requires g c =
    let space = space_tree c.in_ok-space.space in
    let cells = c.deref.ensures.value ∙ c.in_ok-cells.ensures in
    record {
      fits = c.in_ok-environment.ensures;
      controlled =
          subst (AreControlled space) (sym cells) (each_among (map (λ (s : ControlledTree). s.signal) space.controlled));
      distinct = subst IsDistinct (sym cells) c.in_ok-space.space.is_space.signals_once;
      short = omega arith;
    }
