use Rattle.std.proofs.Common.{◌≡◌, ◌≤◌, ◌++◌, map}
use Rattle.std.specs.Prelude.{option_map}
use Rattle.interp_core.specs.declared.free_terms.FreeList.{size-FreeList}
use Rattle.interp_core.specs.FreeView.{free_trees}
use Rattle.interp_core.specs.Image.{images_of, row_value}
use Rattle.interp_core.proofs.images.+images.Given as goal

-- the images that were found, and then those of the free terms that are left
abbrev pub invariant-images-loop-rest : goal.invariant-images-loop-rest
invariant-images-loop-rest g l =
    (option_map (λ vs. map g.A.Algebra.seen l.found.items ++ vs)
    (images_of (g.A.Algebra.meanings l.algebra) (row_value g.A.Algebra.seen l.rows) (free_trees l.rest))
    ≡ images_of (g.A.Algebra.meanings l.fn.algebra) (row_value g.A.Algebra.seen l.fn.rows) (free_trees l.fn.frees)) ×
    (size-FreeList l.rest ≤ size-FreeList l.initial.rest)
