use Rattle.std.proofs.Common.{◌≡◌, ◌∙◌, ◌<◌, length, map, List, Some, slice_get, sym, ap, subst, arith}
use Rattle.std.proofs.lemmas.List.{length-map}
use Rattle.std.proofs.lemmas.Option.{slice_get_within}
use Rattle.tsl_terms.specs.declared.term.Probe.{Probe}
use Rattle.tsl_terms.specs.TermTree.{ProbeTree, probe_tree}
use Rattle.letter_space.specs.SpaceView.{space_tree}
use Rattle.machines.specs.MachineView.{environment_tree}
use Rattle.branch_finder.specs.internal.Paths.{path_window}
use Rattle.branch_finder.specs.internal.Looking.{pair_tree}
use Rattle.branch_finder.specs.internal.Thinning.{IsCandidate}
use Rattle.branch_finder.proofs.Seen.{seen_candidate, probe_read}
use Rattle.branch_finder.proofs.windows.window_of_pair.Goals as goal

pub returns : goal.returns
returns c =
    let look = c.args.look.now in
    let search = look.walk.search in
    let space = space_tree search.space.now in
    let e = environment_tree search.environment.now in
    let cells = search.cells.now in
    let path = look.walk.path.now in
    let prints = look.walk.prints.now in
    let seen = c.requires.seen in
    let pair = c.args.pair in
    let predicates = search.space.now.predicates in
    let slice = c.as_slice-predicates.result.now in
    let left_within : pair.left < length slice
    = omega (
      arith,
      slice_get_within (map probe_tree predicates) pair.left seen.left seen.is_left,
      length-map predicates probe_tree,
      ap length c.as_slice-predicates.ensures,
    ) in
    let left : probe_tree c.in_ok-left.left ≡ seen.left
    = c.in_ok-left.ensures
    ∙ probe_read slice pair.left c.index-predicates-pair.result seen.left left_within c.index-predicates-pair.is
    (ap (λ (ps : List Probe). slice_get (map probe_tree ps) pair.left) c.as_slice-predicates.ensures ∙ seen.is_left) in
    let is = c.in_ok-window_of.ensures seen.right seen.is_right
    ∙ ap (λ (p : ProbeTree). path_window space cells path prints (Some p) pair.left_at seen.right) left in
    subst (IsCandidate space e cells search.equality (length path)) (sym is)
    (seen_candidate space e cells search.equality search.mask path prints search.space.now.is_space c.requires.look.walk.search.fits.vectors
    c.requires.look.walk.path.vectors c.requires.look.walk.one_more (pair_tree pair) seen)
