use Rattle.std.proofs.Common.{◌∙◌, ◌<◌, ◌≤◌, ◌*◌, ◌^◌, List, ℕ, length, map, sym, ap, subst, arith}
use Rattle.std.specs.List.{AllByRecursion}
use Rattle.std.proofs.lemmas.List.{length-map}
use Rattle.tsl_terms.specs.TermTree.{term_tree, probe_tree}
use Rattle.letter_space.specs.ControlledView.{controlled_tree}
use Rattle.letter_space.specs.SpaceView.{space_tree}
use Rattle.letter_space.specs.Vectors.{vector_count}
use Rattle.letter_space.proofs.Bounds.{some_vector}
use Rattle.machines.specs.Visits.{IsVisited}
use Rattle.machines.specs.MachineView.{environment_tree}
use Rattle.branch_finder.specs.declared.limits.TheConstants.{MOST_BRANCHES}
use Rattle.branch_finder.specs.internal.Prints.{ArePrints}
use Rattle.branch_finder.specs.internal.Sets.{set_of, AreFirsts}
use Rattle.branch_finder.specs.internal.Planes.{IsPlaneOf, AreLinksOf}
use Rattle.branch_finder.specs.internal.Visiting.{AreVisited}
use Rattle.branch_finder.proofs.MoveLemmas.{visited_within, visited_plane}
use Rattle.branch_finder.proofs.Paths.{paths_within, powers_below}
use Rattle.branch_finder.proofs.VisitLemmas.{is_environment}
use Rattle.branch_finder.proofs.Found.{some_first}
use Rattle.branch_finder.proofs.finding.window_of_cells.Goals as goal

pub plane_of-requires : goal.plane_of-requires
plane_of-requires c =
    let e = environment_tree c.args.environment.now in
    record {
      within = subst (AllByRecursion (λ s. s < c.args.environment.now.states)) (sym c.as_slice.ensures.value)
          (visited_within e c.in_ok-visited.visited.items (is_environment c.args.environment.now) c.in_ok-visited.ensures);
    }

pub vector_masks-requires : goal.vector_masks-requires
vector_masks-requires c = record { vectors = omega (arith, c.requires.fits.vectors) }

pub sets_of-requires : goal.sets_of-requires
sets_of-requires c = record { vectors = omega (arith, c.requires.fits.vectors) }

pub links_of-requires : goal.links_of-requires
links_of-requires c = record { masks = c.as_slice-2.ensures.value ∙ c.in_ok-masks.ensures }

-- the first vectors of sets
firsts_are : (c : goal.After-search-1) → AreFirsts (space_tree c.args.space.now) c.args.cells.now c.args.environment.now.vectors
    c.as_slice-8.result.now
firsts_are c =
    subst (AreFirsts (space_tree c.args.space.now) c.args.cells.now c.args.environment.now.vectors) (sym c.as_slice-8.ensures.value)
    c.in_ok-sets.ensures.sets.are_firsts

some : (c : goal.After-search-1) → 1 ≤ c.args.environment.now.vectors
some c =
    omega (arith, some_vector (map controlled_tree c.args.space.now.controlled) c.args.space.now.is_space.chosen, c.requires.fits.vectors)

pub least_window-requires-clause-search : goal.least_window-requires-clause-search
least_window-requires-clause-search c =
    let space = space_tree c.args.space.now in
    let e = environment_tree c.args.environment.now in
    let cells = c.args.cells.now in
    record {
      fits = c.requires.fits;
      visited = subst (IsPlaneOf c.args.environment.now.states (IsVisited e)) (sym c.as_slice-4.ensures.value)
          (visited_plane e c.as_slice.result.now c.in_ok-visited-2.visited.items
          (subst (AreVisited e) (sym c.as_slice.ensures.value) c.in_ok-visited.ensures) c.in_ok-visited-2.ensures);
      mask = c.equality_bits-mask.ensures;
      prints = subst (ArePrints e c.equality_bits-mask.result) (sym c.as_slice-5.ensures.value) c.in_ok-prints.ensures;
      terms = ap (map term_tree) c.as_slice-6.ensures.value ∙ c.in_ok-arguments.ensures.terms;
      starts = c.as_slice-7.ensures.value ∙ c.in_ok-arguments.ensures.starts;
      firsts = firsts_are c;
      few = omega (arith, ap length c.as_slice-8.ensures.value, c.in_ok-sets.ensures.small);
      links = subst (λ (sets : List ℕ). AreLinksOf space e sets c.as_slice-9.result.now)
          (c.as_slice-3.ensures.value ∙ c.in_ok-sets.ensures.sets.are_sets ∙ ap (map (set_of space cells)) (sym c.as_slice-8.ensures.value))
          (subst (AreLinksOf space e c.as_slice-3.result.now) (sym c.as_slice-9.ensures) c.in_ok-links.ensures);
    }

pub least_window-requires-clause-some : goal.least_window-requires-clause-some
least_window-requires-clause-some c =
    some_first (space_tree c.args.space.now) c.args.cells.now c.as_slice-8.result.now c.args.environment.now.vectors (firsts_are c) (some c)

pub least_window-requires-clause-few : goal.least_window-requires-clause-few
least_window-requires-clause-few c =
    let vectors = c.args.environment.now.vectors in
    let predicates = length c.args.space.now.predicates in
    let sets = powers_below (length c.as_slice-8.result.now) vectors c.args.depth (firsts_are c).few in
    let paths = paths_within predicates vectors (some c) c.args.depth c.requires.some in
    let few : predicates ^ 2 * vectors ^ c.args.depth ≤ MOST_BRANCHES
    = subst (λ n. predicates ^ 2 * n ^ c.args.depth ≤ MOST_BRANCHES) (sym c.requires.fits.vectors)
    (subst (λ n. n ^ 2 * vector_count (space_tree c.args.space.now).controlled ^ c.args.depth ≤ MOST_BRANCHES)
    (length-map c.args.space.now.predicates probe_tree) c.requires.few) in
    omega (arith, sets, paths, few)
