use Rattle.std.proofs.Common.{◌≡◌, ◌∙◌, ◌<◌, [], List, ℕ, length, map, sym, ap, subst, arith}
use Rattle.std.specs.Prelude.{IfNone}
use Rattle.std.specs.List.{AllByRecursion}
use Rattle.std.proofs.lemmas.List.{length-map}
use Rattle.letter_space.specs.SpaceView.{space_tree}
use Rattle.machines.specs.MachineView.{environment_tree}
use Rattle.branch_finder.specs.internal.Sets.{first_of}
use Rattle.branch_finder.specs.internal.Finding.{HasNoneOn, HasNoneBy}
use Rattle.branch_finder.proofs.LoopFacts.{none_leads}
use Rattle.branch_finder.proofs.VisitLemmas.{is_environment}
use Rattle.branch_finder.proofs.Chosen.{none_by_none}
use Rattle.branch_finder.proofs.Found.{firsts_within}
use Rattle.branch_finder.proofs.finding.window_on_path.Goals as goal

pub window_from-requires-clause-path : goal.window_from-requires-clause-path
window_from-requires-clause-path c =
    let search = c.args.search.now in
    let firsts = search.firsts.now in
    let numbers = c.args.numbers.now in
    let is : c.as_slice.result.now ≡ map (first_of firsts) numbers = c.as_slice.ensures.value ∙ c.in_ok-path.ensures in
    record {
      numbers_within = c.requires.numbers;
      is = is;
      vectors = subst (AllByRecursion (λ v. v < search.environment.now.vectors)) (sym is)
          (firsts_within firsts numbers search.environment.now.vectors c.requires.search.firsts.within c.requires.numbers);
      short = omega (arith, ap length is, length-map numbers (first_of firsts), c.requires.short);
    }

pub returns-clause-none : goal.returns-clause-none
returns-clause-none c =
    let search = c.args.search.now in
    let space = space_tree search.space.now in
    let e = environment_tree search.environment.now in
    let cells = search.cells.now in
    let path = map (first_of search.firsts.now) c.args.numbers.now in
    let is : c.as_slice.result.now ≡ path = c.as_slice.ensures.value ∙ c.in_ok-path.ensures in
    let none : c.as_slice-2.result.now ≡ [] = c.as_slice-2.ensures.value ∙ c.new-prints.ensures.items in
    none_leads c.in_ok-found.found (HasNoneBy space e cells search.equality search.mask path [])
    (HasNoneOn space e cells search.equality path)
    (none_by_none space e (is_environment search.environment.now) cells search.equality search.mask path)
    (subst (λ (ps : List ℕ). IfNone c.in_ok-found.found (HasNoneBy space e cells search.equality search.mask path ps)) none
    (subst (λ (vs : List ℕ). IfNone c.in_ok-found.found (HasNoneBy space e cells search.equality search.mask vs c.as_slice-2.result.now)) is
    c.in_ok-found.ensures.none))
