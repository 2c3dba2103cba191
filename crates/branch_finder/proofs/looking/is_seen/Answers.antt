use Rattle.std.proofs.Common.{map, arith}
use Rattle.std.proofs.lemmas.Bool.{false≢true}
use Rattle.std.proofs.lemmas.List.{length-map}
use Rattle.base_library.proofs.Places.{slice_get_some}
use Rattle.tsl_terms.specs.TermTree.{probe_tree}
use Rattle.branch_finder.proofs.LoopFacts.{false_is_not_true}
use Rattle.branch_finder.proofs.looking.is_seen.Goals as goal

pub returns-then-not-is_congruent : goal.returns-then-not-is_congruent
returns-then-not-is_congruent c = (
  λ never. absurd (false≢true never),
  λ seen.
      absurd (false_is_not_true c.is_congruent.result c.if-not-is_congruent.true
      ((c.is_congruent.ensures seen.left seen.right seen.is_left seen.is_right).1 seen.congruent)),
)

pub returns : goal.returns
returns c =
    let look = c.args.look.now in
    let pair = c.args.pair in
    let probes = map probe_tree look.walk.search.space.now.predicates in
    let left = slice_get_some probes pair.left
    (omega (arith, c.requires.pair.left, length-map look.walk.search.space.now.predicates probe_tree)) in
    let right = slice_get_some probes pair.right
    (omega (arith, c.requires.pair.right, length-map look.walk.search.space.now.predicates probe_tree)) in (
      λ told. record {
        within = c.requires.pair.left_at;
        left = left.0;
        is_left = left.1;
        right = right.0;
        is_right = right.1;
        congruent = (c.is_congruent.ensures left.0 right.0 left.1 right.1).0 c.if-not-is_congruent.false;
        told = c.in_ok-is_told_apart.ensures.0 told;
      },
      λ seen. c.in_ok-is_told_apart.ensures.1 seen.told,
    )
