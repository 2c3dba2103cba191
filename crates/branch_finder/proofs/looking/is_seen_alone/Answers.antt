use Rattle.std.proofs.Common.{map, arith}
use Rattle.std.proofs.lemmas.Bool.{false≢true}
use Rattle.std.proofs.lemmas.List.{length-map}
use Rattle.base_library.proofs.Places.{slice_get_some}
use Rattle.tsl_terms.specs.TermTree.{probe_tree}
use Rattle.branch_finder.proofs.LoopFacts.{false_is_not_true}
use Rattle.branch_finder.proofs.looking.is_seen_alone.Goals as goal

pub returns-then-not-is_one : goal.returns-then-not-is_one
returns-then-not-is_one c = (
  λ never. absurd (false≢true never),
  λ seen.
      absurd (false_is_not_true c.is_one.result c.if-not-is_one.true ((c.is_one.ensures seen.probe seen.is_probe).1 seen.congruent)),
)

pub returns : goal.returns
returns c =
    let predicates = c.args.look.now.walk.search.space.now.predicates in
    let probe = slice_get_some (map probe_tree predicates) c.args.right
    (omega (arith, c.requires.right, length-map predicates probe_tree)) in (
      λ told. record {
        probe = probe.0;
        is_probe = probe.1;
        congruent = (c.is_one.ensures probe.0 probe.1).0 c.if-not-is_one.false;
        told = c.in_ok-is_told_false.ensures.0 told;
      },
      λ seen. c.in_ok-is_told_false.ensures.1 seen.told,
    )
