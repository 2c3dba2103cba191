use Rattle.std.proofs.Common.{◌∙◌, refl, sym, subst, arith}
use Rattle.std.proofs.lemmas.Bool.{MatchBool-at_true, iff_false}
use Rattle.base_library.proofs.Options.{only_none}
use Rattle.annotation_check.specs.internal.Pairs.{AreMoveListings}
use Rattle.annotation_check.specs.internal.PairsView.{pairs_tree}
use Rattle.annotation_check.specs.internal.Growth.{IsOnTheWay}
use Rattle.annotation_check.proofs.Following.{grown_before, last_of_pair, last_rightful, passed_over, looked_at, annotated}
use Rattle.annotation_check.proofs.LeastNumbers.{nothing_left, started, number_of_rise}
use Rattle.annotation_check.proofs.Raising.{place_within}
use Rattle.annotation_check.proofs.StepsKept.{none_kept}
use Rattle.annotation_check.proofs.growing.Pairs.least_numbers.Goals as goal

pub loop-rise-init : goal.loop-rise-init
loop-rise-init c = (
  started (pairs_tree c.args.self.now) c.args.self.now.are_pairs _ refl c.in_ok-vec.field-0.items c.new.result.items
      c.raise.new.self.numbers.items c.raise.new.self.risen.items
      (c.in_ok-vec.ensures.items_if_clones_equal (only_none _ (λ _ impossible. impossible)))
      c.new.ensures.items c.in_ok-raise.ensures.numbers c.in_ok-raise.ensures.risen,
  none_kept (pairs_tree c.args.self.now) _ c.in_ok-kept.kept.of_pairs.items c.in_ok-kept.ensures refl,
)

pub has-requires : goal.has-requires
has-requires c =
    let p = pairs_tree c.args.self.now in
    let numbers = c.loop-rise.growth.numbers.items in
    let way = subst (IsOnTheWay p numbers) c.in-Some.ensures.items c.loop-rise.invariant.0 in
    place_within p numbers c.in-Some.rise way.grown.size (last_of_pair p numbers c.pop.new.self.items c.in-Some.rise way)

pub loop-rise-preserved-then-not-has : goal.loop-rise-preserved-then-not-has
loop-rise-preserved-then-not-has c =
    let p = pairs_tree c.args.self.now in
    let numbers = c.loop-rise.growth.numbers.items in
    let way = subst (IsOnTheWay p numbers) c.in-Some.ensures.items c.loop-rise.invariant.0 in
    let here = number_of_rise p numbers c.in-Some.rise way.grown.size (last_of_pair p numbers c.pop.new.self.items c.in-Some.rise way) in (
      passed_over p numbers c.pop.new.self.items c.in-Some.rise way (λ is. iff_false c.has.ensures c.if-not-has.true (sym here ∙ is)),
      c.loop-rise.invariant.1,
    )

pub look-requires-clause-grown : goal.look-requires-clause-grown
look-requires-clause-grown c =
    let p = pairs_tree c.args.self.now in
    let numbers = c.loop-rise.growth.numbers.items in
    let way = subst (IsOnTheWay p numbers) c.in-Some.ensures.items c.loop-rise.invariant.0 in
    grown_before p numbers c.pop.new.self.items c.in-Some.rise way

pub look-requires-clause-rightful : goal.look-requires-clause-rightful
look-requires-clause-rightful c =
    let p = pairs_tree c.args.self.now in
    let numbers = c.loop-rise.growth.numbers.items in
    let way = subst (IsOnTheWay p numbers) c.in-Some.ensures.items c.loop-rise.invariant.0 in
    let here = number_of_rise p numbers c.in-Some.rise way.grown.size (last_of_pair p numbers c.pop.new.self.items c.in-Some.rise way) in
    last_rightful p numbers c.pop.new.self.items c.in-Some.rise way (here ∙ c.has.ensures.0 c.if-not-has.false)

pub look-requires-clause-of_pair : goal.look-requires-clause-of_pair
look-requires-clause-of_pair c =
    let p = pairs_tree c.args.self.now in
    let numbers = c.loop-rise.growth.numbers.items in
    let way = subst (IsOnTheWay p numbers) c.in-Some.ensures.items c.loop-rise.invariant.0 in
    last_of_pair p numbers c.pop.new.self.items c.in-Some.rise way

pub look-requires-clause-listed : goal.look-requires-clause-listed
look-requires-clause-listed c =
    let p = pairs_tree c.args.self.now in
    subst (λ ls. AreMoveListings p.moves ls p.machine_states) (sym c.deref.ensures.value) c.in_ok-listings.ensures

pub loop-rise-preserved : goal.loop-rise-preserved
loop-rise-preserved c =
    let p = pairs_tree c.args.self.now in
    let numbers = c.loop-rise.growth.numbers.items in
    let way = subst (IsOnTheWay p numbers) c.in-Some.ensures.items c.loop-rise.invariant.0 in
    let followed = MatchBool-at_true _ _ c.if-not-branch.false c.in_ok-look.ensures.followed in (
      looked_at p numbers c.pop.new.self.items c.in-Some.rise way c.look.new.growth.numbers.items c.look.new.growth.risen.items followed.0
          followed.1,
      c.in_ok-look.ensures.kept,
    )

pub returns-clause-numbers : goal.returns-clause-numbers
returns-clause-numbers c =
    let p = pairs_tree c.args.self.now in
    let numbers = c.loop-rise.growth.numbers.items in
    let risen = c.loop-rise.growth.risen in
    let none = c.in_default.ensures.cases.0 in
    let size = risen.ok.0 in
    annotated p numbers (subst (IsOnTheWay p numbers) (nothing_left risen.items (omega (arith, none, size))) c.loop-rise.invariant.0)

pub returns-clause-least : goal.returns-clause-least
returns-clause-least c other numbering s q n is = c.loop-rise.invariant.0.grown.least s q n is other numbering
