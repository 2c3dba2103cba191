use Rattle.std.proofs.Common.{◌∙◌, map, sym}
use Rattle.std.proofs.lemmas.Bool.{false≢true}
use Rattle.base_library.proofs.Each.{each_at}
use Rattle.tsl_terms.specs.WindowTree.{EquatedTree, equated_tree}
use Rattle.tsl_terms.specs.Congruence.{IsEquality}
use Rattle.term_congruence.proofs.PairsMade.{item_at}
use Rattle.term_congruence.proofs.congruence.are_equalities.Goals as goal

pub returns-then-not-is_equality : goal.returns-then-not-is_equality
returns-then-not-is_equality c =
    let es = c.args.equalities.now in
    let i = c.loop-listed.listed-index in
    let e = c.listed-item.result in (
      λ yes. absurd (false≢true yes),
      λ all. absurd (false≢true (sym c.if-not-is_equality.true ∙ c.is_equality.ensures.1
          (each_at (λ (d : EquatedTree). IsEquality c.args.equality d.probe) (map equated_tree es) i (equated_tree e) all
          (item_at es i e c.loop-listed-test.true c.listed-item.is)))),
    )
