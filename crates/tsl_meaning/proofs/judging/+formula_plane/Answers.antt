use Rattle.std.proofs.Common.{◌≡◌, ◌∙◌, ◌+◌, ap, sym, subst, arith, rules}
use Rattle.base_library.proofs.Each.{each_left, each_right}
use Rattle.tsl_terms.specs.declared.formula.Formula.{the_lemmas}
use Rattle.tsl_terms.specs.declared.formula.FormulaList.{the_lemmas as list_lemmas}
use Rattle.tsl_terms.specs.FormulaTree.{more_formulas, formula_tree, formula_trees}
use Rattle.tsl_terms.specs.Atoms.{atoms, atoms_of_members}
use Rattle.position_planes.specs.Positions.{IsPlaneOf}
use Rattle.tsl_meaning.specs.RunTree.{run_tree}
use Rattle.tsl_meaning.specs.RunLasso.{run_lasso, HasTruths}
use Rattle.tsl_meaning.proofs.RunTruths.{unary_made, binary_made}
use Rattle.tsl_meaning.proofs.RunTruths.{none_joined, one_joined}
use Rattle.tsl_meaning.proofs.judging.+formula_plane.Goals as goal

pub formula_plane-formula_plane-requires-in-Binary-2 : goal.formula_plane-formula_plane-requires-in-Binary-2
formula_plane-formula_plane-requires-in-Binary-2 g t c =
    let had = each_right (HasTruths (g.J.Algebra.meanings c.args.judge.now) (run_tree g.J.Algebra.seen c.args.run.now))
    (atoms (formula_tree c.in-Binary.left.now)) (atoms (formula_tree c.in-Binary.right.now))
    (rw (sym c.in-Binary.ensures.tree) at c.requires.had) in
    search (rules, had)

pub formula_plane-returns-in_ok-plane-in-Unary : goal.formula_plane-returns-in_ok-plane-in-Unary
formula_plane-returns-in_ok-plane-in-Unary g t c =
    unary_made g.J.Algebra.seen (g.J.Algebra.meanings c.args.judge.now) c.args.run.now c.unary_plane.result c.in-Unary.operator
    (formula_tree c.in-Unary.part.now) _ c.in_ok-plane-in-Unary.plane.items (sym c.in-Unary.ensures.tree)
    c.in_ok-plane-in-Unary.ensures c.unary_plane.ensures

pub formula_plane-returns-in_ok-right-in-Binary : goal.formula_plane-returns-in_ok-right-in-Binary
formula_plane-returns-in_ok-right-in-Binary g t c =
    binary_made g.J.Algebra.seen (g.J.Algebra.meanings c.args.judge.now) c.args.run.now c.in-Binary.operator
    (formula_tree c.in-Binary.left.now) (formula_tree c.in-Binary.right.now) _ c.in_ok-left-in-Binary.left.items
    c.in_ok-right-in-Binary.right.items c.binary_plane.result.items (sym c.in-Binary.ensures.tree) c.in_ok-left-in-Binary.ensures
    c.in_ok-right-in-Binary.ensures c.binary_plane.ensures

pub member_plane-loop-rest-init : goal.member_plane-loop-rest-init
member_plane-loop-rest-init g t c = record {
  shorter = omega arith;
  had = c.requires.had;
  joined = none_joined (run_lasso (g.J.Algebra.meanings c.args.judge.now) (run_tree g.J.Algebra.seen c.args.run.now)) c.args.operator
      (c.args.run.now.start + c.args.run.now.length) c.in_ok-plane.plane.items (formula_trees c.args.members.now)
      (subst (λ b. IsPlaneOf (c.args.run.now.start + c.args.run.now.length) (λ _. b) c.in_ok-plane.plane.items) c.of_none.ensures
      c.in_ok-plane.ensures);
}

pub member_plane-formula_plane-requires : goal.member_plane-formula_plane-requires
member_plane-formula_plane-requires g t c =
    let had = each_left (HasTruths (g.J.Algebra.meanings c.args.judge.now) (run_tree g.J.Algebra.seen c.args.run.now))
    (atoms (formula_tree c.in-More.member.value)) (atoms_of_members (formula_trees c.in-More.next.value))
    (rw c.in-More.is at c.loop-rest.invariant.had) in
    search (rules, the_lemmas, list_lemmas, had)

pub member_plane-loop-rest-preserved : goal.member_plane-loop-rest-preserved
member_plane-loop-rest-preserved g t c =
    let left : formula_trees c.loop-rest.rest.now ≡ more_formulas (formula_tree c.deref.result.now)
    (formula_trees c.deref-rest.result.now) =
    ap formula_trees c.in-More.is ∙ (λ i. more_formulas (formula_tree (sym c.deref.ensures i)) (formula_trees
    (sym c.deref-rest.ensures i))) in
    record {
      shorter = search (rules, list_lemmas);
      had = each_right (HasTruths (g.J.Algebra.meanings c.args.judge.now) (run_tree g.J.Algebra.seen c.args.run.now))
          (atoms (formula_tree c.deref.result.now)) (atoms_of_members (formula_trees c.deref-rest.result.now))
          (rw left at c.loop-rest.invariant.had);
      joined = one_joined (run_lasso (g.J.Algebra.meanings c.args.judge.now) (run_tree g.J.Algebra.seen c.args.run.now)) c.args.operator
          (c.args.run.now.start + c.args.run.now.length) c.loop-rest.plane.items c.in_ok-more.more.items c.joined_plane-plane.result.items
          (formula_tree c.deref.result.now) _ _ _ left c.loop-rest.invariant.joined c.in_ok-more.ensures
          (λ a b on_a on_b. c.joined_plane-plane.ensures (c.args.run.now.start + c.args.run.now.length) a b on_a
          (subst (IsPlaneOf (c.args.run.now.start + c.args.run.now.length) b) (sym c.deref-in-More.ensures.value) on_b));
    }
