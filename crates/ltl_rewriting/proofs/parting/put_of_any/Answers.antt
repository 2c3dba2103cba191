use Rattle.std.proofs.Common.{◌≡◌, ◌∙◌, ◌||◌, List, [], ◌∷◌, ◌++◌, map, sym, ap}
use Rattle.ltl_formula.specs.declared.formula.Ltl.{Ltl}
use Rattle.ltl_formula.specs.LtlTree.{ltl_tree}
use Rattle.ltl_formula.specs.LetterLoop.{holds}
use Rattle.ltl_rewriting.specs.internal.Members.{any_apart}
use Rattle.ltl_rewriting.proofs.PartedMembers.{awaited_put, any_others_put}
use Rattle.ltl_rewriting.proofs.parting.put_of_any.Goals as goal

pub returns-in_ok-push-in-Until : goal.returns-in_ok-push-in-Until
returns-in_ok-push-in-Until c loop i =
    let items : c.push.new.self.items ≡ c.args.awaited.now.items ++ c.in-Until.right.value ∷ [] =
    c.in_ok-push-in-Until.ensures.items ∙ ap (λ (f : Ltl). c.args.awaited.now.items ++ f ∷ []) c.into_inner.ensures in
    ap (λ (fs : List Ltl). any_apart loop (map ltl_tree fs) (map ltl_tree c.args.others.now.items) i) items
    ∙ awaited_put loop c.args.awaited.now.items c.args.others.now.items (ltl_tree c.in-Until.left.value) c.in-Until.right.value i
    (ap ltl_tree (sym c.deref.ensures) ∙ c.is_true.ensures c.if-is_true.true)
    ∙ ap (λ (m : Ltl). holds loop (ltl_tree m) i || any_apart loop (map ltl_tree c.args.awaited.now.items) (map ltl_tree c.args.others.now.items) i)
    (sym c.in-Until.is)

pub returns-in_ok-push-in-Until-2 : goal.returns-in_ok-push-in-Until-2
returns-in_ok-push-in-Until-2 c loop i =
    ap (λ (fs : List Ltl). any_apart loop (map ltl_tree c.args.awaited.now.items) (map ltl_tree fs) i) c.in_ok-push-in-Until-2.ensures.items
    ∙ any_others_put loop c.args.awaited.now.items c.args.others.now.items _ i
    ∙ ap (λ (m : Ltl). holds loop (ltl_tree m) i || any_apart loop (map ltl_tree c.args.awaited.now.items) (map ltl_tree c.args.others.now.items) i)
    (sym c.in-Until.is)
