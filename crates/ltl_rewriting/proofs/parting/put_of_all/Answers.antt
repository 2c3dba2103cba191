use Rattle.std.proofs.Common.{◌≡◌, ◌∙◌, ◌&&◌, List, [], ◌∷◌, ◌++◌, map, sym, ap}
use Rattle.ltl_formula.specs.declared.formula.Ltl.{Ltl}
use Rattle.ltl_formula.specs.LtlTree.{ltl_tree}
use Rattle.ltl_formula.specs.LetterLoop.{holds}
use Rattle.ltl_rewriting.specs.internal.Members.{all_apart}
use Rattle.ltl_rewriting.proofs.PartedMembers.{always_put, all_others_put}
use Rattle.ltl_rewriting.proofs.parting.put_of_all.Goals as goal

pub returns-in_ok-push-in-Release : goal.returns-in_ok-push-in-Release
returns-in_ok-push-in-Release c loop i =
    let items : c.push.new.self.items ≡ c.args.always.now.items ++ c.in-Release.right.value ∷ [] =
    c.in_ok-push-in-Release.ensures.items ∙ ap (λ (f : Ltl). c.args.always.now.items ++ f ∷ []) c.into_inner.ensures in
    ap (λ (fs : List Ltl). all_apart loop (map ltl_tree fs) (map ltl_tree c.args.others.now.items) i) items
    ∙ always_put loop c.args.always.now.items c.args.others.now.items (ltl_tree c.in-Release.left.value) c.in-Release.right.value i
    (ap ltl_tree (sym c.deref.ensures) ∙ c.is_false.ensures c.if-is_false.true)
    ∙ ap (λ (m : Ltl). holds loop (ltl_tree m) i && all_apart loop (map ltl_tree c.args.always.now.items) (map ltl_tree c.args.others.now.items) i)
    (sym c.in-Release.is)

pub returns-in_ok-push-in-Release-2 : goal.returns-in_ok-push-in-Release-2
returns-in_ok-push-in-Release-2 c loop i =
    ap (λ (fs : List Ltl). all_apart loop (map ltl_tree c.args.always.now.items) (map ltl_tree fs) i) c.in_ok-push-in-Release-2.ensures.items
    ∙ all_others_put loop c.args.always.now.items c.args.others.now.items _ i
    ∙ ap (λ (m : Ltl). holds loop (ltl_tree m) i && all_apart loop (map ltl_tree c.args.always.now.items) (map ltl_tree c.args.others.now.items) i)
    (sym c.in-Release.is)
