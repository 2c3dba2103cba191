use Rattle.std.proofs.Common.{◌≡◌, ◌+◌, ◌++◌, ℕ, List, [], ◌∷◌, drop, ap, sym, subst, ◌∙◌, arith}
use Rattle.std.proofs.lemmas.List.{append-nil, drop_more, drop_all}
use Rattle.clause_core.specs.Literals.{Lit}
use Rattle.clause_learning.specs.Units.{ShowAlone}
use Rattle.clause_learning.proofs.Noting.{AreHintsFor, hints_more, show_alone}
use Rattle.clause_learning.proofs.Noting.AreHintsFor.{none}
use Rattle.clause_learning.proofs.units.Units.hints_of.Goals as goal

pub loop-other-preserved : goal.loop-other-preserved
loop-other-preserved c =
    let t = c.args.trail.now in
    let items = c.clause-other-items.result.now in
    let i = c.loop-other.other-index in
    let next : drop i items ≡ c.other-item.result ∷ drop (i + 1) items =
    drop_more items i c.other-item.result (omega (arith, c.loop-other-test.true))
    ∙ ap (λ (l : Lit). l ∷ drop (i + 1) items) (sym c.other-item.is) in
    hints_more t.clauses c.args.literal items (drop (i + 1) items) c.other-item.result c.loop-other.hints.items c.show.new.hints.items
    (subst (λ (ls : List Lit). (later : List ℕ) → AreHintsFor t.clauses c.args.literal ls later →
    AreHintsFor t.clauses c.args.literal items (c.loop-other.hints.items ++ later)) next c.loop-other.invariant)
    (c.in_ok-show.ensures c.if-not-branch.false)

pub returns : goal.returns
returns c =
    let t = c.args.trail.now in
    let items = c.clause-other-items.result.now in
    let i = c.loop-other.other-index in
    let known : AreHintsFor t.clauses c.args.literal items (c.loop-other.hints.items ++ []) = c.loop-other.invariant []
    (subst (λ (ls : List Lit). AreHintsFor t.clauses c.args.literal ls [])
    (sym (drop_all i items (omega (arith, c.loop-other-test.false)))) none) in
    subst (ShowAlone t c.args.literal)
    (sym (c.in_ok-push.ensures.items ∙ ap (λ (n : ℕ). c.loop-other.hints.items ++ (n + 1) ∷ []) c.from.ensures))
    (show_alone t c.requires.trail.sound c.args.number items c.args.literal c.loop-other.hints.items c.clause-other-items.ensures.value
    c.clause-other-items.ensures.increasing (c.requires.member items c.clause-other-items.ensures.value)
    (subst (AreHintsFor t.clauses c.args.literal items) (append-nil c.loop-other.hints.items) known))
