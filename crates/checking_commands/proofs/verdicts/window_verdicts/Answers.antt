use Rattle.std.proofs.Common.{◌≡◌, ℕ, zero, suc, ◌+◌, ◌<◌, Bool, List, [], ◌∷◌, ◌++◌, length, map, get_or, take, refl, ap, sym, ◌∙◌, arith}
use Rattle.std.specs.List.{AllByRecursion}
use Rattle.std.proofs.lemmas.List.{take_more, take_all}
use Rattle.tsl_terms.specs.declared.window.Window.{Window}
use Rattle.tsl_terms.specs.FormulaTree.{FormulaTree}
use Rattle.tsl_terms.specs.WindowTree.{window_tree, window_formula_of}
use Rattle.tsl_meaning.specs.RunTree.{run_tree}
use Rattle.tsl_meaning.specs.RunLasso.{IsJudged}
use Rattle.checking_commands.specs.internal.RunView.{meanings_read, verdict_in, verdicts_in}
use Rattle.checking_commands.proofs.verdicts.window_verdicts.Goals as goal

window_at : (P : FormulaTree → Type 0) (ws : List Window) (i : ℕ) (d : Window) →
    AllByRecursion P (map window_formula_of (map window_tree ws)) → i < length ws → P (window_formula_of (window_tree (get_or ws i d)))
window_at P [] i d each within = absurd (omega arith)
window_at P (w ∷ ws) zero d each within = each.0
window_at P (w ∷ ws) (suc i) d each within = window_at P ws i d each.1 (omega arith)

pub window_verdict-requires : goal.window_verdict-requires
window_verdict-requires c =
    rw c.window-item.is
    (window_at (IsJudged (meanings_read c.args.meaning.now) (run_tree (λ v. v) c.args.run.now)) c.args.windows.now c.loop-window.window-index
    c.window-item.result c.requires c.loop-window-test.true)

module _ (holds : FormulaTree → Bool) where
  verdicts_push : (ws : List Window) (w : Window) →
      map holds (map window_formula_of (map window_tree (ws ++ w ∷ []))) ≡
      map holds (map window_formula_of (map window_tree ws)) ++ holds (window_formula_of (window_tree w)) ∷ []
  verdicts_push [] w = refl
  verdicts_push (v ∷ vs) w = ap (λ bs. holds (window_formula_of (window_tree v)) ∷ bs) (verdicts_push vs w)

  verdicts_more : (ws : List Window) (i : ℕ) (w : Window) (old new : List Bool) (v : Bool) → i < length ws → w ≡ get_or ws i w →
      old ≡ map holds (map window_formula_of (map window_tree (take i ws))) → v ≡ holds (window_formula_of (window_tree w)) →
      new ≡ old ++ v ∷ [] → new ≡ map holds (map window_formula_of (map window_tree (take (i + 1) ws)))
  verdicts_more ws i w old new v within is so_far here pushed =
      pushed
      ∙ (λ k. so_far k ++ here k ∷ [])
      ∙ sym (verdicts_push (take i ws) w)
      ∙ ap (λ (xs : List Window). map holds (map window_formula_of (map window_tree xs)))
      (ap (λ (x : Window). take i ws ++ x ∷ []) is ∙ sym (take_more ws i w within))

pub loop-window-preserved : goal.loop-window-preserved
loop-window-preserved c =
    verdicts_more (verdict_in (meanings_read c.args.meaning.now) (run_tree (λ v. v) c.args.run.now)) c.args.windows.now
    c.loop-window.window-index c.window-item.result c.loop-window.verdicts.items c.push.new.self.items c.in_ok-window_verdict.field-0
    c.loop-window-test.true c.window-item.is c.loop-window.invariant c.in_ok-window_verdict.ensures c.in_ok-push.ensures.items

pub returns : goal.returns
returns c =
    c.loop-window.invariant
    ∙ ap
    (λ (ws : List Window). verdicts_in (meanings_read c.args.meaning.now) (run_tree (λ v. v) c.args.run.now) (map window_formula_of
    (map window_tree ws)))
    (take_all c.loop-window.window-index c.args.windows.now c.loop-window-test.false)
