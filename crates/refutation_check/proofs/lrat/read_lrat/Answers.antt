use Rattle.std.proofs.Common.{◌≡◌, ◌++◌, false, All, ◌≤◌, length, sym, ap, ◌∙◌, subst, arith}
use Rattle.std.specs.Prelude.{option_to_list}
use Rattle.std.proofs.lemmas.Bool.{not-true}
use Rattle.tsl_text.specs.Cursor.{line_view, lines_left}
use Rattle.refutation_check.specs.LogText.{line_answer, is_wrong, step_in}
use Rattle.refutation_check.specs.internal.Reading.{log_among}
use Rattle.refutation_check.proofs.LogLemmas.{log_more, few_more}
use Rattle.refutation_check.proofs.lrat.read_lrat.Goals as goal

pub loop-line-preserved : goal.loop-line-preserved
loop-line-preserved c =
    let left = c.loop-line.left in
    let line = c.in-Some.line in
    let after = c.in-Some.after in
    let steps = c.loop-line.steps.items in
    let answer = c.in_ok-read_line.field-0 in
    let kept = c.loop-line.invariant in
    let is : answer ≡ line_answer line.bytes.now = c.in_ok-read_line.ensures.value in
    let right : is_wrong (line_answer line.bytes.now) ≡ false = ap is_wrong (sym is)
    ∙ not-true (is_wrong answer) (sym c.in_ok-add_line.ensures.right ∙ c.if-not-branch.false) in
    let added : c.add_line.new.steps.items ≡ steps ++ option_to_list (step_in answer) = c.in_ok-add_line.ensures.steps in
    record {
      same = ap (λ ss. log_among ss (lines_left after)) (added ∙ ap (λ a. steps ++ option_to_list (step_in a)) is)
          ∙ (sym (log_more (lines_left left) (line_view line) (lines_left after) steps c.in-Some.ensures.some right) ∙ kept.same);
      few = subst (All (λ step. length step.hints ≤ length c.args.text.now)) (sym added)
          (few_more steps answer (length line.bytes.now) (length c.args.text.now)
          (omega (arith, kept.within, c.in-Some.ensures.within)) kept.few c.in_ok-read_line.ensures.few_hints);
      countable = c.in-Some.ensures.countable;
      within = omega (arith, kept.within, c.in-Some.ensures.shorter);
    }
