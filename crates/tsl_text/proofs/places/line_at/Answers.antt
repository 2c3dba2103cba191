use Rattle.std.proofs.Common.{◌+◌, take, sym, ap, ◌∙◌, subst, arith}
use Rattle.std.proofs.lemmas.Bool.{false≢true}
use Rattle.tsl_text.specs.Places.{IsLineStart}
use Rattle.tsl_text.proofs.PlaceLaws.{compared, line_here, next_begins, later_line, line_within, fits}
use Rattle.tsl_text.proofs.places.line_at.Goals as goal

pub returns-then-eq-clause-found : goal.returns-then-eq-clause-found
returns-then-eq-clause-found c =
    let line = compared c.args.text.now c.args.line.now c.loop-start.start c.line_len-len.result c.eq.result c.line_len-len.ensures.value
    c.eq.ensures in
    line_here c.args.text.now c.args.line.now c.loop-start.start (omega arith) (c.loop-start.invariant.begins (omega arith))
    (line.1.0 c.if-eq.true)

pub loop-start-preserved : goal.loop-start-preserved
loop-start-preserved c =
    let line = compared c.args.text.now c.args.line.now c.loop-start.start c.line_len-len.result c.eq.result c.line_len-len.ensures.value
    c.eq.ensures in
    let within = fits c.args.text.now c.args.line.now c.loop-start.start (omega arith) in
    let next = ap (λ n. c.loop-start.start + (n + 1)) line.0 in
    record {
      begins = λ more. subst (λ n. IsLineStart (take n c.args.text.now)) (sym next)
          (next_begins c.args.text.now c.args.line.now c.loop-start.start (omega arith) (omega arith));
      later = λ at h. omega (
        arith,
        later_line c.args.text.now c.args.line.now c.loop-start.start at (omega arith) (λ same. false≢true (sym c.if-eq.false
            ∙ line.1.1 same)) h (c.loop-start.invariant.later at h),
      );
      within = omega arith;
    }

pub returns-clause-none : goal.returns-clause-none
returns-clause-none c = λ at h. omega (arith, c.loop-start.invariant.later at h, line_within c.args.text.now c.args.line.now at h)
