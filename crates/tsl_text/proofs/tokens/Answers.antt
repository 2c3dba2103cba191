use Rattle.std.proofs.Common.{◌+◌, ◌<◌, [], ◌∷◌, ◌++◌, refl, sym, ap, ◌∙◌, subst, arith}
use Rattle.std.proofs.lemmas.List.{take_rest}
use Rattle.std.proofs.lemmas.Slice.{pushed}
use Rattle.tsl_text.specs.internal.Front.{piece_of}
use Rattle.tsl_text.proofs.Parts.{TokensBefore, before_gap, before_token, open_at, all_tokens, each_token, in_order}
use Rattle.tsl_text.proofs.tokens.Goals as goal
use Rattle.tsl_text.proofs.tokens.Goals.{In-Gap, In-Longest}

-- a blank or a comment takes bytes, and a token too
gap : (c : In-Gap) → (0 < c.in-Gap.len) × TokensBefore c.args.text.now (c.loop-start.start + c.in-Gap.len) c.loop-start.tokens.items
gap c = before_gap _ _ _ c.loop-start.invariant c.in-Gap.len
    (ap piece_of (sym (take_rest c.args.text.now c.loop-start.start)) ∙ sym c.in-Gap.ensures)

token : (c : In-Longest) → (0 < c.in-Longest.len)
    × TokensBefore c.args.text.now (c.loop-start.start + c.in-Longest.len) (c.loop-start.tokens.items
    ++ record { kind = c.in-Longest.kind; start = c.loop-start.start; end = c.loop-start.start + c.in-Longest.len } ∷ [])
token c = before_token _ _ _ c.loop-start.invariant c.in-Longest.kind c.in-Longest.len
    (ap piece_of (sym (take_rest c.args.text.now c.loop-start.start)) ∙ sym c.in-Longest.ensures)

pub overflow_add-start : goal.overflow_add-start
overflow_add-start c = let step = gap (goal.at.overflow_add-start c).In-Gap in omega (arith, step.1.inside)

pub loop-start-smaller-in-Gap : goal.loop-start-smaller-in-Gap
loop-start-smaller-in-Gap c = let step = gap (goal.at.loop-start-smaller-in-Gap c).In-Gap in omega (arith, step.1.inside)

pub loop-start-preserved-in-Gap : goal.loop-start-preserved-in-Gap
loop-start-preserved-in-Gap c = (gap (goal.at.loop-start-preserved-in-Gap c).In-Gap).1

pub overflow_add-end : goal.overflow_add-end
overflow_add-end c = let step = token (goal.at.overflow_add-end c).In-Longest in omega (arith, step.1.inside)

pub overflow_cast-end : goal.overflow_cast-end
overflow_cast-end c = let step = token (goal.at.overflow_cast-end c).In-Longest in omega (arith, step.1.inside)

pub loop-start-smaller : goal.loop-start-smaller
loop-start-smaller c = let step = token (goal.at.loop-start-smaller c).In-Longest in omega (arith, step.1.inside)

pub loop-start-preserved : goal.loop-start-preserved
loop-start-preserved c =
    let added = record { kind = c.in-Longest.kind; start = c.loop-start.start; end = c.loop-start.start + c.in-Longest.len } ∷ [] in
    subst (TokensBefore c.args.text.now (c.loop-start.start + c.in-Longest.len))
    (sym (pushed added refl c.in_ok-push-in-Longest.was c.push.ensures.items)) (token (goal.at.loop-start-preserved c).In-Longest).1

pub returns-in-OpenComment-clause-fault : goal.returns-in-OpenComment-clause-fault
returns-in-OpenComment-clause-fault c =
    open_at _ _ _ c.loop-start.invariant
    (ap piece_of (sym (take_rest c.args.text.now c.loop-start.start)) ∙ sym c.in-OpenComment.ensures)

pub returns-clause-each : goal.returns-clause-each
returns-clause-each c = each_token _ _ (all_tokens _ _ _ c.loop-start.invariant (omega arith))

pub returns-clause-in_order : goal.returns-clause-in_order
returns-clause-in_order c = in_order _ _ (all_tokens _ _ _ c.loop-start.invariant (omega arith))
