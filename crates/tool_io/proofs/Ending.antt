-- How a run ends by what was sent, and what follows of its end.
use Rattle.std.proofs.Common.{◌≡◌, ℕ, ◌⊎◌, Bool, true, false, List, ap, sym, ◌∙◌, subst, inl, inr}
use Rattle.std.specs.Prelude.{Result, Ok, IfOk, cond}
use Rattle.tsl_io.specs.Told.{with_added}
use Rattle.tsl_io.specs.Effects.{Effect, HasFailed, NeverFailed, IsUntouched, IsWhole, IsCutOff}
use Rattle.tool_io.specs.declared.status.Status.{Status}
use Rattle.tool_io.specs.declared.status.Status.TheVariants.{WriteFault, Memory}
use Rattle.tool_io.specs.declared.reply.Reply.{Reply}
use Rattle.tool_io.specs.Ends.{sink_of, other_sink, EndsIn, answered, cut_off, out_of_memory}
use Rattle.tool_io.specs.Statuses.{is_answer}
use Rattle.tool_io.specs.internal.Sending.{IsSent, sent_whole, sent_in_part}

-- a reply that was sent to the sink of its status
pub sent_ends : {IsReply : Reply → Type 0} (out err : Effect) (reply : Reply) (result : Status) (answer : Bool) →
    is_answer reply.status ≡ answer → IsReply reply → IsSent reply (cond answer out err) result → IsUntouched (cond answer err out) →
    EndsIn IsReply out err result
sent_ends out err reply result answer is h (sent_whole same whole) other =
    answered reply h same (subst (λ (b : Bool). IsWhole reply.text (cond b out err)) (sym is) whole)
    (subst (λ (b : Bool). IsUntouched (cond b err out)) (sym is) other)
sent_ends out err reply result answer is h (sent_in_part same part) other =
    cut_off reply h same (subst (λ (b : Bool). IsCutOff reply.text (cond b out err)) (sym is) part)
    (subst (λ (b : Bool). IsUntouched (cond b err out)) (sym is) other)

module _ {IsReply : Reply → Type 0} {out err : Effect} {result : Status} where
  -- what is known of the reply that was made is known of the reply of the end
  pub ends_with : {E : Type 0} (made : Result Reply E) → IfOk made IsReply → EndsIn (λ told. made ≡ Ok told) out err result →
      EndsIn IsReply out err result
  ends_with {E = E} made h (answered reply is same whole other) =
      answered reply (subst (λ (r : Result Reply E). IfOk r IsReply) is h) same whole other
  ends_with {E = E} made h (cut_off reply is same part other) =
      cut_off reply (subst (λ (r : Result Reply E). IfOk r IsReply) is h) same part other
  ends_with made h (out_of_memory is same_out same_err) = out_of_memory is same_out same_err

  -- an answer is that of a reply, whose whole text was added to the first sink
  pub answer_told : EndsIn IsReply out err result → is_answer result ≡ true →
      (reply : Reply) × IsReply reply × (result ≡ reply.status) × (out.new ≡ with_added reply.text out.old)
  answer_told (answered reply h is whole other) answer =
      (reply, h, is, (subst (λ (b : Bool). IsWhole reply.text (cond b out err)) (sym (ap is_answer is) ∙ answer) whole).added)
  answer_told (cut_off reply h is part other) answer = let e : is_answer WriteFault ≡ true = sym (ap is_answer is) ∙ answer in cc
  answer_told (out_of_memory is same_out same_err) answer = let e : is_answer Memory ≡ true = sym (ap is_answer is) ∙ answer in cc

module _ (status : Status) (out err : Effect) (text : List ℕ) where
  -- where a text was written whole, neither sink counted a fault
  pub none_at : IsWhole text (sink_of status out err) → IsUntouched (other_sink status out err) → NeverFailed out × NeverFailed err
  none_at = by (is_answer status)
    where
      by : (answer : Bool) → IsWhole text (cond answer out err) → IsUntouched (cond answer err out) → NeverFailed out × NeverFailed err
      by true whole other = (whole.count, other.count)
      by false whole other = (other.count, whole.count)

  -- where it was cut off, one of them did
  pub fault_at : IsCutOff text (sink_of status out err) → HasFailed out ⊎ HasFailed err
  fault_at = by (is_answer status)
    where
      by : (answer : Bool) → IsCutOff text (cond answer out err) → HasFailed out ⊎ HasFailed err
      by true part = inl part.fault
      by false part = inr part.fault
