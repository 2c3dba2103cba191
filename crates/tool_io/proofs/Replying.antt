-- How a reply comes of what a run did to its source.
use Rattle.std.proofs.Common.{◌≡◌, ◌≢◌, ℕ, Bool, true, false, List, [], ◌∷◌, ◌++◌, ap, sym, subst}
use Rattle.std.specs.Prelude.{Result, IfOk}
use Rattle.std.proofs.lemmas.Result.{IfOk-weaker}
use Rattle.tsl_io.specs.Effects.{Effect, NeverFailed, ContentsAre}
use Rattle.tool_io.specs.declared.status.Status.{Status}
use Rattle.tool_io.specs.declared.status.Status.TheVariants.{Usage, ReadFault, WriteFault, Memory}
use Rattle.tool_io.specs.declared.reply.Reply.{Reply}
use Rattle.tool_io.specs.Ends.{CountsReads, IsReplyOf}

pub status_of : {a b : Reply} → a ≡ b → a.status ≡ b.status
status_of h = ap (λ (r : Reply). r.status) h

pub text_of : {a b : Reply} → a ≡ b → a.text ≡ b.text
text_of h = ap (λ (r : Reply). r.text) h

-- whether bytes that were read may be replied to so
abbrev pub comes_of_bytes : Status → Bool
comes_of_bytes Usage = false
comes_of_bytes ReadFault = false
comes_of_bytes WriteFault = false
comes_of_bytes Memory = false
comes_of_bytes _ = true

counted : (status : Status) (source : Effect) → comes_of_bytes status ≡ true → NeverFailed source → CountsReads status source
counted ReadFault source comes count = cc
counted _ source comes count = count

-- a line has a byte, its line feed
pub some_byte : (xs : List ℕ) (y : ℕ) → xs ++ y ∷ [] ≢ []
some_byte [] y e = cc
some_byte (x ∷ xs) y e = cc

module _ {E : Type 0} (Outcome : List ℕ → Reply → Type 0) (source : Effect) (r : Result Reply E) where
  -- one reply, which some bytes that the source may hold have
  pub one_reply : (reply : Reply) (bytes : (b : List ℕ) × ContentsAre source.old b) → Outcome bytes.0 reply →
      CountsReads reply.status source → IfOk r (λ made. made ≡ reply) → IfOk r (IsReplyOf Outcome source)
  one_reply reply bytes outcome count = IfOk-weaker r _ _ (λ made is.
      subst (IsReplyOf Outcome source) (sym is) (record { bytes = bytes.0; told = bytes.1; outcome = outcome; count = count }))

  -- a reply to bytes that were read, or that may be any
  pub reply_to_bytes : {P : Reply → Type 0} (bytes : (b : List ℕ) × ContentsAre source.old b) → NeverFailed source →
      ((reply : Reply) → P reply → Outcome bytes.0 reply × (comes_of_bytes reply.status ≡ true)) → IfOk r P →
      IfOk r (IsReplyOf Outcome source)
  reply_to_bytes bytes count replies = IfOk-weaker r _ _ (λ reply h.
      let has = replies reply h in
      record { bytes = bytes.0; told = bytes.1; outcome = has.0; count = counted reply.status source has.1 count })
