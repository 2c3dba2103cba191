-- Which status and which text the replies of `circuit` have.
use Rattle.std.proofs.Common.{◌≡◌, ◌≢◌, ℕ, true, List, [], ap, sym, ◌∙◌}
use Rattle.tool_io.specs.declared.reply.Reply.{Reply}
use Rattle.tool_io.proofs.Replying.{comes_of_bytes, status_of, text_of}
use Rattle.checking_commands.proofs.CheckReplies.{check_comes, check_says}
use Rattle.exchange_commands.specs.Circuit.{CircuitOutcome, not_accepted, accepted}

pub circuit_comes : (bound : ℕ) (bytes : List ℕ) (reply : Reply) → CircuitOutcome bound bytes reply →
    comes_of_bytes reply.status ≡ true
circuit_comes bound bytes reply (not_accepted outcome other) = check_comes bound bytes reply outcome
circuit_comes bound bytes reply (accepted spec program pair tells) = ap comes_of_bytes (status_of tells.is)

pub circuit_says : (bound : ℕ) (bytes : List ℕ) (reply : Reply) → CircuitOutcome bound bytes reply → reply.text ≢ []
circuit_says bound bytes reply (not_accepted outcome other) = check_says bound bytes reply outcome
circuit_says bound bytes reply (accepted spec program pair tells) = λ e. let none = sym (text_of tells.is) ∙ e in cc
