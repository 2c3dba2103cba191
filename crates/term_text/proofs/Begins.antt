-- Texts that begin with others.
use Rattle.std.proofs.Common.{◌≡◌, ℕ, List, [], ◌++◌, sym, ap, ◌∙◌, append_assoc, append-nil}
use Rattle.tsl_text.specs.Division.{BeginsWith}

pub begins_itself : (a b : List ℕ) → b ≡ a → BeginsWith b a
begins_itself a b same = ([], same ∙ sym (append-nil a))

pub begins_appended : (a b added : List ℕ) → b ≡ a ++ added → BeginsWith b a
begins_appended a b added is = (added, is)

pub begins_longer : (a b c : List ℕ) → BeginsWith b a → BeginsWith c b → BeginsWith c a
begins_longer a b c first then = (first.0 ++ then.0, then.1 ∙ ap (λ xs. xs ++ then.0) first.1 ∙ append_assoc a first.0 then.0)

-- an argument after a space, and what is left
pub argument_step : (before after space argument rest whole : List ℕ) → before ++ (space ++ argument ++ rest) ≡ whole →
    after ≡ (before ++ space) ++ argument → after ++ rest ≡ whole
argument_step before after space argument rest whole written more =
    ap (λ xs. xs ++ rest) more
    ∙ append_assoc (before ++ space) argument rest
    ∙ append_assoc before space (argument ++ rest)
    ∙ ap (λ xs. before ++ xs) (sym (append_assoc space argument rest))
    ∙ written
