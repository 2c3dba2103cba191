-- A text has one list of tokens or one fault, and not both.
use Rattle.std.proofs.Common.{◌≡◌, ℕ, List}
use Rattle.std.specs.Prelude.{Ok, Err}
use Rattle.tsl_text.specs.declared.Token.{Token}
use Rattle.tsl_text.specs.declared.TextError.{TextError}
use Rattle.tsl_text.specs.Division.{AreTokens, IsAnswer}
use Rattle.tsl_text.proofs.Parts.{one_answer}

pub one_list : (text : List ℕ) (a b : List Token) → AreTokens text a → AreTokens text b → a ≡ b
one_list text a b h k =
    let same : Ok a ≡ Ok b = one_answer text (Ok a) (Ok b) h k in
    cc

pub one_text_fault : (text : List ℕ) (a b : TextError) → IsAnswer text (Err a) → IsAnswer text (Err b) → a ≡ b
one_text_fault text a b h k =
    let same : Err a ≡ Err b = one_answer text (Err a) (Err b) h k in
    cc

pub no_tokens : (text : List ℕ) (fault : TextError) → IsAnswer text (Err fault) → (tokens : List Token) → AreTokens text tokens → ⊥
no_tokens text fault h tokens are =
    let same : Err fault ≡ Ok tokens = one_answer text (Err fault) (Ok tokens) h are in
    cc
