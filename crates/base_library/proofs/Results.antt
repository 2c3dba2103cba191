-- Results: what std's lemmas `Result` leave.
use Rattle.std.proofs.Common.{◌≡◌, Result, Ok, Err}
use Rattle.std.specs.Prelude.{IsErrAnd, IfErr, OnOk}
use Rattle.std.proofs.lemmas.Result.{err_from_is_err_and}

-- an error that is handed on by `?`
pub handed_on : {T E : Type 0} (r : Result T E) (error : E) (P : E → Type 0) → IsErrAnd r (λ e. e ≡ error) → P error → IfErr r P
handed_on r error P is holds = let p = err_from_is_err_and r is in rw (p.1, p.2) holds

-- two facts, and three, that hold at Ok give a fact that holds there
pub on_ok_two : {T E P Q R : Type 0} (r : Result T E) → (P → Q → R) → OnOk r P → OnOk r Q → OnOk r R
on_ok_two (Ok x) f p q = f p q
on_ok_two (Err e) f p q = tt

pub on_ok_three : {T E P Q R S : Type 0} (r : Result T E) → (P → Q → R → S) → OnOk r P → OnOk r Q → OnOk r R → OnOk r S
on_ok_three (Ok x) f p q r = f p q r
on_ok_three (Err e) f p q r = tt
