-- What a refusal says.
use Rattle.std.specs.Prelude.{◌≡◌, Result, IfErr}
use Rattle.bounded_encoding.specs.Made.{Made, IsBeyond}
use Rattle.bounded_encoding.specs.declared.errors.EncodeError.{EncodeError}
use Rattle.bounded_encoding.specs.declared.errors.EncodeError.TheVariants.{Clauses}

-- it comes for too many clauses only where these are too many
abbrev pub Refuses : {T : Type 0} → Result T EncodeError → Made → Type 0
Refuses result whole = IfErr result (λ e. e ≡ Clauses → IsBeyond whole)
