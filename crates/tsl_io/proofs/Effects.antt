-- Bytes that a source may have.
use Rattle.std.proofs.Common.{◌≡◌, ℕ, ◌+◌, ◌<◌, List, [], ◌++◌, length, Option, Some, None, sym, ◌∙◌, arith, length-append}
use Rattle.tsl_io.specs.Told.{TakesFirst}
use Rattle.tsl_io.specs.Effects.{ContentsAre}

-- those that it tells, and none where it tells nothing
pub some_bytes : (told : Option (List ℕ)) → (bytes : List ℕ) × ContentsAre told bytes
some_bytes None = ([], λ known is. cc)
some_bytes (Some bytes) = (bytes, λ known is. cc)

-- where so many bytes and one more were taken, the source has more than so many
pub more_bytes : (limit : ℕ) (old new : Option (List ℕ)) → TakesFirst (limit + 1) old new →
    (bytes : List ℕ) × ContentsAre old bytes × (limit < length bytes)
more_bytes limit old None (taken, count, is) =
    (taken, λ known told. (let e : Some known ≡ None = sym told ∙ is in cc), omega (arith, count))
more_bytes limit old (Some rest) (taken, count, is) = (
  taken ++ rest,
  λ known told. (let e : Some known ≡ Some (taken ++ rest) = sym told ∙ is in cc),
  omega (arith, count, length-append taken rest),
)
