-- Numbers below twice a domain, modulo it.
use Rattle.std.proofs.Common.{◌≡◌, ℕ, ◌+◌, ◌-◌, ◌*◌, ◌<◌, ◌≤◌, ap, sym, ◌∙◌, arith}
use Rattle.std.specs.Prelude.{◌%◌}
use Rattle.std.proofs.lemmas.Nat.{mod-mul-add}

pub below : (n d : ℕ) → n < d → n ≡ n % d
below n d less =
    let whole : n ≡ 0 * d + n = omega arith in
    sym (ap (λ m. m % d) whole ∙ mod-mul-add 0 d n less)

pub past : (n d : ℕ) → d ≤ n → n < d + d → n - d ≡ n % d
past n d from less =
    let whole : n ≡ 1 * d + (n - d) = omega (arith, from) in
    sym (ap (λ m. m % d) whole ∙ mod-mul-add 1 d (n - d) (omega (arith, from, less)))
