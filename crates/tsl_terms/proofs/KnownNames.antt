-- The number of a name names it in its kind and with its number of arguments.
use Rattle.std.proofs.Common.{◌≡◌, ℕ, ◌==◌, true, List, ap, sym, ◌∙◌}
use Rattle.std.specs.Prelude.{Some, slice_get, option_and_then}
use Rattle.std.specs.Option.{is_some}
use Rattle.base_library.proofs.Options.{there_before}
use Rattle.tsl_terms.specs.Name.{Name, number_of, same_kind}
use Rattle.tsl_terms.specs.Clashes.{alike_in_kind, same_arity}
use Rattle.tsl_terms.specs.internal.FirstUse.{name_with}

pub record Known (names : List Name) (u : Name) : Type 0 where
  pub number : ℕ
  pub entry : Name
  pub numbered : number_of names u.text ≡ Some number
  pub there : slice_get names number ≡ Some entry
  pub text : entry.text ≡ u.text
  pub kind : same_kind entry.kind u.kind ≡ true
  pub arity : (entry.arity == u.arity) ≡ true

-- it does where the name of this text is alike
pub known_of : (names : List Name) (u f : Name) → name_with names u.text ≡ Some f → f.text ≡ u.text → alike_in_kind f u ≡ true →
    same_arity f u ≡ true → Known names u
known_of names u f found text kind arity =
    let k = there_before (slice_get names) (number_of names u.text) (ap is_some found) in
    let there = sym (ap (option_and_then (slice_get names)) k.1) ∙ found in
    record { number = k.0; entry = f; numbered = k.1; there = there; text = text; kind = kind; arity = arity }
