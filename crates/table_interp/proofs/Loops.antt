-- The rows that are given make an input loop.
use Rattle.std.proofs.Common.{◌≡◌, ◌∙◌, ℕ, ◌<◌, ◌==◌, Bool, true, false, cond, List, [], ◌∷◌, ◌++◌, length, map, Some, sym, ap, arith}
use Rattle.std.specs.List.{AllByRecursion}
use Rattle.std.proofs.lemmas.List.{length-map}
use Rattle.std.proofs.lemmas.Option.{none-some, same_Some}
use Rattle.std.proofs.lemmas.List.Elements.{All-from_recursion}
use Rattle.base_library.proofs.Gathered.{length-all_there}
use Rattle.base_library.proofs.Each.{each_left, each_right, each_from_places}
use Rattle.tsl_terms.specs.Name.{Name}
use Rattle.tsl_terms.specs.Value.{beside}
use Rattle.tsl_meaning.specs.Interpretation.{InputRows, IsRow, IsInputLoop}
use Rattle.table_syntax.specs.Syntax.{InputsSyntax}
use Rattle.table_interp.specs.Inputs.{by_inputs, all_rows, GivesRows}
use Rattle.table_interp.proofs.Growing.{gathered_each}
use Rattle.table_interp.proofs.Rows.{rows_below}

beside_below : (domain s : ℕ) (columns row : List ℕ) (v : ℕ) → AllByRecursion (λ w. w < domain) row → beside s columns row ≡ Some v →
    v < domain
beside_below domain s [] row v each e = absurd (none-some v e)
beside_below domain s (c ∷ columns) [] v each e = absurd (none-some v e)
beside_below domain s (c ∷ columns) (w ∷ row) v each e = by (c == s) (beside_below domain s columns row v each.1) e where
  by : (b : Bool) → (beside s columns row ≡ Some v → v < domain) → cond b (Some w) (beside s columns row) ≡ Some v → v < domain
  by true further k = let same : w ≡ v = same_Some w v k in omega (arith, same, each.0)
  by false further k = further k

row_fits : (domain : ℕ) (columns inputs r vs : List ℕ) → AllByRecursion (λ w. w < domain) r → by_inputs columns inputs r ≡ Some vs →
    IsRow domain inputs vs
row_fits domain columns inputs r vs each e = (
  length-all_there (map (λ s. beside s columns r) inputs) vs e ∙ length-map inputs (λ s. beside s columns r),
  All-from_recursion (λ w. w < domain) vs
      (gathered_each (λ s. beside s columns r) (λ s. Unit {0}) (λ w. w < domain) (λ s v u is. beside_below domain s columns r v each is)
      inputs vs e (each_from_places (λ s. Unit {0}) inputs (λ i x is. tt))),
)

pub are_loop : (names : List Name) (inputs : List ℕ) (given : InputsSyntax) (domain : ℕ) (rows : InputRows ℕ) → 0 < length given.cycle →
    GivesRows names inputs given domain rows → IsInputLoop domain inputs rows
are_loop names inputs given domain rows some g = record {
  repeats = λ e.
      let size : length given.cycle ≡ length rows.cycle = sym (length-map given.cycle (by_inputs g.columns inputs))
      ∙ sym (length-all_there (map (by_inputs g.columns inputs) given.cycle) rows.cycle g.cycle) in
      let none : length rows.cycle ≡ 0 = ap length e in
      omega (arith, some, size, none);
  stem =
      All-from_recursion (IsRow domain inputs) rows.stem
      (gathered_each (by_inputs g.columns inputs) _ (IsRow domain inputs) (row_fits domain g.columns inputs) given.stem rows.stem g.stem
      (each_left (λ r. AllByRecursion (λ w. w < domain) r) given.stem given.cycle below));
  cycle =
      All-from_recursion (IsRow domain inputs) rows.cycle
      (gathered_each (by_inputs g.columns inputs) _ (IsRow domain inputs) (row_fits domain g.columns inputs) given.cycle rows.cycle g.cycle
      (each_right (λ r. AllByRecursion (λ w. w < domain) r) given.stem given.cycle below));
} where
  below : AllByRecursion (λ r. AllByRecursion (λ w. w < domain) r) (given.stem ++ given.cycle)
  below = rows_below domain (all_rows given) g.in_range.in_range
