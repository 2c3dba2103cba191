-- A program over names closes, after as many steps at most as it has configurations.
use Rattle.std.proofs.Common.{◌≡◌, ◌∙◌, ℕ, true, [], ◌∷◌, ◌+◌, ◌-◌, ◌*◌, ◌^◌, ◌<◌, ◌≤◌, List, ◌++◌, length, Some, refl, sym, ap, arith}
use Rattle.std.specs.Prelude.{fold, nat_lt}
use Rattle.std.specs.List.{list_all, AllByRecursion}
use Rattle.std.proofs.lemmas.Bool.{and_from, lt-ltb}
use Rattle.std.proofs.Math.Nat.{mul-le-mul_right, add-mul}
use Rattle.loop_shape.specs.LoopShape.{LoopShape}
use Rattle.tsl_terms.specs.Name.{Name}
use Rattle.program_tree.specs.ProgramTree.{ProgramTree}
use Rattle.tsl_meaning.specs.OverNames.{IsProgramOver}
use Rattle.tsl_meaning.specs.Interpretation.{Interpretation, InputRows, IsInterpretation, IsInputLoop, are_values, meanings_in}
use Rattle.tsl_meaning.specs.Run.{Configuration, Closed, configuration_at}
use Rattle.tsl_meaning.specs.Promise.{configurations}
use Rattle.tsl_meaning.proofs.Values.{place_below}
use Rattle.tsl_meaning.proofs.Runs.{IsConfiguration, configuration_there}
use Rattle.tsl_meaning.proofs.Repeats.{repeats, one_digit, one_row}

values_from : (d : ℕ) (vs : List ℕ) → AllByRecursion (λ v. v < d) vs → are_values d vs ≡ true
values_from d vs below = by vs below
  where
    by : (vs : List ℕ) → AllByRecursion (λ v. v < d) vs → list_all (λ v. nat_lt v d) vs ≡ true
    by [] below = refl
    by (v ∷ vs) below = and_from (nat_lt v d) (list_all (λ w. nat_lt w d) vs) (lt-ltb v d below.0) (by vs below.1)

module _ (names : List Name) (program : ProgramTree) (interpretation : Interpretation) (rows : InputRows ℕ)
    (over : IsProgramOver names program) (is : IsInterpretation names program.cells interpretation)
    (loop : IsInputLoop interpretation.domain program.inputs rows) where
  -- the number of a configuration: its place, its state and its cells' values as digits
  abbrev number_of : Configuration ℕ → ℕ
  number_of c = fold (λ n v. n * interpretation.domain + v) (c.place * length program.states + c.state) c.cells

  number_below : (c : Configuration ℕ) → IsConfiguration names program interpretation rows over is loop c →
      number_of c < configurations program interpretation rows
  number_below c stands =
      let R : ℕ = length (rows.stem ++ rows.cycle) in
      let S : ℕ = length program.states in
      let power : ℕ = interpretation.domain ^ length c.cells in
      let few = place_below interpretation.domain (c.place * S + c.state) c.cells
      (values_from interpretation.domain c.cells stands.below) in
      let more : (c.place + 1) * S ≤ R * S = mul-le-mul_right S (let l : c.place + 1 ≤ R = omega (arith, stands.place) in l) in
      let first : c.place * S + c.state + 1 ≤ R * S = omega (arith, more, add-mul c.place 1 S, stands.state) in
      let all : (c.place * S + c.state + 1) * power ≤ (R * S) * power = mul-le-mul_right power first in
      let same : (R * S) * power ≡ configurations program interpretation rows =
      ap (λ n. (R * S) * interpretation.domain ^ n) stands.count in
      omega (arith, few, all, same)

  one_configuration : (c d : Configuration ℕ) → IsConfiguration names program interpretation rows over is loop c →
      IsConfiguration names program interpretation rows over is loop d → number_of c ≡ number_of d → c ≡ d
  one_configuration c d first second same =
      let parts = one_row interpretation.domain _ _ c.cells d.cells (first.count ∙ sym second.count) first.below second.below same in
      let begins = one_digit (length program.states) c.place d.place c.state d.state first.state second.state parts.0 in
      λ i. record { place = begins.0 i; state = begins.1 i; cells = parts.1 i }

  pub closes : (shape : LoopShape) × Closed (meanings_in names program interpretation) program rows shape
      × (shape.start + shape.length ≤ configurations program interpretation rows)
  closes =
      let there : (t : ℕ) → (c : Configuration ℕ) × (configuration_at (meanings_in names program interpretation) program rows t ≡ Some c)
      × IsConfiguration names program interpretation rows over is loop c =
      configuration_there names program interpretation rows over is loop in
      let r = repeats (λ t. number_of (there t).0) (configurations program interpretation rows)
      (λ t. number_below (there t).0 (there t).2) in
      let same = one_configuration (there r.first).0 (there r.second).0 (there r.first).2 (there r.second).2 r.same in
      let end : r.first + (r.second - r.first) ≡ r.second = omega (arith, r.before) in (
        record { start = r.first; length = r.second - r.first },
        record {
          goes_on = omega (arith, r.before);
          seam = (there r.first).0;
          at_start = (there r.first).1;
          at_end =
              ap (configuration_at (meanings_in names program interpretation) program rows) end
              ∙ (there r.second).1 ∙ ap Some (sym same);
        },
        omega (arith, r.within, end),
      )
