-- The first configuration that stood before.
use Rattle.std.proofs.Common.{◌≡◌, ◌∙◌, ℕ, List, ◌+◌, ◌<◌, ◌≤◌, inl, inr, sym, ap, arith}
use Rattle.std.proofs.lemmas.Bool.{cases_lt, cases_order}
use Rattle.loop_shape.specs.LoopShape.{LoopShape}
use Rattle.tsl_terms.specs.Name.{Name}
use Rattle.tsl_terms.specs.Value.{Meanings}
use Rattle.program_tree.specs.ProgramTree.{ProgramTree}
use Rattle.tsl_meaning.specs.OverNames.{IsProgramOver}
use Rattle.tsl_meaning.specs.Interpretation.{Interpretation, InputRows, IsInterpretation, IsInputLoop, meanings_in}
use Rattle.tsl_meaning.specs.Run.{Closed, configuration_at}
use Rattle.tsl_meaning.specs.RunOf.{AreDifferent, IsFirstRepetition}
use Rattle.tsl_meaning.specs.Promise.{configurations}
use Rattle.tsl_meaning.proofs.Closing.{closes}

module _ {S : Type 0} (meanings : Meanings S) (program : ProgramTree) (rows : InputRows S) where
  -- so many different configurations leave no room for a closing pair
  no_room : (n : ℕ) (shape : LoopShape) → AreDifferent meanings program rows n → Closed meanings program rows shape →
      shape.start + shape.length < n → ⊥
  no_room n shape different closed within =
      different shape.start (shape.start + shape.length) (omega (arith, closed.goes_on)) within (closed.at_start ∙ sym closed.at_end)

  pub first_is_least : (first shape : LoopShape) → IsFirstRepetition meanings program rows first → Closed meanings program rows shape →
      first.start + first.length ≤ shape.start + shape.length
  first_is_least first shape is closed = elim (cases_lt (shape.start + shape.length) (first.start + first.length)) [
    | inl less ↦ absurd (no_room (first.start + first.length) shape is.different closed less)
    | inr more ↦ more
  ]

  pub one_first : (first second : LoopShape) → IsFirstRepetition meanings program rows first →
      IsFirstRepetition meanings program rows second → first ≡ second
  one_first first second is too =
      let down = first_is_least first second is too.closes in
      let up = first_is_least second first too is.closes in
      let end : first.start + first.length ≡ second.start + second.length = omega (arith, down, up) in
      let seams : configuration_at meanings program rows first.start ≡ configuration_at meanings program rows second.start =
      is.closes.at_start ∙ sym is.closes.at_end ∙ ap (configuration_at meanings program rows) end
      ∙ too.closes.at_end ∙ sym too.closes.at_start in
      elim (cases_order first.start second.start) [
        | inl same ↦
            let rest : first.length ≡ second.length = omega (arith, same, end) in
            (λ k. record { start = same k; length = rest k })
        | inr apart ↦ elim apart [
          | inl less ↦ absurd (too.different first.start second.start less (omega (arith, too.closes.goes_on)) seams)
          | inr less ↦ absurd (is.different second.start first.start less (omega (arith, is.closes.goes_on)) (sym seams))
        ]
      ]

pub limit_is_enough : (names : List Name) (program : ProgramTree) (interpretation : Interpretation) (rows : InputRows ℕ) (limit : ℕ) →
    IsProgramOver names program → IsInterpretation names program.cells interpretation →
    IsInputLoop interpretation.domain program.inputs rows → configurations program interpretation rows ≤ limit →
    AreDifferent (meanings_in names program interpretation) program rows (limit + 1) → ⊥
limit_is_enough names program interpretation rows limit over is loop enough different =
    let shape = closes names program interpretation rows over is loop in
    no_room (meanings_in names program interpretation) program rows (limit + 1) shape.0 different shape.1 (omega (arith, shape.2, enough))
