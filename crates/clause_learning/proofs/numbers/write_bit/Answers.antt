use Rattle.std.proofs.Common.{◌==◌, ◌/◌, ◌%◌, ◌<◌, ℕ, Bool, true, false, cond, slice_set, ap, sym, ◌∙◌, arith}
use Rattle.lane_planes.specs.Planes.{has_bit, word_at}
use Rattle.clause_learning.proofs.NumberBits.{word_set, word_cleared, written}
use Rattle.clause_learning.proofs.numbers.write_bit.Goals.{then-is_set, else-is_set}
use Rattle.clause_learning.proofs.numbers.write_bit.Goals as goal

pub returns-clause-bits : goal.returns-clause-bits
returns-clause-bits c = λ other.
    let plane = c.args.plane.now in
    let bit = c.args.bit in
    let old = word_at plane (bit / 64) in
    let within : bit % 64 < 64 = omega arith in
    elim c.if-is_set.branch [
      | then-is_set w ↦ ap (λ (n : ℕ). has_bit (slice_set plane (bit / 64) n) other) w.plane-is
          ∙ (written plane bit _ true c.requires.within (word_set old (bit % 64) within) other
          ∙ ap (λ (b : Bool). cond (other == bit) b (has_bit plane other)) (sym w.if-is_set.true))
      | else-is_set w ↦ ap (λ (n : ℕ). has_bit (slice_set plane (bit / 64) n) other) w.plane-is
          ∙ (written plane bit _ false c.requires.within (word_cleared old (bit % 64) within) other
          ∙ ap (λ (b : Bool). cond (other == bit) b (has_bit plane other)) (sym w.if-is_set.false))
    ]
