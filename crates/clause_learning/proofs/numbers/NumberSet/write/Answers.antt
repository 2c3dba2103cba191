use Rattle.std.proofs.Common.{◌==◌, ◌/◌, ℕ, List, length, cond, not, sym, ap, ap₂, subst, ◌∙◌, arith}
use Rattle.std.specs.Vec.{with_items}
use Rattle.std.proofs.lemmas.List.{with_items_is}
use Rattle.lane_planes.specs.Planes.{has_bit, word_at}
use Rattle.clause_learning.specs.NumberSets.{AreSummedUp}
use Rattle.clause_learning.proofs.NumberBits.{summary_written}
use Rattle.clause_learning.proofs.numbers.NumberSet.write.Goals as goal

pub returns-clause-set : goal.returns-clause-set
returns-clause-set c =
    let old = c.args.self.now in
    let i = c.requires.set in
    let word = c.args.number / 64 in
    let members = c.write_bit.new.plane in
    let words = c.sum_up.new.summary in
    let groups = c.sum_up-2.new.summary in
    let size = c.write_bit.ensures.size ∙ ap length c.as_mut_slice.ensures.value in
    let words_size = c.sum_up.ensures.size ∙ ap length c.as_mut_slice-2.ensures.value in
    let groups_size = c.sum_up-2.ensures.size ∙ ap length c.as_mut_slice-3.ensures.value in
    let members_are = with_items_is old.members members (omega (arith, size, old.members.ok.0)) in
    let words_are = with_items_is old.words words (omega (arith, words_size, old.words.ok.0)) in
    let groups_are = with_items_is old.groups groups (omega (arith, groups_size, old.groups.ok.0)) in
    subst (λ (xs : List ℕ). AreSummedUp xs (with_items old.words words).items (with_items old.groups groups).items) (sym members_are) (subst (λ (xs : List ℕ). AreSummedUp members xs (with_items old.groups groups).items) (sym words_are)
    (subst (λ (xs : List ℕ). AreSummedUp members words xs) (sym groups_are) (record {
      few = omega (arith, i.few, size);
      words_few = omega (arith, i.words_few, words_size);
      groups_few = omega (arith, i.groups_few, groups_size);
      word_each = omega (arith, i.word_each, size, words_size);
      group_each = omega (arith, i.group_each, words_size, groups_size);
      words_are = summary_written old.words.items words old.members.items members word i.words_are
          (λ other. c.sum_up.ensures.bits other ∙ ap₂ (λ (xs ys : List ℕ). cond (other == word) (not (word_at xs word == 0)) (has_bit ys other))
          (c.as_slice.ensures.value ∙ members_are) c.as_mut_slice-2.ensures.value)
          (λ j apart. c.write_bit.ensures.words j apart ∙ ap (λ (xs : List ℕ). word_at xs j) c.as_mut_slice.ensures.value);
      groups_are = summary_written old.groups.items groups old.words.items words (word / 64) i.groups_are
          (λ other. c.sum_up-2.ensures.bits other
          ∙ ap₂ (λ (xs ys : List ℕ). cond (other == word / 64) (not (word_at xs (word / 64) == 0)) (has_bit ys other))
          (c.as_slice-2.ensures.value ∙ words_are) c.as_mut_slice-3.ensures.value)
          (λ j apart. c.sum_up.ensures.words j apart ∙ ap (λ (xs : List ℕ). word_at xs j) c.as_mut_slice-2.ensures.value);
    })))
