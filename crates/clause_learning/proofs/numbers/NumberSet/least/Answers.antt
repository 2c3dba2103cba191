use Rattle.std.proofs.Common.{ℕ, List, length, ap, sym, subst, arith}
use Rattle.clause_learning.specs.NumberSets.{IsLeastBit, IsFirstWord}
use Rattle.clause_learning.proofs.NumberBits.{first_word}
use Rattle.clause_learning.proofs.numbers.NumberSet.least.Goals as goal

pub least_in-word-requires-clause-few : goal.least_in-word-requires-clause-few
least_in-word-requires-clause-few c = omega (arith, ap length c.as_slice-2.ensures.value, c.requires.words_few)

pub least_in-requires-clause-first : goal.least_in-requires-clause-first
least_in-requires-clause-first c =
    let set = c.args.self.now in
    subst (λ (xs : List ℕ). IsFirstWord xs c.least_in-word.result) (sym c.as_slice-3.ensures.value)
    (first_word set.words.items set.members.items c.requires.words_are c.least_in-word.result
    (subst (λ (xs : List ℕ). IsLeastBit xs c.least_in-word.result) c.as_slice-2.ensures.value c.least_in-word.ensures))
