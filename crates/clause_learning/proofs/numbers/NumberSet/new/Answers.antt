use Rattle.std.proofs.Common.{◌≡◌, ◌+◌, ◌/◌, length, replicate, ap, ◌∙◌, arith, rules}
use Rattle.std.proofs.lemmas.List.{length-replicate}
use Rattle.clause_learning.proofs.NumberBits.{empty_plane, empty_summary}
use Rattle.clause_learning.proofs.numbers.NumberSet.new.Goals as goal

pub returns-clause-set : goal.returns-clause-set
returns-clause-set c =
    let n = c.args.limit / 64 in
    let members = c.in_ok-vec.field-0.items in
    let words = c.in_ok-vec-2.field-0.items in
    let groups = c.in_ok-vec-3.field-0.items in
    let members_are : members ≡ replicate (n + 1) 0 = search rules in
    let words_are : words ≡ replicate (n / 64 + 1) 0 = search rules in
    let groups_are : groups ≡ replicate (n / 4096 + 1) 0 = search rules in
    let size = ap length members_are ∙ length-replicate (n + 1) 0 in
    let words_size = ap length words_are ∙ length-replicate (n / 64 + 1) 0 in
    let groups_size = ap length groups_are ∙ length-replicate (n / 4096 + 1) 0 in
    record {
      few = omega (arith, size, c.requires);
      words_few = omega (arith, words_size, c.requires);
      groups_few = omega (arith, groups_size, c.requires);
      word_each = omega (arith, size, words_size);
      group_each = omega (arith, words_size, groups_size);
      words_are = empty_summary words members (empty_plane words (n / 64 + 1) words_are) (empty_plane members (n + 1) members_are);
      groups_are = empty_summary groups words (empty_plane groups (n / 4096 + 1) groups_are) (empty_plane words (n / 64 + 1) words_are);
    }
