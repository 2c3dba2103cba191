-- Internal: only private functions of this crate use these words.
-- The pure value of a pair of labels.
use Rattle.term_congruence.specs.declared.closing.LabelPair.{LabelPair}
use Rattle.term_congruence.specs.internal.Closing.{LabelPairTree}

abbrev pub pair_tree : LabelPair → LabelPairTree
pair_tree p = record { left = p.left; right = p.right }
