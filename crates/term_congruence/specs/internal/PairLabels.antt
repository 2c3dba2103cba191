-- Internal: only private functions of this crate use these words.
-- The labels of pairs of free terms.
use Rattle.std.specs.Prelude.{⊤, List, [], ◌∷◌}
use Rattle.term_congruence.specs.internal.Shapes.{ShapeTree, IsLabelOf}
use Rattle.term_congruence.specs.internal.Closing.{LabelPairTree}
use Rattle.tsl_terms.specs.OneClass.{PairTree}

-- the labels of pairs of free terms
abbrev pub ArePairLabels : List ShapeTree → List PairTree → List LabelPairTree → Type 0
ArePairLabels shapes [] [] = ⊤
ArePairLabels shapes (p ∷ ps) (q ∷ qs) = (IsLabelOf shapes p.left q.left × IsLabelOf shapes p.right q.right) × ArePairLabels shapes ps qs
ArePairLabels shapes [] (q ∷ qs) = ⊥
ArePairLabels shapes (p ∷ ps) [] = ⊥
