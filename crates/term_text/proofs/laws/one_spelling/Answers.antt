use Rattle.term_text.proofs.Spelling.{one_term, one_probe, term_usable}
use Rattle.term_text.proofs.laws.one_spelling.Goals as goal

pub returns : goal.returns
returns c = record {
  terms = λ names t s distinct p q e. one_term names distinct t s (term_usable names t p) (term_usable names s q) e;
  probes = λ names p q distinct a b e. one_probe names distinct p q a b e;
}
