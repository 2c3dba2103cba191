use Rattle.tsl_reader.proofs.SpelledFits.{spelled_fits}
use Rattle.tsl_tool.proofs.AutomataRead.{tells_negation, written_is_judged}
use Rattle.tsl_tool.proofs.exchange_laws.automata_are_read.Goals as goal

pub returns : goal.returns
returns c = record {
  told = λ bytes text spec spells written. tells_negation spec (spelled_fits bytes spec spells) text written;
  verdict = λ bytes text given spec loop reply spells written there few outcome.
      written_is_judged spec (spelled_fits bytes spec spells) text written loop given there few reply outcome;
}
