use Rattle.cobuchi_automata.specs.internal.Exploring.{state_key}
use Rattle.cobuchi_automata.proofs.StateLemmas.{inserted, stored, same_key, key_itself, key_is}
use Rattle.cobuchi_automata.proofs.states.number_of_state.Goals as goal

pub returns-clause-grows : goal.returns-clause-grows
returns-clause-grows c =
    inserted state_key same_key key_itself c.args.state c.args.states.now.keys c.insert_full.new.self.keys c.in_ok-number.number
    c.in_ok-number.ensures.keys
    (stored state_key same_key key_itself key_is c.args.state c.insert_full.new.self.keys c.in_ok-number.number
    c.in_ok-number.ensures.stored)

pub returns-clause-there : goal.returns-clause-there
returns-clause-there c =
    stored state_key same_key key_itself key_is c.args.state c.insert_full.new.self.keys c.in_ok-number.number c.in_ok-number.ensures.stored
