-- Texts of searches, which compute.
use Rattle.std.specs.Prelude.{◌≡◌, true, false, List, [], ◌∷◌, ◌++◌, codes, refl}
use Rattle.std.specs.Fmt.{digits}
use Rattle.cobuchi_automata.specs.Automata.{EdgeTree}
use Rattle.machines.specs.declared.side.Side.TheVariants.{Controller, Environment}
use Rattle.machines.specs.Rounds.{RoundTree}
use Rattle.clause_core.specs.Literals.{Lit}
use Rattle.search_text.specs.SearchTexts.{rounds_made, no_counter, genuine, none_text, cube_literals, edge_line, spent_text}
use Rattle.environment_text.proofs.EnvironmentExamples.{no_bits, alone, three_names, tested, copying, two_states, copied}

no_rounds : none_text [] no_bits 2 1 [] (rounds_made 0) ≡ codes "none\nstates 2\nbound 1\nreason rounds 0\nend\n"
unfolding digits no_bits
no_rounds = refl

no_environment : none_text [] no_bits 1 2 [] (no_counter 2 3) ≡ codes "none\nstates 1\nbound 2\nreason nocounter 2 3\nend\n"
unfolding digits no_bits
no_environment = refl

never : none_text [] no_bits 1 0 [] (genuine alone) ≡
    codes "none\nstates 1\nbound 0\nreason genuine\nenvironment 1\nvector 0\nstate 0 truths to 0\nend\n"
unfolding digits no_bits alone
never = refl

one_round : RoundTree
one_round = record { environment = two_states; window = copied }

-- after one round, with the environment and the window of that round
after_a_round : none_text three_names copying 1 2 (one_round ∷ []) (rounds_made 1) ≡
    codes "none\nstates 1\nbound 2\nround 0\nenvironment 2\ntest 0 p x\ntest 1 p y\n"
    ++ codes "vector 0 [y <- x]\nvector 1 [y <- y]\nstate 0 truths 1 0 to 1 0\nstate 1 truths 0 1 to 0 1\n"
    ++ codes "window p x at 0 is p y at 1 when [y <- x] at 0\nreason rounds 1\nend\n"
unfolding digits three_names tested copying two_states copied one_round
after_a_round = refl

-- bit 0 is to be set, bit 2 is not, and bit 3 is
asks_three : EdgeTree
asks_three = record { from = 1; care = 13; want = 9; to = 0; rejecting = true }

asks_nothing : EdgeTree
asks_nothing = record { from = 0; care = 0; want = 0; to = 1; rejecting = false }

by_rising_bit : edge_line asks_three ≡ codes "edge 1 0 1 1 -3 4 0"
unfolding digits cube_literals asks_three
by_rising_bit = refl

two_literals : List Lit
two_literals = record { index = 4; positive = false } ∷ record { index = 11; positive = true } ∷ []

spent_at_two : spent_text [] no_bits Controller 2 0 [] 2 (asks_three ∷ asks_nothing ∷ []) (two_literals ∷ [] ∷ []) ≡
    codes "spent controller\nsizes 2 0\nautomaton 2\nedge 1 0 1 1 -3 4 0\nedge 0 1 0 0\n"
    ++ codes "clause -5 12 0\nclause 0\nend\n"
unfolding digits cube_literals asks_three asks_nothing two_literals no_bits
spent_at_two = refl

spent_for_an_environment : spent_text [] no_bits Environment 1 3 [] 1 (asks_nothing ∷ []) [] ≡
    codes "spent environment\nsizes 1 3\nautomaton 1\nedge 0 1 0 0\nend\n"
unfolding digits cube_literals asks_nothing no_bits
spent_for_an_environment = refl
