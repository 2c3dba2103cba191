-- Texts of environments, which compute.
use Rattle.std.specs.Prelude.{◌≡◌, ℕ, List, [], ◌∷◌, ◌++◌, codes, Some, refl}
use Rattle.std.specs.Fmt.{digits}
use Rattle.tsl_terms.specs.declared.names.NameKind.TheVariants.{Signal, Predicate}
use Rattle.tsl_terms.specs.Name.{Name}
use Rattle.tsl_terms.specs.TermTree.{signal, no_terms, more_terms, ProbeTree}
use Rattle.tsl_terms.specs.WindowTree.{WindowTree}
use Rattle.letter_space.specs.SpaceTree.{SpaceTree}
use Rattle.machines.specs.MachineTree.{EnvironmentTree}
use Rattle.environment_text.specs.EnvironmentText.{environment_text}

-- without predicate terms and without signals there is one vector
unfoldable pub no_bits : SpaceTree
no_bits = record { predicates = []; controlled = [] }

unfoldable pub alone : EnvironmentTree
alone = record { states = 1; vectors = 1; truths = 0 ∷ []; next = 0 ∷ [] }

-- no space stands after a word whose list is empty
empty_lists : environment_text [] no_bits alone ≡ codes "environment 1\nvector 0\nstate 0 truths to 0\n"
unfolding digits no_bits alone
empty_lists = refl

-- an input, a cell, and a predicate
unfoldable pub three_names : List Name
three_names = record { text = codes "y"; kind = Signal; arity = 0 } ∷ record { text = codes "x"; kind = Signal; arity = 0 }
    ∷ record { text = codes "p"; kind = Predicate; arity = 1 } ∷ []

unfoldable pub tested : ℕ → ProbeTree
tested s = record { predicate = 2; arguments = more_terms (signal s) no_terms }

unfoldable pub copying : SpaceTree
copying = record {
  predicates = tested 1 ∷ tested 0 ∷ [];
  controlled = record { signal = 0; choices = signal 1 ∷ signal 0 ∷ []; first = 2 } ∷ [];
}

-- in state 0 the first predicate term is true, in state 1 the second one
unfoldable pub two_states : EnvironmentTree
two_states = record { states = 2; vectors = 2; truths = 1 ∷ 2 ∷ []; next = 1 ∷ 0 ∷ 0 ∷ 1 ∷ [] }

unfoldable pub copied : WindowTree
copied = record {
  left = Some (tested 1);
  left_at = 0;
  right = tested 0;
  length = 1;
  updates = record { signal = 0; term = signal 1; offset = 0 } ∷ [];
  equalities = [];
}

told : environment_text three_names copying two_states ≡
    codes "environment 2\ntest 0 p x\ntest 1 p y\nvector 0 [y <- x]\nvector 1 [y <- y]\n"
    ++ codes "state 0 truths 1 0 to 1 0\nstate 1 truths 0 1 to 0 1\n"
unfolding digits three_names tested copying two_states
told = refl

-- the first signal's choice is the leading digit of a vector's number
unfoldable pub two_cells : SpaceTree
two_cells = record {
  predicates = [];
  controlled = record { signal = 0; choices = signal 1 ∷ signal 0 ∷ []; first = 0 }
      ∷ record { signal = 1; choices = signal 0 ∷ signal 1 ∷ []; first = 2 } ∷ [];
}

unfoldable pub staying : EnvironmentTree
staying = record { states = 1; vectors = 4; truths = 0 ∷ []; next = 0 ∷ 0 ∷ 0 ∷ 0 ∷ [] }

leading_digit : environment_text three_names two_cells staying ≡
    codes "environment 1\nvector 0 [y <- x] [x <- y]\nvector 1 [y <- x] [x <- x]\nvector 2 [y <- y] [x <- y]\n"
    ++ codes "vector 3 [y <- y] [x <- x]\nstate 0 truths to 0 0 0 0\n"
unfolding digits three_names two_cells staying
leading_digit = refl
