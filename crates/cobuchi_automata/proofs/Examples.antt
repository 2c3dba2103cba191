-- Worked examples: counters, and the automaton of an until.
use Rattle.std.proofs.Common.{◌≡◌, ◌==◌, true, false, [], ◌∷◌, refl}
use Rattle.ltl_formula.specs.LtlTree.{LtlTree, top, bit, until}
use Rattle.cobuchi_automata.specs.Counters.{passes_last, advanced}
use Rattle.cobuchi_automata.specs.Automata.{untils_of, start_state, edge_of}

-- two untils, of which the second is postponed
waits_for_the_second : advanced 2 (λ u. u == 1) 0 ≡ 1
waits_for_the_second = refl

-- the counter rises past all that are not postponed at once
passes_both : passes_last 2 (λ u. false) 0 ≡ true
passes_both = refl

no_untils_pass_always : passes_last 0 (λ u. true) 0 ≡ true
no_untils_pass_always = refl

abbrev finally_b0 : LtlTree
finally_b0 = until top (bit 0)

its_untils : untils_of (until top finally_b0) ≡ until top finally_b0 ∷ finally_b0 ∷ []
its_untils = refl

-- the choice that meets the until leads to the empty set along a rejecting edge
met : edge_of (untils_of finally_b0) 0 (start_state finally_b0) (record { care = 1; want = 1; next_set = []; postponed = [] }) 1
    ≡ record { from = 0; care = 1; want = 1; to = 1; rejecting = true }
met = refl

-- the one that puts it off does not
put_off : edge_of (untils_of finally_b0) 0 (start_state finally_b0)
    (record { care = 0; want = 0; next_set = finally_b0 ∷ []; postponed = finally_b0 ∷ [] }) 0
    ≡ record { from = 0; care = 0; want = 0; to = 0; rejecting = false }
put_off = refl
