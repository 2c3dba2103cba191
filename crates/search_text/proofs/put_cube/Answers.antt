use Rattle.std.proofs.Common.{◌≡◌, ℕ, suc, ◌+◌, ◌-◌, ◌<◌, ◌≤◌, Bool, true, false, cond, List, [], ◌∷◌, ◌++◌, map, codes, refl, ap, sym, ◌∙◌, append_assoc, add-one, arith, subst}
use Rattle.std.specs.Prelude.{filter, flat_map, OnOk}
use Rattle.std.proofs.lemmas.List.{append-nil}
use Rattle.base_library.specs.Numbers.{numbers_from}
use Rattle.base_library.proofs.Lists.{written_step}
use Rattle.ltl_formula.specs.Cubes.{has_bit}
use Rattle.refutation_text.specs.Written.{literal_word, clause_line}
use Rattle.search_text.specs.SearchTexts.{bit_literal, asked_literals}
use Rattle.search_text.proofs.put_cube.Goals as goal

-- what is asked of the first bit, and then of the others
asked_first : (care want b : ℕ) (bits : List ℕ) → clause_line (asked_literals care want (b ∷ bits)) ≡
    flat_map (λ l. literal_word l ++ codes " ") (asked_literals care want (b ∷ [])) ++ clause_line (asked_literals care want bits)
asked_first care want b bits = by (has_bit b care) (filter (λ n. has_bit n care) bits)
  where
    by : (asked : Bool) (others : List ℕ) →
        flat_map (λ l. literal_word l ++ codes " ") (map (bit_literal want) (cond asked (b ∷ others) others)) ++ codes "0" ≡
        flat_map (λ l. literal_word l ++ codes " ") (map (bit_literal want) (cond asked (b ∷ []) []))
        ++ (flat_map (λ l. literal_word l ++ codes " ") (map (bit_literal want) others) ++ codes "0")
    by true others =
        let first : List ℕ = literal_word (bit_literal want b) ++ codes " " in
        let rest : List ℕ = flat_map (λ l. literal_word l ++ codes " ") (map (bit_literal want) others) in
        append_assoc first rest (codes "0") ∙ ap (λ (xs : List ℕ). xs ++ (rest ++ codes "0")) (sym (append-nil first))
    by false others = refl

asked_left : (care want bit : ℕ) → bit < 64 → clause_line (asked_literals care want (numbers_from bit (64 - bit))) ≡
    flat_map (λ l. literal_word l ++ codes " ") (asked_literals care want (bit ∷ []))
    ++ clause_line (asked_literals care want (numbers_from (bit + 1) (64 - (bit + 1))))
asked_left care want bit below =
    let one : 64 - bit ≡ suc (64 - (bit + 1)) = omega arith in
    ap (λ (n : ℕ). clause_line (asked_literals care want (numbers_from bit n))) one
    ∙ asked_first care want bit (numbers_from (suc bit) (64 - (bit + 1)))
    ∙ ap (λ (n : ℕ). flat_map (λ l. literal_word l ++ codes " ") (asked_literals care want (bit ∷ []))
    ++ clause_line (asked_literals care want (numbers_from n (64 - (bit + 1))))) (sym (add-one bit))

pub loop-bit-preserved : goal.loop-bit-preserved
loop-bit-preserved c =
    written_step _ _ _ _ _ _ c.loop-bit.invariant (asked_left c.args.cube.care c.args.cube.want c.loop-bit.bit c.loop-bit-test.true)
    c.in_ok-put_asked.ensures

none_left : (care want bit : ℕ) → 64 ≤ bit → clause_line (asked_literals care want (numbers_from bit (64 - bit))) ≡ codes "0"
none_left care want bit all =
    let none : 64 - bit ≡ 0 = omega arith in
    ap (λ (n : ℕ). clause_line (asked_literals care want (numbers_from bit n))) none

pub returns : goal.returns
returns c =
    subst (λ (ys : List ℕ). OnOk c.put_bytes.result (c.put_bytes.new.out.items ≡ ys))
    (ap (λ (ys : List ℕ). c.loop-bit.out.items ++ ys) (sym (none_left c.args.cube.care c.args.cube.want c.loop-bit.bit c.loop-bit-test.false))
    ∙ c.loop-bit.invariant)
    c.put_bytes.ensures.ok
