use Rattle.std.proofs.Common.{◌≡◌, ℕ, suc, ◌+◌, List, [], ◌∷◌, ◌++◌, codes, arith, ap, sym, ◌∙◌, append_assoc, append-nil}
use Rattle.std.specs.Prelude.{flat_map}
use Rattle.std.proofs.lemmas.Grind.{flat_map-append}
use Rattle.base_library.specs.Numbers.{numbers_from}
use Rattle.base_library.proofs.Numbers.{numbers_more}
use Rattle.generator.specs.Generated.{response_line}
use Rattle.generator.proofs.gen_text.Goals as goal

one_more : (f : ℕ → List ℕ) (i : ℕ) → flat_map f (numbers_from 0 (i + 1)) ≡ flat_map f (numbers_from 0 i) ++ f i
one_more f i =
    let more : i + 1 ≡ suc i = omega arith in
    ap (λ k. flat_map f (numbers_from 0 k)) more ∙ ap (flat_map f) (numbers_more 0 i i (omega arith)) ∙ flat_map-append f (numbers_from 0 i) (i ∷ [])
    ∙ ap (λ line. flat_map f (numbers_from 0 i) ++ line) (append-nil (f i))

pub loop-i-preserved : goal.loop-i-preserved
loop-i-preserved c =
    c.in_ok-put_response.ensures ∙ ap (λ text. text ++ response_line c.loop-i.i) c.loop-i.invariant
    ∙ append_assoc (codes "always guarantee {\n") (flat_map response_line (numbers_from 0 c.loop-i.i)) (response_line c.loop-i.i)
    ∙ ap (λ lines. codes "always guarantee {\n" ++ lines) (sym (one_more response_line c.loop-i.i))

pub returns : goal.returns
returns c =
    let all : c.loop-i.i ≡ c.args.n = omega (arith, c.loop-i.auto.i-end, c.loop-i-test.false) in
    c.in_ok-put_bytes-2.ensures.ok ∙ ap (λ text. text ++ codes "}\n") c.loop-i.invariant
    ∙ append_assoc (codes "always guarantee {\n") (flat_map response_line (numbers_from 0 c.loop-i.i)) (codes "}\n")
    ∙ ap (λ n. codes "always guarantee {\n" ++ flat_map response_line (numbers_from 0 n) ++ codes "}\n") all
