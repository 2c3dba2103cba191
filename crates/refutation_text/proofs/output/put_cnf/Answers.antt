use Rattle.std.proofs.Common.{◌≡◌, ◌++◌, ◌∷◌, ◌+◌, ℕ, List, map, drop, codes, sym, ap, subst, ◌∙◌}
use Rattle.std.proofs.lemmas.List.{append_assoc}
use Rattle.std.proofs.lemmas.List.Elements.{AllWithin-more}
use Rattle.std.proofs.lemmas.Option.{slice_get_within, get_or_from_slice_get}
use Rattle.base_library.proofs.Lists.{left_at}
use Rattle.clause_core.specs.Literals.{Lit}
use Rattle.clause_core.specs.Clauses.{IsIncreasing}
use Rattle.tsl_text.specs.Written.{text_of_lines}
use Rattle.refutation_text.specs.Written.{clause_line}
use Rattle.refutation_text.proofs.output.put_cnf.Goals as goal

-- the line of the first clause is written, and those of the rest are left
line_put : (out with_line with_feed whole : List ℕ) (clauses rest : List (List Lit)) (clause : List Lit) → clauses ≡ clause ∷ rest →
    with_line ≡ out ++ clause_line clause → with_feed ≡ with_line ++ codes "\n" →
    out ++ text_of_lines (map clause_line clauses) ≡ whole → with_feed ++ text_of_lines (map clause_line rest) ≡ whole
line_put out with_line with_feed whole clauses rest clause is put fed before =
    let left = text_of_lines (map clause_line rest) in
    ap (λ o. o ++ left) (fed ∙ ap (λ o. o ++ codes "\n") put ∙ append_assoc out (clause_line clause) (codes "\n"))
    ∙ append_assoc out (clause_line clause ++ codes "\n") left
    ∙ ap (λ cs. out ++ text_of_lines (map clause_line cs)) (sym is) ∙ before

pub loop-place-preserved : goal.loop-place-preserved
loop-place-preserved c =
    let clauses = c.args.cnf.now.clauses in
    let place = c.loop-place.place in
    let clause = c.get.result.now in
    let there = c.get.ensures.value in
    record {
      increasing = AllWithin-more IsIncreasing clauses 0 place c.loop-place.invariant.increasing
          (λ d. subst IsIncreasing (sym (get_or_from_slice_get clauses place clause d there)) c.get.ensures.increasing);
      written = line_put c.loop-place.out.items _ _ _ (drop place clauses) (drop (place + 1) clauses) clause
          (left_at clauses place clause (slice_get_within clauses place clause there) (sym (get_or_from_slice_get clauses place clause clause there)))
          c.in_ok-put_clause.ensures c.in_ok-put_bytes.ensures.ok c.loop-place.invariant.written;
    }
