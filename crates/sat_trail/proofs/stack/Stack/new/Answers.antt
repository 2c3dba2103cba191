use Rattle.std.proofs.Common.{◌≡◌, ◌*◌, ◌++◌, false, None, List, length-append, replicate, sym, subst, rules, arith}
use Rattle.std.proofs.lemmas.List.Elements.{All-append}
use Rattle.sat_trail.specs.internal.Tables.{IsPlaceTable, AreTruths}
use Rattle.clause_core.specs.Literals.{Lit}
use Rattle.clause_core.specs.Clauses.{IsOver, has_pair}
use Rattle.sat_trail.specs.declared.entries.Entry.{Entry}
use Rattle.sat_trail.specs.States.{IsSound, started}
use Rattle.sat_trail.proofs.TrailSteps.{sound_started, table_started, truths_started}
use Rattle.sat_trail.proofs.stack.Stack.new.Goals as goal

pub invariant_of-result : goal.invariant_of-result
invariant_of-result c =
    let cnf = c.args.cnf.now in
    let learnt = c.args.learnt.items in
    let filled : c.in_ok-vec.field-0.items ≡ replicate cnf.variables None = search rules in
    let falses : c.in_ok-vec-2.field-0.items ≡ replicate (2 * cnf.variables) false = search rules in
    let sound : IsSound (started cnf.variables (cnf.clauses ++ learnt)) = sound_started cnf.variables (cnf.clauses ++ learnt) cnf.few
    (omega (arith, length-append cnf.clauses learnt, c.requires.few)) (All-append (IsOver cnf.variables) cnf.clauses learnt cnf.over
    c.requires.over) (All-append (λ clause. has_pair clause ≡ false) cnf.clauses learnt c.requires.formula c.requires.no_pairs) in
    let all : c.new.result ≡ cnf.clauses ++ learnt =
    c.new.ensures in
    let none = c.new-2.ensures.items in (
      subst (λ (es : List Entry). IsSound (record {
        variables = cnf.variables;
        clauses = c.new.result;
        entries = es;
        level = 0;
        broken = false;
      })) (sym none) (subst (λ (cs : List (List Lit)). IsSound (started cnf.variables cs)) (sym all) sound),
      subst (IsPlaceTable cnf.variables c.in_ok-vec.field-0.items) (sym none)
          (table_started cnf.variables c.in_ok-vec.field-0.items filled),
      subst (AreTruths cnf.variables c.in_ok-vec-2.field-0.items) (sym none)
          (truths_started cnf.variables c.in_ok-vec-2.field-0.items falses),
    )

pub returns-clause-sound : goal.returns-clause-sound
returns-clause-sound c = (invariant_of-result c).0
