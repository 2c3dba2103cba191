use Rattle.std.proofs.Common.{◌≡◌, ◌++◌, ◌∷◌, [], ◌+◌, ◌<◌, ◌^◌, true, List, length, sym, subst, ◌∙◌}
use Rattle.std.specs.Prelude.{is_ok}
use Rattle.std.proofs.lemmas.Bool.{cond-true, cond-false}
use Rattle.clause_core.specs.Literals.{Lit}
use Rattle.clause_core.specs.Clauses.{IsOver}
use Rattle.sat_trail.specs.States.{TrailState, IsSound}
use Rattle.sat_trail.proofs.Soundness.{sound_broken, sound_clause}
use Rattle.sat_trail.proofs.TrailSteps.{seen}
use Rattle.sat_trail.proofs.stack.Stack.learn.Goals as goal

pub invariant_of-self : goal.invariant_of-self
invariant_of-self c =
    let inside = c.self.inside in
    let t = seen inside in
    let same : c.push.new.self ≡ inside.clauses = c.push.ensures
    ∙ cond-false (is_ok c.push.result) (inside.clauses ++ c.args.clause ∷ []) inside.clauses c.if-is_err.ensures.negation in (
      subst (λ (cs : List (List Lit)). IsSound (record t { clauses = cs; broken = true })) (sym same)
          (sound_broken t true c.self.invariant.0),
      c.self.invariant.1,
      c.self.invariant.2,
    )

pub returns-then-is_err-clause-sound : goal.returns-then-is_err-clause-sound
returns-then-is_err-clause-sound c = (invariant_of-self c).0

pub invariant_of-self-else-is_err : goal.invariant_of-self-else-is_err
invariant_of-self-else-is_err c =
    let inside = c.self.inside in
    let t = seen inside in
    let is : t ≡ c.args.self.now = c.self.view_is in
    let same : c.push.new.self ≡ inside.clauses ++ c.args.clause ∷ [] =
    c.push.ensures ∙ cond-true (is_ok c.push.result) (inside.clauses
    ++ c.args.clause ∷ []) inside.clauses c.if-is_err.ensures.negation in
    let few : length t.clauses + 1 < 2 ^ 32 = subst (λ (s : TrailState). length s.clauses + 1 < 2 ^ 32) (sym is) c.requires.few in
    let over : IsOver t.variables c.args.clause = subst (λ (s : TrailState). IsOver s.variables c.args.clause) (sym is) c.requires.over in (
      subst (λ (cs : List (List Lit)). IsSound (record t { clauses = cs })) (sym same)
          (sound_clause t c.args.clause c.self.invariant.0 few over c.requires.no_pair),
      c.self.invariant.1,
      c.self.invariant.2,
    )

pub returns-clause-sound : goal.returns-clause-sound
returns-clause-sound c = (invariant_of-self-else-is_err c).0
