use Rattle.std.proofs.Common.{refl, ◌≡◌, ◌<◌, ◌∙◌, ℕ, Some, List, length, sym, ap, subst, slice_get, get_or, arith}
use Rattle.std.proofs.lemmas.Option.{slice_get_within, slice_get_read}
use Rattle.base_library.proofs.Places.{slice_get_one}
use Rattle.clause_core.specs.Literals.{same}
use Rattle.sat_trail.specs.declared.entries.Entry.{Entry}
use Rattle.sat_trail.specs.Entries.{place_of, truth_of}
use Rattle.sat_trail.specs.States.{TrailState}
use Rattle.sat_trail.proofs.Places.{Stands, place_found, table_at, value_unset, value_set}
use Rattle.sat_trail.proofs.Soundness.{apart_from}
use Rattle.sat_trail.proofs.stack.Stack.value.Goals as goal
use Rattle.sat_trail.proofs.stack.Stack.value.Goals.{After-index-2}

found : (es : List Entry) (i place : ℕ) → place_of es i ≡ Some place → Stands es place i
found es i place is =
    let r = place_found 0 es i place is in
    let e : place ≡ r.0 = omega (arith, r.1) in
    record { entry = r.2.entry; there = ap (slice_get es) e ∙ r.2.there; is = r.2.is }

read : (c : After-index-2) → place_of c.self.inside.entries.items c.args.literal.index ≡ c.index-2.result.now
read c =
    let t = c.self.inside in
    table_at t.variables t.places.items t.entries.items c.args.literal.index c.index-2.result.now c.self.invariant.1
    (subst (λ (s : TrailState). c.args.literal.index < s.variables) (sym c.self.view_is) c.requires.over)
    (c.index-2.ensures ∙ ap (λ (i : ℕ). get_or t.places.items i c.index-2.result.now) c.index.ensures.value)

pub index-requires-in-Some : goal.index-requires-in-Some
index-requires-in-Some c =
    let es = c.self.inside.entries in
    let is = read (goal.at.index-requires-in-Some c).After-index-2 ∙ c.in-Some.is in
    let f = found es.items c.args.literal.index c.in-Some.place is in
    omega (arith, slice_get_within es.items c.in-Some.place f.entry f.there, es.ok.0)

pub returns-in-None : goal.returns-in-None
returns-in-None c =
    sym (ap (λ (t : TrailState). truth_of t.entries c.args.literal) (sym c.self.view_is)
    ∙ value_unset c.self.inside.entries.items c.args.literal (read (goal.at.returns-in-None c).After-index-2 ∙ c.in-None.is))

pub returns-in-Some : goal.returns-in-Some
returns-in-Some c =
    let es = c.self.inside.entries.items in
    let f = found es c.args.literal.index c.in-Some.place (read (goal.at.returns-in-Some c).After-index-2 ∙ c.in-Some.is) in
    let within = slice_get_within es c.in-Some.place f.entry f.there in
    let e = slice_get_one es c.in-Some.place f.entry c.index-in-Some.result.now f.there
    (slice_get_read es (length es) c.in-Some.place c.index-in-Some.result.now refl within c.index-in-Some.ensures) in
    let set = value_set es (apart_from c.self.inside.variables c.self.inside.clauses es c.self.invariant.0.stand) c.in-Some.place
    f.entry c.args.literal f.there f.is in
    ap Some (c.eq.ensures ∙ ap (λ (d : Entry). same d.literal c.args.literal) (sym e))
    ∙ sym (ap (λ (t : TrailState). truth_of t.entries c.args.literal) (sym c.self.view_is) ∙ set)
