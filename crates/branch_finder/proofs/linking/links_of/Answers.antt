use Rattle.std.proofs.Common.{◌≡◌, ◌∙◌, ℕ, length, Some, slice_get, get_or, ap, subst, sym, arith, List, [], ◌∷◌, length-append}
use Rattle.std.proofs.lemmas.Option.{none-some}
use Rattle.std.proofs.lemmas.Option.{slice_get-get_or}
use Rattle.base_library.proofs.Places.{slice_get_one}
use Rattle.letter_space.specs.SpaceView.{space_tree}
use Rattle.machines.specs.MachineView.{environment_tree}
use Rattle.branch_finder.specs.internal.Planes.{AreLinks}
use Rattle.branch_finder.proofs.MoveLemmas.{rows_more}
use Rattle.branch_finder.proofs.linking.links_of.Goals as goal

pub loop-set-init : goal.loop-set-init
loop-set-init c = (
  ap length c.new-links.ensures,
  λ n rows at set there. absurd (none-some rows (sym (ap (λ (ls : List (List (List ℕ))). slice_get ls n) c.new-links.ensures) ∙ at)),
)

pub loop-set-preserved : goal.loop-set-preserved
loop-set-preserved c =
    let space = space_tree c.args.space.now in
    let e = environment_tree c.args.environment.now in
    let links = c.loop-set.links in
    let sets = c.args.sets.now in
    let index = c.loop-set.set-index in
    let rows = c.in_ok-set_links.field-0 in (
      omega (arith, ap length c.in_ok-push.ensures.ok, length-append links (rows ∷ []), c.loop-set.invariant.0),
      λ n r at.
          rows_more (λ k rs. (set : ℕ) → slice_get sets k ≡ Some set → AreLinks space e set rs) links index rows
          c.loop-set.invariant.0 c.loop-set.invariant.1
          (λ set there. subst (λ s. AreLinks space e s rows)
          (slice_get_one sets index (get_or sets index 0) set (slice_get-get_or sets index 0 c.loop-set-test.true) there)
          c.in_ok-set_links.ensures) n r
          (sym (ap (λ (ls : List (List (List ℕ))). slice_get ls n) c.in_ok-push.ensures.ok) ∙ at),
    )

pub returns : goal.returns
returns c = record {
  one_each = omega (arith, c.loop-set.invariant.0, c.loop-set-test.false, c.loop-set.auto.set-index-end);
  each = λ n set rows at there. c.loop-set.invariant.1 n rows there set at;
}
