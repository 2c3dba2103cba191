use Rattle.std.proofs.Common.{◌≡◌, ◌∙◌, ◌-◌, ◌+◌, ◌<◌, List, ℕ, length, map, take, drop, get_or, slice_get, Some, refl, sym, ap, arith}
use Rattle.std.proofs.lemmas.List.{length-map}
use Rattle.std.proofs.lemmas.Option.{slice_get_read}
use Rattle.tsl_terms.specs.TermTree.{probe_tree}
use Rattle.branch_finder.proofs.ArgumentLemmas.{starts_counted, part_in_order, part_within, labels_are}
use Rattle.branch_finder.proofs.looking.labels.Goals as goal

pub bounds-starts-bit : goal.bounds-starts-bit
bounds-starts-bit c =
    let search = c.args.look.now.walk.search in
    let sized = starts_counted (map probe_tree search.space.now.predicates) search.starts.now c.requires.look.walk.search.starts in
    omega (arith, sized, length-map search.space.now.predicates probe_tree, c.requires.bit)

pub bounds-starts-bit-2 : goal.bounds-starts-bit-2
bounds-starts-bit-2 c =
    let search = c.args.look.now.walk.search in
    let sized = starts_counted (map probe_tree search.space.now.predicates) search.starts.now c.requires.look.walk.search.starts in
    omega (arith, sized, length-map search.space.now.predicates probe_tree, c.requires.bit)

pub part-requires : goal.part-requires
part-requires c =
    let look = c.args.look.now in
    let probes = map probe_tree look.walk.search.space.now.predicates in
    let within : c.args.bit < length probes
    = omega (arith, c.requires.bit, length-map look.walk.search.space.now.predicates probe_tree) in
    let there : slice_get look.rows.now c.args.step ≡ Some c.index-look-step.result
    = slice_get_read look.rows.now (length look.rows.now) c.args.step c.index-look-step.result refl
    (omega (arith, c.requires.look.labelled.one_row_each, c.requires.step)) c.index-look-step.is in
    record {
      order = part_in_order probes look.walk.search.starts.now c.requires.look.walk.search.starts c.args.bit within;
      within = part_within probes look.walk.search.starts.now c.requires.look.walk.search.starts c.args.bit within c.as_slice.result.now
          (ap length (c.as_slice.ensures ∙ sym c.index-look-step.is) ∙ c.requires.look.labelled.one_label_each c.args.step
          c.index-look-step.result there);
    }

pub returns : goal.returns
returns c =
    let look = c.args.look.now in
    let probes = map probe_tree look.walk.search.space.now.predicates in
    let starts = look.walk.search.starts.now in
    let within : c.args.bit < length probes
    = omega (arith, c.requires.bit, length-map look.walk.search.space.now.predicates probe_tree) in
    let there : slice_get look.rows.now c.args.step ≡ Some c.index-look-step.result
    = slice_get_read look.rows.now (length look.rows.now) c.args.step c.index-look-step.result refl
    (omega (arith, c.requires.look.labelled.one_row_each, c.requires.step)) c.index-look-step.is in
    labels_are probes starts c.requires.look.walk.search.starts c.args.bit within look.rows.now c.args.step c.index-look-step.result
    c.part.result.now there
    (c.part.ensures
    ∙ ap (λ (row : List ℕ). take (get_or starts (c.args.bit + 1) 0 - get_or starts c.args.bit 0) (drop (get_or starts c.args.bit 0) row))
    (c.as_slice.ensures ∙ sym c.index-look-step.is))
