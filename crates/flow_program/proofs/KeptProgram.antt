-- Two programs with the same numbers are one.
use Rattle.std.proofs.Common.{◌≡◌, ℕ, List, subst, sym, ◌∙◌}
use Rattle.std.proofs.lemmas.Option.{same_Some}
use Rattle.tsl_terms.specs.Name.{Name}
use Rattle.program_tree.specs.ProgramTree.{ProgramTree}
use Rattle.flow_program.specs.ProgramText.{ProgramText}
use Rattle.program_listing.specs.Listing.{ListingTree}
use Rattle.flow_program.specs.internal.Numbering.{Numbered}

pub same_program : (names : List Name) (text : List ℕ) (l : ListingTree) (p q : ProgramTree) → Numbered names text l p →
    Numbered names text l q → p ≡ q
same_program names text l p q h k =
    let inputs = same_Some p.inputs q.inputs (sym h.inputs ∙ k.inputs) in
    let cells = same_Some p.cells q.cells (sym h.cells ∙ k.cells) in
    let outputs = same_Some p.outputs q.outputs (sym h.outputs ∙ k.outputs) in
    let windows = same_Some p.windows q.windows (sym h.windows ∙ k.windows) in
    let nodes = same_Some p.nodes q.nodes (sym h.nodes ∙ k.nodes) in
    let states = same_Some p.states q.states (sym h.states ∙ k.states) in
    λ i. record { inputs = inputs i; cells = cells i; outputs = outputs i; windows = windows i; nodes = nodes i; states = states i }

pub kept_program : (names : List Name) (text : List ℕ) (l : ListingTree) →
    (p : ProgramTree) × Numbered names text l p × ProgramText text names p → (q : ProgramTree) → Numbered names text l q →
    ProgramText text names q
kept_program names text l known q k =
    subst (ProgramText text names) (same_program names text l known.0 q known.1 k) known.2
