use Rattle.std.proofs.Common.{◌∙◌, ◌&&◌, not, List, sym, ap}
use Rattle.std.specs.List.{list_any}
use Rattle.base_library.specs.Numbers.{is_among}
use Rattle.tsl_terms.specs.declared.term.Probe.{Probe}
use Rattle.tsl_terms.specs.TermTree.{term_tree, probe_tree}
use Rattle.tsl_terms.specs.Signals.{term_reads, some_term_reads}
use Rattle.letter_space.specs.declared.controlled.Controlled.{Controlled}
use Rattle.branch_finder.proofs.RelevantCells.{unread_is}
use Rattle.branch_finder.proofs.relevance.is_read.Goals as goal

pub returns-else-some_probe_reads : goal.returns-else-some_probe_reads
returns-else-some_probe_reads c none =
    let space = c.args.space.now in
    let signal = c.args.signal in
    let others = λ (cs : List Controlled). list_any (λ d. (is_among c.args.cells.now d.signal && not (is_among c.args.rest.now d.signal))
    && list_any (λ t. term_reads signal (term_tree t)) d.choices) cs in
    unread_is space.predicates space.controlled c.args.cells.now c.args.rest.now signal
    (ap (λ (ps : List Probe). list_any (λ p. some_term_reads signal (probe_tree p).arguments) ps) (sym c.as_slice.ensures)
    ∙ sym c.some_probe_reads.ensures ∙ c.if-some_probe_reads.false)
    (ap others (sym c.as_slice-else-some_probe_reads.ensures) ∙ sym c.some_other_reads.ensures ∙ none)
