-- What fits the names, and may be written, is over the names.
use Rattle.std.proofs.Common.{◌≡◌, ℕ, true, ◌&&◌, List}
use Rattle.std.specs.List.{list_all}
use Rattle.std.specs.Prelude.{nat_le}
use Rattle.std.proofs.lemmas.Bool.{and_parts, and_from}
use Rattle.base_library.proofs.Passes.{list_all_weaker}
use Rattle.tsl_terms.specs.declared.names.NameKind.TheVariants.{Signal, Function, Predicate}
use Rattle.tsl_terms.specs.Name.{Name, is_name}
use Rattle.tsl_terms.specs.TermTree.{TermTree, signal, apply, TermTrees, no_terms, more_terms, ProbeTree, count_of_terms}
use Rattle.tsl_terms.specs.FormulaTree.{Atom, test, update}
use Rattle.tsl_terms.specs.WellFormed.{is_usable_at, term_fits, terms_fit, probe_fits, atom_fits, brackets, brackets_of_arguments, deepest}
use Rattle.tsl_terms.specs.WindowTree.{WindowTree, ListedTree, window_probes}
use Rattle.program_tree.specs.NodeTree.{NodeTree, branch, assign}
use Rattle.program_tree.specs.ProgramTree.{ProgramTree}
use Rattle.program_tree.specs.Fits.{IsProgram}
use Rattle.program_tree.specs.Writable.{IsWritable, signal_fits, term_is_writable, probe_is_writable, listed_is_writable}
use Rattle.program_tree.specs.Writable.{window_is_writable, node_is_writable}
use Rattle.tsl_meaning.specs.OverNames.{term_is_over, terms_are_over, probe_is_over, listed_is_over, window_is_over, node_is_over}
use Rattle.tsl_meaning.specs.OverNames.{atom_is_over, IsProgramOver}

module _ (names : List Name) where
  mutual
    term_over : (t : TermTree) → term_fits names t ≡ true → term_is_over names t ≡ true
    term_over (signal s) fits = (and_parts (is_name names s Signal 0) (is_usable_at names s) fits).0
    term_over (apply f ts) fits =
        let parts = and_parts (is_name names f Function (count_of_terms ts) && is_usable_at names f) (terms_fit names ts) fits in
        and_from (is_name names f Function (count_of_terms ts)) (terms_are_over names ts)
        (and_parts (is_name names f Function (count_of_terms ts)) (is_usable_at names f) parts.0).0 (terms_over ts parts.1)

    terms_over : (ts : TermTrees) → terms_fit names ts ≡ true → terms_are_over names ts ≡ true
    terms_over no_terms fits = fits
    terms_over (more_terms t ts) fits =
        let parts = and_parts (term_fits names t) (terms_fit names ts) fits in
        and_from (term_is_over names t) (terms_are_over names ts) (term_over t parts.0) (terms_over ts parts.1)

  probe_over : (p : ProbeTree) → probe_fits names p ≡ true → probe_is_over names p ≡ true
  probe_over p fits =
      let parts = and_parts (is_name names p.predicate Predicate (count_of_terms p.arguments) && terms_fit names p.arguments) _ fits in
      let inner = and_parts (is_name names p.predicate Predicate (count_of_terms p.arguments)) (terms_fit names p.arguments) parts.0 in
      and_from (is_name names p.predicate Predicate (count_of_terms p.arguments)) (terms_are_over names p.arguments) inner.0
      (terms_over p.arguments inner.1)

  pub atom_over : (a : Atom) → atom_fits names a ≡ true → atom_is_over names a ≡ true
  atom_over (test p) fits = probe_over p (and_parts (probe_fits names p) (nat_le (brackets_of_arguments p.arguments) deepest) fits).0
  atom_over (update s t) fits =
      let parts = and_parts (is_name names s Signal 0 && is_usable_at names s) (term_fits names t && nat_le (brackets t) deepest) fits in
      and_from (is_name names s Signal 0) (term_is_over names t)
      (and_parts (is_name names s Signal 0) (is_usable_at names s) parts.0).0
      (term_over t (and_parts (term_fits names t) (nat_le (brackets t) deepest) parts.1).0)

  -- what may be written
  written_term : (t : TermTree) → term_is_writable names t ≡ true → term_is_over names t ≡ true
  written_term t written = term_over t (and_parts (term_fits names t) (nat_le (brackets t) deepest) written).0

  written_probe : (p : ProbeTree) → probe_is_writable names p ≡ true → probe_is_over names p ≡ true
  written_probe p written = probe_over p (and_parts (probe_fits names p) (nat_le (brackets_of_arguments p.arguments) deepest) written).0

  written_signal : (s : ℕ) → signal_fits names s ≡ true → is_name names s Signal 0 ≡ true
  written_signal s written = (and_parts (is_name names s Signal 0) (is_usable_at names s) written).0

  written_listed : (u : ListedTree) → listed_is_writable names u ≡ true → listed_is_over names u ≡ true
  written_listed u written =
      let parts = and_parts (signal_fits names u.signal) (term_is_writable names u.term) written in
      and_from (is_name names u.signal Signal 0) (term_is_over names u.term) (written_signal u.signal parts.0) (written_term u.term parts.1)

  written_window : (w : WindowTree) → window_is_writable names w ≡ true → window_is_over names w ≡ true
  written_window w written =
      let parts = and_parts (list_all (probe_is_writable names) (window_probes w)) (list_all (listed_is_writable names) w.updates) written in
      and_from (list_all (probe_is_over names) (window_probes w)) (list_all (listed_is_over names) w.updates)
      (list_all_weaker (probe_is_writable names) (probe_is_over names) written_probe (window_probes w) parts.0)
      (list_all_weaker (listed_is_writable names) (listed_is_over names) written_listed w.updates parts.1)

  written_node : (n : NodeTree) → node_is_writable names n ≡ true → node_is_over names n ≡ true
  written_node (branch t a b) written = written_probe t written
  written_node (assign ts go) written = list_all_weaker (term_is_writable names) (term_is_over names) written_term ts written

  pub written_program : (p : ProgramTree) → IsProgram p → IsWritable names p → IsProgramOver names p
  written_program p is_program written = record {
    is_program = is_program;
    signals = list_all_weaker (signal_fits names) (λ s. is_name names s Signal 0) written_signal _ written.signals;
    windows = list_all_weaker (window_is_writable names) (window_is_over names) written_window p.windows written.windows;
    nodes = list_all_weaker (node_is_writable names) (node_is_over names) written_node p.nodes written.nodes;
  }
