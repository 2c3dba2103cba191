-- What can be written is held by the names.
use Rattle.std.proofs.Common.{ℕ, List, IsTrue}
use Rattle.std.proofs.lemmas.Bool.{and_parts, and_from}
use Rattle.std.specs.List.{list_all}
use Rattle.tsl_terms.specs.declared.names.NameKind.TheVariants.{Signal}
use Rattle.tsl_terms.specs.Name.{Name}
use Rattle.tsl_terms.specs.TermTree.{TermTree, ProbeTree}
use Rattle.tsl_terms.specs.WindowTree.{WindowTree, ListedTree, window_probes}
use Rattle.base_library.proofs.Passes.{list_all_weaker}
use Rattle.term_text.specs.TermText.{is_held, term_is_held, probe_is_held}
use Rattle.term_text.specs.WindowText.{listed_is_held, window_is_held}
use Rattle.term_text.proofs.Held.{name_held, term_held, probe_held}
use Rattle.program_tree.specs.Writable.{signal_fits, term_is_writable, probe_is_writable, listed_is_writable, window_is_writable}

pub signal_held : (names : List Name) (id : ℕ) → IsTrue (signal_fits names id) → IsTrue (is_held names id)
signal_held names id h = name_held names id Signal 0 (and_parts _ _ h).0

pub written_term_held : (names : List Name) (t : TermTree) → IsTrue (term_is_writable names t) → IsTrue (term_is_held names t)
written_term_held names t h = term_held names t (and_parts _ _ h).0

pub written_probe_held : (names : List Name) (p : ProbeTree) → IsTrue (probe_is_writable names p) → IsTrue (probe_is_held names p)
written_probe_held names p h = probe_held names p (and_parts _ _ h).0

updates_held : (names : List Name) (us : List ListedTree) → IsTrue (list_all (listed_is_writable names) us) →
    IsTrue (list_all (listed_is_held names) us)
updates_held names us h =
    list_all_weaker (listed_is_writable names) (listed_is_held names) (λ u k. let parts = and_parts _ _ k in
    and_from _ _ (signal_held names u.signal parts.0) (written_term_held names u.term parts.1)) us h

pub window_held : (names : List Name) (w : WindowTree) → IsTrue (window_is_writable names w) → IsTrue (window_is_held names w)
window_held names w h =
    let parts = and_parts _ _ h in
    and_from _ _ (list_all_weaker (probe_is_writable names) (probe_is_held names) (written_probe_held names) (window_probes w) parts.0)
    (updates_held names w.updates parts.1)
