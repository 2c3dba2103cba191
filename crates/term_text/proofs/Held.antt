-- What fits the names is held by them.
use Rattle.std.proofs.Common.{ℕ, ◌&&◌, ◌==◌, List, [], ◌∷◌, ◌++◌, length, map, IsTrue, refl, sym, ◌∙◌}
use Rattle.std.proofs.lemmas.Bool.{and_parts, and_from, lt-ltb}
use Rattle.std.specs.List.{list_all}
use Rattle.std.proofs.lemmas.List.Folds.{list_all-map}
use Rattle.base_library.proofs.Passes.{within_from_test, list_all_parts}
use Rattle.tsl_terms.specs.declared.names.NameKind.{NameKind}
use Rattle.tsl_terms.specs.declared.names.NameKind.TheVariants.{Signal, Function, Predicate}
use Rattle.tsl_terms.specs.Name.{Name, same_kind, is_name}
use Rattle.tsl_terms.specs.TermTree.{TermTree, signal, apply, TermTrees, no_terms, more_terms, ProbeTree, count_of_terms}
use Rattle.tsl_terms.specs.WindowTree.{WindowTree, EquatedTree, left_probes}
use Rattle.tsl_terms.specs.WellFormed.{term_fits, terms_fit, probe_fits}
use Rattle.term_text.specs.TermText.{is_held, term_is_held, terms_are_held, probe_is_held}
use Rattle.term_text.specs.WindowText.{window_is_held, listed_is_held}

pub name_held : (names : List Name) (id : ℕ) (kind : NameKind) (arity : ℕ) → IsTrue (is_name names id kind arity) →
    IsTrue (is_held names id)
name_held names id kind arity h = lt-ltb id (length names) (within_from_test names id (λ n. same_kind n.kind kind && (n.arity == arity)) h)

mutual
  pub term_held : (names : List Name) (t : TermTree) → IsTrue (term_fits names t) → IsTrue (term_is_held names t)
  term_held names (signal s) h = name_held names s Signal 0 (and_parts _ _ h).0
  term_held names (apply f ts) h =
      let parts = and_parts _ _ h in
      and_from _ _ (name_held names f Function (count_of_terms ts) (and_parts _ _ parts.0).0) (terms_held names ts parts.1)

  pub terms_held : (names : List Name) (ts : TermTrees) → IsTrue (terms_fit names ts) → IsTrue (terms_are_held names ts)
  terms_held names no_terms h = refl
  terms_held names (more_terms t ts) h =
      let parts = and_parts _ _ h in and_from _ _ (term_held names t parts.0) (terms_held names ts parts.1)

pub probe_held : (names : List Name) (p : ProbeTree) → IsTrue (probe_fits names p) → IsTrue (probe_is_held names p)
probe_held names p h =
    let fits = and_parts _ _ (and_parts _ _ h).0 in
    and_from _ _ (name_held names p.predicate Predicate (count_of_terms p.arguments) fits.0) (terms_held names p.arguments fits.1)

-- the numbers of a window that stand in its equalities, in its sides and in its updates
pub window_parts : (names : List Name) (w : WindowTree) → IsTrue (window_is_held names w) →
    IsTrue (list_all (λ e. probe_is_held names e.probe) w.equalities)
    × IsTrue (list_all (probe_is_held names) (left_probes w.left ++ w.right ∷ [])) × IsTrue (list_all (listed_is_held names) w.updates)
window_parts names w h =
    let both = and_parts _ _ h in
    let probes = map (λ (e : EquatedTree). e.probe) w.equalities in
    let parts = list_all_parts (probe_is_held names) probes (left_probes w.left ++ w.right ∷ []) both.0 in
    (sym (list_all-map (probe_is_held names) (λ (e : EquatedTree). e.probe) w.equalities) ∙ parts.0, parts.1, both.1)
