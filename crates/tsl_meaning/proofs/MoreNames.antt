-- What is over names is over those names and more.
use Rattle.std.proofs.Common.{◌≡◌, ◌∙◌, ℕ, ◌==◌, true, false, ◌&&◌, List, ◌++◌, ap}
use Rattle.std.specs.Option.{option_map_or}
use Rattle.std.proofs.lemmas.Bool.{and_parts, and_from}
use Rattle.base_library.proofs.Passes.{within_from_test}
use Rattle.base_library.proofs.Places.{slice_get-front}
use Rattle.tsl_terms.specs.declared.names.NameKind.{NameKind}
use Rattle.tsl_terms.specs.declared.names.NameKind.TheVariants.{Signal, Function, Predicate}
use Rattle.tsl_terms.specs.Name.{Name, is_name, same_kind}
use Rattle.tsl_terms.specs.TermTree.{TermTree, signal, apply, TermTrees, no_terms, more_terms, ProbeTree, count_of_terms}
use Rattle.tsl_terms.specs.FormulaTree.{Atom, test, update}
use Rattle.tsl_meaning.specs.OverNames.{term_is_over, terms_are_over, probe_is_over, atom_is_over}

module _ (names more : List Name) where
  name_still : (id : ℕ) (kind : NameKind) (arity : ℕ) → is_name names id kind arity ≡ true → is_name (names ++ more) id kind arity ≡ true
  name_still id kind arity h =
      ap (λ found. option_map_or (λ n. same_kind n.kind kind && (n.arity == arity)) found false)
      (slice_get-front names more id (within_from_test names id (λ n. same_kind n.kind kind && (n.arity == arity)) h)) ∙ h

  mutual
    term_still : (t : TermTree) → term_is_over names t ≡ true → term_is_over (names ++ more) t ≡ true
    term_still (signal s) h = name_still s Signal 0 h
    term_still (apply f ts) h =
        let parts = and_parts (is_name names f Function (count_of_terms ts)) (terms_are_over names ts) h in
        and_from (is_name (names ++ more) f Function (count_of_terms ts)) (terms_are_over (names ++ more) ts)
        (name_still f Function (count_of_terms ts) parts.0) (terms_still ts parts.1)

    terms_still : (ts : TermTrees) → terms_are_over names ts ≡ true → terms_are_over (names ++ more) ts ≡ true
    terms_still no_terms h = h
    terms_still (more_terms t ts) h =
        let parts = and_parts (term_is_over names t) (terms_are_over names ts) h in
        and_from (term_is_over (names ++ more) t) (terms_are_over (names ++ more) ts) (term_still t parts.0) (terms_still ts parts.1)

  probe_still : (p : ProbeTree) → probe_is_over names p ≡ true → probe_is_over (names ++ more) p ≡ true
  probe_still p h =
      let parts = and_parts (is_name names p.predicate Predicate (count_of_terms p.arguments)) (terms_are_over names p.arguments) h in
      and_from (is_name (names ++ more) p.predicate Predicate (count_of_terms p.arguments)) (terms_are_over (names ++ more) p.arguments)
      (name_still p.predicate Predicate (count_of_terms p.arguments) parts.0) (terms_still p.arguments parts.1)

  -- an atom over names is over more names
  pub atom_still : (a : Atom) → atom_is_over names a ≡ true → atom_is_over (names ++ more) a ≡ true
  atom_still (test p) h = probe_still p h
  atom_still (update s t) h =
      let parts = and_parts (is_name names s Signal 0) (term_is_over names t) h in
      and_from (is_name (names ++ more) s Signal 0) (term_is_over (names ++ more) t) (name_still s Signal 0 parts.0) (term_still t parts.1)
