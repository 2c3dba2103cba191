-- Names and lists of signals of what `run` reads.
use Rattle.std.proofs.Common.{◌≡◌, ℕ, suc, ◌≤◌, true, List, [], ◌∷◌, ◌++◌, length, refl, ap, sym}
use Rattle.std.proofs.Common.{◌∙◌, arith, append_assoc}
use Rattle.std.specs.Prelude.{Option, Some, None}
use Rattle.std.specs.List.{list_all}
use Rattle.std.proofs.lemmas.Bool.{and_parts, and_from}
use Rattle.std.proofs.lemmas.List.{append-nil}
use Rattle.std.proofs.lemmas.List.Folds.{list_all-append}
use Rattle.base_library.specs.Numbers.{IsDistinct}
use Rattle.base_library.proofs.Passes.{list_all_weaker}
use Rattle.base_library.proofs.Numbers.{distinct_front, distinct_behind}
use Rattle.tsl_terms.specs.declared.names.NameKind.TheVariants.{Signal, Function}
use Rattle.tsl_terms.specs.Name.{Name, is_name, number_of}
use Rattle.tsl_terms.specs.Clashes.{added_unless_found, with_uses}
use Rattle.tsl_terms.specs.TermTree.{TermTree, signal, apply, TermTrees, no_terms, more_terms, count_of_terms}
use Rattle.tsl_terms.specs.SpecTree.{SpecTree}
use Rattle.term_text.specs.TermText.{is_held, term_is_held, terms_are_held}
use Rattle.term_text.proofs.Held.{name_held}
use Rattle.tsl_reader.specs.Spells.{Spells}
use Rattle.tsl_reader.proofs.FewNames.{few_names as derived_few}
use Rattle.program_tree.specs.ProgramTree.{ProgramTree, controlled}
use Rattle.program_tree.specs.Fits.{IsProgram}
use Rattle.program_tree.specs.Writable.{IsWritable, signal_fits}
use Rattle.tsl_meaning.specs.OverNames.{term_is_over, terms_are_over}
use Rattle.checking_commands.specs.Run.{SpellsGiven, given_names}

-- ---- how many names

-- a specification has at most one name more than its text has bytes
pub few_names : (text : List ℕ) (spec : SpecTree) → Spells text spec → length spec.names ≤ suc (length text)
few_names text spec h = derived_few text spec h.derived

pub given_few : (text : List ℕ) (given : Option SpecTree) → SpellsGiven text given → length (given_names given) ≤ suc (length text)
given_few text None h = omega arith
given_few text (Some spec) h = few_names text spec h.1

-- ---- names that begin with others

-- names that uses are added to are there still, and others come after them
pub with_uses_begin : (uses names : List Name) → (more : List Name) × (with_uses names uses ≡ names ++ more)
with_uses_begin [] names = ([], sym (append-nil names))
with_uses_begin (u ∷ us) names = by (number_of names u.text) refl (λ more. with_uses_begin us more)
  where
    by : (found : Option ℕ) → number_of names u.text ≡ found →
        ((front : List Name) → (more : List Name) × (with_uses front us ≡ front ++ more)) →
        (more : List Name) × (with_uses names (u ∷ us) ≡ names ++ more)
    by (Some number) is begins =
        let rest = begins names in
        (rest.0, ap (λ f. with_uses (added_unless_found names u f) us) is ∙ rest.1)
    by None is begins =
        let rest = begins (names ++ u ∷ []) in
        (u ∷ rest.0, ap (λ f. with_uses (added_unless_found names u f) us) is ∙ rest.1 ∙ append_assoc names (u ∷ []) rest.0)

-- ---- the signals of a program

module _ (names : List Name) (program : ProgramTree) (is_program : IsProgram program) (writable : IsWritable names program) where
  signal_parts : (list_all (signal_fits names) program.inputs ≡ true) × (list_all (signal_fits names) (controlled program) ≡ true)
  signal_parts =
      and_parts (list_all (signal_fits names) program.inputs) (list_all (signal_fits names) (controlled program))
      (sym (list_all-append (signal_fits names) program.inputs (controlled program)) ∙ writable.signals)

  controlled_parts : (list_all (signal_fits names) program.cells ≡ true) × (list_all (signal_fits names) program.outputs ≡ true)
  controlled_parts =
      and_parts (list_all (signal_fits names) program.cells) (list_all (signal_fits names) program.outputs)
      (sym (list_all-append (signal_fits names) program.cells program.outputs) ∙ signal_parts.1)

  named : (ss : List ℕ) → list_all (signal_fits names) ss ≡ true → list_all (λ s. is_name names s Signal 0) ss ≡ true
  named ss h = list_all_weaker (signal_fits names) (λ s. is_name names s Signal 0) (λ s k. (and_parts _ _ k).0) ss h

  held : (ss : List ℕ) → list_all (signal_fits names) ss ≡ true → list_all (is_held names) ss ≡ true
  held ss h = list_all_weaker (signal_fits names) (is_held names) (λ s k. name_held names s Signal 0 (and_parts _ _ k).0) ss h

  pub inputs_named : list_all (λ s. is_name names s Signal 0) program.inputs ≡ true
  inputs_named = named program.inputs signal_parts.0

  pub cells_named : list_all (λ s. is_name names s Signal 0) program.cells ≡ true
  cells_named = named program.cells controlled_parts.0

  pub inputs_held : list_all (is_held names) program.inputs ≡ true
  inputs_held = held program.inputs signal_parts.0

  pub cells_held : list_all (is_held names) program.cells ≡ true
  cells_held = held program.cells controlled_parts.0

  pub outputs_held : list_all (is_held names) program.outputs ≡ true
  outputs_held = held program.outputs controlled_parts.1

-- a part of a list without repeats has none
pub inputs_distinct : (program : ProgramTree) → IsProgram program → IsDistinct program.inputs
inputs_distinct program h =
    distinct_front program.inputs program.cells (distinct_front (program.inputs ++ program.cells) program.outputs h.signals_distinct)

pub cells_distinct : (program : ProgramTree) → IsProgram program → IsDistinct program.cells
cells_distinct program h =
    distinct_behind program.inputs program.cells (distinct_front (program.inputs ++ program.cells) program.outputs h.signals_distinct)

-- a term over names is held by them
mutual
  pub over_held : (names : List Name) (t : TermTree) → term_is_over names t ≡ true → term_is_held names t ≡ true
  over_held names (signal s) h = name_held names s Signal 0 h
  over_held names (apply f ts) h =
      let parts = and_parts (is_name names f Function (count_of_terms ts)) (terms_are_over names ts) h in
      and_from (is_held names f) (terms_are_held names ts) (name_held names f Function (count_of_terms ts) parts.0)
      (over_all_held names ts parts.1)

  over_all_held : (names : List Name) (ts : TermTrees) → terms_are_over names ts ≡ true → terms_are_held names ts ≡ true
  over_all_held names no_terms h = h
  over_all_held names (more_terms t ts) h =
      let parts = and_parts (term_is_over names t) (terms_are_over names ts) h in
      and_from (term_is_held names t) (terms_are_held names ts) (over_held names t parts.0) (over_all_held names ts parts.1)
