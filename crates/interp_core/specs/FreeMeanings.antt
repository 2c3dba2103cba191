-- What the symbols mean over free terms: a function on any arguments is its own application to them, and a cell is itself.
-- Source: Baader, Nipkow: Term Rewriting and All That (1998), term algebras.
use Rattle.std.specs.Prelude.{ℕ, List, Some, None, if◌then◌else◌}
use Rattle.base_library.specs.Numbers.{is_among}
use Rattle.tsl_terms.specs.FreeTree.{FreeTree, leaf_at, applied}
use Rattle.tsl_terms.specs.Value.{Meanings}
use Rattle.interp_core.specs.FreeView.{frees_of}

-- no predicate has a truth, and at first each of these cells is its leaf at step 0
abbrev pub free_meanings : List ℕ → Meanings FreeTree
free_meanings cells = record {
  function = λ f arguments. Some (applied f (frees_of arguments));
  predicate = λ p arguments. None;
  initial = λ s. if is_among cells s then Some (leaf_at s 0) else None;
}
