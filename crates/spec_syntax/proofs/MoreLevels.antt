-- What derives with some levels left derives with one more.
use Rattle.std.proofs.Common.{ℕ, suc, List}
use Rattle.spec_syntax.specs.Syntax.{Terminal, TermSyntax, FormulaSyntax, SectionSyntax}
use Rattle.spec_syntax.specs.Grammar.{IsTerm, signal, constant, application, brackets, AreArguments, one_argument, more_arguments}
use Rattle.spec_syntax.specs.Grammar.{IsArgument, signal_argument, constant_argument, brackets_argument, IsFormula, temporal}
use Rattle.spec_syntax.specs.Grammar.{chain as chained, IsIff, no_iff, iff, IsImp, no_imp, imp, IsOr, disjunction, AreDisjuncts}
use Rattle.spec_syntax.specs.Grammar.{no_disjunct, more_disjuncts, IsAnd, conjunction, AreConjuncts, no_conjunct, more_conjuncts}
use Rattle.spec_syntax.specs.Grammar.{IsPrefix, prefix, atom, IsAtom, true_atom, false_atom, brackets_atom, update, bare_name}
use Rattle.spec_syntax.specs.Grammar.{no_argument, test, AreItems, nothing, last_item, item, IsSection, braces}

mutual
  pub term_more : {r : ℕ} {xs : List Terminal} {t : TermSyntax} → IsTerm r xs t → IsTerm (suc r) xs t
  term_more (signal x) = signal x
  term_more (constant c) = constant c
  term_more (application f h) = application f (arguments_more h)
  term_more (brackets h) = brackets (term_more h)

  pub arguments_more : {r : ℕ} {xs : List Terminal} {ts : List TermSyntax} → AreArguments r xs ts → AreArguments (suc r) xs ts
  arguments_more (one_argument h) = one_argument (argument_more h)
  arguments_more (more_arguments h k) = more_arguments (argument_more h) (arguments_more k)

  pub argument_more : {r : ℕ} {xs : List Terminal} {t : TermSyntax} → IsArgument r xs t → IsArgument (suc r) xs t
  argument_more (signal_argument x) = signal_argument x
  argument_more (constant_argument c) = constant_argument c
  argument_more (brackets_argument h) = brackets_argument (term_more h)

mutual
  pub formula_more : {r : ℕ} {xs : List Terminal} {f : FormulaSyntax} → IsFormula r xs f → IsFormula (suc r) xs f
  formula_more (temporal op x is h k) = temporal op x is (prefix_more h) (prefix_more k)
  formula_more (chained h) = chained (iff_more h)

  pub iff_more : {r : ℕ} {xs : List Terminal} {f : FormulaSyntax} → IsIff r xs f → IsIff (suc r) xs f
  iff_more (no_iff h) = no_iff (imp_more h)
  iff_more (iff h k) = iff (imp_more h) (iff_more k)

  pub imp_more : {r : ℕ} {xs : List Terminal} {f : FormulaSyntax} → IsImp r xs f → IsImp (suc r) xs f
  imp_more (no_imp h) = no_imp (or_more h)
  imp_more (imp h k) = imp (or_more h) (imp_more k)

  pub or_more : {r : ℕ} {xs : List Terminal} {f : FormulaSyntax} → IsOr r xs f → IsOr (suc r) xs f
  or_more (disjunction h k) = disjunction (and_more h) (disjuncts_more k)

  pub disjuncts_more : {r : ℕ} {xs : List Terminal} {fs : List FormulaSyntax} → AreDisjuncts r xs fs → AreDisjuncts (suc r) xs fs
  disjuncts_more no_disjunct = no_disjunct
  disjuncts_more (more_disjuncts h k) = more_disjuncts (and_more h) (disjuncts_more k)

  pub and_more : {r : ℕ} {xs : List Terminal} {f : FormulaSyntax} → IsAnd r xs f → IsAnd (suc r) xs f
  and_more (conjunction h k) = conjunction (prefix_more h) (conjuncts_more k)

  pub conjuncts_more : {r : ℕ} {xs : List Terminal} {fs : List FormulaSyntax} → AreConjuncts r xs fs → AreConjuncts (suc r) xs fs
  conjuncts_more no_conjunct = no_conjunct
  conjuncts_more (more_conjuncts h k) = more_conjuncts (prefix_more h) (conjuncts_more k)

  pub prefix_more : {r : ℕ} {xs : List Terminal} {f : FormulaSyntax} → IsPrefix r xs f → IsPrefix (suc r) xs f
  prefix_more (prefix op x is h) = prefix op x is (prefix_more h)
  prefix_more (atom h) = atom (atom_more h)

  pub atom_more : {r : ℕ} {xs : List Terminal} {f : FormulaSyntax} → IsAtom r xs f → IsAtom (suc r) xs f
  atom_more true_atom = true_atom
  atom_more false_atom = false_atom
  atom_more (brackets_atom h) = brackets_atom (formula_more h)
  atom_more (update x h) = update x (term_more h)
  atom_more (bare_name x) = bare_name x
  atom_more (no_argument p) = no_argument p
  atom_more (test p h) = test p (arguments_more h)

pub items_more : {r : ℕ} {xs : List Terminal} {fs : List FormulaSyntax} → AreItems r xs fs → AreItems (suc r) xs fs
items_more nothing = nothing
items_more (last_item h) = last_item (formula_more h)
items_more (item h k) = item (formula_more h) (items_more k)

pub section_more : {r : ℕ} {xs : List Terminal} {s : SectionSyntax} → IsSection r xs s → IsSection (suc r) xs s
section_more (braces h k) = braces h (items_more k)
