-- The numbered formulas of a text fit its names, and have as many nodes as are told from their syntax.
use Rattle.std.proofs.Common.{◌≡◌, ℕ, ◌+◌, true, false, List, [], ◌∷◌, refl, ap, sym, ◌∙◌}
use Rattle.std.specs.Prelude.{Some, nat_le, max}
use Rattle.std.specs.List.{list_all, sum_by, AllByRecursion}
use Rattle.std.proofs.Math.Bool.{or-true}
use Rattle.std.proofs.lemmas.Bool.{le-leb}
use Rattle.std.proofs.lemmas.List.Sums.{sum_by-cons}
use Rattle.base_library.proofs.Bytes.{bytes_same}
use Rattle.base_library.proofs.Each.{each_left, each_right}
use Rattle.base_library.proofs.Passes.{list_all_joined}
use Rattle.tsl_terms.specs.declared.names.NameKind.TheVariants.{Signal, Function, Predicate}
use Rattle.tsl_terms.specs.Name.{Name, is_name, question}
use Rattle.tsl_terms.specs.TermTree.{TermTree, signal, apply, TermTrees, no_terms as no_trees, more_terms as more_trees, count_of_terms}
use Rattle.tsl_terms.specs.FormulaTree.{Atom, test, update, FormulaTree, FormulaTrees, constant, atom, unary, binary, many}
use Rattle.tsl_terms.specs.FormulaTree.{no_formulas as no_members, more_formulas as more_members}
use Rattle.tsl_terms.specs.Atoms.{atoms, atoms_of_members, has_two, joins_two, all_join_two}
use Rattle.tsl_terms.specs.Nodes.{nodes_of_term, nodes_of_terms, nodes_of_atom, nodes_of_sides, nodes, nodes_of_members}
use Rattle.tsl_terms.specs.WellFormed.{is_usable_at, is_question, term_fits, terms_fit, bracketed as bracketed_tree, brackets}
use Rattle.tsl_terms.specs.WellFormed.{brackets_of_arguments, deepest as most_brackets, atom_fits, formula_fits}
use Rattle.spec_syntax.specs.Syntax.{TermSyntax, alone, applied, grouped_term, TermsSyntax, no_terms, more_terms, FormulaSyntax, truth}
use Rattle.spec_syntax.specs.Syntax.{falsehood, bare, tested, updated, grouped, under, between, joined, FormulasSyntax, no_formulas}
use Rattle.spec_syntax.specs.Syntax.{more_formulas}
use Rattle.definition_expansion.specs.Folds.{fold_term, fold_terms, fold, fold_members, node_counts}
use Rattle.tsl_reader.specs.Naming.{use_as, tested_signal, count_of_arguments, term_uses, terms_uses, uses, members_uses}
use Rattle.tsl_reader.specs.Naming.{numbered_term, numbered_terms, numbered_formula, numbered_members, numbered_list}
use Rattle.tsl_reader.proofs.Shapes.{IsShaped, AreShaped, HasTwo, bracketed, nesting, nesting_of_arguments}
use Rattle.tsl_reader.proofs.Known.{KnownUse}

-- A term that has its numbers, fits, nests as before, and counts its nodes.
record TermGood (names : List Name) (t : TermSyntax) : Type 0 where
  pub tree : TermTree
  pub numbered_is : numbered_term names t ≡ Some tree
  pub fits : term_fits names tree ≡ true
  pub deep : brackets tree ≡ nesting t
  pub shape : (d : ℕ) → bracketed_tree tree d ≡ bracketed t d
  pub nodes_are : nodes_of_term tree ≡ fold_term node_counts t

record TermsGood (names : List Name) (ts : TermsSyntax) : Type 0 where
  pub trees : TermTrees
  pub numbered_are : numbered_terms names ts ≡ Some trees
  pub fit : terms_fit names trees ≡ true
  pub deep : brackets_of_arguments trees ≡ nesting_of_arguments ts
  pub count : count_of_terms trees ≡ count_of_arguments ts
  pub shape : (f : ℕ) (name : List ℕ) (d : ℕ) → bracketed_tree (apply f trees) d ≡ bracketed (applied name ts) d
  pub nodes_are : nodes_of_terms trees ≡ fold_terms node_counts ts

module _ (names : List Name) where
  mutual
    term_good : (t : TermSyntax) → AllByRecursion (KnownUse names) (term_uses t) → TermGood names t
    term_good (alone x) k =
        let u : KnownUse names (use_as Signal x 0) = k.0 in
        let n = u.name in
        record {
          tree = signal n.number;
          numbered_is = rw n.numbered;
          fits = rw (n.there, n.kind, n.arity, n.text, u.usable);
          deep = refl;
          shape = λ d. refl;
          nodes_are = refl;
        }
    term_good (applied f ts) k =
        let arguments = terms_good ts k.1 in
        let u : KnownUse names (use_as Function f (count_of_arguments ts)) = k.0 in
        let n = u.name in
        record {
          tree = apply n.number arguments.trees;
          numbered_is = rw (n.numbered, arguments.numbered_are);
          fits = rw (n.there, n.kind, arguments.count, n.arity, n.text, u.usable, arguments.fit);
          deep = arguments.deep;
          shape = arguments.shape n.number f;
          nodes_are = ap (λ m. 1 + m) arguments.nodes_are;
        }
    term_good (grouped_term t) k =
        let g = term_good t k in
        record { tree = g.tree; numbered_is = g.numbered_is; fits = g.fits; deep = g.deep; shape = g.shape; nodes_are = g.nodes_are }

    terms_good : (ts : TermsSyntax) → AllByRecursion (KnownUse names) (terms_uses ts) → TermsGood names ts
    terms_good no_terms k =
        record { trees = no_trees; numbered_are = refl; fit = refl; deep = refl; count = refl; shape = λ f name d. refl; nodes_are = refl }
    terms_good (more_terms t ts) k =
        let head = term_good t (each_left (KnownUse names) (term_uses t) (terms_uses ts) k) in
        let rest = terms_good ts (each_right (KnownUse names) (term_uses t) (terms_uses ts) k) in
        record {
          trees = more_trees head.tree rest.trees;
          numbered_are = rw (head.numbered_is, rest.numbered_are);
          fit = rw (head.fits, rest.fit);
          deep = λ i. max ((ap (bracketed_tree head.tree) head.deep ∙ head.shape (nesting t)) i) (rest.deep i);
          count = ap (λ n. 1 + n) rest.count;
          shape = λ f name d. refl;
          nodes_are = λ i. head.nodes_are i + rest.nodes_are i;
        }

-- a formula that has its numbers, whose atoms fit, whose lists have two members, and that counts its nodes
record Good (names : List Name) (f : FormulaSyntax) : Type 0 where
  pub tree : FormulaTree
  pub numbered_is : numbered_formula names f ≡ Some tree
  pub atoms_fit : list_all (atom_fits names) (atoms tree) ≡ true
  pub joins : joins_two tree ≡ true
  pub nodes_are : nodes tree ≡ fold node_counts f

record AllGood (names : List Name) (fs : FormulasSyntax) : Type 0 where
  pub trees : FormulaTrees
  pub numbered_are : numbered_members names fs ≡ Some trees
  pub atoms_fit : list_all (atom_fits names) (atoms_of_members trees) ≡ true
  pub join : all_join_two trees ≡ true
  pub two : HasTwo fs → has_two trees ≡ true
  pub joins : (f : FormulaSyntax) (tree : FormulaTree) → HasTwo (more_formulas f fs) → has_two (more_members tree trees) ≡ true
  pub nodes_are : nodes_of_members trees ≡ fold_members node_counts fs

module _ (names : List Name) where
  -- an atom that fits is a formula that does
  atom_good : (f : FormulaSyntax) (a : Atom) → numbered_formula names f ≡ Some (atom a) → atom_fits names a ≡ true →
      nodes_of_atom a ≡ fold node_counts f → Good names f
  atom_good f a is fits count = record { tree = atom a; numbered_is = is; atoms_fit = rw fits; joins = refl; nodes_are = count }

  -- the test of a signal
  bare_good : (x : List ℕ) → KnownUse names (tested_signal x) → Good names (bare x)
  bare_good x u =
      let q = u.asked refl in
      let s = u.name in
      let term : term_fits names (signal s.number) ≡ true = rw (s.there, s.kind, s.arity, s.text, u.usable) in
      let asks : is_question names q.number ≡ true = rw q.there (bytes_same q.entry.text question q.text) in
      let named : is_name names q.number Predicate 1 ≡ true = rw (q.there, q.kind, q.arity) in
      atom_good (bare x) (test (record { predicate = q.number; arguments = more_trees (signal s.number) no_trees }))
      (rw (s.numbered, q.numbered)) (rw (named, term, asks, or-true (is_usable_at names q.number))) refl

  mutual
    formula_good : (f : FormulaSyntax) → IsShaped f → AllByRecursion (KnownUse names) (uses f) → Good names f
    formula_good truth shape k = record { tree = constant true; numbered_is = refl; atoms_fit = refl; joins = refl; nodes_are = refl }
    formula_good falsehood shape k = record { tree = constant false; numbered_is = refl; atoms_fit = refl; joins = refl; nodes_are = refl }
    formula_good (bare x) shape k = bare_good x k.0
    formula_good (tested p ts) shape k =
        let arguments = terms_good names ts k.1 in
        let u : KnownUse names (use_as Predicate p (count_of_arguments ts)) = k.0 in
        let n = u.name in
        let trees = arguments.trees in
        let shallow : nat_le (brackets_of_arguments trees) most_brackets ≡ true = rw arguments.deep (le-leb _ most_brackets shape) in
        atom_good (tested p ts) (test (record { predicate = n.number; arguments = trees })) (rw (n.numbered, arguments.numbered_are))
        (rw (n.there, n.kind, arguments.count, n.arity, n.text, u.usable, arguments.fit, shallow)) (ap (λ m. 1 + m) arguments.nodes_are)
    formula_good (updated x t) shape k =
        let term = term_good names t k.1 in
        let u : KnownUse names (use_as Signal x 0) = k.0 in
        let n = u.name in
        let shallow : nat_le (brackets term.tree) most_brackets ≡ true = rw term.deep (le-leb _ most_brackets shape) in
        atom_good (updated x t) (update n.number term.tree) (rw (n.numbered, term.numbered_is))
        (rw (n.there, n.kind, n.arity, n.text, u.usable, term.fits, shallow)) (ap (λ m. 1 + m) term.nodes_are)
    formula_good (grouped a) shape k =
        let g = formula_good a shape k in
        record { tree = g.tree; numbered_is = g.numbered_is; atoms_fit = g.atoms_fit; joins = g.joins; nodes_are = g.nodes_are }
    formula_good (under op a) shape k =
        let g = formula_good a shape k in
        record {
          tree = unary op g.tree;
          numbered_is = rw g.numbered_is;
          atoms_fit = g.atoms_fit;
          joins = g.joins;
          nodes_are = ap (λ m. 1 + m) g.nodes_are;
        }
    formula_good (between op a b) shape k =
        let g = formula_good a shape.0 (each_left (KnownUse names) (uses a) (uses b) k) in
        let h = formula_good b shape.1 (each_right (KnownUse names) (uses a) (uses b) k) in
        record {
          tree = binary op g.tree h.tree;
          numbered_is = rw (g.numbered_is, h.numbered_is);
          atoms_fit = list_all_joined (atom_fits names) (atoms g.tree) (atoms h.tree) g.atoms_fit h.atoms_fit;
          joins = rw (g.joins, h.joins);
          nodes_are = λ i. 1 + nodes_of_sides op (g.nodes_are i) (h.nodes_are i);
        }
    formula_good (joined op fs) shape k =
        let g = members_good fs shape.1 k in
        record {
          tree = many op g.trees;
          numbered_is = rw g.numbered_are;
          atoms_fit = g.atoms_fit;
          joins = rw (g.two shape.0, g.join);
          nodes_are = ap (λ m. 1 + m) g.nodes_are;
        }

    members_good : (fs : FormulasSyntax) → AreShaped fs → AllByRecursion (KnownUse names) (members_uses fs) → AllGood names fs
    members_good no_formulas shape k = record {
      trees = no_members;
      numbered_are = refl;
      atoms_fit = refl;
      join = refl;
      two = λ h. absurd h;
      joins = λ f tree h. absurd h;
      nodes_are = refl;
    }
    members_good (more_formulas f fs) shape k =
        let g = formula_good f shape.0 (each_left (KnownUse names) (uses f) (members_uses fs) k) in
        let h = members_good fs shape.1 (each_right (KnownUse names) (uses f) (members_uses fs) k) in
        record {
          trees = more_members g.tree h.trees;
          numbered_are = rw (g.numbered_is, h.numbered_are);
          atoms_fit = list_all_joined (atom_fits names) (atoms g.tree) (atoms_of_members h.trees) g.atoms_fit h.atoms_fit;
          join = rw (g.joins, h.join);
          two = h.joins f g.tree;
          joins = λ first tree two. refl;
          nodes_are = λ i. g.nodes_are i + h.nodes_are i;
        }

-- formulas of a list that have their numbers, fit, and count their nodes
pub record ListGood (names : List Name) (fs : List FormulaSyntax) : Type 0 where
  pub trees : List FormulaTree
  pub numbered_are : numbered_list names fs ≡ Some trees
  pub fit : list_all (formula_fits names) trees ≡ true
  pub nodes_are : sum_by nodes trees ≡ sum_by (fold node_counts) fs

pub list_good : (names : List Name) (fs : List FormulaSyntax) →
    AllByRecursion (λ f. IsShaped f × AllByRecursion (KnownUse names) (uses f)) fs → ListGood names fs
list_good names [] h = record { trees = []; numbered_are = refl; fit = refl; nodes_are = refl }
list_good names (f ∷ fs) h =
    let g = formula_good names f h.0.0 h.0.1 in
    let rest = list_good names fs h.1 in
    record {
      trees = g.tree ∷ rest.trees;
      numbered_are = rw (g.numbered_is, rest.numbered_are);
      fit = rw (g.atoms_fit, g.joins, rest.fit);
      nodes_are = sum_by-cons nodes g.tree rest.trees ∙ (λ i. g.nodes_are i + rest.nodes_are i) ∙ sym (sum_by-cons (fold node_counts) f fs);
    }
