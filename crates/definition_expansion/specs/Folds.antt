-- Numbers of formulas, part by part, and the same of their expansions, which are not made.
use Rattle.std.specs.Prelude.{ℕ, zero, suc, ◌+◌, max, min, List, Option, Some, None, option_map}
use Rattle.tsl_terms.specs.declared.operator.BinaryOperator.{BinaryOperator}
use Rattle.tsl_terms.specs.Nodes.{nodes_of_sides}
use Rattle.spec_syntax.specs.Syntax.{TermSyntax, alone, applied, grouped_term, TermsSyntax, no_terms, more_terms}
use Rattle.spec_syntax.specs.Syntax.{FormulaSyntax, truth, falsehood, bare, tested, updated, grouped, under, between}
use Rattle.spec_syntax.specs.Syntax.{joined, FormulasSyntax, no_formulas, more_formulas}
use Rattle.spec_syntax.specs.Syntax.{Definition}
use Rattle.definition_expansion.specs.Expansion.{passed_names}
use Rattle.spec_syntax.specs.Levels.{depth_of_sides}

-- what each form makes of the numbers of its parts
pub record Fold : Type 0 where
  pub of_alone : ℕ
  pub of_applied : ℕ → ℕ
  pub of_group : ℕ → ℕ
  pub of_no_terms : ℕ
  pub of_more_terms : ℕ → ℕ → ℕ
  pub of_constant : ℕ
  pub of_bare : ℕ
  pub of_tested : ℕ → ℕ
  pub of_updated : ℕ → ℕ
  pub of_under : ℕ → ℕ
  pub of_between : BinaryOperator → ℕ → ℕ → ℕ
  pub of_joined : ℕ → ℕ
  pub of_no_members : ℕ
  pub of_more_members : ℕ → ℕ → ℕ

abbrev pub number_or : Option ℕ → ℕ → ℕ
number_or None n = n
number_or (Some m) n = m

module _ (F : Fold) where
  abbrev mutual
    pub fold_term : TermSyntax → ℕ
    fold_term (alone x) = F.of_alone
    fold_term (applied f ts) = F.of_applied (fold_terms ts)
    fold_term (grouped_term t) = F.of_group (fold_term t)

    pub fold_terms : TermsSyntax → ℕ
    fold_terms no_terms = F.of_no_terms
    fold_terms (more_terms t ts) = F.of_more_terms (fold_term t) (fold_terms ts)

  -- the number of a formula
  abbrev mutual
    pub fold : FormulaSyntax → ℕ
    fold truth = F.of_constant
    fold falsehood = F.of_constant
    fold (bare x) = F.of_bare
    fold (tested p ts) = F.of_tested (fold_terms ts)
    fold (updated x t) = F.of_updated (fold_term t)
    fold (grouped a) = F.of_group (fold a)
    fold (under op a) = F.of_under (fold a)
    fold (between op a b) = F.of_between op (fold a) (fold b)
    fold (joined op fs) = F.of_joined (fold_members fs)

    pub fold_members : FormulasSyntax → ℕ
    fold_members no_formulas = F.of_no_members
    fold_members (more_formulas f fs) = F.of_more_members (fold f) (fold_members fs)

  -- the number of a formula in which each use has the number of its name
  module _ (number_for : List ℕ → Option ℕ) where
    abbrev pub number_of_test : List ℕ → Option (List (List ℕ)) → Option ℕ
    number_of_test p None = None
    number_of_test p (Some ys) = number_for p

    abbrev mutual
      pub fold_by : FormulaSyntax → ℕ
      fold_by truth = F.of_constant
      fold_by falsehood = F.of_constant
      fold_by (bare x) = number_or (number_for x) F.of_bare
      fold_by (tested p ts) = number_or (number_of_test p (passed_names ts)) (F.of_tested (fold_terms ts))
      fold_by (updated x t) = F.of_updated (fold_term t)
      fold_by (grouped a) = F.of_group (fold_by a)
      fold_by (under op a) = F.of_under (fold_by a)
      fold_by (between op a b) = F.of_between op (fold_by a) (fold_by b)
      fold_by (joined op fs) = F.of_joined (fold_members_by fs)

      pub fold_members_by : FormulasSyntax → ℕ
      fold_members_by no_formulas = F.of_no_members
      fold_members_by (more_formulas f fs) = F.of_more_members (fold_by f) (fold_members_by fs)

  -- the number of what stands in the place of a use, each computed from those of a lower rank
  abbrev pub number_within : (List ℕ → Option Definition) → ℕ → List ℕ → Option ℕ
  number_within named zero x = None
  number_within named (suc n) x = option_map (λ d. F.of_group (fold_by (number_within named n) d.body)) (named x)

-- the levels below
abbrev pub depths : Fold
depths = record {
  of_alone = 0;
  of_applied = λ n. n;
  of_group = λ n. suc n;
  of_no_terms = 0;
  of_more_terms = λ m n. max m n;
  of_constant = 0;
  of_bare = 0;
  of_tested = λ n. n;
  of_updated = λ n. n;
  of_under = λ n. suc n;
  of_between = depth_of_sides;
  of_joined = λ n. n;
  of_no_members = 0;
  of_more_members = λ m n. max m n;
}

-- the nodes: a bare name is a test with one argument, and brackets are none
abbrev pub node_counts : Fold
node_counts = record {
  of_alone = 1;
  of_applied = λ n. 1 + n;
  of_group = λ n. n;
  of_no_terms = 0;
  of_more_terms = λ m n. m + n;
  of_constant = 1;
  of_bare = 2;
  of_tested = λ n. 1 + n;
  of_updated = λ n. 1 + n;
  of_under = λ n. 1 + n;
  of_between = λ op m n. 1 + nodes_of_sides op m n;
  of_joined = λ n. 1 + n;
  of_no_members = 0;
  of_more_members = λ m n. m + n;
}

-- the fold whose numbers stop at a bound
abbrev pub capped : ℕ → Fold → Fold
capped most F = record {
  of_alone = min most F.of_alone;
  of_applied = λ n. min most (F.of_applied n);
  of_group = λ n. min most (F.of_group n);
  of_no_terms = min most F.of_no_terms;
  of_more_terms = λ m n. min most (F.of_more_terms m n);
  of_constant = min most F.of_constant;
  of_bare = min most F.of_bare;
  of_tested = λ n. min most (F.of_tested n);
  of_updated = λ n. min most (F.of_updated n);
  of_under = λ n. min most (F.of_under n);
  of_between = λ op m n. min most (F.of_between op m n);
  of_joined = λ n. min most (F.of_joined n);
  of_no_members = min most F.of_no_members;
  of_more_members = λ m n. min most (F.of_more_members m n);
}
