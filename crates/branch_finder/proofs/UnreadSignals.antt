-- What terms unfold to depends on the signals alone that they read.
use Rattle.std.proofs.Common.{◌≡◌, ◌∙◌, ℕ, zero, suc, Bool, true, false, Option, Some, None, List, refl, sym, ap, eq-eqb}
use Rattle.std.proofs.lemmas.Bool.{or_parts, true≢false}
use Rattle.base_library.specs.Numbers.{is_among}
use Rattle.tsl_terms.specs.TermTree.{TermTree, signal, apply, TermTrees, no_terms, more_terms}
use Rattle.tsl_terms.specs.FreeTree.{FreeTree, applied, more_free}
use Rattle.tsl_terms.specs.Signals.{term_reads, some_term_reads}
use Rattle.tsl_terms.specs.Unfolding.{with_leaves, all_with_leaves, leaf_after, signal_unfolded}

module _ (rest : List ℕ) where
  -- terms read no signal of the rest
  abbrev pub ReadsNone : TermTree → Type 0
  ReadsNone t = (s : ℕ) → is_among rest s ≡ true → term_reads s t ≡ false

  abbrev pub ReadNone : TermTrees → Type 0
  ReadNone ts = (s : ℕ) → is_among rest s ≡ true → some_term_reads s ts ≡ false

  module _ (at other : ℕ → FreeTree) (same : (s : ℕ) → is_among rest s ≡ false → at s ≡ other s) where
    mutual
      leaves_agree : (t : TermTree) → ReadsNone t → with_leaves at t ≡ with_leaves other t
      leaves_agree (signal r) unread = by (is_among rest r) refl
        where
          by : (b : Bool) → is_among rest r ≡ b → at r ≡ other r
          by true is = absurd (true≢false (sym (eq-eqb r r refl) ∙ unread r is))
          by false is = same r is
      leaves_agree (apply f ts) unread = ap (applied f) (all_leaves_agree ts unread)

      pub all_leaves_agree : (ts : TermTrees) → ReadNone ts → all_with_leaves at ts ≡ all_with_leaves other ts
      all_leaves_agree no_terms unread = refl
      all_leaves_agree (more_terms t ts) unread =
          λ i. more_free (leaves_agree t (λ s is. (or_parts (term_reads s t) (some_term_reads s ts) (unread s is)).0) i)
          (all_leaves_agree ts (λ s is. (or_parts (term_reads s t) (some_term_reads s ts) (unread s is)).1) i)

  -- Two functions say for each signal that is not of the rest that it takes one term, which reads none of the rest.
  module _ (taken others : ℕ → ℕ → Option TermTree) (same : (t s : ℕ) → is_among rest s ≡ false → taken t s ≡ others t s)
      (unread : (t s : ℕ) (x : TermTree) → is_among rest s ≡ false → others t s ≡ Some x → ReadsNone x) where
    signal_agrees : (t s : ℕ) → is_among rest s ≡ false → signal_unfolded taken t s ≡ signal_unfolded others t s
    signal_agrees zero s out = refl
    signal_agrees (suc t) s out =
        ap (leaf_after (signal_unfolded taken t) (suc t) s) (same t s out) ∙ by (λ r o. signal_agrees t r o) (others t s) refl
      where
        by : ((r : ℕ) → is_among rest r ≡ false → signal_unfolded taken t r ≡ signal_unfolded others t r) →
            (term : Option TermTree) → others t s ≡ term →
            leaf_after (signal_unfolded taken t) (suc t) s term ≡ leaf_after (signal_unfolded others t) (suc t) s term
        by before None is = refl
        by before (Some x) is = leaves_agree (signal_unfolded taken t) (signal_unfolded others t) before x (unread t s x out is)

    pub all_agree : (t : ℕ) (ts : TermTrees) → ReadNone ts →
        all_with_leaves (signal_unfolded taken t) ts ≡ all_with_leaves (signal_unfolded others t) ts
    all_agree t ts none =
        all_leaves_agree (signal_unfolded taken t) (signal_unfolded others t) (λ s out. signal_agrees t s out) ts none
