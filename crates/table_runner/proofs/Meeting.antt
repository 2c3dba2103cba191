-- Two standings that show the same configuration.
use Rattle.std.proofs.Common.{◌≡◌, ◌∙◌, ℕ, suc, ◌+◌, ◌<◌, inl, inr, length, drop, Some, sym, ap, subst, arith}
use Rattle.std.specs.Prelude.{◌≢◌, option_and_then}
use Rattle.std.proofs.lemmas.Bool.{cases_lt}
use Rattle.std.proofs.lemmas.Option.{same_Some}
use Rattle.tsl_terms.specs.Value.{Meanings}
use Rattle.program_tree.specs.ProgramTree.{ProgramTree}
use Rattle.tsl_meaning.specs.Interpretation.{InputRows}
use Rattle.tsl_meaning.specs.Run.{configuration_at, configuration_after, action_in}
use Rattle.table_runner.specs.declared.standing.Standing.{Standing}
use Rattle.table_runner.specs.Standings.{shown, StandsAt}
use Rattle.table_runner.specs.internal.Copied.{IsCopied}
use Rattle.table_runner.specs.internal.Returns.{IsAway, Returns}

module _ {V S : Type 0} (seen : V → S) (meanings : Meanings S) (program : ProgramTree) (rows : InputRows S) where
  -- the next configuration goes by the one before it
  pub steady : (i j : ℕ) → configuration_at meanings program rows i ≡ configuration_at meanings program rows j →
      configuration_at meanings program rows (suc i) ≡ configuration_at meanings program rows (suc j)
  steady i j same = ap (option_and_then (λ c. option_and_then (configuration_after meanings program rows c)
      (action_in meanings program rows c))) same

  pub at_same : (t u : ℕ) (a b : Standing V) → StandsAt seen meanings program rows t a → StandsAt seen meanings program rows u b →
      shown seen (length program.inputs) a ≡ shown seen (length program.inputs) b →
      configuration_at meanings program rows t ≡ configuration_at meanings program rows u
  at_same t u a b first second same = first.is_now ∙ ap Some same ∙ sym second.is_now

  pub shown_same : (t u : ℕ) (a b : Standing V) → StandsAt seen meanings program rows t a → StandsAt seen meanings program rows u b →
      configuration_at meanings program rows t ≡ configuration_at meanings program rows u →
      shown seen (length program.inputs) a ≡ shown seen (length program.inputs) b
  shown_same t u a b first second same = same_Some _ _ (sym first.is_now ∙ same ∙ second.is_now)

  copied_shown : (a b : Standing V) → IsCopied seen a b → shown seen (length program.inputs) b ≡ shown seen (length program.inputs) a
  copied_shown a b copied i = record {
    place = copied.place i;
    state = copied.state i;
    cells = drop (length program.inputs) (copied.values i);
  }

  pub one_on : (t n : ℕ) (now : Standing V) → StandsAt seen meanings program rows ((t + n) + 1) now →
      StandsAt seen meanings program rows (t + (n + 1)) now
  one_on t n now stands = let e : (t + n) + 1 ≡ t + (n + 1) = omega arith in subst (λ u. StandsAt seen meanings program rows u now) e stands

  pub moved : (t u : ℕ) (now : Standing V) → t ≡ u → StandsAt seen meanings program rows t now → StandsAt seen meanings program rows u now
  moved t u now e stands = subst (λ v. StandsAt seen meanings program rows v now) e stands

  -- one more step whose value is not there again
  pub none_before : (n t : ℕ) (earlier later : Standing V) → StandsAt seen meanings program rows t earlier →
      StandsAt seen meanings program rows (t + n) later →
      (shown seen (length program.inputs) earlier ≡ shown seen (length program.inputs) later → ⊥) →
      ((k : ℕ) → k < t → configuration_at meanings program rows (k + n) ≢ configuration_at meanings program rows k) →
      (k : ℕ) → k < t + 1 → configuration_at meanings program rows (k + n) ≢ configuration_at meanings program rows k
  none_before n t earlier later first second apart before k below same = elim (cases_lt k t) [
    | inl less ↦ before k less same
    | inr last ↦
        let e : k ≡ t = omega (arith, last, below) in
        let here : configuration_at meanings program rows (t + n) ≡ configuration_at meanings program rows t =
        subst (λ m. configuration_at meanings program rows (m + n) ≡ configuration_at meanings program rows m) e same in
        apart (sym (shown_same (t + n) t later earlier second first here))
  ]

  module _ (t n : ℕ) (old now kept : Standing V) (stood : StandsAt seen meanings program rows t old) (copied : IsCopied seen old kept)
      (stands : StandsAt seen meanings program rows ((t + n) + 1) now) (away : IsAway (configuration_at meanings program rows) t n) where
    pub returned : shown seen (length program.inputs) now ≡ shown seen (length program.inputs) kept →
        Returns (configuration_at meanings program rows) t (n + 1)
    returned same = record {
      goes_on = omega arith;
      same = at_same (t + (n + 1)) t now old (one_on t n now stands) stood (same ∙ copied_shown old kept copied);
      first = λ k some below. away k some (omega (arith, below));
    }

    pub not_returned : (shown seen (length program.inputs) now ≡ shown seen (length program.inputs) kept → ⊥) →
        IsAway (configuration_at meanings program rows) t (n + 1)
    not_returned apart k some within same = elim (cases_lt n k) [
      | inl last ↦
          let e : k ≡ n + 1 = omega (arith, last, within) in
          let there : configuration_at meanings program rows (t + (n + 1)) ≡ configuration_at meanings program rows t =
          subst (λ m. configuration_at meanings program rows (t + m) ≡ configuration_at meanings program rows t) e same in
          apart (shown_same (t + (n + 1)) t now old (one_on t n now stands) stood there ∙ sym (copied_shown old kept copied))
      | inr before ↦ away k some before same
    ]
