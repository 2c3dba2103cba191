-- The outcomes of each stage of `gen`.
use Rattle.std.proofs.Common.{◌≡◌, ℕ, ◌≤◌, true, false, List, [], ◌∷◌, length, refl, arith, ap, ◌∙◌, subst}
use Rattle.std.specs.Prelude.{Result, Ok, Err, IfOk}
use Rattle.std.proofs.lemmas.Result.{IfOk-weaker}
use Rattle.tsl_terms.specs.SpecTree.{SpecTree}
use Rattle.tsl_terms.specs.WindowTree.{WindowTree}
use Rattle.tsl_reader.specs.Spells.{Spells}
use Rattle.program_tree.specs.declared.program.Program.{Program}
use Rattle.program_tree.specs.ProgramView.{program_tree}
use Rattle.tsl_meaning.specs.Promise.{Realizes}
use Rattle.letter_space.specs.SpaceTree.{SpaceTree}
use Rattle.letter_space.specs.SpecSpace.{spec_space}
use Rattle.cobuchi_automata.specs.Automata.{EdgeTree}
use Rattle.machines.specs.declared.side.Side.{Side}
use Rattle.machines.specs.declared.side.Side.TheVariants.{Controller, Environment}
use Rattle.machines.specs.Rounds.{RoundTree, windows_of}
use Rattle.clause_core.specs.Literals.{Lit}
use Rattle.program_check.specs.declared.verdict.Limit.{Limit}
use Rattle.refinement_loop.specs.declared.outcome.Search.{Search}
use Rattle.refinement_loop.specs.declared.outcome.Sizes.{Sizes}
use Rattle.refinement_loop.specs.declared.outcome.Bound.TheVariants.{Fixed}
use Rattle.refinement_loop.specs.Questions.{HasNoSolution, IsWrittenFor}
use Rattle.refinement_loop.specs.Outcomes.{search_with, IsLargeFor, IsLargeIn, at_controller, at_environment, IsSpentIn, IsSpentOn}
use Rattle.generator.specs.Generated.{generated_text}
use Rattle.tsl_report.specs.declared.fault.Fault.{Fault}
use Rattle.search_text.specs.SearchTexts.{spent_text}
use Rattle.tool_io.specs.declared.status.Status.TheVariants.{Spent}
use Rattle.tool_io.specs.declared.reply.Reply.{Reply}
use Rattle.synthesis_commands.specs.Gen.{GenOutcome, SummaryOutcome, found, none, spent, too_large, summary_reply}
use Rattle.command_faults.specs.Refusals.{fault_at_limit}
use Rattle.command_faults.specs.Replies.{fault_reply}
use Rattle.synthesis_commands.specs.internal.GeneratedSizes.{generated_sizes}
use Rattle.tool_io.proofs.Replying.{status_of, text_of}

-- the search of sizes, and that for a number
abbrev pub search_of : Sizes → Search
search_of sizes = search_with sizes (Fixed sizes.bound)

abbrev generated_search : ℕ → Search
generated_search n = search_of (generated_sizes n)

-- where no round may be made, no window is found
no_windows : (rounds : List RoundTree) → length rounds ≤ 0 → windows_of rounds ≡ []
no_windows [] few = refl
no_windows (round ∷ rounds) few = absurd (omega (arith, few))

-- and the budget is spent, or a limit passed, on the question for a controller
at_first : (n : ℕ) (spec : SpecTree) (side : Side) (automaton_states : ℕ) (edges : List EdgeTree) (clauses : List (List Lit)) →
    IsSpentIn spec (generated_search n) [] side automaton_states edges clauses →
    IsSpentOn Controller spec [] n (Fixed n) 20000 automaton_states edges clauses
at_first n spec Controller automaton_states edges clauses h = h
at_first n spec Environment automaton_states edges clauses h = absurd (omega (arith, h.0.fewer))

large_first : (n : ℕ) (spec : SpecTree) (limit : Limit) → IsLargeIn spec (generated_search n) [] limit → IsLargeFor spec [] n (Fixed n) limit
large_first n spec limit (at_controller h) = h
large_first n spec limit (at_environment goes_on h) = absurd (omega (arith, goes_on.fewer))

module _ {E : Type 0} (n : ℕ) (spec : SpecTree) (r : Result Reply E) where
  pub spec_outcome : (text : List ℕ) → Spells text spec → text ≡ generated_text n → IfOk r (SummaryOutcome n spec) → IfOk r (GenOutcome n)
  spec_outcome text spells is = IfOk-weaker r _ _ (λ reply outcome. (spec, subst (λ t. Spells t spec) is spells, outcome))

  pub found_outcome : (sizes : Sizes) (rounds : List RoundTree) (program : Program) (space : SpaceTree) → sizes ≡ generated_sizes n →
      length rounds ≤ sizes.rounds → IsWrittenFor spec (windows_of rounds) sizes.states (Fixed sizes.bound) (program_tree program) →
      Realizes spec (program_tree program) → space ≡ spec_space spec → IfOk r (λ reply. reply ≡ summary_reply n space true) →
      IfOk r (SummaryOutcome n spec)
  found_outcome sizes rounds program space are few controlled realizes same = IfOk-weaker r _ _ (λ reply is.
      let windows : windows_of rounds ≡ [] = no_windows rounds (subst (λ (s : Sizes). length rounds ≤ s.rounds) are few) in
      let here : IsWrittenFor spec (windows_of rounds) n (Fixed n) (program_tree program) =
      subst (λ (s : Sizes). IsWrittenFor spec (windows_of rounds) s.states (Fixed s.bound) (program_tree program)) are controlled in
      let says : reply ≡ summary_reply n (spec_space spec) true = is ∙ ap (λ s. summary_reply n s true) same in
      found (status_of says) (record {
        program = program_tree program;
        controlled = subst (λ (ws : List WindowTree). IsWrittenFor spec ws n (Fixed n) (program_tree program)) windows here;
        realizes = realizes;
        text_is = text_of says;
      }))

  pub none_outcome : (sizes : Sizes) (rounds : List RoundTree) (space : SpaceTree) → sizes ≡ generated_sizes n →
      length rounds ≤ sizes.rounds → HasNoSolution spec (windows_of rounds) sizes.states (Fixed sizes.bound) → space ≡ spec_space spec →
      IfOk r (λ reply. reply ≡ summary_reply n space false) → IfOk r (SummaryOutcome n spec)
  none_outcome sizes rounds space are few no_solution same = IfOk-weaker r _ _ (λ reply is.
      let windows : windows_of rounds ≡ [] = no_windows rounds (subst (λ (s : Sizes). length rounds ≤ s.rounds) are few) in
      let here : HasNoSolution spec (windows_of rounds) n (Fixed n) =
      subst (λ (s : Sizes). HasNoSolution spec (windows_of rounds) s.states (Fixed s.bound)) are no_solution in
      let says : reply ≡ summary_reply n (spec_space spec) false = is ∙ ap (λ s. summary_reply n s false) same in
      none (status_of says) (record {
        none = subst (λ (ws : List WindowTree). HasNoSolution spec ws n (Fixed n)) windows here;
        text_is = text_of says;
      }))

  pub spent_outcome : (sizes : Sizes) (rounds : List RoundTree) (side : Side) (automaton_states : ℕ) (edges : List EdgeTree)
      (clauses : List (List Lit)) (space : SpaceTree) → sizes ≡ generated_sizes n → length rounds ≤ sizes.rounds →
      IsSpentIn spec (search_of sizes) (windows_of rounds) side automaton_states edges clauses → space ≡ spec_space spec →
      IfOk r (λ reply. reply.status ≡ Spent) →
      IfOk r (λ reply. reply.text ≡ spent_text spec.names space Controller n n [] automaton_states edges clauses) →
      IfOk r (SummaryOutcome n spec)
  spent_outcome sizes rounds side automaton_states edges clauses space are few trace same = with_status r
    where
      windows : windows_of rounds ≡ []
      windows = no_windows rounds (subst (λ (s : Sizes). length rounds ≤ s.rounds) are few)

      first : IsSpentOn Controller spec [] n (Fixed n) 20000 automaton_states edges clauses
      first = at_first n spec side automaton_states edges clauses
          (subst (λ (ws : List WindowTree). IsSpentIn spec (generated_search n) ws side automaton_states edges clauses) windows
          (subst (λ (s : Sizes). IsSpentIn spec (search_of s) (windows_of rounds) side automaton_states edges clauses) are trace))

      with_status : (o : Result Reply E) → IfOk o (λ reply. reply.status ≡ Spent) →
          IfOk o (λ reply. reply.text ≡ spent_text spec.names space Controller n n [] automaton_states edges clauses) →
          IfOk o (SummaryOutcome n spec)
      with_status (Ok reply) status text = spent status (record {
        automaton_states = automaton_states;
        edges = edges;
        clauses = clauses;
        spent = first;
        text_is = text ∙ ap (λ s. spent_text spec.names s Controller n n [] automaton_states edges clauses) same;
      })
      with_status (Err e) status text = tt

  pub limit_outcome : (sizes : Sizes) (rounds : List RoundTree) (limit : Limit) (fault : Fault) → sizes ≡ generated_sizes n →
      length rounds ≤ sizes.rounds → IsLargeIn spec (search_of sizes) (windows_of rounds) limit → fault ≡ fault_at_limit limit →
      IfOk r (λ reply. reply ≡ fault_reply fault) → IfOk r (SummaryOutcome n spec)
  limit_outcome sizes rounds limit fault are few large is_limit = IfOk-weaker r _ _ (λ reply is.
      let windows : windows_of rounds ≡ [] = no_windows rounds (subst (λ (s : Sizes). length rounds ≤ s.rounds) are few) in
      too_large limit (large_first n spec limit
      (subst (λ (ws : List WindowTree). IsLargeIn spec (generated_search n) ws limit) windows
      (subst (λ (s : Sizes). IsLargeIn spec (search_of s) (windows_of rounds) limit) are large)))
      (is ∙ ap fault_reply is_limit))

  pub bits_outcome : (limit : Limit) (fault : Fault) → IsLargeFor spec [] n (Fixed n) limit → fault ≡ fault_at_limit limit →
      IfOk r (λ reply. reply ≡ fault_reply fault) → IfOk r (SummaryOutcome n spec)
  bits_outcome limit fault large is_limit = IfOk-weaker r _ _ (λ reply is. too_large limit large (is ∙ ap fault_reply is_limit))
