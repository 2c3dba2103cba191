-- Which of the lines after the header it is, by its first byte.
use Rattle.std.proofs.Common.{◌≡◌, ◌∙◌, ℕ, Bool, true, false, List, [], ◌∷◌, Option, Some, None, Result, Ok, slice_get, refl, sym, ap, subst, codes, inl, inr}
use Rattle.std.specs.Prelude.{option_map, option_and_then, is_some}
use Rattle.line_formats.specs.Format.{Format, Value, choice, strip, at_end, mapped, chosen, read}
use Rattle.line_formats.proofs.FormatLaws.{strip_sound}
use Rattle.automaton_text.specs.HoaLines.{Part, PartValue, leaves, edge_line, state_line, end_line, body_line, line_value, State, header}
use Rattle.automaton_text.specs.HoaLines.{edge_step, state_step, end_step, body_step, step_at}
use Rattle.automaton_text.specs.HoaView.{kept, kept_step}
use Rattle.automaton_text.proofs.BitLines.{end_mapped}
use Rattle.automaton_text.proofs.LiteralLines.{not_first}
use Rattle.base_library.proofs.Options.{some_is, none_is}

pub step_ended : (s : State) (bytes : List ℕ) → s.ended ≡ true → kept_step s bytes ≡ None
step_ended s bytes h = ap (λ b. option_map kept (step_at b (slice_get header s.passed) s bytes)) h

-- a choice within a choice
end_twice : {A B C : Type 0} (f : B → C) (g : A → B) (o : Option (A × List ℕ)) →
    at_end (mapped f (mapped g o)) ≡ option_map (λ a. f (g a)) (at_end o)
end_twice f g None = refl
end_twice f g (Some (a, [])) = refl
end_twice f g (Some (a, b ∷ bs)) = refl

module _ (s : State) (bytes : List ℕ) (open' : s.ended ≡ false) (past : slice_get header s.passed ≡ None) where
  -- what a line does that has one of the formats
  does : (f : Format Part) (make : Value PartValue f → Value PartValue body_line) →
      line_value body_line bytes ≡ option_map make (line_value f bytes) →
      kept_step s bytes ≡ option_map kept (option_and_then (λ v. body_step s (make v)) (line_value f bytes))
  does f make is =
      ap (option_map kept)
      ((λ i. step_at (open' i) (past i) s bytes) ∙ ap (option_and_then (body_step s)) is ∙ by (line_value f bytes))
    where
      by : (o : Option (Value PartValue f)) →
          option_and_then (body_step s) (option_map make o) ≡ option_and_then (λ v. body_step s (make v)) o
      by None = refl
      by (Some v) = refl

  pub step_edge : is_some (strip (codes "[") bytes) ≡ true →
      kept_step s bytes ≡ option_map kept (option_and_then (edge_step s) (line_value edge_line bytes))
  step_edge h =
      let found = some_is (strip (codes "[") bytes) h in
      does edge_line (λ v. inl v)
      (subst (λ zs. line_value body_line zs ≡ option_map (λ v. inl v) (line_value edge_line zs))
      (sym (strip_sound (codes "[") bytes found.0 found.1)) (end_mapped (λ v. inl v) (read PartValue leaves edge_line (91 ∷ found.0))))

  pub step_state : is_some (strip (codes "S") bytes) ≡ true →
      kept_step s bytes ≡ option_map kept (option_and_then (state_step s) (line_value state_line bytes))
  step_state h =
      let found = some_is (strip (codes "S") bytes) h in
      does state_line (λ v. inr (inl v))
      (subst (λ zs. line_value body_line zs ≡ option_map (λ v. inr (inl v)) (line_value state_line zs))
      (sym (strip_sound (codes "S") bytes found.0 found.1))
      (end_twice (λ v. inr v) (λ v. inl v) (read PartValue leaves state_line (83 ∷ found.0))))

  pub step_end : is_some (strip (codes "[") bytes) ≡ false → is_some (strip (codes "S") bytes) ≡ false →
      kept_step s bytes ≡ option_map kept (option_and_then (end_step s) (line_value end_line bytes))
  step_end first second =
      does end_line (λ v. inr (inr v)) (by bytes (none_is (strip (codes "[") bytes) first) (none_is (strip (codes "S") bytes) second))
    where
      by : (bytes : List ℕ) → strip (codes "[") bytes ≡ None → strip (codes "S") bytes ≡ None →
          line_value body_line bytes ≡ option_map (λ v. inr (inr v)) (line_value end_line bytes)
      by [] f g = refl
      by (b ∷ bs) f g =
          ap (λ t. at_end (chosen t (read PartValue leaves edge_line (b ∷ bs))
          (read PartValue leaves (choice state_line end_line) (b ∷ bs))))
          (not_first 91 b bs f)
          ∙ ap (λ t. at_end (mapped (λ v. inr v) (chosen t (read PartValue leaves state_line (b ∷ bs))
          (read PartValue leaves end_line (b ∷ bs)))))
          (not_first 83 b bs g)
          ∙ end_twice (λ v. inr v) (λ v. inr v) (read PartValue leaves end_line (b ∷ bs))

abbrev ok : {E : Type 0} → Bool → Result Bool E
ok a = Ok a

pub ok_is : {E : Type 0} (a b : Bool) → ok {E = E} a ≡ ok {E = E} b → a ≡ b
ok_is a b is = cc
