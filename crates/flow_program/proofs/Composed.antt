-- What the faults of a listing say of its text.
use Rattle.std.proofs.Common.{◌≡◌, ℕ, Bool, true, false, List, [], ◌∷◌, refl, ap, sym, subst, ◌∙◌, cond}
use Rattle.std.specs.Prelude.{Option, Some, None, flat_map, IsTrue}
use Rattle.std.specs.List.{list_all}
use Rattle.std.specs.Option.{option_map_or}
use Rattle.tsl_terms.specs.Name.{AreDistinct, Name as NameEntry}
use Rattle.tsl_terms.specs.WellFormed.{name_fits}
use Rattle.flow_program.specs.declared.reading.ProgramError.{ProgramError}
use Rattle.flow_program.specs.declared.reading.ProgramError.TheVariants.{Form, Order, Target, Updates, Window, Unknown, Kind, Arity}
use Rattle.flow_program.specs.declared.reading.ProgramError.TheVariants.{Windows, Nodes, States, NoMemory}
use Rattle.program_tree.specs.ProgramTree.{ProgramTree}
use Rattle.flow_program.specs.ProgramText.{ProgramText}
use Rattle.program_listing.specs.Listing.{ListingTree, IsListing}
use Rattle.flow_program.specs.Uses.{ProgramUse, uses_of, names_after, entries_of_use}
use Rattle.flow_program.specs.Rules.{readable_of, at_line, at_use, first_there, line_fault}
use Rattle.flow_program.specs.Rules.{use_fault, limit_fault, fault_of}
use Rattle.flow_program.specs.Reading.{HasProgramCause}
use Rattle.flow_program.specs.internal.Numbering.{Numbered}
use Rattle.flow_program.proofs.UsesStand.{uses_usable}
use Rattle.flow_program.proofs.KnownUses.{named_fit}
use Rattle.flow_program.proofs.WithUses.{names_fit}
use Rattle.flow_program.proofs.ResolvedProgram.{keeps_rules, ResolvedProgram, resolved_program}

-- ---- no rule tells a line malformed

abbrev is_rule : ProgramError → Bool
is_rule (Form line) = false
is_rule _ = true

abbrev IsRule : Option ProgramError → Type 0
IsRule fault = option_map_or is_rule fault true ≡ true

lines_rule : (a b c d e : Option ℕ) →
    IsRule (first_there (at_line Order a ∷ at_line Target b ∷ at_line Target c ∷ at_line Updates d ∷ at_line Window e ∷ []))
lines_rule None None None None None = refl
lines_rule _ _ _ _ _ = refl

uses_rule : (a b c : Option ProgramUse) → IsRule (first_there (at_use Unknown a ∷ at_use Kind b ∷ at_use Arity c ∷ []))
uses_rule None None None = refl
uses_rule _ _ _ = refl

limits_rule : (a b c : Bool) → IsRule (first_there (cond a (Some Windows) None ∷ cond b (Some Nodes) None ∷ cond c (Some States) None ∷ []))
limits_rule false false false = refl
limits_rule _ _ _ = refl

rules_first : (f g h : Option ProgramError) → IsRule f → IsRule g → IsRule h → IsRule (first_there (f ∷ g ∷ h ∷ []))
rules_first (Some e) g h lines uses limits = lines
rules_first None (Some e) h lines uses limits = uses
rules_first None None (Some e) lines uses limits = limits
rules_first None None None lines uses limits = refl

module _ (text : List ℕ) (given : List NameEntry) (l : ListingTree) where
  fault_is_rule : IsRule (fault_of text given l)
  fault_is_rule = rules_first (line_fault text l) _ (limit_fault l) (lines_rule _ _ _ _ _) (uses_rule _ _ _) (limits_rule _ _ _)

  -- ---- a fault is a cause

  cause_of : IsListing text l → (e : ProgramError) → fault_of text given l ≡ Some e → HasProgramCause text given e
  cause_of h e is = by e is (sym (ap (λ o. option_map_or is_rule o true) is) ∙ fault_is_rule) where
    by : (e : ProgramError) → fault_of text given l ≡ Some e → is_rule e ≡ true → HasProgramCause text given e
    by (Form line) k rule = absurd (cc)
    by NoMemory k rule = tt
    by e k rule = record { listing = l; is_listing = h; fault_is = k }

  abbrev the_uses : Option ProgramError
  the_uses = use_fault (readable_of text l) (names_after given (uses_of text l)) (uses_of text l)

  pub at_a_line : IsListing text l → (e : ProgramError) → line_fault text l ≡ Some e → HasProgramCause text given e
  at_a_line h e is = cause_of h e (ap (λ f. first_there (f ∷ the_uses ∷ limit_fault l ∷ [])) is)

  -- the code's table of what is read, its uses and its names are those of the listing
  module _ (readable : List (List ℕ)) (readable_is : readable ≡ readable_of text l) (us : List ProgramUse) (us_are : us ≡ uses_of text l)
      (names : List NameEntry) (names_are : names ≡ names_after given us) where
    same_uses : use_fault readable names us ≡ the_uses
    same_uses =
        ap (use_fault readable names) us_are ∙ ap (λ r. use_fault r names (uses_of text l)) readable_is
        ∙ ap (λ ns. use_fault (readable_of text l) ns (uses_of text l)) (names_are ∙ ap (names_after given) us_are)

    fault_is : (f g k : Option ProgramError) → line_fault text l ≡ f → use_fault readable names us ≡ g → limit_fault l ≡ k →
        fault_of text given l ≡ first_there (f ∷ g ∷ k ∷ [])
    fault_is f g k lines uses limits = λ i. first_there (lines i ∷ (sym same_uses ∙ uses) i ∷ limits i ∷ [])

    pub at_a_use : IsListing text l → (e : ProgramError) → line_fault text l ≡ None → use_fault readable names us ≡ Some e →
        HasProgramCause text given e
    at_a_use h e lines is = cause_of h e (fault_is None (Some e) (limit_fault l) lines is refl)

    pub at_a_limit : IsListing text l → (e : ProgramError) → line_fault text l ≡ None → use_fault readable names us ≡ None →
        limit_fault l ≡ Some e → HasProgramCause text given e
    at_a_limit h e lines uses is = cause_of h e (fault_is None None (Some e) lines uses is)

    no_fault : line_fault text l ≡ None → use_fault readable names us ≡ None → limit_fault l ≡ None → fault_of text given l ≡ None
    no_fault = fault_is None None None

    -- where there is no fault, a program is spelled over these names
    pub spells : AreDistinct given → IsTrue (list_all name_fits given) → IsListing text l → line_fault text l ≡ None →
        use_fault readable names us ≡ None → limit_fault l ≡ None → (p : ProgramTree) × Numbered names text l p × ProgramText text names p
    spells distinct fit h lines uses limits =
        let good : ResolvedProgram text (names_after given (uses_of text l)) l =
        resolved_program text given distinct fit l h (keeps_rules text given l (no_fault lines uses limits)) in
        let same : names_after given (uses_of text l) ≡ names = sym (names_are ∙ ap (names_after given) us_are) in (
          good.program,
          subst (λ ns. Numbered ns text l good.program) same good.numbers,
          subst (λ ns. ProgramText text ns good.program) same good.spelled,
        )

    pub names_may_be_written : IsTrue (list_all name_fits given) → IsListing text l → IsTrue (list_all name_fits names)
    names_may_be_written fit h =
        ap (list_all name_fits) (names_are ∙ ap (names_after given) us_are)
        ∙ names_fit (flat_map entries_of_use (uses_of text l)) given fit (named_fit (uses_of text l) (uses_usable text l h))
