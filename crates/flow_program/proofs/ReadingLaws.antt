-- What follows for texts that are read: a text has one listing and one reading, a text that spells a program is read as it, and a
-- text has one cause of refusal.
use Rattle.std.proofs.Common.{◌≡◌, ℕ, List, [], ◌++◌, refl, ap, sym, subst, ◌∙◌}
use Rattle.std.proofs.Common.{flat_map}
use Rattle.std.specs.Prelude.{Some, None}
use Rattle.std.proofs.lemmas.List.{append-nil}
use Rattle.std.proofs.lemmas.Option.{same_Some}
use Rattle.tsl_terms.specs.Name.{Name, AreDistinct}
use Rattle.tsl_terms.proofs.FirstUses.{first_uses_distinct}
use Rattle.flow_program.specs.declared.reading.ProgramError.{ProgramError}
use Rattle.flow_program.specs.declared.reading.ProgramError.TheVariants.{Form}
use Rattle.flow_program.specs.declared.reading.ProgramError.TheVariants.{NoMemory}
use Rattle.program_tree.specs.ProgramTree.{ProgramTree}
use Rattle.flow_program.specs.ProgramText.{ProgramText}
use Rattle.program_listing.specs.Listing.{IsListing, FormFault}
use Rattle.flow_program.specs.Uses.{uses_of, entries_of_use, names_after}
use Rattle.flow_program.specs.Rules.{fault_of}
use Rattle.flow_program.specs.Reading.{IsReading, HasRuleFault, HasProgramCause, IsOfProgramText, GoOnFrom}
use Rattle.program_listing.proofs.OneListing.{one_listing, one_fault}
use Rattle.flow_program.specs.internal.Numbering.{Numbered}
use Rattle.flow_program.proofs.KeptProgram.{same_program}
use Rattle.flow_program.proofs.WithUses.{are_first}
use Rattle.flow_program.proofs.WrittenIsRead.ListingOfProgram.{ListingOfProgram, listing_of_program, all_stay}

-- ---- a text that spells a program is read

pub is_listing_of : (text : List ℕ) (names : List Name) (p : ProgramTree) → (r : ListingOfProgram text names p) → IsListing text r.listing
is_listing_of text names p r = r.is_listing

pub spelled_is_read : (text : List ℕ) (names : List Name) (p : ProgramTree) → AreDistinct names → ProgramText text names p →
    IsReading text names p names
spelled_is_read text names p distinct h =
    let r : ListingOfProgram text names p = listing_of_program text names distinct p h in
    record {
      listing = r.listing;
      is_listing = is_listing_of text names p r;
      no_fault = r.no_fault names ([], sym (append-nil names));
      names_are = sym (all_stay names distinct (flat_map entries_of_use (uses_of text r.listing)) r.held_names);
      spelled = h;
    }

-- ---- a text has one program and one reading

-- its lines are one listing, and the numbers of this are one program
pub one_program : (names : List Name) (bytes : List ℕ) (p q : ProgramTree) → AreDistinct names → ProgramText bytes names p →
    ProgramText bytes names q → p ≡ q
one_program names bytes p q distinct h k =
    let r : ListingOfProgram bytes names p = listing_of_program bytes names distinct p h in
    let s : ListingOfProgram bytes names q = listing_of_program bytes names distinct q k in
    let lines : r.listing ≡ s.listing =
    one_listing bytes r.listing s.listing (is_listing_of bytes names p r) (is_listing_of bytes names q s) in
    same_program names bytes s.listing p q (subst (λ l. Numbered names bytes l p) lines r.numbers) s.numbers

pub names_read_are_distinct : (text : List ℕ) (given : List Name) (p : ProgramTree) (names : List Name) → AreDistinct given →
    IsReading text given p names → AreDistinct names
names_read_are_distinct text given p names distinct h =
    subst AreDistinct (sym (h.names_are ∙ are_first given (flat_map entries_of_use (uses_of text h.listing)) distinct))
    (first_uses_distinct (given ++ flat_map entries_of_use (uses_of text h.listing)))

pub one_reading : (text : List ℕ) (given : List Name) (p q : ProgramTree) (names more : List Name) → AreDistinct given →
    IsReading text given p names → IsReading text given q more → (p ≡ q) × (names ≡ more)
one_reading text given p q names more distinct h k =
    let lines : h.listing ≡ k.listing = one_listing text h.listing k.listing h.is_listing k.is_listing in
    let same : names ≡ more = h.names_are ∙ ap (λ l. names_after given (uses_of text l)) lines ∙ sym k.names_are in
    let apart : AreDistinct names = names_read_are_distinct text given p names distinct h in
    (one_program names text p q apart h.spelled (subst (λ ns. ProgramText text ns q) (sym same) k.spelled), same)

rule_fault_spells_none : (text : List ℕ) (given names : List Name) (e : ProgramError) (p : ProgramTree) → AreDistinct names →
    GoOnFrom given names → HasRuleFault text given e → ProgramText text names p → ⊥
rule_fault_spells_none text given names e p distinct goes fault h =
    let r : ListingOfProgram text names p = listing_of_program text names distinct p h in
    let lines : fault.listing ≡ r.listing = one_listing text fault.listing r.listing fault.is_listing (is_listing_of text names p r) in
    let never : Some e ≡ None = sym fault.fault_is ∙ ap (fault_of text given) lines ∙ r.no_fault given goes in
    absurd (cc)

-- a cause that is not of the form is a fault of a listing
data Cause (text : List ℕ) (given : List Name) (e : ProgramError) : Type 0 where
  of_form : (n : ℕ) → e ≡ Form n → FormFault text n → Cause text given e
  of_rule : HasRuleFault text given e → Cause text given e

cause_is : (text : List ℕ) (given : List Name) (e : ProgramError) → IsOfProgramText e → HasProgramCause text given e → Cause text given e
cause_is text given (Form n) is h = of_form n refl h
cause_is text given NoMemory is h = absurd is
cause_is text given fault is h = of_rule h

pub refused_spells_none : (text : List ℕ) (given names : List Name) (e : ProgramError) (p : ProgramTree) → AreDistinct names →
    GoOnFrom given names → IsOfProgramText e → HasProgramCause text given e → ProgramText text names p → ⊥
refused_spells_none text given names e p distinct goes is cause h = by (cause_is text given e is cause) where
  by : Cause text given e → ⊥
  by (of_form n a x) =
      let r : ListingOfProgram text names p = listing_of_program text names distinct p h in
      x.none r.listing (is_listing_of text names p r)
  by (of_rule x) = rule_fault_spells_none text given names e p distinct goes x h

-- ---- a text has one cause

one_rule : (text : List ℕ) (given : List Name) (e f : ProgramError) → HasRuleFault text given e → HasRuleFault text given f → e ≡ f
one_rule text given e f h k =
    same_Some e f (sym h.fault_is ∙ ap (fault_of text given) (one_listing text h.listing k.listing h.is_listing k.is_listing) ∙ k.fault_is)

pub one_cause : (text : List ℕ) (given : List Name) (e f : ProgramError) → IsOfProgramText e → IsOfProgramText f →
    HasProgramCause text given e →
    HasProgramCause text given f → e ≡ f
one_cause text given e f is too h k = by (cause_is text given e is h) (cause_is text given f too k) where
  by : Cause text given e → Cause text given f → e ≡ f
  by (of_form n a x) (of_form m b y) = a ∙ ap Form (one_fault text n m x y) ∙ sym b
  by (of_form n a x) (of_rule y) = absurd (x.none y.listing y.is_listing)
  by (of_rule x) (of_form m b y) = absurd (y.none x.listing x.is_listing)
  by (of_rule x) (of_rule y) = one_rule text given e f x y
