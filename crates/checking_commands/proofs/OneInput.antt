-- Bytes have at most one division into parts, parts spell at most one input, and a part that is spelled is not refused.
use Rattle.std.proofs.Common.{◌≡◌, ℕ, List, ◌++◌, length, take, drop, refl, ap, sym, ◌∙◌, subst, arith}
use Rattle.std.specs.Prelude.{Option, Some, None, slice_get}
use Rattle.std.proofs.Math.Seq.{drop-append_seam}
use Rattle.base_library.proofs.Options.{one_value}
use Rattle.tsl_text.specs.Places.{IsBetweenFeeds}
use Rattle.tsl_terms.specs.Name.{Name, AreDistinct}
use Rattle.tsl_terms.specs.SpecTree.{SpecTree}
use Rattle.tsl_reader.proofs.Causes.{one_spec}
use Rattle.tsl_reader.proofs.SpelledFits.{spelled_fits}
use Rattle.program_tree.specs.ProgramTree.{ProgramTree}
use Rattle.flow_program.specs.declared.reading.ProgramError.{ProgramError}
use Rattle.flow_program.specs.declared.reading.ProgramError.TheVariants.{Form, Order, Target, Updates, Window, Unknown, Kind, Arity}
use Rattle.flow_program.specs.declared.reading.ProgramError.TheVariants.{Windows, Nodes, States, NoMemory}
use Rattle.flow_program.specs.Reading.{IsReading, HasRuleFault, HasProgramCause}
use Rattle.flow_program.specs.Rules.{fault_of}
use Rattle.program_listing.proofs.OneListing.{one_listing}
use Rattle.flow_program.proofs.ReadingLaws.{one_reading}
use Rattle.tsl_meaning.specs.Interpretation.{Interpretation, InputRows}
use Rattle.table_interp.specs.declared.TableError.{TableError}
use Rattle.table_interp.specs.declared.TableError.TheVariants as tables
use Rattle.table_interp.specs.declared.InputError.{InputError}
use Rattle.table_interp.specs.declared.InputError.TheVariants as inputs
use Rattle.table_interp.specs.Tables.{SpellsTables, IsRefusedAsTables}
use Rattle.table_interp.specs.Inputs.{SpellsInputs, IsRefusedAsInputs}
use Rattle.word_interp.specs.declared.WordError.{WordError}
use Rattle.word_interp.specs.declared.WordError.TheVariants as words
use Rattle.word_interp.specs.Words.{SpellsWords, IsRefusedAsWords}
use Rattle.tsl_report.specs.declared.fault.Fault.{Fault}
use Rattle.checking_commands.specs.Check.{CheckParts, AreCheckParts, CheckInput, SpellCheckInput}
use Rattle.command_faults.specs.HeadLines.{IsFirstLineAt, IsCutBefore}
use Rattle.checking_commands.specs.Run.{SpellsGiven, SpellsMeaning, given_names, HasMeaningFault, RunInput, SpellRunInput}
use Rattle.checking_commands.specs.RunFaults.{IsProgramFault, IsTableFault, IsWordsFault, IsInputFault}
use Rattle.checking_commands.specs.RunParts.{RunParts, AreParts, IsCutByStyle, program_line, tables_line, words_line, inputs_line, line_of}
use Rattle.checking_commands.specs.declared.parting.Style.{Style}
use Rattle.checking_commands.specs.declared.parting.Style.TheVariants.{Tables, Words}

-- ---- one division into parts

pub one_place : (text line : List ℕ) (a b : ℕ) → IsFirstLineAt text line a → IsFirstLineAt text line b → a ≡ b
one_place text line a b h k = omega (arith, h.first b k.is_line, k.first a h.is_line)

module _ (text line before after before' after' : List ℕ) (h : IsCutBefore text line before after)
    (k : IsCutBefore text line before' after') where
  pub one_before : before ≡ before'
  one_before = h.before_is ∙ (ap (λ at. take at text) (one_place text line h.at k.at h.first k.first) ∙ sym k.before_is)

  pub one_after : after ≡ after'
  one_after = h.after_is ∙ (ap (λ at. drop at text) (one_place text line h.at k.at h.first k.first) ∙ sym k.after_is)

pub one_division : (bytes : List ℕ) (a b : CheckParts) → AreCheckParts bytes a → AreCheckParts bytes b → a ≡ b
one_division bytes a b h k =
    λ i. record {
      spec = one_before bytes program_line a.spec a.program b.spec b.program h k i;
      program = one_after bytes program_line a.spec a.program b.spec b.program h k i;
    }

apart : (found : Option ℕ) → found ≡ Some 116 → found ≡ Some 119 → ⊥
apart found h k = omega (arith, one_value found 116 119 h k)

-- two different lines do not begin at one place: their fourth bytes differ
not_both : (text : List ℕ) (a b : ℕ) → IsBetweenFeeds text tables_line a → IsBetweenFeeds text words_line b → a ≡ b → ⊥
not_both text a b h k same =
    let from_tables : drop a text ≡ tables_line ++ h.after =
    ap (λ n. drop n text) (sym h.place) ∙ (ap (λ t. drop (length h.before) t) h.split ∙ drop-append_seam h.before (tables_line ++ h.after)) in
    let from_words : drop b text ≡ words_line ++ k.after =
    ap (λ n. drop n text) (sym k.place) ∙ (ap (λ t. drop (length k.before) t) k.split ∙ drop-append_seam k.before (words_line ++ k.after)) in
    apart (slice_get (drop a text) 3) (ap (λ (t : List ℕ). slice_get t 3) from_tables)
    (ap (λ (n : ℕ). slice_get (drop n text) 3) same ∙ ap (λ (t : List ℕ). slice_get t 3) from_words)

-- so the next line that begins tables or machine words has one style
pub one_style : (text : List ℕ) (s t : Style) (before after before' after' : List ℕ) → IsCutByStyle text s before after →
    IsCutByStyle text t before' after' → s ≡ t
one_style text Tables Tables before after before' after' h k = refl
one_style text Words Words before after before' after' h k = refl
one_style text Tables Words before after before' after' h k =
    absurd (not_both text h.cut.at k.cut.at h.cut.first.is_line k.cut.first.is_line
    (omega (arith, h.comes_first k.cut.at k.cut.first.is_line, k.comes_first h.cut.at h.cut.first.is_line)))
one_style text Words Tables before after before' after' h k =
    absurd (not_both text k.cut.at h.cut.at k.cut.first.is_line h.cut.first.is_line
    (omega (arith, h.comes_first k.cut.at k.cut.first.is_line, k.comes_first h.cut.at h.cut.first.is_line)))

-- and what is cut there is one
pub one_cut : (text : List ℕ) (s t : Style) (before after before' after' : List ℕ) → IsCutByStyle text s before after →
    IsCutByStyle text t before' after' → (s ≡ t) × (before ≡ before') × (after ≡ after')
one_cut text s t before after before' after' h k =
    let style : s ≡ t = one_style text s t before after before' after' h k in
    let cut : IsCutBefore text (line_of t) before after =
    subst (λ (u : Style). IsCutBefore text (line_of u) before after) style h.cut in (
      style,
      one_before text (line_of t) before after before' after' cut k.cut,
      one_after text (line_of t) before after before' after' cut k.cut,
    )

pub one_run_division : (bytes : List ℕ) (a b : RunParts) → AreParts bytes a → AreParts bytes b → a ≡ b
one_run_division bytes a b h k =
    let from_program : h.from_program ≡ k.from_program =
    one_after bytes program_line a.spec h.from_program b.spec k.from_program h.program_begins k.program_begins in
    let cut_program : IsCutByStyle k.from_program a.style a.program h.from_meaning =
    subst (λ (text : List ℕ). IsCutByStyle text a.style a.program h.from_meaning) from_program h.meaning_begins in
    let program = one_cut k.from_program a.style b.style a.program h.from_meaning b.program k.from_meaning cut_program k.meaning_begins in
    let cut_meaning : IsCutBefore k.from_meaning inputs_line a.meaning a.inputs =
    subst (λ (text : List ℕ). IsCutBefore text inputs_line a.meaning a.inputs) program.2 h.inputs_begin in
    λ i. record {
      spec = one_before bytes program_line a.spec h.from_program b.spec k.from_program h.program_begins k.program_begins i;
      program = program.1 i;
      style = program.0 i;
      meaning = one_before k.from_meaning inputs_line a.meaning a.inputs b.meaning b.inputs cut_meaning k.inputs_begin i;
      inputs = one_after k.from_meaning inputs_line a.meaning a.inputs b.meaning b.inputs cut_meaning k.inputs_begin i;
    }

-- ---- one input

pub one_check_input : (parts : CheckParts) (a b : CheckInput) → SpellCheckInput parts a → SpellCheckInput parts b → a ≡ b
one_check_input parts a b h k =
    let same : a.spec ≡ b.spec = one_spec parts.spec a.spec b.spec h.spec k.spec in
    let read : IsReading parts.program b.spec.names a.program a.names =
    subst (λ (spec : SpecTree). IsReading parts.program spec.names a.program a.names) same h.program in
    let both : (a.program ≡ b.program) × (a.names ≡ b.names) = one_reading parts.program b.spec.names a.program b.program a.names
    b.names (spelled_fits parts.spec b.spec k.spec).distinct read k.program in
    λ i. record { spec = same i; names = both.1 i; program = both.0 i }

pub one_given : (text : List ℕ) (a b : Option SpecTree) → SpellsGiven text a → SpellsGiven text b → a ≡ b
one_given text None None h k = refl
one_given text None (Some b) h k = absurd (k.0 h)
one_given text (Some a) None h k = absurd (h.0 k)
one_given text (Some a) (Some b) h k = ap (λ s. Some s) (one_spec text a b h.1 k.1)

-- no name is given twice
given_distinct : (text : List ℕ) (given : Option SpecTree) → SpellsGiven text given → AreDistinct (given_names given)
given_distinct text None h = λ i j m n at_i at_j same. cc
given_distinct text (Some spec) h = (spelled_fits text spec h.1).distinct

-- one program, and one list of names, after what is given
pub one_program_read : (parts : RunParts) (given : Option SpecTree) (p q : ProgramTree) (names more : List Name) →
    SpellsGiven parts.spec given → IsReading parts.program (given_names given) p names →
    IsReading parts.program (given_names given) q more → (p ≡ q) × (names ≡ more)
one_program_read parts given p q names more spells h k =
    one_reading parts.program (given_names given) p q names more (given_distinct parts.spec given spells) h k

-- a text spells at most one interpretation in a style, and at most one input loop, by the law of their readers
pub record ReadOnce : Type 0 where
  pub meaning : (style : Style) (text : List ℕ) (names : List Name) (cells : List ℕ) (a b : Interpretation) →
      SpellsMeaning style text names cells a → SpellsMeaning style text names cells b → a ≡ b
  pub inputs : (text : List ℕ) (names : List Name) (inputs : List ℕ) (domain : ℕ) (a b : InputRows ℕ) →
      SpellsInputs text names inputs domain a → SpellsInputs text names inputs domain b → a ≡ b

pub read_once :
    ((text : List ℕ) (names : List Name) (cells : List ℕ) (a b : Interpretation) → SpellsTables text names cells a →
    SpellsTables text names cells b → a ≡ b) →
    ((text : List ℕ) (names : List Name) (cells : List ℕ) (a b : Interpretation) → SpellsWords text names cells a →
    SpellsWords text names cells b → a ≡ b) →
    ((text : List ℕ) (names : List Name) (inputs : List ℕ) (domain : ℕ) (a b : InputRows ℕ) →
    SpellsInputs text names inputs domain a → SpellsInputs text names inputs domain b → a ≡ b) → ReadOnce
read_once by_tables by_words by_rows = record { meaning = of_style; inputs = by_rows }
  where
    of_style : (style : Style) (text : List ℕ) (names : List Name) (cells : List ℕ) (a b : Interpretation) →
        SpellsMeaning style text names cells a → SpellsMeaning style text names cells b → a ≡ b
    of_style Tables = by_tables
    of_style Words = by_words

pub one_run_input : ReadOnce → (parts : RunParts) (a b : RunInput) → SpellRunInput parts a → SpellRunInput parts b → a ≡ b
one_run_input once parts a b h k =
    let given : a.given ≡ b.given = one_given parts.spec a.given b.given h.spec k.spec in
    let read : IsReading parts.program (given_names b.given) a.program a.names =
    subst (λ (g : Option SpecTree). IsReading parts.program (given_names g) a.program a.names) given h.program in
    let both : (a.program ≡ b.program) × (a.names ≡ b.names) =
    one_program_read parts b.given a.program b.program a.names b.names k.spec read k.program in
    let meaning_there : SpellsMeaning parts.style parts.meaning b.names b.program.cells a.interpretation =
    subst (λ (names : List Name). SpellsMeaning parts.style parts.meaning names b.program.cells a.interpretation) both.1
    (subst (λ (p : ProgramTree). SpellsMeaning parts.style parts.meaning a.names p.cells a.interpretation) both.0 h.meaning) in
    let meaning : a.interpretation ≡ b.interpretation =
    once.meaning parts.style parts.meaning b.names b.program.cells a.interpretation b.interpretation meaning_there k.meaning in
    let rows_there : SpellsInputs parts.inputs b.names b.program.inputs b.interpretation.domain a.rows =
    subst (λ (m : Interpretation). SpellsInputs parts.inputs b.names b.program.inputs m.domain a.rows) meaning
    (subst (λ (names : List Name). SpellsInputs parts.inputs names b.program.inputs a.interpretation.domain a.rows) both.1
    (subst (λ (p : ProgramTree). SpellsInputs parts.inputs a.names p.inputs a.interpretation.domain a.rows) both.0 h.inputs)) in
    let rows : a.rows ≡ b.rows =
    once.inputs parts.inputs b.names b.program.inputs b.interpretation.domain a.rows b.rows rows_there k.inputs in
    λ i. record { given = given i; names = both.1 i; program = both.0 i; interpretation = meaning i; rows = rows i }

-- ---- what is spelled is not refused

module _ (text : List ℕ) (given : List Name) (p : ProgramTree) (names : List Name) (read : IsReading text given p names) where
  rules_kept : (error : ProgramError) → HasRuleFault text given error → ⊥
  rules_kept error h =
      let same : h.listing ≡ read.listing = one_listing text h.listing read.listing h.is_listing read.is_listing in
      let e : Some error ≡ None = sym h.fault_is ∙ (ap (fault_of text given) same ∙ read.no_fault) in cc

  pub program_not_refused : (error : ProgramError) (fault : Fault) → HasProgramCause text given error → IsProgramFault text error fault → ⊥
  program_not_refused (Form line) fault cause is = cause.none read.listing read.is_listing
  program_not_refused (Order line) fault cause is = rules_kept (Order line) cause
  program_not_refused (Target line) fault cause is = rules_kept (Target line) cause
  program_not_refused (Updates line) fault cause is = rules_kept (Updates line) cause
  program_not_refused (Window line) fault cause is = rules_kept (Window line) cause
  program_not_refused (Unknown line name) fault cause is = rules_kept (Unknown line name) cause
  program_not_refused (Kind line name) fault cause is = rules_kept (Kind line name) cause
  program_not_refused (Arity line name) fault cause is = rules_kept (Arity line name) cause
  program_not_refused Windows fault cause is = rules_kept Windows cause
  program_not_refused Nodes fault cause is = rules_kept Nodes cause
  program_not_refused States fault cause is = rules_kept States cause
  program_not_refused NoMemory fault cause is = is

tables_not_refused : (text : List ℕ) (names : List Name) (cells : List ℕ) (m : Interpretation) (error : TableError) (fault : Fault) →
    SpellsTables text names cells m → IsRefusedAsTables text names cells error → IsTableFault text names error fault → ⊥
tables_not_refused text names cells m (tables.Byte at) fault spells refused is = refused m spells
tables_not_refused text names cells m (tables.OpenComment at) fault spells refused is = refused m spells
tables_not_refused text names cells m (tables.Form at) fault spells refused is = refused m spells
tables_not_refused text names cells m tables.Domain fault spells refused is = refused m spells
tables_not_refused text names cells m (tables.Unknown start end) fault spells refused is = refused m spells
tables_not_refused text names cells m (tables.Twice start end) fault spells refused is = refused m spells
tables_not_refused text names cells m (tables.Missing id) fault spells refused is = refused m spells
tables_not_refused text names cells m (tables.Entries id) fault spells refused is = refused m spells
tables_not_refused text names cells m (tables.Count id) fault spells refused is = refused m spells
tables_not_refused text names cells m (tables.Range id value) fault spells refused is = refused m spells
tables_not_refused text names cells m tables.NoMemory fault spells refused is = is

words_not_refused : (text : List ℕ) (names : List Name) (cells : List ℕ) (m : Interpretation) (error : WordError) (fault : Fault) →
    SpellsWords text names cells m → IsRefusedAsWords text names cells error → IsWordsFault text names error fault → ⊥
words_not_refused text names cells m (words.Byte at) fault spells refused is = refused m spells
words_not_refused text names cells m (words.OpenComment at) fault spells refused is = refused m spells
words_not_refused text names cells m (words.Form at) fault spells refused is = refused m spells
words_not_refused text names cells m words.Width fault spells refused is = refused m spells
words_not_refused text names cells m (words.Unknown start end) fault spells refused is = refused m spells
words_not_refused text names cells m (words.Twice start end) fault spells refused is = refused m spells
words_not_refused text names cells m (words.Missing id) fault spells refused is = refused m spells
words_not_refused text names cells m (words.Arity id) fault spells refused is = refused m spells
words_not_refused text names cells m (words.Range id value) fault spells refused is = refused m spells
words_not_refused text names cells m words.NoMemory fault spells refused is = is

pub meaning_not_refused : (style : Style) (text : List ℕ) (names : List Name) (cells : List ℕ) (m : Interpretation) (fault : Fault) →
    SpellsMeaning style text names cells m → HasMeaningFault style text names cells fault → ⊥
meaning_not_refused Tables text names cells m fault spells h =
    tables_not_refused text names cells m h.error fault spells h.spells_none h.is_fault
meaning_not_refused Words text names cells m fault spells h =
    words_not_refused text names cells m h.error fault spells h.spells_none h.is_fault

pub inputs_not_refused : (text : List ℕ) (names : List Name) (signals : List ℕ) (domain : ℕ) (rows : InputRows ℕ) (error : InputError)
    (fault : Fault) → SpellsInputs text names signals domain rows → IsRefusedAsInputs text names signals domain error →
    IsInputFault text names error fault → ⊥
inputs_not_refused text names signals domain rows (inputs.Byte at) fault spells refused is = refused rows spells
inputs_not_refused text names signals domain rows (inputs.OpenComment at) fault spells refused is = refused rows spells
inputs_not_refused text names signals domain rows (inputs.Form at) fault spells refused is = refused rows spells
inputs_not_refused text names signals domain rows (inputs.Unknown start end) fault spells refused is = refused rows spells
inputs_not_refused text names signals domain rows (inputs.Twice start end) fault spells refused is = refused rows spells
inputs_not_refused text names signals domain rows (inputs.Missing id) fault spells refused is = refused rows spells
inputs_not_refused text names signals domain rows inputs.Rows fault spells refused is = refused rows spells
inputs_not_refused text names signals domain rows (inputs.Count row) fault spells refused is = refused rows spells
inputs_not_refused text names signals domain rows (inputs.Range row value) fault spells refused is = refused rows spells
inputs_not_refused text names signals domain rows inputs.NoMemory fault spells refused is = is
