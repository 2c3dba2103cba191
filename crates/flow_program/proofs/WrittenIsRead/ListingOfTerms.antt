-- Terms and tests of a program stand in the text that spells them, and each name that they use is one of the program's names.
use Rattle.std.proofs.Common.{◌≡◌, ℕ, ◌+◌, ◌==◌, Bool, true, false, ◌&&◌, cond, List, [], ◌∷◌, ◌++◌, refl, ap, sym, ◌∙◌, inl, inr, if◌then◌else◌}
use Rattle.std.specs.Prelude.{Option, Some, None, max, codes, slice_get, IsTrue}
use Rattle.std.specs.List.{AllByRecursion}
use Rattle.std.specs.Option.{option_map_or}
use Rattle.std.specs.Str.{bytes_eq}
use Rattle.std.proofs.lemmas.Bool.{and_parts, or_cases, eqb-true}
use Rattle.std.proofs.lemmas.Option.{none-some}
use Rattle.base_library.proofs.Bytes.{same_bytes}
use Rattle.base_library.proofs.Each.{each_joined}
use Rattle.base_library.proofs.Places.{slice_get_mapped}
use Rattle.base_library.specs.Numbers.{is_among}
use Rattle.tsl_text.specs.Names.{is_usable}
use Rattle.tsl_terms.specs.declared.names.NameKind.{NameKind}
use Rattle.tsl_terms.specs.declared.names.NameKind.TheVariants.{Signal, Function, Predicate}
use Rattle.tsl_terms.specs.Name.{is_name, same_kind, number_of, texts, question, AreDistinct, Name as NameEntry}
use Rattle.tsl_terms.specs.TermTree.{TermTree, signal, apply, TermTrees, no_terms, more_terms, count_of_terms, ProbeTree}
use Rattle.tsl_terms.specs.WellFormed.{is_usable_at, is_question, term_fits, terms_fit, probe_fits, bracketed, brackets}
use Rattle.tsl_terms.specs.WellFormed.{brackets_of_arguments, are_one_signal}
use Rattle.tsl_terms.specs.OnlyThese.{reads_only, read_only}
use Rattle.tsl_terms.proofs.FirstUses.{first_some, not_found}
use Rattle.term_text.specs.TermText.{name_text, argument_text, applied_text, term_text, arguments_text, application_text, question_text}
use Rattle.term_text.specs.TermText.{probe_text}
use Rattle.base_library.proofs.Options.{some_passes}
use Rattle.program_listing.specs.declared.listing.Name.{Name as Place}
use Rattle.program_tree.specs.Writable.{probe_is_writable}
use Rattle.tsl_terms.specs.WellFormed.{deepest}
use Rattle.std.specs.Prelude.{nat_le}
use Rattle.std.proofs.Common.{rules}
use Rattle.program_listing.specs.LineText.{is_shallow}
use Rattle.program_listing.specs.LineText.{Piece, named, argument_pieces, surface_pieces, surfaces_pieces}
use Rattle.program_listing.specs.Listing.{SurfaceTermTree, bare, applied, SurfaceTermTrees, no_surfaces, more_surfaces, count_of_surfaces, name_bytes}
use Rattle.program_listing.specs.Listing.{bracketed_surface, surface_brackets, surfaces_brackets}
use Rattle.flow_program.specs.Uses.{ProgramUse, applied_use, term_uses, terms_uses, test_uses}
use Rattle.flow_program.specs.Uses.{question_entry}
use Rattle.flow_program.specs.internal.Numbering.{numbered, numbered_term, numbered_terms, numbered_test, probe_with}
use Rattle.flow_program.proofs.ResolvedLines.{place_at}
use Rattle.flow_program.proofs.WrittenIsRead.Runs.{Part, nothing, exactly, beside, made, a_name}

-- A kind of parts of lines: their numbers, their pieces, whether they keep the limits, and their uses on a line.
pub record Kind (X Y : Type 0) : Type 0 where
  pub numbered_as : X → Option Y
  pub pieces : X → List Piece
  pub is_within : X → Bool
  pub uses : ℕ → X → List ProgramUse

-- ---- names

kinds_same : (a b : NameKind) → same_kind a b ≡ true → a ≡ b
kinds_same Signal Signal h = refl
kinds_same Function Function h = refl
kinds_same Predicate Predicate h = refl
kinds_same _ _ h = absurd (cc)

module _ (names : List NameEntry) where
  -- what stands at the number of a name with these bytes
  entry_is : (id : ℕ) (kind : NameKind) (arity : ℕ) (bytes : List ℕ) → is_name names id kind arity ≡ true → bytes ≡ name_text names id →
      slice_get names id ≡ Some (record { text = bytes; kind = kind; arity = arity })
  entry_is id kind arity bytes fits is =
      let found = some_passes (slice_get names id) (λ n. same_kind n.kind kind && (n.arity == arity)) fits in
      let parts = and_parts (same_kind found.0.kind kind) (found.0.arity == arity) found.2 in
      found.1 ∙ (λ i. Some (record {
        text = sym (is ∙ ap (λ o. option_map_or (λ n. n.text) o []) found.1) i;
        kind = kinds_same found.0.kind kind parts.0 i;
        arity = eqb-true found.0.arity arity parts.1 i;
      }))

  pub usable_text : (id : ℕ) → is_usable_at names id ≡ true → is_usable (name_text names id) ≡ true
  usable_text id h =
      let found = some_passes (slice_get names id) (λ n. is_usable n.text) h in
      ap is_usable (ap (λ o. option_map_or (λ n. n.text) o []) found.1) ∙ found.2

  -- a name is one of these
  abbrev pub InNames : NameEntry → Type 0
  InNames n = (id : ℕ) × (slice_get names id ≡ Some n)

  -- a use is of names of the program, and reads one of these signals
  pub record HeldUse (readable : List ℕ) (u : ProgramUse) : Type 0 where
    pub id : ℕ
    pub there : slice_get names id ≡ Some u.name
    pub asked : AllByRecursion InNames (if u.is_tested then question_entry ∷ [] else [])
    pub read : IsTrue u.is_read → is_among readable id ≡ true

  -- a part with these numbers that keeps the limits, and whose uses are held
  pub record PartOf (readable : List ℕ) {X Y : Type 0} (k : Kind X Y) (y : Y) : Type 0 where
    pub line : X
    pub numbered_is : k.numbered_as line ≡ Some y
    pub within : k.is_within line ≡ true
    pub held : (n : ℕ) → AllByRecursion (HeldUse readable) (k.uses n line)

  -- a name has the number of its place
  pub its_number : (distinct : AreDistinct names) (id : ℕ) (n : NameEntry) → slice_get names id ≡ Some n → number_of names n.text ≡ Some id
  its_number distinct id n there = by (number_of names n.text) refl where
    by : (found : Option ℕ) → number_of names n.text ≡ found → found ≡ Some id
    by None e =
        let first = first_some names id n there in
        absurd (none-some first.0 (sym (not_found names n.text e) ∙ first.1))
    by (Some i) e =
        let other = slice_get_mapped (λ m. m.text) names i n.text (place_at (texts names) n.text i e) in
        ap Some (distinct i id other.0 n other.1 there other.2)

  module _ (distinct : AreDistinct names) (readable : List ℕ) (text : List ℕ) where
    -- these bytes spell a part with these numbers
    abbrev pub Reads : {X Y : Type 0} → Kind X Y → Y → List ℕ → Type 0
    Reads k y bytes = Part text (λ (l : PartOf readable k y). k.pieces l.line) bytes

    -- a name that stands in the text as that of a number
    pub record NameAt (id : ℕ) : Type 0 where
      pub at : Place
      pub bytes_are : name_bytes text at ≡ name_text names id

    abbrev pub named_at : {id : ℕ} → NameAt id → List Piece
    named_at n = named n.at ∷ []

    pub name_part : (id : ℕ) → is_usable_at names id ≡ true → Part text (named_at {id = id}) (name_text names id)
    name_part id usable =
        a_name (name_text names id) (usable_text id usable) (λ n. n.at) (λ at is. (record { at = at; bytes_are = is }, refl))

    -- it is the name at this number, and has it
    named_as : (id : ℕ) (kind : NameKind) (arity : ℕ) → is_name names id kind arity ≡ true → (n : NameAt id) →
        slice_get names id ≡ Some (record { text = name_bytes text n.at; kind = kind; arity = arity })
    named_as id kind arity fits n = entry_is id kind arity (name_bytes text n.at) fits n.bytes_are

    pub number_at : (id : ℕ) (kind : NameKind) (arity : ℕ) → is_name names id kind arity ≡ true → (n : NameAt id) →
        numbered names text n.at ≡ Some id
    number_at id kind arity fits n = its_number distinct id _ (named_as id kind arity fits n)

    -- a use of it is held
    pub applied_held : (line : ℕ) (kind : NameKind) (id arity : ℕ) → is_name names id kind arity ≡ true → (n : NameAt id) →
        HeldUse readable (applied_use text line kind n.at arity)
    applied_held line kind id arity fits n =
        record { id = id; there = named_as id kind arity fits n; asked = tt; read = λ h. absurd (cc) }

    -- ---- terms

    -- names that stand for those of a term, and the surface term of these
    abbrev mutual
      pub NamesOf : TermTree → Type 0
      NamesOf (signal s) = NameAt s
      NamesOf (apply f ts) = NameAt f × NamesOfAll ts

      pub NamesOfAll : TermTrees → Type 0
      NamesOfAll no_terms = Unit {0}
      NamesOfAll (more_terms t ts) = NamesOf t × NamesOfAll ts

    abbrev mutual
      pub surface_of : (t : TermTree) → NamesOf t → SurfaceTermTree
      surface_of (signal s) n = bare n.at
      surface_of (apply f ts) n = applied n.0.at (surfaces_of ts n.1)

      pub surfaces_of : (ts : TermTrees) → NamesOfAll ts → SurfaceTermTrees
      surfaces_of no_terms n = no_surfaces
      surfaces_of (more_terms t ts) n = more_surfaces (surface_of t n.0) (surfaces_of ts n.1)

    -- it has as many arguments, and nests as deep
    count_is : (ts : TermTrees) (n : NamesOfAll ts) → count_of_surfaces (surfaces_of ts n) ≡ count_of_terms ts
    count_is no_terms n = refl
    count_is (more_terms t ts) n = ap (λ k. 1 + k) (count_is ts n.1)

    bracketed_as : (t : TermTree) (n : NamesOf t) (d : ℕ) → bracketed_surface (surface_of t n) d ≡ bracketed t d
    bracketed_as (signal s) n d = refl
    bracketed_as (apply f no_terms) n d = refl
    bracketed_as (apply f (more_terms t ts)) n d = refl

    mutual
      pub as_deep : (t : TermTree) (n : NamesOf t) → surface_brackets (surface_of t n) ≡ brackets t
      as_deep (signal s) n = refl
      as_deep (apply f ts) n = all_deep ts n.1

      all_deep : (ts : TermTrees) (n : NamesOfAll ts) → surfaces_brackets (surfaces_of ts n) ≡ brackets_of_arguments ts
      all_deep no_terms n = refl
      all_deep (more_terms t ts) n =
          λ i. max ((ap (bracketed_surface (surface_of t n.0)) (as_deep t n.0) ∙ bracketed_as t n.0 (brackets t)) i) (all_deep ts n.1 i)

    -- it has the numbers of the term
    mutual
      pub term_numbered : (t : TermTree) (n : NamesOf t) → term_fits names t ≡ true → numbered_term names text (surface_of t n) ≡ Some t
      term_numbered (signal s) n fits = simp (number_at s Signal 0 (search rules) n)
      term_numbered (apply f ts) n fits =
          simp (number_at f Function (count_of_terms ts) (search rules) n.0, terms_numbered ts n.1 (search rules))

      terms_numbered : (ts : TermTrees) (n : NamesOfAll ts) → terms_fit names ts ≡ true →
          numbered_terms names text (surfaces_of ts n) ≡ Some ts
      terms_numbered no_terms n fits = refl
      terms_numbered (more_terms t ts) n fits = simp (term_numbered t n.0 (search rules), terms_numbered ts n.1 (search rules))

    -- its uses are held
    mutual
      pub term_held : (t : TermTree) (n : NamesOf t) → term_fits names t ≡ true → reads_only readable t ≡ true → (line : ℕ) →
          AllByRecursion (HeldUse readable) (term_uses text line (surface_of t n))
      term_held (signal s) n fits reads line =
          (record { id = s; there = named_as s Signal 0 (search rules) n; asked = tt; read = λ h. reads }, tt)
      term_held (apply f ts) n fits reads line = (
        applied_held line Function f _ (ap (is_name names f Function) (count_is ts n.1) ∙ (search rules)) n.0,
        terms_held ts n.1 (search rules) reads line,
      )

      terms_held : (ts : TermTrees) (n : NamesOfAll ts) → terms_fit names ts ≡ true → read_only readable ts ≡ true → (line : ℕ) →
          AllByRecursion (HeldUse readable) (terms_uses text line (surfaces_of ts n))
      terms_held no_terms n fits reads line = tt
      terms_held (more_terms t ts) n fits reads line =
          each_joined (HeldUse readable) (term_uses text line (surface_of t n.0)) (terms_uses text line (surfaces_of ts n.1))
          (term_held t n.0 (search rules) (search rules) line) (terms_held ts n.1 (search rules) (search rules) line)

    -- it stands where the term is spelled
    abbrev Term : TermTree → List ℕ → Type 0
    Term t bytes = Part text (λ (n : NamesOf t). surface_pieces (surface_of t n)) bytes

    abbrev Terms : TermTrees → List ℕ → Type 0
    Terms ts bytes = Part text (λ (n : NamesOfAll ts). surfaces_pieces (surfaces_of ts n)) bytes

    application_part : (f : ℕ) (ts : TermTrees) → is_usable_at names f ≡ true → Terms ts (arguments_text names ts) →
        Term (apply f ts) (name_text names f ++ applied_text ts (arguments_text names ts))
    application_part f no_terms usable arguments =
        made (beside (name_part f usable) (exactly (codes "()"))) refl (λ x. (x.0, tt)) (λ x. refl)
    application_part f (more_terms t ts) usable arguments = beside (name_part f usable) arguments

    argument_part : (t : TermTree) → Term t (term_text names t) →
        Part text (λ (n : NamesOf t). argument_pieces (surface_of t n) (surface_pieces (surface_of t n)))
        (argument_text t (term_text names t))
    argument_part (signal s) term = term
    argument_part (apply f no_terms) term = term
    argument_part (apply f (more_terms t ts)) term =
        made (beside (beside (exactly (codes "(")) term) (exactly (codes ")"))) refl (λ x. x.0.1) (λ x. refl)

    mutual
      pub term_part : (t : TermTree) → term_fits names t ≡ true → Term t (term_text names t)
      term_part (signal s) fits = name_part s (search rules)
      term_part (apply f ts) fits = application_part f ts (search rules) (terms_part ts (search rules))

      terms_part : (ts : TermTrees) → terms_fit names ts ≡ true → Terms ts (arguments_text names ts)
      terms_part no_terms fits = nothing
      terms_part (more_terms t ts) fits =
          made (beside (beside (exactly (codes " ")) (argument_part t (term_part t (search rules)))) (terms_part ts (search rules))) refl
          (λ x. (x.0.1, x.1)) (λ x. refl)

    -- ---- tests

    abbrev pub tests : Kind SurfaceTermTree ProbeTree
    tests = record { numbered_as = numbered_test names text; pieces = surface_pieces; is_within = is_shallow; uses = test_uses text }

    -- a predicate with its arguments
    application_test : (q : ℕ) (ts : TermTrees) → is_name names q Predicate (count_of_terms ts) ≡ true → terms_fit names ts ≡ true →
        is_usable_at names q ≡ true → nat_le (brackets_of_arguments ts) deepest ≡ true → read_only readable ts ≡ true →
        is_question names q ≡ false → Reads tests (probe_with q ts) (probe_text names (probe_with q ts))
    application_test q ts fits fit usable flat reads other =
        let probe = probe_with q ts in
        made (application_part q ts usable (terms_part ts fit))
        (sym (ap (λ b. cond b (question_text names probe ts) (application_text names probe)) other)) (λ n. record {
          line = surface_of (apply q ts) n;
          numbered_is = simp (number_at q Predicate (count_of_terms ts) fits n.0, terms_numbered ts n.1 fit);
          within = ap (λ k. nat_le k deepest) (all_deep ts n.1) ∙ flat;
          held = λ line. (
            applied_held line Predicate q _ (ap (is_name names q Predicate) (count_is ts n.1) ∙ fits) n.0,
            terms_held ts n.1 fit reads line,
          );
        }) (λ n. refl)

    -- the name of a Boolean signal
    signal_test : (q : ℕ) (ts : TermTrees) → is_name names q Predicate (count_of_terms ts) ≡ true → terms_fit names ts ≡ true →
        are_one_signal ts ≡ true → read_only readable ts ≡ true → is_question names q ≡ true →
        Reads tests (probe_with q ts) (probe_text names (probe_with q ts))
    signal_test q (more_terms (signal s) no_terms) fits fit one reads asks =
        let parts = and_parts (term_fits names (signal s)) true fit in
        let name = and_parts (is_name names s Signal 0) (is_usable_at names s) parts.0 in
        let read = and_parts (is_among readable s) true reads in
        let found = some_passes (slice_get names q) (λ n. bytes_eq n.text question) asks in
        let text_is : name_text names q ≡ question =
        ap (λ o. option_map_or (λ n. n.text) o []) found.1 ∙ same_bytes found.0.text question found.2 in
        let asked = entry_is q Predicate 1 question fits (sym text_is) in
        let arguments = more_terms (signal s) no_terms in
        made (name_part s name.1)
        (sym (ap (λ b. cond b (name_text names s) (application_text names (probe_with q arguments))) asks)) (λ n. record {
          line = bare n.at;
          numbered_is = simp (number_at s Signal 0 name.0 n, its_number distinct q question_entry asked);
          within = refl;
          held = λ line. (record { id = s; there = named_as s Signal 0 name.0 n; asked = ((q, asked), tt); read = λ h. read.0 }, tt);
        }) (λ n. refl)
    signal_test q _ fits fit one reads asks = absurd (cc)

    -- a usable name is not `?`
    other_than_question : (q : ℕ) → is_usable_at names q ≡ true → is_question names q ≡ false
    other_than_question q usable = by (is_question names q) refl where
      by : (b : Bool) → is_question names q ≡ b → is_question names q ≡ false
      by false e = e
      by true asks =
          let found = some_passes (slice_get names q) (λ n. bytes_eq n.text question) asks in
          let never : is_usable_at names q ≡ false =
          ap (λ o. option_map_or (λ n. is_usable n.text) o false) found.1 ∙ ap is_usable (same_bytes found.0.text question found.2) in
          absurd (cc)

    pub test_part : (p : ProbeTree) → probe_is_writable names p ≡ true → read_only readable p.arguments ≡ true →
        Reads tests p (probe_text names p)
    test_part p writable reads =
        let q = p.predicate in
        let ts = p.arguments in
        let both = and_parts (probe_fits names p) (nat_le (brackets_of_arguments ts) deepest) writable in
        let parts = and_parts (is_name names q Predicate (count_of_terms ts) && terms_fit names ts) _ both.0 in
        let name = and_parts (is_name names q Predicate (count_of_terms ts)) (terms_fit names ts) parts.0 in
        elim (or_cases (is_usable_at names q) (is_question names q && are_one_signal ts) parts.1) [
          | inl usable ↦ application_test q ts name.0 name.1 usable both.1 reads (other_than_question q usable)
          | inr asked ↦ signal_test q ts name.0 name.1 (search rules) reads (search rules)
        ]
