-- Surface terms whose uses the names know have their numbers, and are written as before.
use Rattle.std.proofs.Common.{◌≡◌, ℕ, ◌+◌, true, false, ◌&&◌, ◌||◌, List, [], ◌∷◌, ◌++◌, refl, ap, sym, ◌∙◌, rules, arith}
use Rattle.std.specs.Prelude.{Some, option_map, nat_le, max, codes, cond, IsTrue}
use Rattle.std.specs.List.{AllByRecursion}
use Rattle.std.specs.Option.{option_map_or}
use Rattle.std.specs.Str.{bytes_eq}
use Rattle.std.proofs.lemmas.Bool.{and_from, and_parts}
use Rattle.std.proofs.lemmas.Grind.{common_steps}
use Rattle.std.proofs.lemmas.List.{append-nil}
use Rattle.base_library.proofs.Bytes.{same_bytes}
use Rattle.base_library.proofs.Each.{each_left, each_right}
use Rattle.base_library.specs.Numbers.{is_among}
use Rattle.tsl_text.specs.Names.{is_usable}
use Rattle.tsl_terms.specs.declared.names.NameKind.TheVariants.{Function, Predicate}
use Rattle.tsl_terms.specs.Name.{number_of, is_name, question, Name as NameEntry}
use Rattle.tsl_terms.specs.TermTree.{TermTree, signal, apply, TermTrees, no_terms, more_terms, count_of_terms, ProbeTree}
use Rattle.tsl_terms.specs.WellFormed.{is_usable_at, is_question, term_fits, terms_fit, probe_fits, bracketed, brackets}
use Rattle.tsl_terms.specs.WellFormed.{brackets_of_arguments, deepest, are_one_signal}
use Rattle.tsl_terms.specs.OnlyThese.{reads_only, read_only}
use Rattle.term_text.specs.TermText.{name_text, argument_text, term_text, arguments_text, application_text, question_text}
use Rattle.term_text.specs.TermText.{probe_text}
use Rattle.program_listing.specs.declared.listing.Name.{Name}
use Rattle.program_tree.specs.Writable.{term_is_writable, probe_is_writable}
use Rattle.program_listing.specs.Listing.{SurfaceTermTree, bare, applied, SurfaceTermTrees, no_surfaces, more_surfaces, count_of_surfaces, name_bytes}
use Rattle.program_listing.specs.Listing.{bracketed_surface, surface_brackets, surfaces_brackets}
use Rattle.program_listing.specs.internal.NamesStand.{is_surface, surface_stands}
use Rattle.program_listing.specs.LineText.{word, argument_pieces, surface_pieces, surfaces_pieces}
use Rattle.program_listing.proofs.ListingFacts.{pieces_text}
use Rattle.flow_program.specs.Uses.{ProgramUse, read_use, tested_use, applied_use, term_uses, terms_uses, test_uses, question_entry}
use Rattle.flow_program.specs.internal.Numbering.{numbered_term, numbered_terms, numbered_test, probe_with}
use Rattle.tsl_terms.proofs.KnownNames.{Known}
use Rattle.flow_program.proofs.SpelledLines.{pieces_append}

-- ---- names with their numbers

-- the number of a text, where one that has none counts as 0
pub number_in : List NameEntry → List ℕ → ℕ
number_in names bytes = option_map_or (λ n. n) (number_of names bytes) 0

number_is : (names : List NameEntry) (bytes : List ℕ) (n : ℕ) → number_of names bytes ≡ Some n → number_in names bytes ≡ n
unfolding number_in
number_is names bytes n is = ap (λ o. option_map_or (λ k. k) o 0) is

module _ (names : List NameEntry) where
  -- the text of a use has a number, of a name of its kind with its number of arguments
  pub record HasNumber (u : NameEntry) : Type 0 where
    pub number : number_of names u.text ≡ Some (number_in names u.text)
    pub named : is_name names (number_in names u.text) u.kind u.arity ≡ true
    pub usable : is_usable_at names (number_in names u.text) ≡ is_usable u.text
    pub asks : is_question names (number_in names u.text) ≡ bytes_eq u.text question
    pub spelled : name_text names (number_in names u.text) ≡ u.text

  pub has_number : (u : NameEntry) → Known names u → HasNumber u
  has_number u k =
      let is : number_in names u.text ≡ k.number = number_is names u.text k.number k.numbered in
      record {
        number = k.numbered ∙ ap Some (sym is);
        named = rw (is, k.there) (and_from _ _ k.kind k.arity);
        usable = rw (is, k.there, k.text) refl;
        asks = rw (is, k.there, k.text) refl;
        spelled = rw (is, k.there) k.text;
      }

-- a usable name is not `?`
not_question : (bytes : List ℕ) → is_usable bytes ≡ true → bytes_eq bytes question ≡ false
not_question bytes h = grind (arith, common_steps, same_bytes bytes question)

module _ (names : List NameEntry) (text : List ℕ) where
  -- ---- terms and tests with numbers: their form is that of the surface

  abbrev pub number_at : Name → ℕ
  number_at at = number_in names (name_bytes text at)

  abbrev mutual
    pub term_of : SurfaceTermTree → TermTree
    term_of (bare at) = signal (number_at at)
    term_of (applied at ps) = apply (number_at at) (terms_of ps)

    pub terms_of : SurfaceTermTrees → TermTrees
    terms_of no_surfaces = no_terms
    terms_of (more_surfaces p ps) = more_terms (term_of p) (terms_of ps)

  abbrev pub test_of : SurfaceTermTree → ProbeTree
  test_of (bare at) = probe_with (number_in names question) (more_terms (signal (number_at at)) no_terms)
  test_of (applied at ps) = probe_with (number_at at) (terms_of ps)

  count_is : (ps : SurfaceTermTrees) → count_of_terms (terms_of ps) ≡ count_of_surfaces ps
  count_is no_surfaces = refl
  count_is (more_surfaces p ps) = ap (λ n. 1 + n) (count_is ps)

  bracketed_is : (p : SurfaceTermTree) (d : ℕ) → bracketed (term_of p) d ≡ bracketed_surface p d
  bracketed_is (bare at) d = refl
  bracketed_is (applied at no_surfaces) d = refl
  bracketed_is (applied at (more_surfaces p ps)) d = refl

  mutual
    brackets_are : (p : SurfaceTermTree) → brackets (term_of p) ≡ surface_brackets p
    brackets_are (bare at) = refl
    brackets_are (applied at ps) = all_brackets_are ps

    all_brackets_are : (ps : SurfaceTermTrees) → brackets_of_arguments (terms_of ps) ≡ surfaces_brackets ps
    all_brackets_are no_surfaces = refl
    all_brackets_are (more_surfaces p ps) =
        λ i. max ((bracketed_is p (brackets (term_of p)) ∙ ap (bracketed_surface p) (brackets_are p)) i) (all_brackets_are ps i)

  test_brackets_are : (p : SurfaceTermTree) → brackets_of_arguments (test_of p).arguments ≡ surface_brackets p
  test_brackets_are (bare at) = refl
  test_brackets_are (applied at ps) = all_brackets_are ps

  argument_spelled : (p : SurfaceTermTree) (bytes : List ℕ) → pieces_text text (surface_pieces p) ≡ bytes →
      pieces_text text (argument_pieces p (surface_pieces p)) ≡ argument_text (term_of p) bytes
  argument_spelled (bare at) bytes is = is
  argument_spelled (applied at no_surfaces) bytes is = is
  argument_spelled (applied at (more_surfaces p ps)) bytes is =
      ap (λ zs. codes "(" ++ zs) (pieces_append text (surface_pieces (applied at (more_surfaces p ps))) (word (codes ")") ∷ [])
      ∙ ap (λ zs. zs ++ codes ")") is)

  applied_spelled : (at : Name) (ps : SurfaceTermTrees) → name_text names (number_at at) ≡ name_bytes text at →
      pieces_text text (surfaces_pieces ps) ≡ arguments_text names (terms_of ps) →
      pieces_text text (surface_pieces (applied at ps)) ≡ term_text names (term_of (applied at ps))
  applied_spelled at no_surfaces name is = λ i. sym name i ++ codes "()"
  applied_spelled at (more_surfaces p ps) name is = λ i. sym name i ++ is i

module _ (names : List NameEntry) (readable : List ℕ) (text : List ℕ) where
  -- ---- where each use is known, they are written as before

  -- what the names say of a use: a signal that is read is one of these
  pub record IsUsed (u : ProgramUse) : Type 0 where
    pub name : HasNumber names u.name
    pub fits : (is_name names (number_in names u.name.text) u.name.kind u.name.arity && is_usable_at names (number_in names u.name.text))
        ≡ true
    pub other : is_question names (number_in names u.name.text) ≡ false
    pub asked : IsTrue u.is_tested → HasNumber names question_entry
    pub read : IsTrue u.is_read → is_among readable (number_in names u.name.text) ≡ true

  pub is_used : (u : ProgramUse) (k : Known names u.name) → is_usable u.name.text ≡ true → (IsTrue u.is_tested → Known names question_entry) →
      (IsTrue u.is_read → is_among readable k.number ≡ true) → IsUsed u
  is_used u k usable asked read =
      let name : HasNumber names u.name = has_number names u.name k in
      record {
        name = name;
        fits = and_from _ _ name.named (name.usable ∙ usable);
        other = name.asks ∙ not_question u.name.text usable;
        asked = λ asks. has_number names question_entry (asked asks);
        read = λ reads. ap (is_among readable) (number_is names u.name.text k.number k.numbered) ∙ read reads;
      }

  pub record GoodTerm (p : SurfaceTermTree) : Type 0 where
    pub numbered : numbered_term names text p ≡ Some (term_of names text p)
    pub fits : term_fits names (term_of names text p) ≡ true
    pub spelled : pieces_text text (surface_pieces p) ≡ term_text names (term_of names text p)
    pub reads : reads_only readable (term_of names text p) ≡ true

  record GoodTerms (ps : SurfaceTermTrees) : Type 0 where
    numbered : numbered_terms names text ps ≡ Some (terms_of names text ps)
    fit : terms_fit names (terms_of names text ps) ≡ true
    spelled : pieces_text text (surfaces_pieces ps) ≡ arguments_text names (terms_of names text ps)
    read : read_only readable (terms_of names text ps) ≡ true

  module _ (line : ℕ) where
    mutual
      pub good_term : (p : SurfaceTermTree) → AllByRecursion IsUsed (term_uses text line p) → GoodTerm p
      good_term (bare at) k =
          let u : IsUsed (read_use text line at) = k.0 in
          record {
            numbered = ap (option_map signal) u.name.number;
            fits = u.fits;
            spelled = append-nil (name_bytes text at) ∙ sym u.name.spelled;
            reads = u.read refl;
          }
      good_term (applied at ps) k =
          let u : IsUsed (applied_use text line Function at (count_of_surfaces ps)) = k.0 in
          let g : GoodTerms ps = good_terms ps k.1 in
          record {
            numbered = rw (u.name.number, g.numbered) refl;
            fits = and_from _ _ (ap (λ n. is_name names (number_at names text at) Function n && is_usable_at names (number_at names text at)) (count_is names text ps) ∙ u.fits)
                g.fit;
            spelled = applied_spelled names text at ps u.name.spelled g.spelled;
            reads = g.read;
          }

      good_terms : (ps : SurfaceTermTrees) → AllByRecursion IsUsed (terms_uses text line ps) → GoodTerms ps
      good_terms no_surfaces k = record { numbered = refl; fit = refl; spelled = refl; read = refl }
      good_terms (more_surfaces p ps) k =
          let head : GoodTerm p = good_term p (each_left IsUsed (term_uses text line p) (terms_uses text line ps) k) in
          let rest : GoodTerms ps = good_terms ps (each_right IsUsed (term_uses text line p) (terms_uses text line ps) k) in
          record {
            numbered = rw (head.numbered, rest.numbered) refl;
            fit = and_from _ _ head.fits rest.fit;
            spelled = ap (λ zs. codes " " ++ zs) (pieces_append text (argument_pieces p (surface_pieces p)) (surfaces_pieces ps)
                ∙ (λ i. argument_spelled names text p (term_text names (term_of names text p)) head.spelled i ++ rest.spelled i));
            read = and_from _ _ head.reads rest.read;
          }

    -- so may be written what is a surface term
    pub term_writable : (p : SurfaceTermTree) → GoodTerm p → is_surface text p ≡ true → term_is_writable names (term_of names text p) ≡ true
    term_writable p g is = and_from _ _ g.fits (ap (λ d. nat_le d deepest) (brackets_are names text p) ∙ (and_parts (surface_stands text p) _ is).1)

  pub record GoodTest (p : SurfaceTermTree) : Type 0 where
    pub numbered : numbered_test names text p ≡ Some (test_of names text p)
    pub fits : probe_fits names (test_of names text p) ≡ true
    pub spelled : pieces_text text (surface_pieces p) ≡ probe_text names (test_of names text p)
    pub reads : read_only readable (test_of names text p).arguments ≡ true

  module _ (line : ℕ) where
    pub good_test : (p : SurfaceTermTree) → AllByRecursion IsUsed (test_uses text line p) → GoodTest p
    good_test (bare at) k =
        let u : IsUsed (tested_use text line at) = k.0 in
        let q : HasNumber names question_entry = u.asked refl in
        record {
          numbered = rw (u.name.number, q.number) refl;
          fits = and_from _ _ (and_from _ _ q.named (and_from _ _ u.fits refl)) (rw q.asks (search rules));
          spelled = rw (q.asks, u.name.spelled) (append-nil (name_bytes text at));
          reads = and_from _ _ (u.read refl) refl;
        }
    good_test (applied at ps) k =
        let u : IsUsed (applied_use text line Predicate at (count_of_surfaces ps)) = k.0 in
        let g : GoodTerms ps = good_terms line ps k.1 in
        let parts = and_parts _ _ u.fits in
        record {
          numbered = rw (u.name.number, g.numbered) refl;
          fits = and_from _ _ (and_from _ _ (ap (is_name names (number_at names text at) Predicate) (count_is names text ps) ∙ parts.0) g.fit)
              (ap (λ b. b || (is_question names (number_at names text at) && are_one_signal (terms_of names text ps))) parts.1);
          spelled = applied_spelled names text at ps u.name.spelled g.spelled
              ∙ sym (ap (λ b. cond b (question_text names (test_of names text (applied at ps)) (terms_of names text ps)) (application_text names
              (test_of names text (applied at ps)))) u.other);
          reads = g.read;
        }

    pub test_writable : (p : SurfaceTermTree) → GoodTest p → is_surface text p ≡ true → probe_is_writable names (test_of names text p) ≡ true
    test_writable p g is =
        and_from _ _ g.fits (ap (λ d. nat_le d deepest) (test_brackets_are names text p) ∙ (and_parts (surface_stands text p) _ is).1)
