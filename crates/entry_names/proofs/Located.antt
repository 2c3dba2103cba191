-- What is known once the entries of a text have their places.
use Rattle.std.proofs.Common.{◌≡◌, ◌∙◌, ℕ, ◌<◌, not, List, length, map, Option, Some, None, refl, sym, ap, arith}
use Rattle.std.specs.Prelude.{slice_get, IsSomeAnd}
use Rattle.std.specs.List.{find}
use Rattle.std.proofs.lemmas.List.{length-map}
use Rattle.std.proofs.lemmas.Option.{slice_get_within}
use Rattle.base_library.specs.Options.{passes}
use Rattle.tsl_text.specs.declared.Token.{Token}
use Rattle.tsl_terms.specs.declared.names.NameKind.{NameKind}
use Rattle.tsl_terms.specs.Name.{Name}
use Rattle.table_syntax.specs.Syntax.{TextToken}
use Rattle.entry_names.specs.Needed.{number_for, IsFirstRepeat, HasNoRepeat}
use Rattle.entry_names.specs.Places.{ArePlaces}
use Rattle.entry_names.specs.Entries.{Subject, is_needed_as, is_known, numbers_of, AreKnown, AreOnce, AreLocated, HasUnknownEntry, HasSecondEntry}
use Rattle.entry_names.proofs.Repeats.{once_some, first_some}

-- an entry by its kind and its name
pub known_as : (names : List Name) (needed : List ℕ) (e : Subject) (kind : NameKind) (name : TextToken) → kind ≡ e.kind → name ≡ e.name →
    passes (is_needed_as names needed kind) (number_for names name) ≡ is_known names needed e
known_as names needed e kind name k n = λ i. passes (is_needed_as names needed (k i)) (number_for names (n i))

pub unknown_entry : (names : List Name) (needed : List ℕ) (entries : List Subject) (e : Subject) (name : TextToken) →
    find (λ s. not (is_known names needed s)) entries ≡ Some e → name ≡ e.name →
    HasUnknownEntry names needed entries name.token.start name.token.end
unknown_entry names needed entries e name first is = record {
  entry = e;
  first = first;
  starts = ap (λ (x : TextToken). x.token.start) is;
  ends = ap (λ (x : TextToken). x.token.end) is;
}

module _ (names : List Name) (needed : List ℕ) (entries : List Subject) (ns : List ℕ) (known : AreKnown names needed entries)
    (aligned : numbers_of names entries ≡ map (λ n. Some n) ns) where
  pub are_once : HasNoRepeat ns → AreOnce names needed entries
  are_once once = record { known = known; once = once_some _ ns aligned once }

  pub are_located : HasNoRepeat ns → (places : List (Option ℕ)) → ArePlaces (length names) ns places → AreLocated names entries places
  are_located once places placed = record { numbers = ns; numbers_are = aligned; once = once; placed = placed }

  pub repeat_within : (at : ℕ) → IsFirstRepeat ns at → at < length entries
  repeat_within at first =
      let inside : at < length ns = slice_get_within ns at first.repeat.member first.repeat.again in
      let size : length entries ≡ length ns = sym (length-map entries (λ e. number_for names e.name)) ∙ ap length aligned
      ∙ length-map ns (λ n. Some n) in
      omega (arith, inside, size)

  pub second_entry : (token : Token) (at : ℕ) → IsFirstRepeat ns at → IsSomeAnd (slice_get entries at) (λ e. token ≡ e.name.token) →
      HasSecondEntry names needed entries token.start token.end
  second_entry token at first there = by (slice_get entries at) refl there where
    by : (o : Option Subject) → slice_get entries at ≡ o → IsSomeAnd o (λ e. token ≡ e.name.token) →
        HasSecondEntry names needed entries token.start token.end
    by None e h = absurd h
    by (Some e) is h = record {
      known = known;
      at = at;
      first = first_some _ ns at aligned first;
      entry = e;
      there = is;
      starts = ap (λ (t : Token). t.start) h;
      ends = ap (λ (t : Token). t.end) h;
    }
