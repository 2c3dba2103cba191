-- A name that may be written and is a signal is usable.
use Rattle.std.proofs.Common.{◌≡◌, ℕ, ◌==◌, true, false, ◌&&◌, IsTrue, List, Option, Some, None, slice_get, inl, inr, refl}
use Rattle.std.specs.List.{list_all}
use Rattle.std.specs.Option.{option_map_or}
use Rattle.std.specs.Str.{bytes_eq}
use Rattle.std.proofs.lemmas.Bool.{and_parts, and_from, or_cases, false≢true}
use Rattle.base_library.proofs.Passes.{passes_at}
use Rattle.tsl_terms.specs.declared.names.NameKind.{NameKind}
use Rattle.tsl_terms.specs.declared.names.NameKind.TheVariants.{Signal, Function, Predicate}
use Rattle.tsl_terms.specs.Name.{Name, same_kind, is_name, question}
use Rattle.tsl_text.specs.Names.{is_usable}
use Rattle.tsl_terms.specs.WellFormed.{is_usable_at, name_fits}
use Rattle.program_tree.specs.Writable.{signal_fits}

usable_if_signal : (n : Name) (kind : NameKind) → n.kind ≡ kind → name_fits n ≡ true → same_kind kind Signal ≡ true →
    is_usable n.text ≡ true
usable_if_signal n Signal is fits signal_is =
    elim (or_cases (is_usable n.text) ((bytes_eq n.text question && same_kind n.kind Predicate) && (n.arity == 1)) fits) [
      | inl usable ↦ usable
      | inr tests ↦
          let test = and_parts (bytes_eq n.text question && same_kind n.kind Predicate) (n.arity == 1) tests in
          let predicate = and_parts (bytes_eq n.text question) (same_kind n.kind Predicate) test.0 in
          absurd (false≢true (rw is at predicate.1))
    ]
usable_if_signal n Function is fits signal_is = absurd (false≢true signal_is)
usable_if_signal n Predicate is fits signal_is = absurd (false≢true signal_is)

pub signal_fits_if_named : (names : List Name) (s : ℕ) → IsTrue (list_all name_fits names) → is_name names s Signal 0 ≡ true →
    signal_fits names s ≡ true
signal_fits_if_named names s fit named =
    and_from (is_name names s Signal 0) (is_usable_at names s) named (by (slice_get names s) refl named)
  where
    by : (o : Option Name) → slice_get names s ≡ o → option_map_or (λ n. same_kind n.kind Signal && (n.arity == 0)) o false ≡ true →
        option_map_or (λ n. is_usable n.text) o false ≡ true
    by None is named = named
    by (Some n) is named =
        usable_if_signal n n.kind refl (passes_at name_fits names s n fit is) (and_parts (same_kind n.kind Signal) (n.arity == 0) named).0
