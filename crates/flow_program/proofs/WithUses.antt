-- Names that grow by uses.
use Rattle.std.proofs.Common.{◌≡◌, ℕ, ◌+◌, ◌≤◌, List, [], ◌∷◌, ◌++◌, length, refl, ap, sym, subst, ◌∙◌}
use Rattle.std.proofs.Common.{append_assoc, arith, length-append, ◌^◌, ◌<◌, get_or, drop, map}
use Rattle.std.specs.Prelude.{flat_map}
use Rattle.flow_program.specs.declared.uses.SpelledUse.{SpelledUse}
use Rattle.flow_program.specs.Uses.{entries_of_use, names_after}
use Rattle.flow_program.specs.internal.UseView.{use_view}
use Rattle.std.specs.Prelude.{Option, Some, None, IsSomeAnd, IsTrue}
use Rattle.std.specs.List.{list_all}
use Rattle.std.proofs.lemmas.Bool.{and_parts}
use Rattle.std.proofs.lemmas.List.{append-nil, drop_more}
use Rattle.std.proofs.Math.Seq.{take-append_seam}
use Rattle.base_library.proofs.Places.{slice_get-behind}
use Rattle.base_library.proofs.Passes.{list_all_push}
use Rattle.tsl_terms.specs.Name.{Name, number_of, AreDistinct}
use Rattle.tsl_terms.specs.Clashes.{added_unless_found, with_use, with_uses, first_uses}
use Rattle.tsl_terms.specs.WellFormed.{name_fits}
use Rattle.tsl_terms.proofs.FirstUses.{grows}
use Rattle.tsl_terms.proofs.NameLemmas.{absent_before}

-- uses in two parts
pub with_uses_append : (names xs ys : List Name) → with_uses names (xs ++ ys) ≡ with_uses (with_uses names xs) ys
with_uses_append names [] ys = refl
with_uses_append names (x ∷ xs) ys = with_uses_append (with_use names x) xs ys

-- a name that stands nowhere before has no number
absent : (kept : List Name) (x : Name) (xs : List Name) → AreDistinct (kept ++ x ∷ xs) → number_of kept x.text ≡ None
absent kept x xs distinct =
    ap (λ names. number_of names x.text) (sym (take-append_seam kept (x ∷ xs)))
    ∙ absent_before (kept ++ x ∷ xs) (length kept) x.text distinct
    (subst (λ found. IsSomeAnd found (λ name. x.text ≡ name.text)) (sym (slice_get-behind kept x xs)) refl)

-- distinct names are added as they are
pub distinct_are : (xs kept : List Name) → AreDistinct (kept ++ xs) → with_uses kept xs ≡ kept ++ xs
distinct_are [] kept h = sym (append-nil kept)
distinct_are (x ∷ xs) kept h =
    ap (λ found. with_uses (added_unless_found kept x found) xs) (absent kept x xs h)
    ∙ distinct_are xs (kept ++ x ∷ []) (subst AreDistinct (sym (append_assoc kept (x ∷ []) xs)) h)
    ∙ append_assoc kept (x ∷ []) xs

-- names after given ones are the first uses of both
pub are_first : (given us : List Name) → AreDistinct given → with_uses given us ≡ first_uses (given ++ us)
are_first given us distinct =
    ap (λ names. with_uses names us) (sym (distinct_are given [] distinct)) ∙ sym (with_uses_append [] given us)

-- names that may be written stay so
added_fits : (names : List Name) (u : Name) (found : Option ℕ) → IsTrue (list_all name_fits names) → IsTrue (name_fits u) →
    IsTrue (list_all name_fits (added_unless_found names u found))
added_fits names u (Some number) fit fits = fit
added_fits names u None fit fits = list_all_push name_fits names u fit fits

pub names_fit : (us names : List Name) → IsTrue (list_all name_fits names) → IsTrue (list_all name_fits us) →
    IsTrue (list_all name_fits (with_uses names us))
names_fit [] names fit fits = fit
names_fit (u ∷ us) names fit fits =
    let parts = and_parts (name_fits u) (list_all name_fits us) fits in
    names_fit us (with_use names u) (added_fits names u (number_of names u.text) fit parts.0) parts.1

-- the names of one use are few where those of all are
pub use_is_few : (names all : List Name) (us : List SpelledUse) (i : ℕ) (d : SpelledUse) → i < length us →
    names_after names (map use_view (drop i us)) ≡ all → length all < 2 ^ 32 →
    length (with_uses names (entries_of_use (use_view (get_or us i d)))) < 2 ^ 32
use_is_few names all us i d within h few =
    let rest = flat_map entries_of_use (map use_view (drop (i + 1) us)) in
    let new = entries_of_use (use_view (get_or us i d)) in
    let whole : with_uses (with_uses names new) rest ≡ all =
    sym (with_uses_append names new rest)
    ∙ sym (ap (λ vs. names_after names (map use_view vs)) (drop_more us i d within)) ∙ h in
    omega (arith, few, ap length whole, grows rest (with_uses names new))
