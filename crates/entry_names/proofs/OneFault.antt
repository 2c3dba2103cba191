-- Entries have one fault, and none where each needed name has one.
use Rattle.std.proofs.Common.{ℕ, List, not, refl, sym, inl, inr}
use Rattle.std.specs.Prelude.{◌≢◌}
use Rattle.std.specs.List.{find}
use Rattle.tsl_terms.specs.Name.{Name}
use Rattle.entry_names.specs.declared.locating.EntryFault.{EntryFault}
use Rattle.entry_names.specs.declared.locating.EntryFault.TheVariants.{Unknown, Twice, Missing, NoMemory}
use Rattle.entry_names.specs.Entries.{Subject, is_known, numbers_of, has_no_entry, AreWhole, HasEntryFault}
use Rattle.base_library.proofs.Causes.{Causes}
use Rattle.entry_names.proofs.OneCause.{misnamed}

module _ (names : List Name) (needed : List ℕ) (entries : List Subject) where
  abbrev in_order : Causes EntryFault
  in_order =
      misnamed (λ (e : Subject). e.name.token) Unknown Twice Missing (find (λ e. not (is_known names needed e)) entries)
      (numbers_of names entries) entries (find (has_no_entry names entries) needed)

  pub has : (fault : EntryFault) → HasEntryFault names needed entries fault → fault ≢ NoMemory → in_order.Has fault
  has (Unknown s f) h other = inl (h.entry, h.first, sym (λ i. Unknown (h.starts i) (h.ends i)))
  has (Twice s f) h other =
      inr (h.known, inl ((h.at, h.entry), (h.first, h.there), sym (λ i. Twice (h.starts i) (h.ends i))))
  has (Missing id) h other = inr (h.so_far.known, inr (h.so_far.once, (id, h.first, refl)))
  has NoMemory h other = absurd (other refl)

  pub passes : AreWhole names needed entries → in_order.Passes
  passes h = (h.so_far.known, (h.so_far.once, h.whole))

  abbrev pub misplaced : Causes EntryFault
  misplaced = record {
    Passes = AreWhole names needed entries;
    Has = λ fault. HasEntryFault names needed entries fault × (fault ≢ NoMemory);
    refuses = λ fault h whole. in_order.refuses fault (has fault h.0 h.1) (passes whole);
    one = λ a b h k. in_order.one a b (has a h.0 h.1) (has b k.0 k.1);
  }
