-- Numbers that stand twice, among numbers and among options.
use Rattle.std.proofs.Common.{◌≡◌, ◌∙◌, ℕ, List, map, Option, Some, sym, ap, arith, ⊎_elim}
use Rattle.std.proofs.lemmas.Bool.{cases_lt}
use Rattle.std.specs.Prelude.{option_map, slice_get}
use Rattle.std.proofs.lemmas.Option.{same_Some, slice_get-map}
use Rattle.base_library.proofs.Options.{some_mapped}
use Rattle.entry_names.specs.Needed.{IsRepeat, IsFirstRepeat, HasNoRepeat}

slice_some : (ns : List ℕ) (k n : ℕ) → slice_get ns k ≡ Some n → slice_get (map (λ (n : ℕ). Some n) ns) k ≡ Some (Some n)
slice_some ns k n h = slice_get-map (λ n. Some n) ns k ∙ ap (option_map (λ n. Some n)) h

some_slice : (ns : List ℕ) (k : ℕ) (m : Option ℕ) → slice_get (map (λ (n : ℕ). Some n) ns) k ≡ Some m →
    (n : ℕ) × (slice_get ns k ≡ Some n) × (m ≡ Some n)
some_slice ns k m h =
    let n = some_mapped (λ (n : ℕ). Some n) (slice_get ns k) m (sym (slice_get-map (λ n. Some n) ns k) ∙ h) in
    (n.0, n.1, sym n.2)

repeat_of_some : (ns : List ℕ) (at : ℕ) → IsRepeat (map (λ (n : ℕ). Some n) ns) at → IsRepeat ns at
repeat_of_some ns at r =
    let a = some_slice ns r.earlier r.member r.first in
    let b = some_slice ns at r.member r.again in
    let same : b.0 ≡ a.0 = same_Some b.0 a.0 (sym b.2 ∙ a.2) in
    record { earlier = r.earlier; before = r.before; member = a.0; first = a.1; again = b.1 ∙ ap (λ n. Some n) same }

some_repeat : (ns : List ℕ) (at : ℕ) → IsRepeat ns at → IsRepeat (map (λ (n : ℕ). Some n) ns) at
some_repeat ns at r = record {
  earlier = r.earlier;
  before = r.before;
  member = Some r.member;
  first = slice_some ns r.earlier r.member r.first;
  again = slice_some ns at r.member r.again;
}

pub once_some : (os : List (Option ℕ)) (ns : List ℕ) → os ≡ map (λ n. Some n) ns → HasNoRepeat ns → HasNoRepeat os
once_some os ns is once at r = once at (repeat_of_some ns at (rw is at r))

pub first_some : (os : List (Option ℕ)) (ns : List ℕ) (at : ℕ) → os ≡ map (λ n. Some n) ns → IsFirstRepeat ns at → IsFirstRepeat os at
first_some os ns at is h = rw is (record {
  repeat = some_repeat ns at h.repeat;
  none_before = λ i less r. h.none_before i less (repeat_of_some ns i r);
})

-- the first place that repeats an earlier one is one place
pub one_repeat : {A : Type 0} (xs : List A) (i j : ℕ) → IsFirstRepeat xs i → IsFirstRepeat xs j → i ≡ j
one_repeat xs i j h k =
    ⊎_elim (λ less. absurd (k.none_before i less h.repeat))
    (λ back. ⊎_elim (λ less. absurd (h.none_before j less k.repeat)) (λ forth. omega (arith, back, forth)) (cases_lt j i))
    (cases_lt i j)
