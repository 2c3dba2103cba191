-- Texts that a test finds equal.
use Rattle.std.proofs.Common.{◌≡◌, ℕ, true, List, sym}
use Rattle.std.specs.Prelude.{bytes_eq}
use Rattle.std.proofs.lemmas.Slice.Eq.{bytes_eq-Decides}

pub same_bytes : (xs ys : List ℕ) → bytes_eq xs ys ≡ true → xs ≡ ys
same_bytes xs ys = (bytes_eq-Decides xs ys).0

pub bytes_same : (xs ys : List ℕ) → xs ≡ ys → bytes_eq xs ys ≡ true
bytes_same xs ys = (bytes_eq-Decides xs ys).1

pub bytes_turned : (xs ys : List ℕ) → bytes_eq xs ys ≡ true → bytes_eq ys xs ≡ true
bytes_turned xs ys same = bytes_same ys xs (sym (same_bytes xs ys same))
