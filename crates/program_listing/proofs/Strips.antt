-- Bytes at the front of what is left.
use Rattle.std.proofs.Common.{◌≡◌, ℕ, ◌+◌, List, [], ◌∷◌, ◌++◌, length, Option, Some, None, option_map, IfSome, refl, ap, ◌∙◌}
use Rattle.line_formats.specs.Format.{strip}
use Rattle.line_formats.proofs.FormatLaws.{strip_again, strip_sound, strip_none}
use Rattle.program_listing.specs.LineText.{word, Place, Stand}
use Rattle.program_listing.specs.internal.LineReading.{past}

module _ (w : List ℕ) (p : Place) where
  abbrev after : List ℕ → Place
  after rest = record { at = p.at + length w; bytes = rest }

  pub past_found : (rest : List ℕ) → p.bytes ≡ w ++ rest → past w p ≡ Some (record { at = p.at + length w; bytes = rest })
  past_found rest e = ap (option_map after) (ap (strip w) e ∙ strip_again w rest)

  pub past_none : ((rest : List ℕ) → p.bytes ≡ w ++ rest → ⊥) → past w p ≡ None
  past_none other = ap (option_map after) (strip_none w p.bytes other)

  pub past_sound : IfSome (past w p) (λ q. Stand (word w ∷ []) p q)
  past_sound = by (strip w p.bytes) refl where
    by : (o : Option (List ℕ)) → strip w p.bytes ≡ o → IfSome (option_map after o) (λ q. Stand (word w ∷ []) p q)
    by None h = tt
    by (Some rest) h = (rest, strip_sound w p.bytes rest h, refl)
