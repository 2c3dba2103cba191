-- What each line gives, all lines give.
use Rattle.std.proofs.Common.{◌≡◌, ℕ, suc, Bool, true, List, [], ◌∷◌, ◌++◌, map, refl, ◌∙◌}
use Rattle.std.specs.Prelude.{flat_map}
use Rattle.std.specs.List.{list_all, AllByRecursion}
use Rattle.std.proofs.lemmas.Bool.{and_parts}
use Rattle.base_library.proofs.Each.{each_left, each_right}
use Rattle.program_listing.specs.LineText.{Piece}
use Rattle.program_listing.proofs.ListingFacts.{pieces_text}
use Rattle.flow_program.specs.Uses.{ProgramUse, line_uses}
use Rattle.flow_program.proofs.SpelledLines.{pieces_append}

-- What the uses of a part and two tests of it give, where all uses are those of one part after another.
pub each_good : {X : Type 0} (P : ProgramUse → Type 0) (uses : X → List ProgramUse) (p q : X → Bool) (Good : X → Type 0) →
    ((x : X) → AllByRecursion P (uses x) → p x ≡ true → q x ≡ true → Good x) → (xs : List X) → AllByRecursion P (flat_map uses xs) →
    list_all p xs ≡ true → list_all q xs ≡ true → AllByRecursion Good xs
each_good P uses p q Good good [] all first second = tt
each_good P uses p q Good good (x ∷ xs) all first second =
    let a = and_parts (p x) (list_all p xs) first in
    let b = and_parts (q x) (list_all q xs) second in (
      good x (each_left P (uses x) (flat_map uses xs) all) a.0 b.0,
      each_good P uses p q Good good xs (each_right P (uses x) (flat_map uses xs) all) a.1 b.1,
    )

-- the uses of all lines are those of each line
pub lines_apart : {X : Type 0} (P : ProgramUse → Type 0) (uses : ℕ → X → List ProgramUse) (line : ℕ) (xs : List X) →
    AllByRecursion P (line_uses uses line xs) → AllByRecursion (λ x. (at : ℕ) × AllByRecursion P (uses at x)) xs
lines_apart P uses line [] all = tt
lines_apart P uses line (x ∷ xs) all = (
  (line, each_left P (uses line x) (line_uses uses (suc line) xs) all),
  lines_apart P uses (suc line) xs (each_right P (uses line x) (line_uses uses (suc line) xs) all),
)

pub all_spelled : {X Y : Type 0} (Good : X → Type 0) (make : X → Y) (text : List ℕ) (pieces : X → List Piece) (bytes : Y → List ℕ) →
    ((x : X) → Good x → pieces_text text (pieces x) ≡ bytes (make x)) → (xs : List X) → AllByRecursion Good xs →
    pieces_text text (flat_map pieces xs) ≡ flat_map bytes (map make xs)
all_spelled Good make text pieces bytes is [] all = refl
all_spelled Good make text pieces bytes is (x ∷ xs) all =
    pieces_append text (pieces x) (flat_map pieces xs) ∙ (λ i. is x all.0 i ++ all_spelled Good make text pieces bytes is xs all.1 i)
