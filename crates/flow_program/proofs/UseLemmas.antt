-- How many uses surface terms have.
use Rattle.std.proofs.Common.{◌≡◌, ℕ, zero, suc, ◌+◌, ◌<◌, ◌≤◌, List, [], ◌∷◌, ◌++◌, length, get_or, drop, map, ap, ◌∙◌, arith}
use Rattle.std.proofs.Common.{length-append}
use Rattle.base_library.proofs.Lists.{left_at}
use Rattle.program_listing.specs.declared.listing.Name.{Name}
use Rattle.program_listing.specs.Listing.{SurfaceTermTree, bare, applied, SurfaceTermTrees, no_surfaces, more_surfaces, count_of_surfaces}
use Rattle.flow_program.specs.Uses.{ProgramUse, signal_use, line_uses, term_uses, terms_uses}
use Rattle.flow_program.specs.Uses.{declared_uses}

module _ (text : List ℕ) (line : ℕ) where
  term_is_one : (p : SurfaceTermTree) → 1 ≤ length (term_uses text line p)
  term_is_one (bare at) = omega arith
  term_is_one (applied at ps) = omega arith

  -- a list of surface terms has not more members than uses
  pub count_within : (ps : SurfaceTermTrees) → count_of_surfaces ps ≤ length (terms_uses text line ps)
  count_within no_surfaces = omega arith
  count_within (more_surfaces p ps) =
      omega (arith, term_is_one p, count_within ps, length-append (term_uses text line p) (terms_uses text line ps))

-- the uses of lines that are numbered

shift : (line i : ℕ) → suc line + i ≡ line + suc i
shift line i = omega arith

next_line : (line i : ℕ) → suc (line + i) ≡ line + (i + 1)
next_line line i = omega arith

module _ {X Z : Type 0} (uses : ℕ → X → List ProgramUse) (view : Z → X) where
  -- where the uses of lines are few together, those of each are
  line_within : (line : ℕ) (zs : List Z) (i : ℕ) (d : Z) → i < length zs →
      length (uses (line + i) (view (get_or zs i d))) ≤ length (line_uses uses line (map view zs))
  line_within line [] i d h = absurd (omega (arith, h))
  line_within line (z ∷ zs) zero d h =
      let here : line + 0 ≡ line = omega arith in
      omega (
        arith,
        ap (λ k. length (uses k (view z))) here,
        length-append (uses line (view z)) (line_uses uses (suc line) (map view zs)),
      )
  line_within line (z ∷ zs) (suc i) d h =
      omega (
        arith,
        line_within (suc line) zs i d (omega (arith, h)),
        ap (λ k. length (uses k (view (get_or zs i d)))) (shift line i),
        length-append (uses line (view z)) (line_uses uses (suc line) (map view zs)),
      )

  pub line_is_few : (line : ℕ) (zs : List Z) (i : ℕ) (d : Z) (most : ℕ) → length (line_uses uses line (map view zs)) < most →
      i < length zs → length (uses (line + i) (view (get_or zs i d))) < most
  line_is_few line zs i d most few within = omega (arith, few, line_within line zs i d within)

  -- those of a line, and then those of the lines after it
  pub lines_left : (line : ℕ) (zs : List Z) (i : ℕ) (z : Z) → i < length zs → z ≡ get_or zs i z →
      line_uses uses (line + i) (map view (drop i zs))
      ≡ uses (line + i) (view z) ++ line_uses uses (line + (i + 1)) (map view (drop (i + 1) zs))
  lines_left line zs i z within is =
      ap (λ ys. line_uses uses (line + i) (map view ys)) (left_at zs i z within is)
      ∙ ap (λ k. uses (line + i) (view z) ++ line_uses uses k (map view (drop (i + 1) zs))) (next_line line i)

-- declarations in two parts
pub declared_append : (text : List ℕ) (line : ℕ) (xs ys : List Name) →
    declared_uses text line (xs ++ ys) ≡ declared_uses text line xs ++ declared_uses text (line + length xs) ys
declared_append text line [] ys = ap (λ k. declared_uses text k ys) (let e : line ≡ line + 0 = omega arith in e)
declared_append text line (x ∷ xs) ys =
    ap (λ us. signal_use text line x ∷ us) (declared_append text (suc line) xs ys
    ∙ ap (λ k. declared_uses text (suc line) xs ++ declared_uses text k ys) (shift line (length xs)))
