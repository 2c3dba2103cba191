-- Literals whose variables are so many further on, put between others.
use Rattle.std.proofs.Common.{◌≡◌, ◌∙◌, ◌<◌, ◌≤◌, ◌+◌, ◌^◌, ℕ, suc, List, [], ◌∷◌, ◌++◌, map, filter, not, length, refl, sym, ap, arith, length-append, slice_set, take, All, append_assoc, get_or}
use Rattle.std.specs.List.{AllByRecursion}
use Rattle.std.proofs.lemmas.List.{map_more, length-map, length-take-le, take_all}
use Rattle.std.proofs.lemmas.List.Elements.{All-from_recursion}
use Rattle.std.proofs.Math.Seq.{set-append_seam}
use Rattle.base_library.proofs.Each.{each_map, each_weaker}
use Rattle.ltl_formula.specs.Cubes.{has_bit}
use Rattle.clause_core.specs.Literals.{Lit}
use Rattle.cobuchi_automata.specs.Automata.{EdgeTree}
use Rattle.bounded_encoding.specs.ClauseLists.{below}
use Rattle.bounded_encoding.specs.Sides.{differing}
use Rattle.bounded_encoding.specs.internal.Transitions.{moved, IsAround, IsRoom}
use Rattle.bounded_encoding.proofs.Gathering.{below_filtered}

-- what is asked for of variables from 0 on, moved
pub moved_differing : (base first bits : ℕ) (e : EdgeTree) → map (moved base) (differing 0 first bits e) ≡ differing base first bits e
moved_differing base first bits e = over (filter (λ b. has_bit (first + b) e.care) (below bits))
  where
    over : (bs : List ℕ) → map (moved base) (map (λ b. record { index = 0 + b; positive = not (has_bit (first + b) e.want) }) bs) ≡
        map (λ b. record { index = base + b; positive = not (has_bit (first + b) e.want) }) bs
    over [] = refl
    over (b ∷ bs) =
        let place : base + (0 + b) ≡ base + b = omega arith in
        λ i. record { index = place i; positive = not (has_bit (first + b) e.want) } ∷ over bs i

pub asked_fits : (base first bits : ℕ) (e : EdgeTree) (asked : List Lit) → base + bits < 2 ^ 31 → asked ≡ differing 0 first bits e →
    All (λ l. base + l.index + 1 < 2 ^ 31) asked
asked_fits base first bits e asked few is = rw is (All-from_recursion (λ l. base + l.index + 1 < 2 ^ 31) (differing 0 first bits e)
    (each_map (λ l. base + l.index + 1 < 2 ^ 31) (λ b. record { index = 0 + b; positive = not (has_bit (first + b) e.want) })
    (filter (λ b. has_bit (first + b) e.care) (below bits))
    (each_weaker (λ b. b < bits) (λ b. base + (0 + b) + 1 < 2 ^ 31) (λ b h. omega (arith, few, h))
    (filter (λ b. has_bit (first + b) e.care) (below bits))
    (below_filtered bits (λ b. has_bit (first + b) e.care) 0 bits (omega arith)))))

-- the first ones are put, and as many as are left to put stand behind them, with one more
pub record IsPut (base place : ℕ) (asked literals : List Lit) : Type 0 where
  pub first : Lit
  pub second : Lit
  pub old : Lit
  pub rest : List Lit
  pub is : literals ≡ first ∷ second ∷ (map (moved base) (take place asked) ++ old ∷ rest)
  pub left : place + length rest ≡ length asked

module _ (base : ℕ) (asked literals : List Lit) where
  pub put_none : length literals ≡ length asked + 3 → IsPut base 0 asked literals
  put_none long = by literals long
    where
      by : (ls : List Lit) → length ls ≡ length asked + 3 → IsPut base 0 asked ls
      by [] h = absurd (omega (arith, h))
      by (a ∷ []) h = absurd (omega (arith, h))
      by (a ∷ b ∷ []) h = absurd (omega (arith, h))
      by (a ∷ b ∷ c ∷ rest) h = record { first = a; second = b; old = c; rest = rest; is = refl; left = omega (arith, h) }

  pub put_more : (place : ℕ) (d l : Lit) → place < length asked → l ≡ moved base (get_or asked place d) → IsPut base place asked literals →
      IsPut base (place + 1) asked (slice_set literals (place + 2) l)
  put_more place d l inside one put = by put.rest put.is put.left
    where
      by : (rest : List Lit) → literals ≡ put.first ∷ put.second ∷ (map (moved base) (take place asked) ++ put.old ∷ rest) →
          place + length rest ≡ length asked → IsPut base (place + 1) asked (slice_set literals (place + 2) l)
      by [] is left = absurd (omega (arith, inside, left))
      by (next ∷ rest) is left =
          let front : List Lit = map (moved base) (take place asked) in
          let long : length front ≡ place = length-map (take place asked) (moved base) ∙ length-take-le place asked (omega (arith, inside)) in
          let at : place + 2 ≡ suc (suc (length front)) = omega (arith, long) in
          record {
            first = put.first;
            second = put.second;
            old = next;
            rest = rest;
            is = (λ i. slice_set (is i) (at i) l)
                ∙ ap (λ (ls : List Lit). put.first ∷ put.second ∷ ls)
                (set-append_seam front put.old (next ∷ rest) l
                ∙ (ap (λ (m : Lit). front ++ m ∷ next ∷ rest) one
                ∙ (sym (append_assoc front (moved base (get_or asked place d) ∷ []) (next ∷ rest))
                ∙ ap (λ (ls : List Lit). ls ++ next ∷ rest) (sym (map_more (moved base) asked place d inside)))));
            left = omega (arith, left);
          }

  pub put_all : (place : ℕ) → length asked ≤ place → IsPut base place asked literals → IsRoom (map (moved base) asked) literals
  put_all place past put = by put.rest put.is put.left
    where
      all : take place asked ≡ asked
      all = take_all place asked past

      by : (rest : List Lit) → literals ≡ put.first ∷ put.second ∷ (map (moved base) (take place asked) ++ put.old ∷ rest) →
          place + length rest ≡ length asked → IsRoom (map (moved base) asked) literals
      by [] is left = record {
        second = put.second;
        around = record {
          first = put.first;
          last = put.old;
          is = is ∙ ap (λ (ls : List Lit). put.first ∷ put.second ∷ (map (moved base) ls ++ put.old ∷ [])) all;
        };
      }
      by (next ∷ rest) is left = absurd (omega (arith, past, left))

-- room for so many literals is as long
pub room_length : (middle literals : List Lit) → IsRoom middle literals → length literals ≡ length middle + 3
room_length middle literals room =
    ap length room.around.is ∙ omega (arith, length-append middle (room.around.last ∷ []))

-- the literal of a next state in place
pub next_put : (middle literals : List Lit) (l : Lit) → IsRoom middle literals → IsAround (l ∷ middle) (slice_set literals 1 l)
next_put middle literals l room = record {
  first = room.around.first;
  last = room.around.last;
  is = ap (λ (ls : List Lit). slice_set ls 1 l) room.around.is;
}
