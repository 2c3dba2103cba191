-- Internal: only private functions and proofs of this crate use these words. Marks that take two bits each.
use Rattle.std.specs.Prelude.{ℕ, zero, suc, ◌+◌, ◌*◌, ◌/◌, ◌%◌, ◌^◌, List, map, slice_index_or}
use Rattle.std.specs.List.{range_with_len}
use Rattle.loop_acceptance.specs.declared.marks.Mark.{Mark}
use Rattle.loop_acceptance.specs.declared.marks.Mark.TheVariants.{New, Open, Done, Red}

-- the number that stands for a mark, and back
abbrev pub number_of : Mark → ℕ
number_of New = 0
number_of Open = 1
number_of Done = 2
number_of Red = 3

abbrev pub mark_of : ℕ → Mark
mark_of zero = New
mark_of (suc zero) = Open
mark_of (suc (suc zero)) = Done
mark_of (suc (suc (suc n))) = Red

-- the two bits at a place of a byte, from 0 to 3
abbrev pub bits_at : ℕ → ℕ → ℕ
bits_at byte place = byte / 2 ^ (2 * place) % 4

abbrev pub mark_at : ℕ → ℕ → Mark
mark_at byte place = mark_of (bits_at byte place)

-- The place of a node's mark, where there are so many states: blocks of 16 positions follow each other, in a block the states, and of
-- each state the positions.
abbrev pub place_of : ℕ → ℕ → ℕ
place_of states node = (node / states / 16 * states + node % states) * 16 + node / states % 16

-- how many places the blocks of so many nodes have
abbrev pub room_for : ℕ → ℕ → ℕ
room_for states count = (count / states / 16 + 1) * states * 16

-- so many marks at their places, of which each byte has four
abbrev pub marks_in : ℕ → ℕ → List ℕ → List Mark
marks_in states count bytes =
    map (λ node. mark_at (slice_index_or bytes (place_of states node / 4) 0) (place_of states node % 4)) (range_with_len 0 count)
