-- The counter of a state: the number of the until that is waited for.
use Rattle.std.specs.Prelude.{ℕ, zero, suc, ◌-◌, Bool, cond, ◌==◌}

-- how far a counter rises: past each until that is not postponed, as long as there is room
abbrev pub risen : (ℕ → Bool) → ℕ → ℕ → ℕ
risen postponed zero counter = counter
risen postponed (suc room) counter = cond (postponed counter) counter (risen postponed room (suc counter))

-- whether it rises past the last of so many untils
abbrev pub passes_last : ℕ → (ℕ → Bool) → ℕ → Bool
passes_last untils postponed counter = risen postponed (untils - counter) counter == untils

-- the counter of the next state: 0 after the last until
abbrev pub advanced : ℕ → (ℕ → Bool) → ℕ → ℕ
advanced untils postponed counter = cond (passes_last untils postponed counter) 0 (risen postponed (untils - counter) counter)
