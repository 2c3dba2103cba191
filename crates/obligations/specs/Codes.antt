-- A number that is made of a list of numbers, by which lists that differ are told apart quickly; equal lists have equal ones.
use Rattle.std.specs.Prelude.{ℕ, ◌*◌, ◌%◌, ◌^◌, List, fold, bit_xor}

abbrev pub numbers_code : List ℕ → ℕ
numbers_code ns = fold (λ code n. (bit_xor code n * 1099511628211) % 2 ^ 64) 1 ns
