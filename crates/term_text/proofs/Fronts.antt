-- Where a run of bytes ends: facts about bytes and lists alone.
use Rattle.std.proofs.Common.{◌≡◌, ℕ, Bool, List, [], ◌∷◌, IsTrue, eqb, refl, arith}
use Rattle.std.specs.Char.{is_ascii_digit}
use Rattle.std.specs.List.{list_all}
use Rattle.std.proofs.lemmas.Bool.Decides.{nat_tests}
use Rattle.std.proofs.lemmas.Bool.{and_parts, and_from}
use Rattle.tsl_text.specs.Names.{is_name_start, is_name_byte, is_name_text}
pub use Rattle.base_library.proofs.Lists.{heads, tails}
pub use Rattle.tsl_text.proofs.Fronts.{begins, other_front, one_run}

abbrev pub is_space : ℕ → Bool
is_space c = eqb c 32

abbrev pub is_round : ℕ → Bool
is_round c = eqb c 40

pub no_digit_begins : (c : ℕ) → IsTrue (is_name_start c) → IsTrue (is_ascii_digit c) → ⊥
no_digit_begins c h d = grind (arith, nat_tests)

pub no_bracket_begins : (c : ℕ) → IsTrue (is_name_start c) → 40 ≡ c → ⊥
no_bracket_begins c h e = grind (arith, nat_tests)

begun_continues : (c : ℕ) → IsTrue (is_name_start c) → IsTrue (is_name_byte c)
begun_continues c h = grind (arith, nat_tests)

-- a name is a run of its letters, and begins with one that begins a name
pub name_run : (text : List ℕ) → IsTrue (is_name_text text) → IsTrue (list_all is_name_byte text)
name_run [] h = refl
name_run (c ∷ cs) h =
    let parts = and_parts (is_name_start c) (list_all is_name_byte cs) h in
    and_from (is_name_byte c) (list_all is_name_byte cs) (begun_continues c parts.0) parts.1

pub name_first : (text : List ℕ) → IsTrue (is_name_text text) → (c : ℕ) × (cs : List ℕ) × (text ≡ c ∷ cs) × IsTrue (is_name_start c)
name_first [] h = absurd (cc)
name_first (c ∷ cs) h = (c, cs, refl, (and_parts (is_name_start c) (list_all is_name_byte cs) h).0)
