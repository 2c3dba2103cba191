-- What a source and a sink in memory are.
use Rattle.std.specs.Prelude.{ℕ, ◌-◌, List, length, Contains}
use Rattle.tsl_io.specs.Faults.{next_count}

-- which calls of a device fail, and how many were made so far
pub record Calls : Type 0 where
  -- the ordinals, from 1, of the calls that fail
  pub named : List ℕ
  pub made : ℕ
  pub faults : ℕ

-- none was made
abbrev pub no_calls : List ℕ → Calls
no_calls named = record { named = named; made = 0; faults = 0 }

-- the ordinal of the next call is named
abbrev pub FailsNext : Calls → Type 0
FailsNext calls = Contains calls.named (next_count calls.made)

-- one more, which did not fail
abbrev pub with_success : Calls → Calls
with_success calls = record calls { made = next_count calls.made }

-- one more, which failed
abbrev pub with_fault : Calls → Calls
with_fault calls = record calls { made = next_count calls.made; faults = next_count calls.faults }

-- a source: the bytes that are left, and the most that one call gives
pub record SourceState : Type 0 where
  pub left : List ℕ
  pub piece : ℕ
  pub calls : Calls

-- a sink: the bytes that were written, how many of them were there when a flush last succeeded, how many it has room for
-- in all, and the most that one call takes
pub record SinkState : Type 0 where
  pub written : List ℕ
  pub flushed : ℕ
  pub room : ℕ
  pub piece : ℕ
  pub calls : Calls

-- how many more bytes a sink has room for
abbrev pub room_left : SinkState → ℕ
room_left sink = sink.room - length sink.written
