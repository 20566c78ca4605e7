-- What is seen of a source and a sink in memory.
use Rattle.std.specs.Prelude.{ℕ, ◌-◌, ◌^◌, List, []}

pub record MemSourceState : Type 0 where
  -- the bytes that were not read yet
  pub rest : List ℕ
  -- the most that one read gives
  pub most : ℕ
  -- the read that fails, counted from the next one as 1, or 0 where none does
  pub fails_in : ℕ
  pub reads : ℕ
  pub failures : ℕ

pub record MemSinkState : Type 0 where
  -- the bytes that were written
  pub bytes : List ℕ
  -- the most that one write takes
  pub most : ℕ
  -- the write that fails, counted from the next one as 1, or 0 where none does
  pub fails_in : ℕ
  pub failures : ℕ

-- the most that a `usize` can ask for
abbrev pub any_count : ℕ
any_count = 2 ^ 64 - 1

-- a source that was not read yet and never fails
abbrev pub fresh_source : List ℕ → MemSourceState
fresh_source bytes = record {
  rest = bytes;
  most = any_count;
  fails_in = 0;
  reads = 0;
  failures = 0;
}

-- a sink that was not written to yet and never fails
abbrev pub fresh_sink : MemSinkState
fresh_sink = record { bytes = []; most = any_count; fails_in = 0; failures = 0 }
