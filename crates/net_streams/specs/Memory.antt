-- What is seen of a stream in memory.
use Rattle.std.specs.Prelude.{◌≡◌, ℕ, ◌-◌, ◌^◌, ◌+◌, min, Bool, false, ◌||◌, nat_eq, List, [], ◌++◌}
use Rattle.net_streams.specs.declared.stream.StreamFault.{StreamFault}
use Rattle.net_streams.specs.declared.stream.StreamFault.TheVariants.{WouldBlock, Failed}
use Rattle.net_streams.specs.Writes.{Came, bytes_in}

pub record MemStreamState : Type 0 where
  -- the bytes that were fed and not read yet
  pub unread : List ℕ
  -- nothing is fed any more
  pub has_ended : Bool
  -- the bytes that were written
  pub written : List ℕ
  -- how many bytes more it takes
  pub room : ℕ
  -- the most that one call gives or takes
  pub most : ℕ
  -- the call that fails, counted from the next one as 1, or 0 where none does
  pub fails_in : ℕ
  -- that call was made: all calls fail from there on
  pub has_failed : Bool
  -- how many calls have failed, up to the largest count
  pub failed_calls : ℕ

-- the largest `usize`, and the largest count
abbrev pub any_count : ℕ
any_count = 2 ^ 64 - 1

-- a stream that gives nothing yet, takes all, and never fails
abbrev pub fresh_stream : MemStreamState
fresh_stream = record {
  unread = [];
  has_ended = false;
  written = [];
  room = any_count;
  most = any_count;
  fails_in = 0;
  has_failed = false;
  failed_calls = 0;
}

-- one call more is made: it may be the one that fails
abbrev pub after_call : MemStreamState → MemStreamState
after_call s = record s {
  fails_in = s.fails_in - 1;
  has_failed = s.has_failed || nat_eq s.fails_in 1;
}

-- one call more has failed
abbrev pub after_failure : MemStreamState → MemStreamState
after_failure s = record s { failed_calls = min (s.failed_calls + 1) any_count }

-- behind a call that comes to this fault
abbrev pub after_fault : StreamFault → MemStreamState → MemStreamState
after_fault WouldBlock s = s
after_fault Failed s = after_failure s

-- a write that came to this: its bytes stand behind those that were written, and nothing is read
abbrev pub Wrote : MemStreamState → Came → MemStreamState → Type 0
Wrote old came new = (new.written ≡ old.written ++ bytes_in came) × (new.unread ≡ old.unread)

-- a read that came to this: its bytes stood in front of the others that were fed, and nothing is
-- written
abbrev pub Gave : MemStreamState → Came → MemStreamState → Type 0
Gave old came new = (old.unread ≡ bytes_in came ++ new.unread) × (new.written ≡ old.written)
