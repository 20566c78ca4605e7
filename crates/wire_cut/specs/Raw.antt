-- What a reader or a writer of std is wrapped in.
use Rattle.std.specs.Prelude.{ℕ}
use Rattle.wire_cut.specs.declared.raw.Raw.{Raw}

-- the reader or writer itself
abbrev pub raw_inner : {T : Type 0} → Raw T → T
raw_inner r = r.inner

-- how many reads were made
abbrev pub raw_reads : {T : Type 0} → Raw T → ℕ
raw_reads r = r.reads.value

-- how many calls failed
abbrev pub raw_failures : {T : Type 0} → Raw T → ℕ
raw_failures r = r.failures.value
