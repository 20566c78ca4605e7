-- How a program ends (profile).
use Rattle.std.specs.Prelude.{ℕ, Bool, if◌then◌else◌}
use Rattle.clap.specs.declared.error.kind.ErrorKind.{ErrorKind}
use Rattle.clap.specs.declared.error.kind.ErrorKind.TheVariants.{DisplayVersion, OutOfMemory}

-- by what is told of a line that asks for nothing
abbrev pub status_of_line : ErrorKind → ℕ
status_of_line DisplayVersion = 0
status_of_line OutOfMemory = 1
status_of_line kind = 2

-- of a command line that asks for what the program does not do
abbrev pub bad_line : ℕ
bad_line = 2

-- by whether all was done
abbrev pub status_of_end : Bool → ℕ
status_of_end done = if done then 0 else 1
