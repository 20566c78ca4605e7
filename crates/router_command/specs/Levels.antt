-- The levels of what standard error tells. (Profile.)
use Rattle.std.specs.Prelude.{ℕ, List, Option, Some, None, codes, if◌then◌else◌}
use Rattle.std.specs.Str.{bytes_eq}
use Rattle.log.specs.declared.level.LevelFilter.{LevelFilter}
use Rattle.log.specs.declared.level.LevelFilter.TheVariants.{Error, Warn, Info, Debug}

-- the level that a text names
abbrev pub level_named : List ℕ → Option LevelFilter
level_named text =
    if bytes_eq text (codes "error") then Some Error
    else (if bytes_eq text (codes "warn") then Some Warn
    else (if bytes_eq text (codes "info") then Some Info
    else (if bytes_eq text (codes "debug") then Some Debug else None)))
