-- What a secret is. (Profile.)
use Rattle.std.specs.Prelude.{ℕ, ◌-◌, nat_lt, nat_eq, List, length, take, slice_index, Option, Some, None, if◌then◌else◌}
use Rattle.peer_proof.specs.declared.secret.SecretFault.{SecretFault}
use Rattle.peer_proof.specs.declared.secret.SecretFault.TheVariants.{TooShort, TooLong}
use Rattle.peer_proof.specs.declared.secret.TheConstants.{LEAST_SECRET, MOST_SECRET}

-- a single line feed at the end of a file is not part of its secret
abbrev pub without_newline : List ℕ → List ℕ
without_newline bytes =
    if nat_eq (slice_index bytes (length bytes - 1)) 10 then take (length bytes - 1) bytes
    else bytes

abbrev pub secret_fault : List ℕ → Option SecretFault
secret_fault key =
    if nat_lt (length key) LEAST_SECRET then Some TooShort
    else (if nat_lt MOST_SECRET (length key) then Some TooLong else None)
