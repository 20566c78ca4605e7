-- What a route's INFO and CONNECT hold (profile).
use Rattle.std.specs.Prelude.{ℕ, Bool, ◌&&◌, nat_le, List, Option, Some, None, if◌then◌else◌}
use Rattle.subj.specs.declared.limits.TheConstants.{MAX_COUNTER}

-- the server that accepted, and its incarnation
pub record Info : Type 0 where
  pub server_name : List ℕ
  pub inc : ℕ

-- the server that dialed, the one that it dialed, as it knows them, and the serial of the dial
pub record Connect : Type 0 where
  pub server_name : List ℕ
  pub inc : ℕ
  pub to : List ℕ
  pub to_inc : ℕ
  pub serial : ℕ

abbrev pub is_serial : ℕ → Bool
is_serial serial = nat_le 1 serial && nat_le serial MAX_COUNTER

abbrev pub connect_of : List ℕ → ℕ → List ℕ → ℕ → ℕ → Option Connect
connect_of server_name inc to to_inc serial =
    if is_serial serial
    then Some (record {
      server_name = server_name;
      inc = inc;
      to = to;
      to_inc = to_inc;
      serial = serial;
    })
    else None
