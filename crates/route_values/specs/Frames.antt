-- Numbered frames (profile).
use Rattle.std.specs.Prelude.{ℕ, Bool, true, false, ◌&&◌, ◌||◌, nat_le, List, Option, Some, None, if◌then◌else◌}
use Rattle.subj.specs.declared.limits.TheConstants.{MAX_COUNTER}
use Rattle.route_values.specs.declared.bodies.Body.{Body}
use Rattle.route_values.specs.declared.bodies.Body.TheVariants.{Plus, Minus, Snapshot, Msg}

-- who sends it, in which incarnation; to whom, and in which of its incarnations; the number; and
-- what it says
pub record Frame : Type 0 where
  pub from : List ℕ
  pub inc : ℕ
  pub to : List ℕ
  pub to_inc : ℕ
  pub number : ℕ
  pub body : Body

abbrev pub is_snapshot : Body → Bool
is_snapshot (Plus key) = false
is_snapshot (Minus key) = false
is_snapshot (Snapshot keys) = true
is_snapshot (Msg message queues) = false

-- numbers count from 1; a snapshot may come before the first change
abbrev pub is_number : ℕ → Body → Bool
is_number number body = nat_le number MAX_COUNTER && (nat_le 1 number || is_snapshot body)

abbrev pub frame_of : List ℕ → ℕ → List ℕ → ℕ → ℕ → Body → Option Frame
frame_of from inc to to_inc number body =
    if is_number number body
    then Some (record {
      from = from;
      inc = inc;
      to = to;
      to_inc = to_inc;
      number = number;
      body = body;
    })
    else None
