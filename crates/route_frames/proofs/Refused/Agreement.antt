-- A meaning agrees with a cause; each step of a meaning by itself.
use Rattle.std.proofs.Common.{◌≡◌, Bool, true, false, cond, refl, ap, Option, Some, None, Result, Ok, Err}
use Rattle.std.specs.Option.{ok_or}
use Rattle.route_frames.specs.declared.faults.RouteFault.{RouteFault}
use Rattle.route_frames.specs.declared.faults.RouteFault.TheVariants.{BadArgs}
use Rattle.route_frames.specs.Meaning.{Meaning, ◌>>=◌}

-- the first cause is told; where there is none of these, a refusal is `BadArgs`
abbrev pub Agrees : {A : Type 0} → Option RouteFault → Result A RouteFault → Type 0
Agrees (Some cause) read = read ≡ Err cause
Agrees None (Ok x) = Unit {0}
Agrees None (Err fault) = fault ≡ BadArgs

-- ---- steps

-- a step with these causes, and then others that have none
pub agrees_then : {A B : Type 0} (cause : Option RouteFault) (step : Meaning A) (next : A → Meaning B)
    → Agrees cause step
    → ((x : A) → Agrees None (next x))
    → Agrees cause (step >>= next)
agrees_then (Some cause) step next is others = ap (λ read. read >>= next) is
agrees_then None (Ok x) next is others = others x
agrees_then None (Err fault) next is others = is

pub ok_or_agrees : {A : Type 0} (value : Option A) → Agrees None (ok_or value BadArgs)
ok_or_agrees None = refl
ok_or_agrees (Some x) = tt

pub refused_where : {A : Type 0} (test : Bool) (x : A) → Agrees None (cond test (Err BadArgs) (Ok x))
refused_where true x = refl
refused_where false x = tt

pub refused_unless : {A : Type 0} (test : Bool) (x : A) → Agrees None (cond test (Ok x) (Err BadArgs))
refused_unless true x = tt
refused_unless false x = refl

-- fields of a certain number, and then what they say
pub fields_agree : {F B : Type 0} (cause : Option F → Option RouteFault) (fields : Option F) (next : F → Meaning B)
    → cause None ≡ Some BadArgs
    → ((fields : F) → Agrees (cause (Some fields)) (next fields))
    → Agrees (cause fields) (ok_or fields BadArgs >>= next)
fields_agree cause None next none each = rw none refl
fields_agree cause (Some fields) next none each = each fields
