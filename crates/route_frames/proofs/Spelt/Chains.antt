-- What a reading that gave a value says of its steps.
use Rattle.std.proofs.Common.{◌≡◌, Bool, true, false, cond, refl, Option, Some, None, Result, Ok, Err}
use Rattle.std.specs.Prelude.{is_some}
use Rattle.std.specs.Option.{ok_or}
use Rattle.route_frames.specs.declared.faults.RouteFault.{RouteFault}
use Rattle.route_frames.specs.Meaning.{◌>>=◌}

pub step_ok : {A B : Type 0} (r : Result A RouteFault) (next : A → Result B RouteFault) (y : B)
    → (r >>= next) ≡ Ok y
    → (x : A) × (r ≡ Ok x) × (next x ≡ Ok y)
step_ok (Ok x) next y e = (x, refl, e)
step_ok (Err fault) next y e = absurd (cc)

abbrev pub done : {A : Type 0} → A → Result A RouteFault
done x = Ok x

pub ok_same : {A : Type 0} (x y : A) → done x ≡ done y → x ≡ y
ok_same x y e = cc

pub found_ok : {A : Type 0} (o : Option A) (fault : RouteFault) (x : A) → ok_or o fault ≡ Ok x → o ≡ Some x
found_ok None fault x e = absurd (cc)
found_ok (Some y) fault x e = cc

pub unless_ok : {A : Type 0} (bad : Bool) (fault : RouteFault) (x y : A)
    → cond bad (Err fault) (Ok x) ≡ Ok y
    → (bad ≡ false) × (x ≡ y)
unless_ok true fault x y e = absurd (cc)
unless_ok false fault x y e = (refl, cc)

pub where_ok : {A : Type 0} (good : Bool) (fault : RouteFault) (x y : A)
    → cond good (Ok x) (Err fault) ≡ Ok y
    → (good ≡ true) × (x ≡ y)
where_ok true fault x y e = (refl, cc)
where_ok false fault x y e = absurd (cc)

pub where_some : {A : Type 0} (good : Bool) (x y : A) → cond good (Some x) None ≡ Some y → (good ≡ true) × (x ≡ y)
where_some true x y e = (refl, cc)
where_some false x y e = absurd (cc)

pub some_same : {A : Type 0} (x y : A) → Some x ≡ Some y → x ≡ y
some_same x y e = cc

pub no_fault : {A : Type 0} (fault : Option A) → is_some fault ≡ false → fault ≡ None
no_fault None e = refl
no_fault (Some x) e = absurd (cc)
