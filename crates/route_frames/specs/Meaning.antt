-- What bytes mean: a value, or the first cause for which they are refused.
use Rattle.std.specs.Prelude.{◌≡◌, Bool, true, ◌||◌, is_ok, List, ◌++◌, Result, Ok, Err}
use Rattle.subj.specs.declared.failures.Failure.{Failure}
use Rattle.subj.specs.declared.failures.Failure.TheVariants.{Refused, OutOfMemory}
use Rattle.route_frames.specs.declared.faults.RouteFault.{RouteFault}

abbrev pub Meaning : Type 0 → Type 0
Meaning A = Result A RouteFault

-- one cause is looked for after the other
infixl 10 ◌>>=◌
abbrev pub ◌>>=◌ : {A B : Type 0}
    → Result A RouteFault
    → (A → Result B RouteFault)
    → Result B RouteFault
(Ok x) >>= f = f x
(Err fault) >>= f = Err fault

-- A reader answers what bytes mean. Want of memory may stand in place of a value; in place of a
-- refusal only where the test itself takes memory.
abbrev pub RouteMeans : {A : Type 0} → Bool → Result A RouteFault → Result A (Failure RouteFault)
    → Type 0
RouteMeans takes_memory meaning (Ok x) = meaning ≡ Ok x
RouteMeans takes_memory meaning (Err (Refused fault)) = meaning ≡ Err fault
RouteMeans takes_memory meaning (Err OutOfMemory) = (takes_memory || is_ok meaning) ≡ true

-- the same of a value that is seen as another, where nothing but a test takes memory
abbrev pub MeansBy : {X A : Type 0} → (X → A) → Bool → Result A RouteFault
    → Result X (Failure RouteFault) → Type 0
MeansBy view takes_memory meaning (Ok x) = meaning ≡ Ok (view x)
MeansBy view takes_memory meaning (Err (Refused fault)) = meaning ≡ Err fault
MeansBy view takes_memory meaning (Err OutOfMemory) = takes_memory ≡ true

-- the same without memory
abbrev pub Says : {X A : Type 0} → (X → A) → Result A RouteFault → Result X RouteFault → Type 0
Says view meaning (Ok x) = meaning ≡ Ok (view x)
Says view meaning (Err fault) = meaning ≡ Err fault

-- a test without memory: bytes mean this value, or are refused
abbrev pub Checks : {A : Type 0} → A → Result A RouteFault → Result (Unit {0}) RouteFault → Type 0
Checks value meaning (Ok done) = meaning ≡ Ok value
Checks value meaning (Err fault) = meaning ≡ Err fault

-- these, and then what others mean
abbrev pub with_front : {A : Type 0}
    → List A
    → Result (List A) RouteFault
    → Result (List A) RouteFault
with_front front (Ok others) = Ok (front ++ others)
with_front front (Err fault) = Err fault
