-- The texts of INFO and CONNECT are refused just for their causes.
use Rattle.std.proofs.Common.{◌≡◌, ℕ, Bool, true, false, not, ◌||◌, cond, List, refl, ap, Option, Some, None, Ok, Err}
use Rattle.std.specs.Prelude.{is_some, codes, option_and_then}
use Rattle.std.specs.Option.{ok_or}
use Rattle.std.specs.List.{list_any}
use Rattle.serde_json.specs.Data.{Num, unsigned, negative, float, Data}
use Rattle.serde_json.specs.Find.{get, as_object, as_number, as_str}
use Rattle.subj.specs.declared.limits.TheConstants.{MAX_INCARNATION, MAX_COUNTER}
use Rattle.route_values.specs.Records.{Info, is_serial, connect_of}
use Rattle.route_frames.specs.declared.faults.RouteFault.{RouteFault}
use Rattle.route_frames.specs.declared.faults.RouteFault.TheVariants.{BadArgs, BadNumber}
use Rattle.route_frames.specs.declared.greetings.Dial.{Dial}
use Rattle.route_frames.specs.declared.greetings.Whole.{Whole}
use Rattle.route_frames.specs.declared.greetings.Whole.TheVariants.{Other, Negative, Number}
use Rattle.route_frames.specs.Meaning.{Meaning, ◌>>=◌}
use Rattle.route_frames.specs.Greetings.{json_of, object_in, object_of, whole_of, whole_in_range, whole_number, incarnation_in, node_at, info_in, dial_in, connect_in, info_of, connect_text_of}
use Rattle.route_frames.specs.Causes.{is_beyond, is_member_beyond, members_cause, info_members, connect_members}
use Rattle.route_frames.proofs.Refused.Agreement.{Agrees, agrees_then, ok_or_agrees}
use Rattle.route_frames.proofs.Refused.Numbered.{name_agrees, is_within, incarnation_within}
use Rattle.subj.specs.Names.{node_name_fault}

-- ---- as `Agrees`, where what is read has a property that a later step needs

abbrev Gives : {A : Type 0} → (A → Type 0) → Option RouteFault → Meaning A → Type 0
Gives P (Some cause) read = read ≡ Err cause
Gives P None (Ok x) = P x
Gives P None (Err fault) = fault ≡ BadArgs

gives_agrees : {A : Type 0} (P : A → Type 0) (cause : Option RouteFault) (read : Meaning A)
    → Gives P cause read
    → Agrees cause read
gives_agrees P (Some cause) read is = is
gives_agrees P None (Ok x) is = tt
gives_agrees P None (Err fault) is = is

gives_then : {A B : Type 0} (P : A → Type 0) (cause : Option RouteFault) (step : Meaning A) (next : A → Meaning B)
    → Gives P cause step
    → ((x : A) → P x → Agrees None (next x))
    → Agrees cause (step >>= next)
gives_then P (Some cause) step next is others = ap (λ read. read >>= next) is
gives_then P None (Ok x) next is others = others x is
gives_then P None (Err fault) next is others = is

then_gives : {A B : Type 0} (Q : B → Type 0) (step : Meaning A) (next : A → Meaning B)
    → Agrees None step
    → ((x : A) → Gives Q None (next x))
    → Gives Q None (step >>= next)
then_gives Q (Ok x) next is others = others x
then_gives Q (Err fault) next is others = is

-- ---- a whole number that is in its range, or a member that is none

abbrev Fits : ℕ → Whole → Type 0
Fits most Other = Unit {0}
Fits most Negative = ⊥
Fits most (Number n) = is_within 1 most n ≡ true

abbrev told : Bool → Option RouteFault
told beyond = cond beyond (Some BadNumber) None

number_then : {B : Type 0} (Q : B → Type 0) (most n : ℕ) (test others : Bool) (next : Whole → Meaning B)
    → is_within 1 most n ≡ test
    → ((whole : Whole) → Fits most whole → Gives Q (told others) (next whole))
    → Gives Q (told (not test || others)) (cond test (Ok (Number n)) (Err BadNumber) >>= next)
number_then Q most n true others next is each = each (Number n) is
number_then Q most n false others next is each = refl

in_range_then : {B : Type 0} (Q : B → Type 0) (most : ℕ) (number : Option Num) (others : Bool)
    (next : Whole → Meaning B)
    → ((whole : Whole) → Fits most whole → Gives Q (told others) (next whole))
    → Gives Q (told (is_beyond most number || others)) (whole_in_range most (whole_of number) >>= next)
in_range_then Q most None others next each = each Other tt
in_range_then Q most (Some (unsigned n)) others next each =
    number_then Q most n (is_within 1 most n) others next refl each
in_range_then Q most (Some (negative z)) others next each = refl
in_range_then Q most (Some (float x)) others next each = each Other tt

-- an incarnation that is in its range is never refused for it
incarnation_agrees : (whole : Whole) → Fits MAX_INCARNATION whole → Agrees None (incarnation_in whole)
unfolding incarnation_in
incarnation_agrees Other fits = refl
incarnation_agrees Negative fits = absurd fits
incarnation_agrees (Number n) fits = rw (incarnation_within n, fits) tt

-- ---- names

node_at_agrees : (key : List ℕ) (json : Data) → Agrees None (node_at key json)
unfolding node_at
node_at_agrees key json =
    agrees_then None (ok_or (option_and_then as_str (get key json)) BadArgs) _
    (ok_or_agrees (option_and_then as_str (get key json))) (λ name. name_agrees node_name_fault name)

-- ---- objects

object_by : {B : Type 0} (test : Bool) (json : Data) (later : Option RouteFault) (next : Data → Meaning B)
    → Agrees later (next json)
    → Agrees (cond (not test) (Some BadArgs) later) (cond test (Ok json) (Err BadArgs) >>= next)
object_by true json later next others = others
object_by false json later next others = refl

object_agrees : {B : Type 0} (members : List (List ℕ × ℕ)) (json : Option Data) (next : Data → Meaning B)
    → ((json : Data) → Agrees (told (list_any (is_member_beyond json) members)) (next json))
    → Agrees (members_cause members json) ((ok_or json BadArgs >>= object_in) >>= next)
object_agrees members None next each = refl
object_agrees members (Some json) next each =
    object_by (is_some (as_object json)) json (told (list_any (is_member_beyond json) members)) next (each json)

abbrev number_at : List ℕ → Data → Option Num
number_at key json = option_and_then as_number (get key json)

-- ---- INFO

abbrev IsAny : Info → Type 0
IsAny info = Unit {0}

info_in_gives : (json : Data) → Gives IsAny (told (list_any (is_member_beyond json) info_members)) (info_in json)
unfolding info_in
info_in_gives json =
    in_range_then IsAny MAX_INCARNATION (number_at (codes "inc") json) false _ (λ inc fits.
    then_gives IsAny (incarnation_in inc) _ (incarnation_agrees inc fits) (λ inc.
    then_gives IsAny (node_at (codes "server_name") json) _ (node_at_agrees (codes "server_name") json)
    (λ server_name. tt)))

pub info_agrees : (text : List ℕ) → Agrees (members_cause info_members (json_of text)) (info_of text)
unfolding object_of
info_agrees text =
    object_agrees info_members (json_of text) info_in (λ json. gives_agrees IsAny _ (info_in json) (info_in_gives json))

-- ---- CONNECT

abbrev HasSerial : Dial → Type 0
HasSerial dial = is_serial dial.serial ≡ true

serial_gives : (inc to_inc : ℕ) (serial : Whole)
    → Fits MAX_COUNTER serial
    → Gives HasSerial None
    (whole_number serial >>= λ serial. Ok (record { inc = inc; to_inc = to_inc; serial = serial }))
serial_gives inc to_inc Other fits = refl
serial_gives inc to_inc Negative fits = absurd fits
serial_gives inc to_inc (Number n) fits = fits

dial_gives : (json : Data) → Gives HasSerial (told (list_any (is_member_beyond json) connect_members)) (dial_in json)
unfolding dial_in
dial_gives json =
    in_range_then HasSerial MAX_INCARNATION (number_at (codes "inc") json) _ _ (λ inc inc_fits.
    in_range_then HasSerial MAX_INCARNATION (number_at (codes "to_inc") json) _ _ (λ to_inc to_inc_fits.
    in_range_then HasSerial MAX_COUNTER (number_at (codes "serial") json) false _ (λ serial serial_fits.
    then_gives HasSerial (incarnation_in inc) _ (incarnation_agrees inc inc_fits) (λ inc.
    then_gives HasSerial (incarnation_in to_inc) _ (incarnation_agrees to_inc to_inc_fits)
    (λ to_inc. serial_gives inc to_inc serial serial_fits)))))

-- a serial that is in its range is never refused for it
connected : (server_name : List ℕ) (inc : ℕ) (to : List ℕ) (to_inc serial : ℕ)
    → is_serial serial ≡ true
    → Agrees None (ok_or (connect_of server_name inc to to_inc serial) BadNumber)
connected server_name inc to to_inc serial is = rw is tt

connect_in_agrees : (json : Data) → Agrees (told (list_any (is_member_beyond json) connect_members)) (connect_in json)
unfolding connect_in
connect_in_agrees json =
    gives_then HasSerial _ (dial_in json) _ (dial_gives json) (λ dial is.
    agrees_then None (node_at (codes "server_name") json) _ (node_at_agrees (codes "server_name") json) (λ server_name.
    agrees_then None (node_at (codes "to") json) _ (node_at_agrees (codes "to") json)
    (λ to. connected server_name dial.inc to dial.to_inc dial.serial is)))

pub connect_agrees : (text : List ℕ) → Agrees (members_cause connect_members (json_of text)) (connect_text_of text)
unfolding object_of
connect_agrees text = object_agrees connect_members (json_of text) connect_in connect_in_agrees
