-- The texts of INFO and CONNECT that are spelt mean what they spell.
use Rattle.std.proofs.Common.{◌≡◌, ℕ, ◌≤◌, Bool, true, ◌&&◌, cond, List, refl, ap, ◌∙◌, arith, Some, None, Ok, Err}
use Rattle.std.specs.Prelude.{nat_le, codes, is_some, option_and_then}
use Rattle.std.specs.Option.{ok_or}
use Rattle.std.proofs.lemmas.Bool.Decides.{nat_tests}
use Rattle.serde_json.specs.Data.{Data, null, boolean, number, string, array, object}
use Rattle.serde_json.specs.Find.{get, as_number, as_str, as_object}
use Rattle.subj.specs.declared.limits.TheConstants.{MAX_INCARNATION, MAX_COUNTER}
use Rattle.subj.specs.Names.{node_name_fault}
use Rattle.route_values.specs.Records.{Info, Connect}
use Rattle.route_values.specs.Valid.{IsIncarnation, IsInfo, IsConnect}
use Rattle.route_frames.specs.declared.faults.RouteFault.TheVariants.{BadArgs, BadNumber}
use Rattle.route_frames.specs.declared.greetings.Whole.TheVariants as whole
use Rattle.route_frames.specs.Meaning.{◌>>=◌}
use Rattle.route_frames.specs.Canonical.{number_data}
use Rattle.route_frames.specs.Greetings.{json_of, object_of, whole_of, whole_at, whole_in_range, incarnation_in, node_at, info_in, dial_in, connect_in, info_of, connect_text_of}
use Rattle.route_frames.specs.Spelling.{HasInfo, HasConnect}
use Rattle.route_frames.proofs.Canonical.Greetings.{serial_range}
use Rattle.route_frames.proofs.Meaning.Parts.{incarnation_again, name_again}

-- ---- members

abbrev Has : List ℕ → Data → Data → Type 0
Has key json value = get key json ≡ Some value

in_object : (key : List ℕ) (json value : Data) → Has key json value → is_some (as_object json) ≡ true
in_object key null value e = absurd (cc)
in_object key (boolean b) value e = absurd (cc)
in_object key (number n) value e = absurd (cc)
in_object key (string s) value e = absurd (cc)
in_object key (array ds) value e = absurd (cc)
in_object key (object ms) value e = refl

object_means : (text key : List ℕ) (json value : Data)
    → json_of text ≡ Some json
    → Has key json value
    → object_of text ≡ Ok json
unfolding object_of
object_means text key json value is has =
    rw is (ap (λ b. cond b (Ok json) (Err BadArgs)) (in_object key json value has))

in_range : (n most : ℕ) (fits : Bool) → (nat_le 1 n && nat_le n most) ≡ fits → 1 ≤ n → n ≤ most → fits ≡ true
in_range n most fits is low high = grind (arith, nat_tests)

number_means : (key : List ℕ) (json : Data) (most n : ℕ)
    → Has key json (number_data n)
    → 1 ≤ n
    → n ≤ most
    → whole_in_range most (whole_at key json) ≡ Ok (whole.Number n)
number_means key json most n has low high =
    ap (λ found. whole_in_range most (whole_of (option_and_then as_number found))) has
    ∙ ap (λ b. cond b (Ok (whole.Number n)) (Err BadNumber)) (in_range n most _ refl low high)

life_means : (n : ℕ) → IsIncarnation n → incarnation_in (whole.Number n) ≡ Ok n
unfolding incarnation_in
life_means n is = incarnation_again n is

node_means : (key : List ℕ) (json : Data) (name : List ℕ)
    → Has key json (string name)
    → node_name_fault name ≡ None
    → node_at key json ≡ Ok name
unfolding node_at
node_means key json name has is =
    let found : ok_or (option_and_then as_str (get key json)) BadArgs ≡ Ok name =
    ap (λ found. ok_or (option_and_then as_str found) BadArgs) has in
    rw found (name_again node_name_fault name is)

-- ---- INFO

info_found : (json : Data) (info : Info) → HasInfo info json → IsInfo info → info_in json ≡ Ok info
unfolding info_in
info_found json info has is =
    let life = is.inc in
    rw (
      number_means (codes "inc") json MAX_INCARNATION info.inc has.inc life.least life.most,
      life_means info.inc life,
      node_means (codes "server_name") json info.server_name has.server_name is.server_name,
    )
    refl

pub info_means : (text : List ℕ) (json : Data) (info : Info)
    → json_of text ≡ Some json
    → HasInfo info json
    → IsInfo info
    → info_of text ≡ Ok info
info_means text json info is has valid =
    ap (λ read. read >>= info_in) (object_means text (codes "inc") json (number_data info.inc) is has.inc)
    ∙ info_found json info has valid

-- ---- CONNECT

connect_found : (json : Data) (connect : Connect)
    → HasConnect connect json
    → IsConnect connect
    → connect_in json ≡ Ok connect
unfolding connect_in dial_in
connect_found json connect has is =
    let life = is.inc in
    let other_life = is.to_inc in
    let serial = serial_range connect.serial is.serial in
    rw (
      number_means (codes "inc") json MAX_INCARNATION connect.inc has.inc life.least life.most,
      number_means (codes "to_inc") json MAX_INCARNATION connect.to_inc has.to_inc other_life.least other_life.most,
      number_means (codes "serial") json MAX_COUNTER connect.serial has.serial serial.0 serial.1,
      life_means connect.inc life,
      life_means connect.to_inc other_life,
      node_means (codes "server_name") json connect.server_name has.server_name is.server_name,
      node_means (codes "to") json connect.to has.to is.to,
    )
    (ap (λ b. ok_or (cond b (Some connect) None) BadNumber) is.serial)

pub connect_means : (text : List ℕ) (json : Data) (connect : Connect)
    → json_of text ≡ Some json
    → HasConnect connect json
    → IsConnect connect
    → connect_text_of text ≡ Ok connect
connect_means text json connect is has valid =
    ap (λ read. read >>= connect_in) (object_means text (codes "inc") json (number_data connect.inc) is has.inc)
    ∙ connect_found json connect has valid
