-- The texts of INFO and CONNECT that were read are spelt as the relation says.
use Rattle.std.proofs.Common.{◌≡◌, ℕ, ◌&&◌, List, ap, ◌∙◌, subst, Option, Some, None, Ok}
use Rattle.std.specs.Prelude.{nat_le, codes, is_some, option_and_then}
use Rattle.std.specs.Option.{ok_or}
use Rattle.serde_json.specs.Data.{Num, unsigned, negative, float, Data, null, boolean, number, string, array, object}
use Rattle.serde_json.specs.Find.{get, as_number, as_str, as_object}
use Rattle.subj.specs.declared.limits.TheConstants.{MAX_INCARNATION, MAX_COUNTER}
use Rattle.subj.specs.Names.{node_name_fault}
use Rattle.route_values.specs.Records.{Info, Connect, is_serial, connect_of}
use Rattle.route_values.specs.Valid.{IsIncarnation, IsInfo, IsConnect}
use Rattle.route_frames.specs.declared.faults.RouteFault.TheVariants.{BadArgs, BadNumber}
use Rattle.route_frames.specs.declared.greetings.Dial.{Dial}
use Rattle.route_frames.specs.declared.greetings.Whole.{Whole}
use Rattle.route_frames.specs.declared.greetings.Whole.TheVariants as whole
use Rattle.route_frames.specs.Canonical.{number_data}
use Rattle.route_frames.specs.Greetings.{json_of, object_of, whole_of, whole_at, whole_in_range, whole_number, incarnation_in, node_at, info_in, dial_in, connect_in, info_of, connect_text_of}
use Rattle.route_frames.specs.Spelling.{HasInfo, HasConnect}
use Rattle.route_frames.proofs.Spelt.Chains.{step_ok, ok_same, found_ok, where_ok, where_some, some_same}
use Rattle.route_frames.proofs.Spelt.Fields.{incarnation_ok, name_ok}

-- ---- members

in_range_same : (most : ℕ) (one seen : Whole) → whole_in_range most one ≡ Ok seen → one ≡ seen
in_range_same most whole.Other seen e = ok_same whole.Other seen e
in_range_same most whole.Negative seen e = absurd (cc)
in_range_same most (whole.Number n) seen e =
    (where_ok (nat_le 1 n && nat_le n most) BadNumber (whole.Number n) seen e).1

number_read : (one : Whole) (n : ℕ) → whole_number one ≡ Ok n → one ≡ whole.Number n
number_read whole.Other n e = absurd (cc)
number_read whole.Negative n e = absurd (cc)
number_read (whole.Number m) n e = ap (λ n. whole.Number n) (ok_same m n e)

num_read : (found : Option Num) (n : ℕ) → whole_of found ≡ whole.Number n → found ≡ Some (unsigned n)
num_read None n e = absurd (cc)
num_read (Some (unsigned m)) n e = ap (λ n. Some (unsigned n)) (same m n e) where
  same : (m n : ℕ) → whole.Number m ≡ whole.Number n → m ≡ n
  same m n e = cc
num_read (Some (negative z)) n e = absurd (cc)
num_read (Some (float x)) n e = absurd (cc)

member_number : (found : Option Data) (n : Num) → option_and_then as_number found ≡ Some n → found ≡ Some (number n)
member_number None n e = absurd (cc)
member_number (Some null) n e = absurd (cc)
member_number (Some (boolean b)) n e = absurd (cc)
member_number (Some (number m)) n e = ap (λ n. Some (number n)) (some_same m n e)
member_number (Some (string s)) n e = absurd (cc)
member_number (Some (array ds)) n e = absurd (cc)
member_number (Some (object ms)) n e = absurd (cc)

member_string : (found : Option Data) (text : List ℕ)
    → option_and_then as_str found ≡ Some text
    → found ≡ Some (string text)
member_string None text e = absurd (cc)
member_string (Some null) text e = absurd (cc)
member_string (Some (boolean b)) text e = absurd (cc)
member_string (Some (number m)) text e = absurd (cc)
member_string (Some (string s)) text e = ap (λ s. Some (string s)) (some_same s text e)
member_string (Some (array ds)) text e = absurd (cc)
member_string (Some (object ms)) text e = absurd (cc)

member_is : (key : List ℕ) (json : Data) (n : ℕ)
    → whole_at key json ≡ whole.Number n
    → get key json ≡ Some (number_data n)
member_is key json n e =
    member_number (get key json) (unsigned n) (num_read (option_and_then as_number (get key json)) n e)

record LifeRead (key : List ℕ) (json : Data) (inc : ℕ) : Type 0 where
  pub member : get key json ≡ Some (number_data inc)
  pub valid : IsIncarnation inc

life_read : (most : ℕ) (key : List ℕ) (json : Data) (found : Whole) (inc : ℕ)
    → whole_in_range most (whole_at key json) ≡ Ok found
    → incarnation_in found ≡ Ok inc
    → LifeRead key json inc
unfolding incarnation_in
life_read most key json found inc e e_too =
    let step = step_ok (whole_number found) _ inc e_too in
    let is = incarnation_ok step.0 inc step.2 in
    let seen = in_range_same most (whole_at key json) found e ∙ number_read found step.0 step.1 in
    record { member = member_is key json inc (seen ∙ ap (λ n. whole.Number n) is.0); valid = is.1 }

record NodeRead (key : List ℕ) (json : Data) (name : List ℕ) : Type 0 where
  pub member : get key json ≡ Some (string name)
  pub valid : node_name_fault name ≡ None

node_read : (key : List ℕ) (json : Data) (name : List ℕ) → node_at key json ≡ Ok name → NodeRead key json name
unfolding node_at
node_read key json name e =
    let step = step_ok (ok_or (option_and_then as_str (get key json)) BadArgs) _ name e in
    let is = name_ok node_name_fault step.0 name step.2 in
    record {
      member =
          member_string (get key json) step.0 (found_ok (option_and_then as_str (get key json)) BadArgs step.0 step.1)
          ∙ ap (λ s. Some (string s)) is.0;
      valid = is.1;
    }

-- ---- INFO

record InfoIn (json : Data) (info : Info) : Type 0 where
  pub has : HasInfo info json
  pub valid : IsInfo info

info_found : (json : Data) (info : Info) → info_in json ≡ Ok info → InfoIn json info
unfolding info_in
info_found json info e =
    let found = step_ok (whole_in_range MAX_INCARNATION (whole_at (codes "inc") json)) _ info e in
    let inc = step_ok (incarnation_in found.0) _ info found.2 in
    let name = step_ok (node_at (codes "server_name") json) _ info inc.2 in
    let life = life_read MAX_INCARNATION (codes "inc") json found.0 inc.0 found.1 inc.1 in
    let node = node_read (codes "server_name") json name.0 name.1 in
    subst (InfoIn json) (ok_same (record { server_name = name.0; inc = inc.0 }) info name.2) (record {
      has = record { server_name = node.member; inc = life.member };
      valid = record { server_name = node.valid; inc = life.valid };
    })

object_found : (text : List ℕ) (json : Data) → object_of text ≡ Ok json → json_of text ≡ Some json
unfolding object_of
object_found text json e =
    let step = step_ok (ok_or (json_of text) BadArgs) _ json e in
    let good = where_ok (is_some (as_object step.0)) BadArgs step.0 json step.2 in
    found_ok (json_of text) BadArgs step.0 step.1 ∙ ap (λ json. Some json) good.1

pub record InfoRead (text : List ℕ) (info : Info) : Type 0 where
  pub spells : (json : Data) × (json_of text ≡ Some json) × HasInfo info json
  pub valid : IsInfo info

pub info_read : (text : List ℕ) (info : Info) → info_of text ≡ Ok info → InfoRead text info
info_read text info e =
    let json = step_ok (object_of text) info_in info e in
    let found = info_found json.0 info json.2 in
    record { spells = (json.0, object_found text json.0 json.1, found.has); valid = found.valid }

-- ---- CONNECT

record DialIn (json : Data) (dial : Dial) : Type 0 where
  pub inc : LifeRead (codes "inc") json dial.inc
  pub to_inc : LifeRead (codes "to_inc") json dial.to_inc
  pub serial : get (codes "serial") json ≡ Some (number_data dial.serial)

dial_found : (json : Data) (dial : Dial) → dial_in json ≡ Ok dial → DialIn json dial
unfolding dial_in
dial_found json dial e =
    let one = step_ok (whole_in_range MAX_INCARNATION (whole_at (codes "inc") json)) _ dial e in
    let two = step_ok (whole_in_range MAX_INCARNATION (whole_at (codes "to_inc") json)) _ dial one.2 in
    let three = step_ok (whole_in_range MAX_COUNTER (whole_at (codes "serial") json)) _ dial two.2 in
    let inc = step_ok (incarnation_in one.0) _ dial three.2 in
    let to_inc = step_ok (incarnation_in two.0) _ dial inc.2 in
    let serial = step_ok (whole_number three.0) _ dial to_inc.2 in
    let seen = in_range_same MAX_COUNTER (whole_at (codes "serial") json) three.0 three.1
    ∙ number_read three.0 serial.0 serial.1 in
    subst (DialIn json) (ok_same (record { inc = inc.0; to_inc = to_inc.0; serial = serial.0 }) dial serial.2) (record {
      inc = life_read MAX_INCARNATION (codes "inc") json one.0 inc.0 one.1 inc.1;
      to_inc = life_read MAX_INCARNATION (codes "to_inc") json two.0 to_inc.0 two.1 to_inc.1;
      serial = member_is (codes "serial") json serial.0 seen;
    })

record ConnectIn (json : Data) (connect : Connect) : Type 0 where
  pub has : HasConnect connect json
  pub valid : IsConnect connect

connect_found : (json : Data) (connect : Connect) → connect_in json ≡ Ok connect → ConnectIn json connect
unfolding connect_in
connect_found json connect e =
    let dial = step_ok (dial_in json) _ connect e in
    let name = step_ok (node_at (codes "server_name") json) _ connect dial.2 in
    let to = step_ok (node_at (codes "to") json) _ connect name.2 in
    let made : Connect = record {
      server_name = name.0;
      inc = (dial.0).inc;
      to = to.0;
      to_inc = (dial.0).to_inc;
      serial = (dial.0).serial;
    } in
    let good = where_some (is_serial (dial.0).serial) made connect
    (found_ok (connect_of name.0 (dial.0).inc to.0 (dial.0).to_inc (dial.0).serial) BadNumber connect to.2) in
    let found = dial_found json dial.0 dial.1 in
    let node = node_read (codes "server_name") json name.0 name.1 in
    let dialed = node_read (codes "to") json to.0 to.1 in
    subst (ConnectIn json) good.1 (record {
      has = record {
        server_name = node.member;
        inc = (found.inc).member;
        to = dialed.member;
        to_inc = (found.to_inc).member;
        serial = found.serial;
      };
      valid = record {
        server_name = node.valid;
        inc = (found.inc).valid;
        to = dialed.valid;
        to_inc = (found.to_inc).valid;
        serial = good.0;
      };
    })

pub record ConnectRead (text : List ℕ) (connect : Connect) : Type 0 where
  pub spells : (json : Data) × (json_of text ≡ Some json) × HasConnect connect json
  pub valid : IsConnect connect

pub connect_read : (text : List ℕ) (connect : Connect) → connect_text_of text ≡ Ok connect → ConnectRead text connect
connect_read text connect e =
    let json = step_ok (object_of text) connect_in connect e in
    let found = connect_found json.0 connect json.2 in
    record { spells = (json.0, object_found text json.0 json.1, found.has); valid = found.valid }
