-- The examples, computed.
use Rattle.std.proofs.Common.{refl}
use Rattle.route_session.specs.Examples.{DialsCross, KeepsTheBetter, RefusesInOrder}

pub dials_cross : DialsCross
dials_cross = record {
  dialed = (refl, refl);
  accepted = (refl, refl);
  n1_info = (refl, refl);
  n2_info = (refl, refl);
  n2_connect = (refl, refl);
  n1_connect = refl;
  n2_keeps = refl;
  n1_keeps = refl;
  again = (refl, refl);
  again_info = (refl, refl);
  again_kept = refl;
}

pub keeps_the_better : KeepsTheBetter
keeps_the_better = record {
  earlier = refl;
  same = refl;
  later = (refl, refl);
  greater = (refl, refl);
  cut = (refl, refl);
  other = (refl, refl);
  other_kept = refl;
}

pub refuses_in_order : RefusesInOrder
refuses_in_order = record {
  itself = refl;
  nobody = refl;
  no_room = refl;
  no_number = refl;
  gone = refl;
  completed = refl;
  wrong_side = refl;
  ended = refl;
  wrong_name = refl;
  old = refl;
  old_own = refl;
  to_another = refl;
}
