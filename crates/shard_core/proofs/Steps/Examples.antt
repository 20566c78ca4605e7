-- The examples, computed.
use Rattle.std.proofs.Common.{refl}
use Rattle.std.specs.Fmt.{digits}
use Rattle.shard_core.specs.Examples.{ClosesTheSlow, FillsTheRoom, TellsOnce, ChoosesByTurn, ClaimsOnce, KeepsTheMaximum, SendsHeaders, FillsAnOutbox}

pub closes_the_slow : ClosesTheSlow
unfolding digits
closes_the_slow = record {
  began = (refl, refl);
  left = refl;
  told = refl;
  line = refl;
  shut = refl;
  other = refl;
  replied = (refl, refl);
  answered = (refl, refl);
  replied_line = refl;
  replied_left = refl;
  replied_told = refl;
  was_shut = (refl, refl);
  shut_left = refl;
  shut_told = refl;
  detached = (refl, refl);
  detached_left = refl;
  detached_told = refl;
}

pub fills_the_room : FillsTheRoom
unfolding digits
fills_the_room = record { began = (refl, refl); line = refl; once = refl; told_once = refl }

pub tells_once : TellsOnce
unfolding digits
tells_once = record {
  open_answer = (refl, refl);
  open_subs = refl;
  open_told = refl;
  again = (refl, refl);
  again_same = refl;
  closed = (refl, refl);
  closed_told = refl;
  collected = (refl, refl);
  emptied = refl;
}

pub chooses_by_turn : ChoosesByTurn
unfolding digits
chooses_by_turn = record { three = refl; full = refl; all_full = refl; named = refl; echo = refl }

pub claims_once : ClaimsOnce
unfolding digits
claims_once = record {
  won = (refl, refl);
  placed = refl;
  lost = (refl, refl);
  not_placed = refl;
  nobody = (refl, refl);
}

pub keeps_the_maximum : KeepsTheMaximum
unfolding digits
keeps_the_maximum = record {
  last = (refl, refl);
  one_more = (refl, refl);
  reached = (refl, refl);
  not_reached = (refl, refl);
  greater = refl;
  smaller = refl;
}

pub sends_headers : SendsHeaders
unfolding digits
sends_headers = record {
  set = (refl, refl);
  without = refl;
  with_block = refl;
  claimed = refl;
  plain_one = refl;
  chosen_again = refl;
  no_room = refl;
  not_there = refl;
  new_one = refl;
}

pub fills_an_outbox : FillsAnOutbox
unfolding digits
fills_an_outbox = record {
  attached = (refl, refl);
  last = (refl, refl);
  many = refl;
  full = (refl, refl);
  taken = (refl, refl);
}
