-- What a connection is once the ask that it lent is no longer borrowed.
use Rattle.std.specs.Prelude.{◌≡◌, IsTrue}
use Rattle.std.specs.Borrow.{MutBor, Fml}
use Rattle.std.specs.Io.BufRead.{Rests}
use Rattle.client_conn.specs.Asks.{ConnState}
use Rattle.client_conn.specs.contracts.conn.Conn.{the_row}

-- as much stands to be asked as before, and an ask that was given is
pub record IsKept (given : Type 0) (old new : ConnState) : Type 0 where
  pub asking : new.asking ≡ old.asking
  pub is_given : given → IsTrue new.given

abbrev pub Stays : Type 0 → MutBor ConnState → Fml
Stays given conn = Rests the_row conn (λ new. IsKept given conn.now new)
