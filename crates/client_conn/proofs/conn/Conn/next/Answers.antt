use Rattle.std.proofs.Common.{refl, sym, ◌∙◌}
use Rattle.client_conn.specs.Streams.{end_of}
use Rattle.client_conn.proofs.Answering.{first_asked}
use Rattle.client_conn.proofs.conn.Conn.next.Goals as goal

pub returns : goal.returns
returns c =
    let same = c.in_ok-advance.ensures.same in
    rw (← c.self.view_is) (
      (refl, λ _. tt, record { asking = same; is_given = λ some. sym c.first.ensures.some ∙ some }),
      record {
        first =
            first_asked c.advance.new.open_asks (end_of c.advance.new.reader) _ _ c.first.ensures.value
            c.in_ok-advance.ensures.first same;
        rest = tt;
      },
    )
