use Rattle.std.proofs.Common.{◌≡◌, ◌==◌, ◌<◌, ℕ, List, Bool, true, false, length, map, Some, refl, ap, sym, subst, ◌∙◌}
use Rattle.std.specs.Prelude.{position, slice_set, ◌&&◌, nat_le}
use Rattle.std.proofs.lemmas.List.Quantifiers.{position-Some}
use Rattle.outbox.specs.Views.{Waiting, on_shown, with_last}
use Rattle.outbox.specs.declared.outbox.TheConstants.{LAST_LINE_TEXT}
use Rattle.shard_core.specs.declared.connections.Conn.{Conn}
use Rattle.shard_core.specs.Boxes.{Clients, client_in_view, shown_backlog}
use Rattle.shard_core.specs.Shards.{clients_with_change, is_open, takes_events}
use Rattle.shard_core.proofs.Clients.Lookups.{client_none, open_is, changed_is, same_is}
use Rattle.shard_core.proofs.Clients.Staging.{conns_settled}
use Rattle.shard_core.specs.Dirty.{AreTold}
use Rattle.shard_core.proofs.Clients.Told.{nothing_put, one_told}
use Rattle.shard_core.proofs.connections.Conns.shut_shown.Goals as goal

-- whether it was put or not, nothing is staged behind it
alike : (put : Bool) (line : List ℕ) (was box : Waiting)
    → (put ≡ true → box ≡ on_shown (with_last line) was)
    → (put ≡ false → box ≡ on_shown (λ backlog. backlog) was)
    → box.next ≡ box.shown
alike true line was box put left =
    ap (λ (b : Waiting). b.next) (put refl) ∙ sym (ap (λ (b : Waiting). b.shown) (put refl))
alike false line was box put left =
    ap (λ (b : Waiting). b.next) (left refl) ∙ sym (ap (λ (b : Waiting). b.shown) (left refl))

pub returns-in_default-clause-can : goal.returns-in_default-clause-can
returns-in_default-clause-can c =
    let none = sym c.place_in.ensures ∙ c.in_default.is in
    sym (ap (λ o. takes_events o && nat_le (length c.args.line.now) LAST_LINE_TEXT)
    (client_none shown_backlog c.args.conn c.self.inside.conns.items none))
    ∙ ap (λ (l : Clients). is_open c.args.conn l.shown && nat_le (length c.args.line.now) LAST_LINE_TEXT) c.self.view_is

pub invariant_of-self : goal.invariant_of-self
invariant_of-self c =
    let conns = c.self.inside.conns.items in
    let n = c.args.conn in
    let i = c.in-Some.place in
    let x = c.index_mut-conn.result.now in
    let is = c.index_mut-conn.ensures.value in
    let at : position (λ (y : Conn). y.number == n) conns ≡ Some i = sym c.place_in.ensures ∙ c.in-Some.is in
    let there : i < length conns = (position-Some (λ (y : Conn). y.number == n) conns i x at).0 in
    conns_settled c.self.inside.places.items conns i x c.shut-put.new.self is there
    (alike c.shut-put.result c.args.line.now x.outbox c.shut-put.new.self c.shut-put.ensures.put
    c.shut-put.ensures.left)
    c.self.invariant

pub returns-clause-can : goal.returns-clause-can
returns-clause-can c =
    let conns = c.self.inside.conns.items in
    let n = c.args.conn in
    let i = c.in-Some.place in
    let x = c.index_mut-conn.result.now in
    let is = c.index_mut-conn.ensures.value in
    let at : position (λ (y : Conn). y.number == n) conns ≡ Some i = sym c.place_in.ensures ∙ c.in-Some.is in
    c.shut-put.ensures.can
    ∙ ap (λ b. b && nat_le (length c.args.line.now) LAST_LINE_TEXT)
    (sym (open_is shown_backlog n conns i x at is) ∙ ap (λ (l : Clients). is_open n l.shown) c.self.view_is)

pub returns-clause-put : goal.returns-clause-put
returns-clause-put c =
    let conns = c.self.inside.conns.items in
    let n = c.args.conn in
    let i = c.in-Some.place in
    let x = c.index_mut-conn.result.now in
    let is = c.index_mut-conn.ensures.value in
    let at : position (λ (y : Conn). y.number == n) conns ≡ Some i = sym c.place_in.ensures ∙ c.in-Some.is in
    let change = with_last c.args.line.now in
    λ put.
    changed_is shown_backlog n conns i x at is change c.shut-put.new.self
    (ap (λ (b : Waiting). client_in_view shown_backlog (record { number = x.number; outbox = b; headers = x.headers }))
    (c.shut-put.ensures.put put))
    ∙ ap (λ (l : Clients). clients_with_change change n l.shown) c.self.view_is

pub returns-clause-left : goal.returns-clause-left
returns-clause-left c =
    let conns = c.self.inside.conns.items in
    let n = c.args.conn in
    let i = c.in-Some.place in
    let x = c.index_mut-conn.result.now in
    let is = c.index_mut-conn.ensures.value in
    let at : position (λ (y : Conn). y.number == n) conns ≡ Some i = sym c.place_in.ensures ∙ c.in-Some.is in
    λ left.
    same_is shown_backlog n conns i x at is c.shut-put.new.self
    (ap (λ (b : Waiting). client_in_view shown_backlog (record { number = x.number; outbox = b; headers = x.headers }))
    (c.shut-put.ensures.left left))
    ∙ ap (λ (l : Clients). l.shown) c.self.view_is

pub returns-clause-told : goal.returns-clause-told
returns-clause-told c =
    let conns = c.self.inside.conns.items in
    let n = c.args.conn in
    let i = c.in-Some.place in
    let x = c.index_mut-conn.result.now in
    let is = c.index_mut-conn.ensures.value in
    let at : position (λ (y : Conn). y.number == n) conns ≡ Some i = sym c.place_in.ensures ∙ c.in-Some.is in
    let there : i < length conns = (position-Some (λ (y : Conn). y.number == n) conns i x at).0 in
    let new : Conn = record { number = x.number; outbox = c.shut-put.new.self; headers = x.headers } in
    let before = c.args.dirty_conns.now in
    let after = c.note_at.new.dirty_conns in
    subst (λ (l : Clients). AreTold l.shown (map (client_in_view shown_backlog) (slice_set conns i new)) before after)
    c.self.view_is
    (one_told conns i new before after
    (alike c.shut-put.result c.args.line.now x.outbox c.shut-put.new.self c.shut-put.ensures.put
    c.shut-put.ensures.left)
    there c.note_at.ensures.told c.note_at.ensures.kept)

pub returns-in_default-clause-told : goal.returns-in_default-clause-told
returns-in_default-clause-told c = nothing_put c.args.self.now.shown c.args.self.now.shown c.args.dirty_conns.now refl
