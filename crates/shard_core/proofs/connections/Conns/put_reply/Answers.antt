use Rattle.std.proofs.Common.{◌≡◌, ◌==◌, ◌<◌, true, false, List, length, map, Some, refl, ap, sym, subst, ◌∙◌, rules}
use Rattle.std.specs.Prelude.{position, slice_set}
use Rattle.std.proofs.lemmas.List.Quantifiers.{position-Some}
use Rattle.outbox.specs.Views.{Waiting, Backlog, reply_entry, with_entry}
use Rattle.shard_core.specs.declared.connections.Conn.{Conn}
use Rattle.shard_core.specs.Boxes.{Clients, client_in_view, shown_backlog, next_backlog}
use Rattle.shard_core.specs.Shards.{Client, clients_with_change, client_at, fits}
use Rattle.shard_core.proofs.Clients.Lookups.{client_none, changed_is, room_is, same_is, settled_box}
use Rattle.shard_core.proofs.Clients.Staging.{conns_settled}
use Rattle.shard_core.specs.Dirty.{AreTold}
use Rattle.shard_core.proofs.Clients.Told.{nothing_put, one_told}
use Rattle.shard_core.proofs.connections.Conns.put_reply.Goals as goal

-- what is staged where nothing was, and is shown then, was put
put_and_shown : (change : Backlog → Backlog) (was staged box : Waiting)
    → staged ≡ record was { next = change was.next }
    → box ≡ record staged { shown = staged.next }
    → was.next ≡ was.shown
    → box ≡ record {
      shown = change was.shown;
      next = change was.next;
      max_entries = was.max_entries;
      max_bytes = was.max_bytes;
    }
put_and_shown change was staged box unseen shown alone =
    shown
    ∙ ap (λ (b : Waiting). record b { shown = b.next }) unseen
    ∙ ap (λ (backlog : Backlog). record {
      shown = change backlog;
      next = change was.next;
      max_entries = was.max_entries;
      max_bytes = was.max_bytes;
    })
    alone

pub returns-in_default-clause-room : goal.returns-in_default-clause-room
returns-in_default-clause-room c =
    let n = c.args.conn in
    let entry = reply_entry c.args.line.now in
    let none = sym c.place_in.ensures ∙ c.in_default.is in
    sym (ap (λ o. fits o entry) (client_none shown_backlog n c.self.inside.conns.items none))
    ∙ ap (λ (l : Clients). fits (client_at n l.shown) entry) c.self.view_is

pub returns-then-not-room_for-clause-room : goal.returns-then-not-room_for-clause-room
returns-then-not-room_for-clause-room c =
    let conns = c.self.inside.conns.items in
    let n = c.args.conn in
    let i = c.in-Some.place in
    let at : position (λ (y : Conn). y.number == n) conns ≡ Some i = sym c.place_in.ensures ∙ c.in-Some.is in
    let x = c.index.result.now in
    let is = c.index.ensures in
    let entry = reply_entry c.args.line.now in
    let told : c.room_for.result ≡ fits (client_at n c.args.self.now.shown) entry =
    c.room_for.ensures.room
    ∙ sym (room_is next_backlog n conns i x at is entry)
    ∙ ap (λ (l : Clients). fits (client_at n l.next) entry) c.self.view_is
    ∙ ap (λ (l : List Client). fits (client_at n l) entry) c.requires in
    let full : c.room_for.result ≡ false = search rules in
    sym full ∙ told

pub invariant_of-self-2 : goal.invariant_of-self-2
invariant_of-self-2 c =
    let conns = c.self.inside.conns.items in
    let n = c.args.conn in
    let i = c.in-Some.place in
    let at : position (λ (y : Conn). y.number == n) conns ≡ Some i = sym c.place_in.ensures ∙ c.in-Some.is in
    let x = c.index_mut-conn.result.now in
    let is = c.index_mut-conn.ensures.value in
    let change = with_entry (reply_entry c.args.line.now) in
    let settled : map (client_in_view next_backlog) conns ≡ map (client_in_view shown_backlog) conns =
    ap (λ (l : Clients). l.next) c.self.view_is ∙ c.requires ∙ sym (ap (λ (l : Clients). l.shown) c.self.view_is) in
    let alone = settled_box n conns i x at is settled in
    let box : c.commit.new.self ≡ record {
      shown = change x.outbox.shown;
      next = change x.outbox.next;
      max_entries = x.outbox.max_entries;
      max_bytes = x.outbox.max_bytes;
    } = put_and_shown change x.outbox c.stage_reply.new.self c.commit.new.self c.in_ok-stage_reply.ensures.ok
    c.commit.ensures alone in
    let there : i < length conns = (position-Some (λ (y : Conn). y.number == n) conns i x at).0 in
    conns_settled c.self.inside.places.items conns i x c.commit.new.self is there
    (ap (λ (b : Waiting). b.next) box ∙ ap change alone ∙ sym (ap (λ (b : Waiting). b.shown) box)) c.self.invariant

pub returns-clause-room : goal.returns-clause-room
returns-clause-room c =
    let conns = c.self.inside.conns.items in
    let n = c.args.conn in
    let i = c.in-Some.place in
    let at : position (λ (y : Conn). y.number == n) conns ≡ Some i = sym c.place_in.ensures ∙ c.in-Some.is in
    let x = c.index.result.now in
    let is = c.index.ensures in
    let entry = reply_entry c.args.line.now in
    let told : c.room_for.result ≡ fits (client_at n c.args.self.now.shown) entry =
    c.room_for.ensures.room
    ∙ sym (room_is next_backlog n conns i x at is entry)
    ∙ ap (λ (l : Clients). fits (client_at n l.next) entry) c.self.view_is
    ∙ ap (λ (l : List Client). fits (client_at n l) entry) c.requires in
    let free : c.room_for.result ≡ true = search rules in
    sym free ∙ told

pub returns-clause-put : goal.returns-clause-put
returns-clause-put c =
    let conns = c.self.inside.conns.items in
    let n = c.args.conn in
    let i = c.in-Some.place in
    let at : position (λ (y : Conn). y.number == n) conns ≡ Some i = sym c.place_in.ensures ∙ c.in-Some.is in
    let x = c.index_mut-conn.result.now in
    let is = c.index_mut-conn.ensures.value in
    let change = with_entry (reply_entry c.args.line.now) in
    let settled : map (client_in_view next_backlog) conns ≡ map (client_in_view shown_backlog) conns =
    ap (λ (l : Clients). l.next) c.self.view_is ∙ c.requires ∙ sym (ap (λ (l : Clients). l.shown) c.self.view_is) in
    let alone = settled_box n conns i x at is settled in
    let box : c.commit.new.self ≡ record {
      shown = change x.outbox.shown;
      next = change x.outbox.next;
      max_entries = x.outbox.max_entries;
      max_bytes = x.outbox.max_bytes;
    } = put_and_shown change x.outbox c.stage_reply.new.self c.commit.new.self c.in_ok-stage_reply.ensures.ok
    c.commit.ensures alone in
    let shown : map (client_in_view shown_backlog)
    (slice_set conns i (record { number = x.number; outbox = c.commit.new.self; headers = x.headers }))
    ≡ clients_with_change change n c.args.self.now.shown =
    changed_is shown_backlog n conns i x at is change c.commit.new.self
    (ap (λ (b : Waiting). client_in_view shown_backlog (record { number = x.number; outbox = b; headers = x.headers }))
    box)
    ∙ ap (λ (l : Clients). clients_with_change change n l.shown) c.self.view_is in
    let next : map (client_in_view next_backlog)
    (slice_set conns i (record { number = x.number; outbox = c.commit.new.self; headers = x.headers }))
    ≡ clients_with_change change n c.args.self.now.next =
    changed_is next_backlog n conns i x at is change c.commit.new.self
    (ap (λ (b : Waiting). client_in_view next_backlog (record { number = x.number; outbox = b; headers = x.headers }))
    box)
    ∙ ap (λ (l : Clients). clients_with_change change n l.next) c.self.view_is in
    λ _ k. record { shown = shown k; next = next k }

pub returns-clause-told : goal.returns-clause-told
returns-clause-told c =
    let conns = c.self.inside.conns.items in
    let n = c.args.conn in
    let i = c.in-Some.place in
    let at : position (λ (y : Conn). y.number == n) conns ≡ Some i = sym c.place_in.ensures ∙ c.in-Some.is in
    let x = c.index_mut-conn.result.now in
    let is = c.index_mut-conn.ensures.value in
    let change = with_entry (reply_entry c.args.line.now) in
    let settled : map (client_in_view next_backlog) conns ≡ map (client_in_view shown_backlog) conns =
    ap (λ (l : Clients). l.next) c.self.view_is ∙ c.requires ∙ sym (ap (λ (l : Clients). l.shown) c.self.view_is) in
    let alone = settled_box n conns i x at is settled in
    let box : c.commit.new.self ≡ record {
      shown = change x.outbox.shown;
      next = change x.outbox.next;
      max_entries = x.outbox.max_entries;
      max_bytes = x.outbox.max_bytes;
    } = put_and_shown change x.outbox c.stage_reply.new.self c.commit.new.self c.in_ok-stage_reply.ensures.ok
    c.commit.ensures alone in
    let there : i < length conns = (position-Some (λ (y : Conn). y.number == n) conns i x at).0 in
    let new : Conn = record { number = x.number; outbox = c.commit.new.self; headers = x.headers } in
    let before = c.args.dirty_conns.now in
    let after = c.note_at.new.dirty_conns in
    subst (λ (l : Clients). AreTold l.shown (map (client_in_view shown_backlog) (slice_set conns i new)) before after)
    c.self.view_is
    (one_told conns i new before after
    (ap (λ (b : Waiting). b.next) box ∙ ap change alone ∙ sym (ap (λ (b : Waiting). b.shown) box)) there
    c.note_at.ensures.told c.note_at.ensures.kept)

pub returns-in_default-clause-told : goal.returns-in_default-clause-told
returns-in_default-clause-told c = nothing_put c.args.self.now.shown c.args.self.now.shown c.args.dirty_conns.now refl

pub returns-then-not-room_for-clause-told : goal.returns-then-not-room_for-clause-told
returns-then-not-room_for-clause-told c =
    nothing_put c.args.self.now.shown c.args.self.now.shown c.args.dirty_conns.now refl

pub returns-in_err-stage_reply-clause-told : goal.returns-in_err-stage_reply-clause-told
returns-in_err-stage_reply-clause-told c =
    let conns = c.self.inside.conns.items in
    let n = c.args.conn in
    let i = c.in-Some.place in
    let at : position (λ (y : Conn). y.number == n) conns ≡ Some i = sym c.place_in.ensures ∙ c.in-Some.is in
    let x = c.index_mut-conn.result.now in
    let is = c.index_mut-conn.ensures.value in
    nothing_put _ _ c.args.dirty_conns.now
    (same_is shown_backlog n conns i x at is c.stage_reply.new.self
    (ap (λ (b : Waiting). client_in_view shown_backlog (record { number = x.number; outbox = b; headers = x.headers }))
    c.in_err-stage_reply.ensures.err) ∙ ap (λ (l : Clients). l.shown) c.self.view_is)
