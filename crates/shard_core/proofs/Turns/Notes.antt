-- What is noted of the receivers of a subject holds whatever is counted.
use Rattle.std.proofs.Common.{◌≡◌, ℕ, ◌+◌, Bool, true, false, cond, nat_eq, List, [], ◌∷◌, map, filter, refl, ap, ◌∙◌, sym}
use Rattle.std.specs.List.{list_any}
use Rattle.sub_table.specs.Subscriptions.{gets}
use Rattle.sub_table.specs.declared.Subscription.{Subscription}
use Rattle.shard_core.specs.Owed.{sub_with_count}
use Rattle.std.proofs.lemmas.List.Elements.{All-weaker}
use Rattle.shard_core.specs.Notes.{AreNotedRightly, HoldNotes}
use Rattle.shard_core.specs.Received.{receiver_of, receivers_of}
use Rattle.shard_core.specs.declared.notes.Notes.{Notes}
use Rattle.shard_core.proofs.Turns.Groups.{noted_counted}

receivers_counted : (subject given : List ℕ) (us : List Subscription)
    → receivers_of subject (filter (gets subject) (map (sub_with_count given) us))
    ≡ receivers_of subject (filter (gets subject) us)
receivers_counted subject given [] = refl
receivers_counted subject given (u ∷ us) = by (receivers_counted subject given us) (list_any (nat_eq u.serial) given)
  where
    counted : Subscription
    counted = record u { delivered = u.delivered + 1 }

    more : receivers_of subject (filter (gets subject) (map (sub_with_count given) us))
        ≡ receivers_of subject (filter (gets subject) us)
        → (g : Bool)
        → receivers_of subject
        (cond g (u ∷ filter (gets subject) (map (sub_with_count given) us))
        (filter (gets subject) (map (sub_with_count given) us)))
        ≡ receivers_of subject (cond g (u ∷ filter (gets subject) us) (filter (gets subject) us))
    more rest true = ap (λ l. receiver_of subject u ∷ l) rest
    more rest false = rest

    alike : (g : Bool) (vs : List Subscription)
        → receivers_of subject (cond g (counted ∷ vs) vs) ≡ receivers_of subject (cond g (u ∷ vs) vs)
    alike true vs = refl
    alike false vs = refl

    by : receivers_of subject (filter (gets subject) (map (sub_with_count given) us))
        ≡ receivers_of subject (filter (gets subject) us)
        → (b : Bool)
        → receivers_of subject (filter (gets subject) (cond b counted u ∷ map (sub_with_count given) us))
        ≡ receivers_of subject (filter (gets subject) (u ∷ us))
    by rest true =
        alike (gets subject u) (filter (gets subject) (map (sub_with_count given) us)) ∙ more rest (gets subject u)
    by rest false = more rest (gets subject u)

pub notes_counted : (given : List ℕ) (us : List Subscription) (notes : Notes)
    → HoldNotes us notes
    → HoldNotes (map (sub_with_count given) us) notes
notes_counted given us notes was = record {
  members = noted_counted given us notes.members was.members;
  receivers =
      All-weaker (AreNotedRightly us) (AreNotedRightly (map (sub_with_count given) us))
      (λ r right noted. right noted ∙ sym (receivers_counted r.subject.items given us)) notes.receivers.places.items
      was.receivers;
}
