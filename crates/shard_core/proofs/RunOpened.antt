-- What is noted holds whatever is counted by a run.
use Rattle.std.proofs.Common.{◌≡◌, ℕ, ◌+◌, Bool, true, false, cond, List, map, filter, refl, sym, ap, ◌∙◌, subst}
use Rattle.list_laws.proofs.Changes.{map_filter, map_map, map_same}
use Rattle.sub_table.specs.Subscriptions.{gets, has_serial}
use Rattle.sub_table.specs.declared.Subscription.{Subscription}
use Rattle.shard_core.specs.Closings.{serials_of}
use Rattle.shard_core.specs.Members.{is_in_group, member_of, members_of}
use Rattle.std.proofs.lemmas.List.Elements.{All-weaker}
use Rattle.shard_core.specs.Notes.{AreNotedRightly, HoldNotes}
use Rattle.shard_core.specs.Received.{receiver_of, receivers_of}
use Rattle.shard_core.specs.RunReceivers.{sub_with_more}
use Rattle.shard_core.specs.declared.notes.Notes.{Notes}
use Rattle.shard_core.proofs.RunCounts.{recounted, serials_recounted}

-- its count alone is another one
abbrev count_with : ℕ → ℕ → Subscription → ℕ
count_with serial count sub = cond (has_serial serial sub) (sub.delivered + count) sub.delivered

more_is : (serial count : ℕ) (subs : List Subscription)
    → map (sub_with_more serial count) subs ≡ map (recounted (count_with serial count)) subs
more_is serial count subs =
    map_same (sub_with_more serial count) (recounted (count_with serial count)) subs (λ x. by x (has_serial serial x))
  where
    by : (x : Subscription) (b : Bool)
        → cond b (record x { delivered = x.delivered + count }) x
        ≡ (record x { delivered = cond b (x.delivered + count) x.delivered })
    by x true = refl
    by x false = refl

pub more_serials : (serial count : ℕ) (subs : List Subscription)
    → serials_of (map (sub_with_more serial count) subs) ≡ serials_of subs
more_serials serial count subs =
    ap serials_of (more_is serial count subs) ∙ serials_recounted (count_with serial count) subs

receivers_recounted : (count : Subscription → ℕ) (subject : List ℕ) (subs : List Subscription)
    → receivers_of subject (filter (gets subject) (map (recounted count) subs))
    ≡ receivers_of subject (filter (gets subject) subs)
receivers_recounted count subject subs =
    ap (receivers_of subject) (map_filter (recounted count) (gets subject) (gets subject) subs (λ x. refl))
    ∙ map_map (recounted count) (receiver_of subject) (filter (gets subject) subs)

members_recounted : (count : Subscription → ℕ) (subject : List ℕ) (subs : List Subscription)
    → members_of (filter (gets subject) (map (recounted count) subs)) ≡ members_of (filter (gets subject) subs)
members_recounted count subject subs =
    ap members_of (map_filter (recounted count) (gets subject) (gets subject) subs (λ x. refl))
    ∙ ap (map member_of) (map_filter (recounted count) is_in_group is_in_group (filter (gets subject) subs) (λ x. refl))
    ∙ map_map (recounted count) member_of (filter is_in_group (filter (gets subject) subs))

pub notes_more : (serial count : ℕ) (subs : List Subscription) (notes : Notes)
    → HoldNotes subs notes → HoldNotes (map (sub_with_more serial count) subs) notes
notes_more serial count subs notes was =
    subst (λ (l : List Subscription). HoldNotes l notes) (sym (more_is serial count subs)) (record {
      members = λ noted.
          was.members noted ∙ sym (members_recounted (count_with serial count) notes.members.subject.items subs);
      receivers =
          All-weaker (AreNotedRightly subs) (AreNotedRightly (map (recounted (count_with serial count)) subs))
          (λ r right noted. right noted ∙ sym (receivers_recounted (count_with serial count) r.subject.items subs))
          notes.receivers.places.items was.receivers;
    })
