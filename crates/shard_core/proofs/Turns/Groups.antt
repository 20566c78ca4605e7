-- What is noted of members finds all members of a queue name, and holds whatever is counted.
use Rattle.std.proofs.Common.{◌≡◌, ℕ, zero, suc, ◌+◌, ◌<◌, arith, length, take, get_or, ◌&&◌, Bool, true, false, true≢false, cond, nat_eq, List, [], ◌∷◌, ◌++◌, map, filter, Option, Some, None, refl, sym, ap, ◌∙◌, subst, inl, inr}
use Rattle.std.specs.Prelude.{find, is_some}
use Rattle.std.specs.Option.{option_to_list}
use Rattle.std.specs.List.{list_any}
use Rattle.subj.specs.declared.keys.Delta.{Delta}
use Rattle.list_laws.specs.Lists.{In}
use Rattle.list_laws.proofs.Tests.{same_bytes, true_eq}
use Rattle.list_laws.proofs.Changes.{append_nil, append_assoc, in_filter}
use Rattle.sub_table.specs.Subscriptions.{gets, has_serial}
use Rattle.sub_table.specs.declared.Subscription.{Subscription}
use Rattle.subj.specs.Matching.{subject_matches}
use Rattle.subj.specs.QueueNames.{is_named}
use Rattle.subj.specs.declared.keys.Key.{Key}
use Rattle.subj.specs.declared.jobs.Job.{Job}
use Rattle.shard_core.specs.declared.members.Member.{Member}
use Rattle.shard_core.specs.declared.members.Members.{Members}
use Rattle.shard_core.specs.Shards.{Client, client_at, fits}
use Rattle.shard_core.specs.Claims.{is_member}
use Rattle.shard_core.specs.Owed.{sub_with_count, owed_entry, is_permitted}
use Rattle.shard_core.specs.Opened.{AreRising, IsOpened}
use Rattle.shard_core.specs.Notes.{HoldNotes}
use Rattle.shard_core.specs.declared.notes.Notes.{Notes}
use Rattle.shard_core.specs.Members.{mark_of, mark_of_queue, is_in_group, is_in_group_of, member_of, members_of, AreNoted, found_at, found_of}
use Rattle.shard_core.proofs.Turns.Claims.{found_by_serial}

-- ---- counts

-- what one open subscription adds to the members of a subject, by its key and serial alone
abbrev added : List ℕ → Key → ℕ → List Member → List Member
added subject key serial members =
    cond (subject_matches key.pattern subject)
    (cond (is_some key.queue) (record { mark = mark_of_queue key.queue; serial = serial } ∷ members) members) members

adds : (subject : List ℕ) (u : Subscription) (us : List Subscription)
    → members_of (cond (gets subject u) (u ∷ us) us) ≡ added subject u.key u.serial (members_of us)
adds subject u us = by (gets subject u)
  where
    grouped : (b : Bool)
        → map member_of (cond b (u ∷ filter is_in_group us) (filter is_in_group us))
        ≡ cond b (member_of u ∷ members_of us) (members_of us)
    grouped true = refl
    grouped false = refl

    by : (g : Bool)
        → members_of (cond g (u ∷ us) us)
        ≡ cond g (cond (is_in_group u) (member_of u ∷ members_of us) (members_of us)) (members_of us)
    by true = grouped (is_in_group u)
    by false = refl

counted_key : (given : List ℕ) (u : Subscription) → (sub_with_count given u).key ≡ u.key
counted_key given u = by (list_any (nat_eq u.serial) given)
  where
    by : (b : Bool) → (cond b (record u { delivered = u.delivered + 1 }) u).key ≡ u.key
    by true = refl
    by false = refl

counted_serial : (given : List ℕ) (u : Subscription) → (sub_with_count given u).serial ≡ u.serial
counted_serial given u = by (list_any (nat_eq u.serial) given)
  where
    by : (b : Bool) → (cond b (record u { delivered = u.delivered + 1 }) u).serial ≡ u.serial
    by true = refl
    by false = refl

members_counted : (subject given : List ℕ) (us : List Subscription)
    → members_of (filter (gets subject) (map (sub_with_count given) us)) ≡ members_of (filter (gets subject) us)
members_counted subject given [] = refl
members_counted subject given (u ∷ us) =
    let v = sub_with_count given u in
    adds subject v (filter (gets subject) (map (sub_with_count given) us))
    ∙ ap (λ (k : Key). added subject k v.serial (members_of (filter (gets subject) (map (sub_with_count given) us))))
    (counted_key given u)
    ∙ ap (λ n. added subject u.key n (members_of (filter (gets subject) (map (sub_with_count given) us))))
    (counted_serial given u)
    ∙ ap (added subject u.key u.serial) (members_counted subject given us)
    ∙ sym (adds subject u (filter (gets subject) us))

pub noted_counted : (given : List ℕ) (us : List Subscription) (members : Members)
    → AreNoted us members
    → AreNoted (map (sub_with_count given) us) members
noted_counted given us members was noted = was noted ∙ sym (members_counted members.subject.items given us)

-- what was noted is forgotten
pub forgotten : (us vs : List Subscription) (ds : List Delta) (capacity : ℕ) (notes after : Notes)
    → vs ≡ us
    → ((subs : List Subscription) → HoldNotes subs after)
    → IsOpened us ds capacity notes
    → IsOpened vs ds capacity after
forgotten us vs ds capacity notes after same none was =
    subst (λ l. IsOpened l ds capacity after) (sym same)
    (record { rising = was.rising; noted = none us; places = was.places })

-- ---- a look at what is noted

-- a member of the queue group has its mark
marked_alike : (name : List ℕ) (u : Subscription)
    → is_in_group_of name u ≡ true
    → mark_of_queue u.key.queue ≡ mark_of name
marked_alike name u = by u.key.queue
  where
    by : (q : Option (List ℕ)) → is_named name q ≡ true → mark_of_queue q ≡ mark_of name
    by None e = absurd (cc)
    by (Some other) e = ap mark_of (same_bytes other name e)

named_found : (subs : List Subscription) (name : List ℕ) (us : List Subscription)
    → ((u : Subscription) → In u us → find (has_serial u.serial) subs ≡ Some u)
    → filter (is_in_group_of name) (found_of subs (mark_of name) (map member_of us)) ≡ filter (is_in_group_of name) us
named_found subs name [] there = refl
named_found subs name (u ∷ us) there =
    by (nat_eq (mark_of_queue u.key.queue) (mark_of name)) refl (named_found subs name us (λ v i. there v (inr i)))
  where
    rest : List Subscription
    rest = found_of subs (mark_of name) (map member_of us)

    by : (b : Bool)
        → nat_eq (mark_of_queue u.key.queue) (mark_of name) ≡ b
        → filter (is_in_group_of name) rest ≡ filter (is_in_group_of name) us
        → filter (is_in_group_of name) (option_to_list (cond b (find (has_serial u.serial) subs) None) ++ rest)
        ≡ cond (is_in_group_of name u) (u ∷ filter (is_in_group_of name) us) (filter (is_in_group_of name) us)
    by true e below =
        ap (λ (o : Option Subscription). filter (is_in_group_of name) (option_to_list o ++ rest)) (there u (inl refl))
        ∙ ap (λ l. cond (is_in_group_of name u) (u ∷ l) l) below
    by false e below =
        below
        ∙ sym (ap (λ b. cond b (u ∷ filter (is_in_group_of name) us) (filter (is_in_group_of name) us))
        (other (is_in_group_of name u) refl))
      where
        other : (b : Bool) → is_in_group_of name u ≡ b → is_in_group_of name u ≡ false
        other true f =
            absurd (true≢false (sym (true_eq (mark_of_queue u.key.queue) (mark_of name) (marked_alike name u f)) ∙ e))
        other false f = f

named_grouped : (name : List ℕ) (us : List Subscription)
    → filter (is_in_group_of name) (filter is_in_group us) ≡ filter (is_in_group_of name) us
named_grouped name [] = refl
named_grouped name (u ∷ us) = by u.key.queue refl (named_grouped name us)
  where
    below : List Subscription
    below = filter (is_in_group_of name) us

    by : (q : Option (List ℕ))
        → u.key.queue ≡ q
        → filter (is_in_group_of name) (filter is_in_group us) ≡ below
        → filter (is_in_group_of name) (cond (is_some u.key.queue) (u ∷ filter is_in_group us) (filter is_in_group us))
        ≡ cond (is_named name u.key.queue) (u ∷ below) below
    by None e rest =
        ap (λ (q : Option (List ℕ)).
        filter (is_in_group_of name) (cond (is_some q) (u ∷ filter is_in_group us) (filter is_in_group us)))
        e
        ∙ rest
        ∙ sym (ap (λ (q : Option (List ℕ)). cond (is_named name q) (u ∷ below) below) e)
    by (Some other) e rest =
        ap (λ (q : Option (List ℕ)).
        filter (is_in_group_of name) (cond (is_some q) (u ∷ filter is_in_group us) (filter is_in_group us)))
        e
        ∙ ap (λ l. cond (is_named name u.key.queue) (u ∷ l) l) rest

-- one more is looked up
pub found_more : (subs : List Subscription) (mark : ℕ) (members : List Member) (i : ℕ) (d : Member)
    → i < length members
    → found_of subs mark (take (i + 1) members)
    ≡ found_of subs mark (take i members) ++ option_to_list (found_at subs mark (get_or members i d))
found_more subs mark [] i d within = absurd (omega arith)
found_more subs mark (m ∷ ms) zero d within = append_nil (option_to_list (found_at subs mark m))
found_more subs mark (m ∷ ms) (suc i) d within =
    ap (λ k. found_of subs mark (take k (m ∷ ms))) (shifted i)
    ∙ ap (λ l. option_to_list (found_at subs mark m) ++ l) (found_more subs mark ms i d (omega arith))
    ∙ sym (append_assoc (option_to_list (found_at subs mark m)) (found_of subs mark (take i ms))
    (option_to_list (found_at subs mark (get_or ms i d))))
  where
    shifted : (i : ℕ) → suc i + 1 ≡ suc (i + 1)
    shifted i = omega arith

-- all members of the name are found
pub all_found : (subs : List Subscription) (subject name : List ℕ) (mark : ℕ) (members : List Member)
    (looks : List Subscription)
    → AreRising subs
    → members ≡ members_of (filter (gets subject) subs)
    → mark ≡ mark_of name
    → looks ≡ found_of subs mark members
    → filter (is_in_group_of name) looks ≡ filter (is_in_group_of name) (filter (gets subject) subs)
all_found subs subject name mark members looks rising noted alike found =
    let us = filter is_in_group (filter (gets subject) subs) in
    ap (filter (is_in_group_of name))
    (found ∙ ap (λ n. found_of subs n members) alike ∙ ap (found_of subs (mark_of name)) noted)
    ∙ named_found subs name us (λ u i.
    found_by_serial subs u rising
    (in_filter (gets subject) subs u (in_filter is_in_group (filter (gets subject) subs) u i).0).0)
    ∙ named_grouped name (filter (gets subject) subs)

-- ---- the candidates among them

module _ (shard : ℕ) (clients : List Client) (job : Job) (name : List ℕ) where
  member_named : (us : List Subscription)
      → filter (is_member shard clients job name) (filter (is_in_group_of name) us)
      ≡ filter (is_member shard clients job name) us
  member_named [] = refl
  member_named (u ∷ us) = by (is_in_group_of name u) refl (member_named us)
    where
      more : Bool
      more = is_permitted job u && fits (client_at u.conn clients) (owed_entry shard clients job u.key.queue u)

      kept : List Subscription
      kept = filter (is_member shard clients job name) us

      by : (b : Bool)
          → is_in_group_of name u ≡ b
          → filter (is_member shard clients job name) (filter (is_in_group_of name) us) ≡ kept
          → filter (is_member shard clients job name)
          (cond b (u ∷ filter (is_in_group_of name) us) (filter (is_in_group_of name) us))
          ≡ cond (is_in_group_of name u && more) (u ∷ kept) kept
      by true e rest = ap (λ l. cond (is_in_group_of name u && more) (u ∷ l) l) rest
      by false e rest = rest ∙ sym (ap (λ b. cond (b && more) (u ∷ kept) kept) e)

  -- the candidates among those that may be members are those among all that match
  pub same_members : (looks matching : List Subscription)
      → filter (is_in_group_of name) looks ≡ filter (is_in_group_of name) matching
      → filter (is_member shard clients job name) looks ≡ filter (is_member shard clients job name) matching
  same_members looks matching same =
      sym (member_named looks) ∙ ap (filter (is_member shard clients job name)) same ∙ member_named matching
