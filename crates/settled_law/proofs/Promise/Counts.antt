-- Exactly one placement: one is there, and no two are.
use Rattle.std.proofs.Common.{◌≡◌, ℕ, Bool, true, false, true≢false, cond, ◌&&◌, nat_eq, List, [], ◌∷◌, length, refl, sym, ap, ◌∙◌, inl, inr, ⊎_elim}
use Rattle.std.specs.Prelude.{filter}
use Rattle.std.specs.Str.{bytes_eq}
use Rattle.std.proofs.lemmas.Slice.Eq.{bytes_eq-Decides}
use Rattle.list_laws.specs.Lists.{In, Each, Pairs}
use Rattle.list_laws.proofs.Lists.{pairs_weaker}
use Rattle.list_laws.proofs.Tests.{true_eq, eq_true, and_true, same_bytes}
use Rattle.outbox.specs.declared.entries.Mode.{Mode}
use Rattle.outbox.specs.declared.entries.Mode.TheVariants.{Plain, Queue}
use Rattle.subj.specs.QueueNames.{is_named}
use Rattle.subj.specs.declared.identities.PubId.{PubId}
use Rattle.node_law.specs.PlacedOnce.{mode_name}
use Rattle.world_law.specs.Headline.{Headline, PlainOnce, OneMember}
use Rattle.world_law.specs.State.{LifeId, Placement, World, is_sub}
use Rattle.settled_law.specs.Delivered.{IsPlaced, IsServed}
use Rattle.settled_law.specs.Promise.{is_id, is_life, is_plain_mode, is_for_life, is_for_group}

none_left : (test : Placement → Bool) (xs : List Placement) → Each (λ x. test x ≡ true → ⊥) xs → filter test xs ≡ []
none_left test [] none = refl
none_left test (x ∷ xs) none = go (none_left test xs (λ y i. none y (inr i))) (test x) refl
  where
    go : filter test xs ≡ [] → (b : Bool) → test x ≡ b → cond (test x) (x ∷ filter test xs) (filter test xs) ≡ []
    go later true e = absurd (none x (inl refl) e)
    go later false e = ap (λ b. cond b (x ∷ filter test xs) (filter test xs)) e ∙ later

just_one : (test : Placement → Bool) (xs : List Placement)
    → Pairs (λ x y. test x ≡ true → test y ≡ true → ⊥) xs
    → (x : Placement)
    → In x xs
    → test x ≡ true
    → length (filter test xs) ≡ 1
just_one test [] apart x i is = absurd i
just_one test (y ∷ ys) apart x i is = go (test y) refl (just_one test ys apart.1 x) i
  where
    go : (b : Bool)
        → test y ≡ b
        → (In x ys → test x ≡ true → length (filter test ys) ≡ 1)
        → In x (y ∷ ys)
        → length (cond (test y) (y ∷ filter test ys) (filter test ys)) ≡ 1
    go true e later j =
        ap (λ b. length (cond b (y ∷ filter test ys) (filter test ys))) e
        ∙ ap (λ l. length (y ∷ l)) (none_left test ys (λ z k f. apart.0 z k e f))
    go false e later j =
        ap (λ b. length (cond b (y ∷ filter test ys) (filter test ys))) e
        ∙ ⊎_elim (λ (s : x ≡ y). absurd (true≢false (sym is ∙ ap test s ∙ e))) (λ (k : In x ys). later k is) j

-- ---- names

same_id : (id other : PubId) → is_id id other ≡ true → other ≡ id
same_id id other e =
    let h = and_true (bytes_eq other.origin id.origin) (nat_eq other.inc id.inc && nat_eq other.number id.number) e in
    let g = and_true (nat_eq other.inc id.inc) (nat_eq other.number id.number) h.1 in
    λ i. record {
      origin = same_bytes other.origin id.origin h.0 i;
      inc = eq_true other.inc id.inc g.0 i;
      number = eq_true other.number id.number g.1 i;
    }

id_same : (id : PubId) → is_id id id ≡ true
id_same id = λ i.
    (bytes_eq-Decides id.origin id.origin).1 refl i
    && (true_eq id.inc id.inc refl i && true_eq id.number id.number refl i)

same_life : (life other : LifeId) → is_life life other ≡ true → other ≡ life
same_life life other e =
    let h = and_true (nat_eq other.node life.node) (nat_eq other.inc life.inc && is_sub life.sub other.sub) e in
    let g = and_true (nat_eq other.inc life.inc) (is_sub life.sub other.sub) h.1 in
    let s = and_true (nat_eq life.sub.shard other.sub.shard) (nat_eq life.sub.serial other.sub.serial) g.1 in
    λ i. record {
      node = eq_true other.node life.node h.0 i;
      inc = eq_true other.inc life.inc g.0 i;
      sub = record {
        shard = sym (eq_true life.sub.shard other.sub.shard s.0) i;
        serial = sym (eq_true life.sub.serial other.sub.serial s.1) i;
      };
    }

life_same : (life : LifeId) → is_life life life ≡ true
life_same life = λ i.
    true_eq life.node life.node refl i
    && (true_eq life.inc life.inc refl i
    && (true_eq life.sub.shard life.sub.shard refl i && true_eq life.sub.serial life.sub.serial refl i))

plain_mode : (mode : Mode) → is_plain_mode mode ≡ true → mode ≡ Plain
plain_mode Plain e = refl
plain_mode (Queue name) e = absurd (true≢false (sym e))

queue_mode : (name : List ℕ) (mode : Mode) → is_named name (mode_name mode) ≡ true → mode ≡ Queue name
queue_mode name Plain e = absurd (true≢false (sym e))
queue_mode name (Queue other) e = ap Queue (same_bytes other name e)

-- ---- one

pub one_for_life : (w : World) (id : PubId) (life : LifeId)
    → Headline w
    → IsPlaced w id life
    → length (filter (is_for_life id life) w.placements) ≡ 1
one_for_life w id life headline p =
    just_one (is_for_life id life) w.placements
    (pairs_weaker PlainOnce (λ x y. is_for_life id life x ≡ true → is_for_life id life y ≡ true → ⊥) w.placements
    (λ x y i j once e f.
    let a = and_true (is_id id x.id) (is_life life x.life && is_plain_mode x.mode) e in
    let b = and_true (is_life life x.life) (is_plain_mode x.mode) a.1 in
    let g = and_true (is_id id y.id) (is_life life y.life && is_plain_mode y.mode) f in
    let h = and_true (is_life life y.life) (is_plain_mode y.mode) g.1 in
    once (plain_mode x.mode b.1) (same_id id x.id a.0 ∙ sym (same_id id y.id g.0))
    (same_life life x.life b.0 ∙ sym (same_life life y.life h.0)))
    headline.plain_once)
    p.placement p.there (λ i.
    (ap (is_id id) p.is ∙ id_same id) i
    && ((ap (is_life life) p.life_is ∙ life_same life) i && ap is_plain_mode p.plain i))

pub one_for_group : (w : World) (id : PubId) (name : List ℕ)
    → Headline w
    → IsServed w id name
    → length (filter (is_for_group id name) w.placements) ≡ 1
one_for_group w id name headline p =
    just_one (is_for_group id name) w.placements
    (pairs_weaker OneMember (λ x y. is_for_group id name x ≡ true → is_for_group id name y ≡ true → ⊥) w.placements
    (λ x y i j once e f.
    let a = and_true (is_id id x.id) (is_named name (mode_name x.mode)) e in
    let g = and_true (is_id id y.id) (is_named name (mode_name y.mode)) f in
    once name (same_id id x.id a.0 ∙ sym (same_id id y.id g.0)) (queue_mode name x.mode a.1)
    (queue_mode name y.mode g.1))
    headline.one_member)
    p.placement p.there (λ i.
    (ap (is_id id) p.is ∙ id_same id) i
    && (ap (λ m. is_named name (mode_name m)) p.mode ∙ (bytes_eq-Decides name name).1 refl) i)
