-- What the scripts have in common: a cluster, a message, and the small facts that each step asks for.
use Rattle.std.proofs.Common.{◌≡◌, ◌≢◌, ℕ, zero, suc, true, List, [], ◌∷◌, Some, None, refl, sym, ap, subst, ⊎_elim, arith}
use Rattle.std.specs.Prelude.{slice_get}
use Rattle.std.proofs.lemmas.Option.{none-some}
use Rattle.list_laws.specs.Lists.{In, Each, NoRepeat, Disjoint}
use Rattle.cluster_law.specs.Names.{Bytes, PubId}
use Rattle.cluster_law.specs.Interest.{View, Change, Up, Gone, Cleared}
use Rattle.cluster_law.specs.Messages.{Publication, Routed}
use Rattle.cluster_law.specs.Config.{Config}
use Rattle.cluster_law.specs.Hub.{Hub, new_peer, RoutedOf}
use Rattle.cluster_law.specs.Race.{KeptOver}
use Rattle.cluster_law.specs.Shard.{Subscription, Shard, IsOwedPlain}
use Rattle.cluster_law.specs.History.{Job}
use Rattle.cluster_law.proofs.Scripts.Lines.{hello}

-- every change is put in front
abbrev pub stack : Change → View → View
stack (Up x) view = x ∷ view
stack (Gone key) view = view
stack Cleared view = []

-- any window will do
abbrev pub small : ℕ
small = 4

abbrev pub cluster_of : ℕ → ℕ → Config
cluster_of shards window = record {
  nodes = 3;
  shards = shards;
  window = window;
  queue_names = 2;
  matches = λ pattern subject. true;
  follow = stack;
}

abbrev pub three : Config
three = cluster_of 2 small

abbrev pub queue : Bytes
queue = 7 ∷ []

abbrev pub id_of : ℕ → ℕ → PubId
id_of inc number = record { origin = 0; inc = inc; number = number }

-- of node 0, for node 1
abbrev pub routed : ℕ → ℕ → ℕ → List Bytes → Routed
routed inc number to_inc names = record {
  id = id_of inc number;
  to = 1;
  to_inc = to_inc;
  content = hello;
  names = names;
}

abbrev pub member : Subscription
member = record { serial = 1; connection = 1; sid = 1 ∷ []; pattern = 1 ∷ []; queue = Some queue }

abbrev pub plain : Subscription
plain = record { serial = 1; connection = 1; sid = 1 ∷ []; pattern = 1 ∷ []; queue = None }

pub none_twice : NoRepeat {A = Bytes} []
none_twice i j x e f = absurd (none-some x e)

pub one_name : (q : Bytes) → NoRepeat (q ∷ [])
one_name q zero zero x e f = refl
one_name q zero (suc j) x e f = absurd (none-some x f)
one_name q (suc i) j x e f = absurd (none-some x e)

pub none_shared : {A : Type 0} (xs : List A) → Disjoint xs []
none_shared xs x i k = k

pub same_won : (window issued : ℕ) (won : List (ℕ × ℕ)) → KeptOver window issued won won
same_won window issued won t i lt = ((λ x. x), (λ x. x))

-- another start of the list is not this one
pub other_node : (n inc m v : ℕ) (l : List (ℕ × ℕ)) → n ≢ m → (In (n, inc) l → ⊥) → In (n, inc) ((m, v) ∷ l) → ⊥
other_node n inc m v l ne h i =
    ⊎_elim (λ (e : (n, inc) ≡ (m, v)). ne (ap (λ (y : ℕ × ℕ). y.0) e)) (λ (k : In (n, inc) l). h k) i

pub other_inc : (n inc m v : ℕ) (l : List (ℕ × ℕ)) → inc ≢ v → (In (n, inc) l → ⊥) → In (n, inc) ((m, v) ∷ l) → ⊥
other_inc n inc m v l ne h i =
    ⊎_elim (λ (e : (n, inc) ≡ (m, v)). ne (ap (λ (y : ℕ × ℕ). y.1) e)) (λ (k : In (n, inc) l). h k) i

-- a frame of a publication for node 1, which the hub has seen at its incarnation 1
pub of_publication : (hub : Hub) (p : Publication) (m : Routed)
    → m.id ≡ p.id
    → m.content ≡ p.content
    → m.to ≡ 1
    → slice_get hub.peers m.to ≡ Some (new_peer 1)
    → m.to_inc ≡ 1
    → NoRepeat m.names
    → RoutedOf 0 hub p m
of_publication hub p m id content to known to_inc once = record {
  id = id;
  content = content;
  other = λ e. absurd (omega arith);
  peer = new_peer 1;
  peer_is = known;
  to_inc = to_inc;
  once = once;
}

pub only : {A : Type 0} (P : A → Type 0) (x : A) → P x → Each P (x ∷ [])
only P x p y i = ⊎_elim (λ (e : y ≡ x). subst P (sym e) p) (λ (k : ⊥). absurd k) i

pub owed_plain : (c : Config) (sh : Shard) (job : Job) (u : Subscription)
    → In u sh.subscriptions
    → u.queue ≡ None
    → c.matches u.pattern job.content.subject ≡ true
    → Each (IsOwedPlain c sh job) (u ∷ [])
owed_plain c sh job u i q m = only (IsOwedPlain c sh job) u (record { is_open = i; plain = q; matches = m })
