-- A legal run does each thing once.
use Rattle.std.proofs.Common.{◌≡◌, ◌⊎◌, ℕ, zero, suc, ◌+◌, ◌<◌, true, List, map, Option, Some, None, refl, sym, ap, ◌∙◌, subst, inl, inr, ⊎_elim, arith}
use Rattle.std.specs.Prelude.{slice_get, option_to_list}
use Rattle.list_laws.specs.Lists.{In, Each, Pairs, NoRepeat}
use Rattle.list_laws.proofs.Lists.{in_left, pairs_cases, pairs_weaker}
use Rattle.claim_cells.specs.Rule.{At}
use Rattle.subj.specs.declared.identities.PubId.{PubId}
use Rattle.subj.specs.declared.identities.SubId.{SubId}
use Rattle.subj.specs.declared.jobs.Job.{Job}
use Rattle.outbox.specs.declared.entries.Mode.{Mode}
use Rattle.outbox.specs.declared.entries.Mode.TheVariants.{Plain, Queue}
use Rattle.outbox.specs.declared.entries.Tag.TheVariants.{Msg}
use Rattle.shard_core.specs.Owed.{mode_of}
use Rattle.shard_core.specs.declared.calls.Placed.{Placed}
use Rattle.node_threads.specs.Steps as of_shard
use Rattle.node_threads.specs.Steps.{claims_of, placed_by}
use Rattle.thread_law.specs.Once.{Precedes, IsSource, IsPut, AreOnce, LegalRunsAreOnce, puts_of}
use Rattle.thread_law.specs.Runs.{HubRun, ShardRun, IsShardRun, IsLegal, claims_won}
use Rattle.thread_law.proofs.Gives.{Gave, Given, Later, Other, gave_by, given_run, tag_at, tags_run}
use Rattle.thread_law.proofs.Names.{names_apart}
use Rattle.thread_law.proofs.Places.{at_in, at_map, at_same, at_unmap, in_at, pairs_at}
use Rattle.thread_law.proofs.Publications.{Follows, past_run}
use Rattle.thread_law.proofs.Sources.{Apart, from_one, one_source}

three_ways : (i j : ℕ) → (i < j) ⊎ ((i ≡ j) ⊎ (j < i))
three_ways zero zero = inr (inl refl)
three_ways zero (suc j) = inl (omega arith)
three_ways (suc i) zero = inr (inr (omega arith))
three_ways (suc i) (suc j) =
    ⊎_elim (λ (a : i < j). inl (omega arith))
    (λ b. ⊎_elim (λ (e : i ≡ j). inr (inl (ap suc e))) (λ (c : j < i). inr (inr (omega arith))) b) (three_ways i j)

-- ---- what a tag says

record IsTag (shard : ℕ) (g : Gave) (id : PubId) (sub : SubId) (mode : Mode) : Type 0 where
  id_is : id ≡ g.job.id
  shard_is : sub.shard ≡ shard
  serial_is : sub.serial ≡ g.serial
  mode_is : mode ≡ mode_of g.queue

is_tag : (shard : ℕ) (g : Gave) (id : PubId) (sub : SubId) (mode : Mode)
    → tag_at shard g ≡ Msg id sub mode
    → IsTag shard g id sub mode
is_tag shard g id sub mode e =
    let i : id ≡ g.job.id = cc in
    let s : sub ≡ record { shard = shard; serial = g.serial } = cc in
    let m : mode ≡ mode_of g.queue = cc in
    record {
      id_is = i;
      shard_is = ap (λ (z : SubId). z.shard) s;
      serial_is = ap (λ (z : SubId). z.serial) s;
      mode_is = m;
    }

queue_is : (name : List ℕ) (q : Option (List ℕ)) → Queue name ≡ mode_of q → q ≡ Some name
queue_is name None e = cc
queue_is name (Some other) e = let same : name ≡ other = cc in ap Some (sym same)

-- ---- of a legal run

module _ (shards : ℕ) (hub : HubRun) (runs : List ShardRun) (legal : IsLegal shards hub runs) where
  issued_in_order : Pairs Follows hub.end.issued
  issued_in_order =
      subst (Pairs Follows) (sym legal.hub_run.gave)
      (past_run hub.end.side.server legal.hub_run.listed hub.steps hub.end.side legal.hub_run.led).rising

  not_twice : (a b : Job) → Follows a b → a.id ≡ b.id → ⊥
  not_twice a b f e =
      let lt = f.id (ap (λ (z : PubId). z.origin) e) (ap (λ (z : PubId). z.inc) e) in
      let same = ap (λ (z : PubId). z.number) e in
      absurd (omega arith)

  -- jobs of one publication are one
  one_job : (a b : Job) → In a hub.end.issued → In b hub.end.issued → a.id ≡ b.id → a ≡ b
  one_job a b i j e =
      ⊎_elim (λ (s : a ≡ b). s)
      (λ c.
      ⊎_elim (λ (f : Follows a b). absurd (not_twice a b f e)) (λ (f : Follows b a). absurd (not_twice b a f (sym e)))
      c)
      (pairs_cases Follows hub.end.issued issued_in_order a b i j)

  -- the one of the lower turn was given first
  in_order : (a b : Job) → In a hub.end.issued → In b hub.end.issued → a.turn < b.turn → Precedes a.id b.id
  in_order a b i j lt =
      ⊎_elim (λ (s : a ≡ b). absurd (let same = ap (λ (z : Job). z.turn) s in omega arith))
      (λ c. ⊎_elim (λ (f : Follows a b). f.id) (λ (f : Follows b a). let later = f.turn in absurd (omega arith)) c)
      (pairs_cases Follows hub.end.issued issued_in_order a b i j)

  -- ---- a shard's run

  module _ (k : ℕ) (run : ShardRun) (at : At runs k run) where
    own : IsShardRun shards hub.end.issued (k + 1) run
    own = legal.each k run at

    issued : (job : Job) → In job (of_shard.jobs_of run.steps) → In job hub.end.issued
    issued job i =
        let made = own.made in
        let taken = in_left job (of_shard.jobs_of run.steps) (option_to_list run.end.waiting) i in
        let popped : In job run.end.popped =
        subst (λ l. In job l) (sym made.popped) (subst (λ l. In job l) (sym made.taken) taken) in
        subst (λ l. In job l) (sym own.given.1) (in_left job run.end.popped own.given.0 popped)

    apart : Each (λ (j : Job). NoRepeat j.queues) (of_shard.jobs_of run.steps)
    apart job i = names_apart job.queues (legal.hub_run.named job (issued job i))

    given : Given run.end.state (gave_by run.steps) (of_shard.jobs_of run.steps) (claims_of true run.steps)
    given = given_run (k + 1) shards run.steps run.end.state own.made.led apart

    tags : map (λ (p : Placed). p.entry.tag) (placed_by run.steps) ≡ map (tag_at (k + 1)) (gave_by run.steps)
    tags = tags_run (k + 1) shards run.steps run.end.state own.made.led

  -- ---- a message that was put

  record Put (k i : ℕ) (id : PubId) (sub : SubId) (mode : Mode) : Type 0 where
    run : ShardRun
    at : At runs k run
    gave : Gave
    there : At (gave_by run.steps) i gave
    is : IsTag (k + 1) gave id sub mode
    known : In gave.job hub.end.issued

  put : (k i : ℕ) (id : PubId) (sub : SubId) (mode : Mode) → IsPut (puts_of runs) k i id sub mode → Put k i id sub mode
  put k i id sub mode p =
      let u = at_unmap (λ (r : ShardRun). placed_by r.steps) runs k p.by_shard p.of_shard in
      let run = u.0 in
      let there = subst (λ l. At l i p.put) (sym u.2) p.there in
      let tagged = subst (λ l. At l i p.put.entry.tag) (tags k run u.1)
      (at_map (λ (z : Placed). z.entry.tag) (placed_by run.steps) i p.put there) in
      let from = at_unmap (tag_at (k + 1)) (gave_by run.steps) i p.put.entry.tag tagged in
      record {
        run = run;
        at = u.1;
        gave = from.0;
        there = from.1;
        is = is_tag (k + 1) from.0 id sub mode (from.2 ∙ p.tag);
        known =
            issued k run u.1 from.0.job
            ((given k run u.1).each from.0 (at_in (gave_by run.steps) i from.0 from.1)).known;
      }

  -- of one run the second stands at the place of the first, where neither may stand before the other
  one_place : (R : Gave → Gave → Type 0) (gs : List Gave)
      → Pairs R gs
      → (i j : ℕ) (g h : Gave)
      → At gs i g
      → At gs j h
      → (R g h → ⊥)
      → (R h g → ⊥)
      → i ≡ j
  one_place R gs p i j g h x y forth back =
      ⊎_elim (λ (lt : i < j). absurd (forth (pairs_at R gs p i j g h lt x y)))
      (λ c. ⊎_elim (λ (e : i ≡ j). e) (λ (lt : j < i). absurd (back (pairs_at R gs p j i h g lt y x))) c)
      (three_ways i j)

  same_run : (s t j : ℕ) (id : PubId) (sub : SubId) (mode : Mode) (r : ShardRun)
      → At runs s r
      → s ≡ t
      → (q : Put t j id sub mode)
      → q.run ≡ r
  same_run s t j id sub mode r at e q = at_same runs t q.run r q.at (subst (λ n. At runs n r) e at)

  members : (s t i j : ℕ) (id : PubId) (u v : SubId) (name : List ℕ)
      → IsPut (puts_of runs) s i id u (Queue name)
      → IsPut (puts_of runs) t j id v (Queue name)
      → (s ≡ t) × (i ≡ j)
  members s t i j id u v name a b = (
    place,
    one_place Other (gave_by p.run.steps) (given s p.run p.at).other i j p.gave q.gave p.there
        (subst (λ (r : ShardRun). At (gave_by r.steps) j q.gave) (same_run s t j id v (Queue name) p.run p.at place q)
        q.there)
        (λ o. o (ap (λ (z : Job). z.turn) same) name first second)
        (λ o. o (ap (λ (z : Job). z.turn) (sym same)) name second first),
  )
    where
      p : Put s i id u (Queue name)
      p = put s i id u (Queue name) a

      q : Put t j id v (Queue name)
      q = put t j id v (Queue name) b

      same : p.gave.job ≡ q.gave.job
      same = one_job p.gave.job q.gave.job p.known q.known (sym p.is.id_is ∙ q.is.id_is)

      first : p.gave.queue ≡ Some name
      first = queue_is name p.gave.queue p.is.mode_is

      second : q.gave.queue ≡ Some name
      second = queue_is name q.gave.queue q.is.mode_is

      place : s ≡ t
      place =
          let x = ((given s p.run p.at).each p.gave (at_in (gave_by p.run.steps) i p.gave p.there)).won name first in
          let y = ((given t q.run q.at).each q.gave (at_in (gave_by q.run.steps) j q.gave q.there)).won name second in
          let index : x.0 ≡ y.0 = names_apart p.gave.job.queues (legal.hub_run.named p.gave.job p.known) x.0 y.0 name
          x.1 (subst (λ (z : Job). slice_get z.queues y.0 ≡ Some name) (sym same) y.1) in
          let pair : (q.gave.job.turn, y.0) ≡ (p.gave.job.turn, x.0) = (λ k. ((sym same k).turn, sym index k)) in
          let here = in_at (claims_won p.run) (p.gave.job.turn, x.0) x.2 in
          let there =
          in_at (claims_won q.run) (p.gave.job.turn, x.0) (subst (λ (z : ℕ × ℕ). In z (claims_won q.run)) pair y.2) in
          (legal.once s t here.0 there.0 p.run q.run (p.gave.job.turn, x.0) p.at q.at here.1 there.1).0

  plain : (s t i j : ℕ) (id : PubId) (u : SubId)
      → IsPut (puts_of runs) s i id u Plain
      → IsPut (puts_of runs) t j id u Plain
      → (s ≡ t) × (i ≡ j)
  plain s t i j id u a b = (
    place,
    one_place Later (gave_by p.run.steps) (given s p.run p.at).later i j p.gave q.gave p.there
        (subst (λ (r : ShardRun). At (gave_by r.steps) j q.gave) (same_run s t j id u Plain p.run p.at place q) q.there)
        (λ l. let lt = l serial in let turn = ap (λ (z : Job). z.turn) same in absurd (omega arith))
        (λ l. let lt = l (sym serial) in let turn = ap (λ (z : Job). z.turn) same in absurd (omega arith)),
  )
    where
      p : Put s i id u Plain
      p = put s i id u Plain a

      q : Put t j id u Plain
      q = put t j id u Plain b

      same : p.gave.job ≡ q.gave.job
      same = one_job p.gave.job q.gave.job p.known q.known (sym p.is.id_is ∙ q.is.id_is)

      serial : p.gave.serial ≡ q.gave.serial
      serial = sym p.is.serial_is ∙ q.is.serial_is

      place : s ≡ t
      place = let x = p.is.shard_is in let y = q.is.shard_is in omega arith

  rising : (s i j : ℕ) (a b : PubId) (u : SubId) (m n : Mode)
      → IsPut (puts_of runs) s i a u m
      → IsPut (puts_of runs) s j b u n
      → i < j
      → Precedes a b
  rising s i j a b u m n x y lt =
      let p = put s i a u m x in
      let q = put s j b u n y in
      let there =
      subst (λ (r : ShardRun). At (gave_by r.steps) j q.gave) (at_same runs s q.run p.run q.at p.at) q.there in
      let later = pairs_at Later (gave_by p.run.steps) (given s p.run p.at).later i j p.gave q.gave lt p.there there in
      subst (λ z. Precedes z b) (sym p.is.id_is)
      (subst (λ z. Precedes p.gave.job.id z) (sym q.is.id_is)
      (in_order p.gave.job q.gave.job p.known q.known (later (sym p.is.serial_is ∙ q.is.serial_is))))

  -- ---- where jobs came from

  all_apart : Pairs Apart hub.end.issued
  all_apart = pairs_weaker Follows Apart hub.end.issued (λ a b _ _ f e. not_twice a b f e) issued_in_order

  sources : (n : ℕ) (job : Job)
      → At hub.end.issued n job
      → (place : ℕ) × IsSource hub place job
      × ((other : ℕ) (again : Job) → IsSource hub other again → again.id ≡ job.id → other ≡ place)
  sources n job at =
      let gave = legal.hub_run.gave in
      let f = from_one hub.end.side.server hub.steps hub.end.side legal.hub_run.led job
      (subst (λ l. In job l) gave (at_in hub.end.issued n job at)) in (
        f.place,
        record { step = f.step; there = f.there; brings = f.brings; gives = f.gives },
        λ other again src same.
            one_source hub.steps (subst (Pairs Apart) gave all_apart) other f.place src.step f.step again job src.there
            f.there src.gives f.gives same,
      )

  once : AreOnce hub runs
  once = record {
    ids = pairs_weaker Follows (λ (a b : Job). Precedes a.id b.id) hub.end.issued (λ a b _ _ f. f.id) issued_in_order;
    sources = sources;
    puts = record {
      members = members;
      plain = plain;
      own = λ s i id u mode a. (put s i id u mode a).is.shard_is;
      rising = rising;
    };
  }

pub legal_once : LegalRunsAreOnce
legal_once shards hub runs legal = once shards hub runs legal
