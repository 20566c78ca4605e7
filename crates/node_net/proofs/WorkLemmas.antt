-- Shards that are worked, job by job and shard by shard.
use Rattle.std.proofs.Common.{◌≡◌, ◌⊎◌, ℕ, ◌+◌, ◌-◌, ◌^◌, zero, suc, ◌≤◌, ◌<◌, Bool, true, false, Option, Result, refl, sym, subst, arith, inl, inr}
use Rattle.std.specs.Prelude.{◌||◌}
use Rattle.std.proofs.Math.Nat.{eq-or-lt_of_le}
use Rattle.std.proofs.lemmas.Bool.{cases_lt}
use Rattle.std.specs.declared.alloc.AllocError.{AllocError}
use Rattle.hub_core.specs.declared.answers.CollectResult.{CollectResult}
use Rattle.server_calls.specs.declared.shard.NextJob.{NextJob}
use Rattle.server_calls.specs.declared.shard.NextJob.TheVariants.{Worked, Nothing, Short}
use Rattle.node_net.specs.Turning.{WasWorked, WorksMany, IsLast, Works, WorksShard, WorksBetween, CollectsEach}

-- as many were worked as the loop has turned
pub record SoMany {S : Type 0} (worked : S → NextJob → S → Type 0) (before after : S) (turns : ℕ) : Type 0 where
  pub count : ℕ
  pub many : WorksMany worked before count after
  pub is : count ≡ turns

pub works_none : {S : Type 0} (worked : S → NextJob → S → Type 0) (before : S) → SoMany worked before before 0
works_none worked before = record { count = 0; many = refl; is = refl }

pub works_one : {S : Type 0} (worked : S → NextJob → S → Type 0) (before mid after : S) (turns : ℕ) (came : NextJob)
    → SoMany worked before mid turns → worked mid came after → WasWorked came → SoMany worked before after (turns + 1)
works_one worked before mid after turns came far call was =
    record { count = suc far.count; many = (mid, came, far.many, call, was); is = omega (arith, far.is) }

pub works_last : {S : Type 0} (worked : S → NextJob → S → Type 0) (is_urgent : Bool) (before mid after : S) (turns : ℕ)
    (last : NextJob)
    → SoMany worked before mid turns → worked mid last after → IsLast is_urgent last
    → Works worked is_urgent before after
works_last worked is_urgent before mid after turns last far call is =
    record { count = far.count; mid = mid; last = last; many = far.many; tried = call; ends = inl is }

pub works_all : {S : Type 0} (worked : S → NextJob → S → Type 0) (is_urgent : Bool) (before after : S) (turns : ℕ)
    → SoMany worked before after turns → turns ≡ 2 ^ 64 - 1 → Works worked is_urgent before after
works_all {S} worked is_urgent before after turns far all = go far.count far.many far.is where
  go : (count : ℕ) → WorksMany worked before count after → count ≡ turns → Works worked is_urgent before after
  go zero many is = absurd (omega (arith, is, all))
  go (suc count) many is =
      record {
        count = count;
        mid = many.0;
        last = many.1;
        many = many.2;
        tried = many.3;
        ends = inr (omega (arith, is, all));
      }

-- ---- all between two places

-- what is told may be told of more
last_any : (one any : Bool) (last : NextJob) → (one ≡ true → any ≡ true) → IsLast one last → IsLast any last
last_any one any (Worked jobs) more is = more is
last_any one any Nothing more is = tt
last_any one any Short more is = tt

shard_any : {S : Type 0} (worked : S → NextJob → S → Type 0) (number : S → ℕ) (lacks : ℕ → Type 0) (one any : Bool)
    (shard : ℕ)
    → (one ≡ true → any ≡ true)
    → WorksShard worked number lacks one shard
    → WorksShard worked number lacks any shard
shard_any worked number lacks one any shard more (inr lack) = inr lack
shard_any worked number lacks one any shard more (inl is) =
    inl (record {
      before = is.before;
      after = is.after;
      is = is.is;
      works =
          record {
            count = is.works.count;
            mid = is.works.mid;
            last = is.works.last;
            many = is.works.many;
            tried = is.works.tried;
            ends = pick is.works.ends;
          };
    })
  where
    pick : IsLast one is.works.last ⊎ (is.works.count + 1 ≡ 2 ^ 64 - 1)
        → IsLast any is.works.last ⊎ (is.works.count + 1 ≡ 2 ^ 64 - 1)
    pick (inl last) = inl (last_any one any is.works.last more last)
    pick (inr all) = inr all

or_first : (one other : Bool) → one ≡ true → (one || other) ≡ true
or_first true other is = refl
or_first false other is = absurd (cc is)

or_second : (one other : Bool) → other ≡ true → (one || other) ≡ true
or_second true other is = refl
or_second false other is = is

pub between_any : {S : Type 0} (worked : S → NextJob → S → Type 0) (number : S → ℕ) (lacks : ℕ → Type 0) (one : Bool)
    (from until : ℕ)
    → WorksBetween worked number lacks one from until
    → WorksBetween worked number lacks true from until
between_any worked number lacks one from until far shard low high =
    shard_any worked number lacks one true shard (λ is. refl) (far shard low high)

pub between_none : {S : Type 0} (worked : S → NextJob → S → Type 0) (number : S → ℕ) (lacks : ℕ → Type 0)
    (is_urgent : Bool) (from until : ℕ)
    → until ≤ from
    → WorksBetween worked number lacks is_urgent from until
between_none worked number lacks is_urgent from until none shard low high = absurd (omega (arith, none, low, high))

pub between_more : {S : Type 0} (worked : S → NextJob → S → Type 0) (number : S → ℕ) (lacks : ℕ → Type 0)
    (before one : Bool) (from until : ℕ)
    → WorksBetween worked number lacks before from until
    → WorksShard worked number lacks one (until + 1)
    → WorksBetween worked number lacks (before || one) from (until + 1)
between_more worked number lacks before one from until far last shard low high = pick (eq-or-lt_of_le high) where
  pick : (shard ≡ until + 1) ⊎ (shard < until + 1) → WorksShard worked number lacks (before || one) shard
  pick (inl is) =
      shard_any worked number lacks one (before || one) shard (or_second before one)
      (subst (WorksShard worked number lacks one) (sym is) last)
  pick (inr less) =
      shard_any worked number lacks before (before || one) shard (or_first before one)
      (far shard low (omega (arith, less)))

pub between_less : {S : Type 0} (worked : S → NextJob → S → Type 0) (number : S → ℕ) (lacks : ℕ → Type 0)
    (is_urgent : Bool) (from until last : ℕ)
    → WorksBetween worked number lacks is_urgent from last
    → until ≤ last
    → WorksBetween worked number lacks is_urgent from until
between_less worked number lacks is_urgent from until last far less shard low high =
    far shard low (omega (arith, less, high))

-- up to one place, and on from there
pub between_both : {S : Type 0} (worked : S → NextJob → S → Type 0) (number : S → ℕ) (lacks : ℕ → Type 0)
    (one other : Bool) (first count : ℕ)
    → WorksBetween worked number lacks other 0 first
    → WorksBetween worked number lacks one first count
    → WorksBetween worked number lacks (one || other) 0 count
between_both worked number lacks one other first count front behind shard low high = pick (cases_lt first shard) where
  pick : (first < shard) ⊎ (shard ≤ first) → WorksShard worked number lacks (one || other) shard
  pick (inl more) =
      shard_any worked number lacks one (one || other) shard (or_first one other) (behind shard more high)
  pick (inr less) =
      shard_any worked number lacks other (one || other) shard (or_second one other) (front shard low less)

-- ---- what was opened and closed

pub collects_more : (collected : ℕ → Result (Option CollectResult) AllocError → Type 0) (until : ℕ)
    (came : Result (Option CollectResult) AllocError)
    → CollectsEach collected until
    → collected (until + 1) came
    → CollectsEach collected (until + 1)
collects_more collected until came far one shard low high = pick (eq-or-lt_of_le high) where
  pick : (shard ≡ until + 1) ⊎ (shard < until + 1) → (c : Result (Option CollectResult) AllocError) × collected shard c
  pick (inl is) = (came, subst (λ n. collected n came) (sym is) one)
  pick (inr less) = far shard low (omega (arith, less))

pub collects_none : (collected : ℕ → Result (Option CollectResult) AllocError → Type 0) → CollectsEach collected 0
collects_none collected shard low high = absurd (omega (arith, low, high))

pub collects_less : (collected : ℕ → Result (Option CollectResult) AllocError → Type 0) (until last : ℕ)
    → CollectsEach collected last
    → until ≤ last
    → CollectsEach collected until
collects_less collected until last far less shard low high = far shard low (omega (arith, less, high))
