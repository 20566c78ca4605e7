-- The calls that are made in a turn of a client's connection are one run of its life.
use Rattle.std.proofs.Common.{ℕ, List, [], ◌∷◌, ◌++◌, Result, Ok, Err, refl, subst, inl, inr}
use Rattle.std.specs.declared.alloc.AllocError.{AllocError}
use Rattle.subj.specs.declared.messages.Pub.{Pub}
use Rattle.client_conn.specs.Asks.{Asking}
use Rattle.client_calls.specs.Calls.{Called, attached, asked, detached}
use Rattle.client_calls.specs.Serving.{Follows, asking_behind}
use Rattle.client_calls.specs.declared.outcome.Outcome.{Outcome}
use Rattle.client_calls.specs.declared.outcome.Served.{Served}
use Rattle.node_net.specs.Holds.{Serves, RunsAt, Advances, calls_of_serving, calls_of_run, calls_of_turn, TurnsAreServed}
use Rattle.node_net.specs.declared.client_link.Place.{Place}
use Rattle.node_net.specs.declared.client_link.Place.TheVariants.{Shard, Hub}
use Rattle.node_net.specs.declared.runs.Ran.{Ran}

follows_join : (conn : ℕ) (s : Asking) (xs : List Called) (t : Asking) (ys : List Called) (u : Asking)
    → Follows conn s xs t
    → Follows conn t ys u
    → Follows conn s (xs ++ ys) u
follows_join conn s [] t ys u f g = subst (λ (v : Asking). Follows conn v ys u) f g
follows_join conn s (asked n a o ∷ xs) t ys u f g = (f.0, f.1, follows_join conn (asking_behind o s) xs t ys u f.2 g)
follows_join conn s (attached r ∷ xs) t ys u f g = absurd f
follows_join conn s (detached n r ∷ xs) t ys u f g = absurd f

of_serving : {S : Type 0} (made : S → Called → S → Type 0) (conn most : ℕ) (result : Result Served AllocError)
    (old : Asking) (before : S) (new : Asking) (after : S) (serves : Serves made conn most result old before new after)
    → Follows conn old (calls_of_serving made conn most result old before new after serves) new
of_serving made conn most (Ok s) old before new after is = is.follow
of_serving made conn most (Err lack) old before new after is = is.follow

of_run : {S H : Type 0} (made : S → Called → S → Type 0) (number : S → ℕ) (lacks : ℕ → Type 0)
    (published : H → ℕ → Pub → ℕ → Outcome → H → Type 0) (pushed : H → H → Type 0) (place there : Place)
    (shard conn : ℕ) (end : Ran) (old new : Asking)
    (run : RunsAt made number lacks published pushed place there shard conn end old new)
    → Follows conn old (calls_of_run made number lacks published pushed place there shard conn end old new run) new
of_run made number lacks published pushed Shard there shard conn end old new (inl at) =
    of_serving made conn _ at.runs.runs.served old at.before new at.after at.runs.runs.serves
of_run made number lacks published pushed Shard there shard conn end old new (inr none) = none.same.0
of_run made number lacks published pushed Hub there shard conn end old new at =
    of_serving _ conn _ at.runs.runs.served old at.before new at.mid at.runs.runs.serves

of_turn : {S H : Type 0} (made : S → Called → S → Type 0) (number : S → ℕ) (lacks : ℕ → Type 0)
    (published : H → ℕ → Pub → ℕ → Outcome → H → Type 0) (pushed : H → H → Type 0) (place there : Place)
    (shard conn : ℕ) (end : Ran) (old new : Asking)
    (turn : Advances made number lacks published pushed place there shard conn end old new)
    → Follows conn old (calls_of_turn made number lacks published pushed place there shard conn end old new turn) new
of_turn made number lacks published pushed place there shard conn end old new (inl one) =
    of_run made number lacks published pushed place there shard conn end old new one
of_turn made number lacks published pushed place there shard conn end old new (inr two) =
    follows_join conn old
    (calls_of_run made number lacks published pushed place two.via shard conn two.first old two.mid two.one) two.mid
    (calls_of_run made number lacks published pushed two.via there shard conn end two.mid new two.two) new
    (of_run made number lacks published pushed place two.via shard conn two.first old two.mid two.one)
    (of_run made number lacks published pushed two.via there shard conn end two.mid new two.two)

pub turns_are_served : {C S H : Type 0} (made : S → Called → S → Type 0) (number : S → ℕ) (lacks : C → ℕ → Type 0)
    (published : H → ℕ → Pub → ℕ → Outcome → H → Type 0) (pushed : H → H → Type 0)
    → TurnsAreServed made number lacks published pushed
turns_are_served made number lacks published pushed node place there shard conn end old new turn = (
  new,
  of_turn made number (lacks node) published pushed place there shard conn end old new turn,
  refl,
)
