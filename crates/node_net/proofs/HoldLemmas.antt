-- Runs of calls, seen at what is held instead of at what counts them.
use Rattle.std.proofs.Common.{◌≡◌, ℕ, ◌+◌, ◌≤◌, ◌<◌, Bool, true, List, [], ◌∷◌, ◌++◌, length, None, Result, Ok, Err, refl, sym, ap, ◌∙◌, subst, arith, inl, inr, length-append}
use Rattle.std.proofs.lemmas.List.{map-append}
use Rattle.std.specs.Prelude.{IfOk, OnErr, map}
use Rattle.std.specs.declared.alloc.AllocError.{AllocError}
use Rattle.client_conn.specs.Asks.{Asking}
use Rattle.client_conn.specs.declared.ask.ClientAction.TheVariants as action
use Rattle.client_calls.specs.Calls.{Called, asked, Chain}
use Rattle.client_calls.specs.Serving.{HasServed, HasBegun}
use Rattle.client_calls.specs.Runs.{HasPublished, published_by}
use Rattle.client_calls.specs.declared.outcome.Outcome.{Outcome}
use Rattle.client_calls.specs.declared.outcome.Outcome.TheVariants.{Done}
use Rattle.client_calls.specs.declared.outcome.Served.{Served}
use Rattle.net_streams.specs.Writes.{Came}
use Rattle.publication_runs.specs.Lent.{LentState}
use Rattle.server_calls.specs.Runs.{HasPublishedRun, PublishesEach}
use Rattle.subj.specs.declared.messages.Pub.{Pub}
use Rattle.node_net.specs.Holds.{served_or_short, next_place, ran_of, Serves, RunsTo, OnlyIfPublished, Pops, ClosesInTurn, Closes, LinkLeaves, LeavesAndSends}
use Rattle.node_net.specs.Sending.{Sends}
use Rattle.node_net.specs.declared.connection.Connection.{Connection}
use Rattle.node_net.specs.declared.client_link.Place.{Place}
use Rattle.node_net.specs.declared.runs.Ran.{Ran}

-- each call of what counts is a call of what is held
abbrev pub IsCallOf : {A B : Type 0} → (A → Called → A → Type 0) → (B → Called → B → Type 0) → (A → B) → Type 0
IsCallOf {A} of_a of_b f = (x : A) (called : Called) (y : A) → of_a x called y → of_b (f x) called (f y)

chain_at : {A B : Type 0} (of_a : A → Called → A → Type 0) (of_b : B → Called → B → Type 0) (f : A → B)
    → IsCallOf of_a of_b f
    → (x : A) (calls : List Called) (y : A)
    → Chain of_a x calls y
    → Chain of_b (f x) calls (f y)
chain_at of_a of_b f at x [] y same = ap f same
chain_at of_a of_b f at x (called ∷ calls) y c = (f c.0, at x called c.0 c.1, chain_at of_a of_b f at c.0 calls y c.2)

-- The same of a whole run.
pub runs_at : {A B : Type 0} (of_a : A → Called → A → Type 0) (of_b : B → Called → B → Type 0) (f : A → B)
    → IsCallOf of_a of_b f
    → (conn most : ℕ) (result : Result Served AllocError) (old : Asking) (x : A) (new : Asking) (y : A)
    → IfOk result (λ s. HasServed of_a conn most s old x new y)
    → OnErr result (HasBegun of_a conn most old x new y)
    → Serves of_b conn most result old (f x) new (f y)
runs_at of_a of_b f at conn most (Ok s) old x new y ok err = record {
  calls = ok.calls;
  chain = chain_at of_a of_b f at x ok.calls y ok.chain;
  follow = ok.follow;
  few = ok.few;
  end = ok.end;
}
runs_at of_a of_b f at conn most (Err lack) old x new y ok err = record {
  calls = err.calls;
  chain = chain_at of_a of_b f at x err.calls y err.chain;
  follow = err.follow;
  few = err.few;
  go_on = err.go_on;
}

-- A run that was told of.
pub runs_to : {S : Type 0} (made : S → Called → S → Type 0) (conn most : ℕ) (place other there : Place)
    (result : Result Served AllocError) (served : Served) (end : Ran) (old : Asking) (before : S) (new : Asking)
    (after : S)
    → Serves made conn most result old before new after
    → served ≡ served_or_short result
    → end ≡ ran_of served
    → there ≡ next_place place other served
    → RunsTo made conn most place other there end old before new after
runs_to made conn most place other there result served end old before new after serves is ended next = record {
  runs = record { served = result; serves = serves; ends = ended ∙ ap ran_of is };
  next = next ∙ ap (next_place place other) is;
}

-- ---- what was counted

-- Where nothing is counted behind a chain of calls, all is as it was before them.
chain_empty : {A H : Type 0} (made : A → Called → A → Type 0) (hub : A → H) (empty : A → Bool)
    → ((x : A) (called : Called) (y : A) → made x called y → OnlyIfPublished (hub x) (empty x) (hub y) (empty y))
    → (x : A) (calls : List Called) (y : A)
    → Chain made x calls y
    → empty y ≡ true
    → (empty x ≡ true) × (hub y ≡ hub x)
chain_empty made hub empty each x [] y same is = (sym (ap empty same) ∙ is, ap hub same)
chain_empty made hub empty each x (called ∷ calls) y c is =
    let rest = chain_empty made hub empty each c.0 calls y c.2 is in
    let first = each x called c.0 c.1 rest.0 in
    (first.0, rest.1 ∙ first.1)

pub none_published : {A H : Type 0} (made : A → Called → A → Type 0) (hub : A → H) (empty : A → Bool)
    → ((x : A) (called : Called) (y : A) → made x called y → OnlyIfPublished (hub x) (empty x) (hub y) (empty y))
    → (conn most : ℕ) (result : Result Served AllocError) (old : Asking) (x : A) (new : Asking) (y : A)
    → IfOk result (λ s. HasServed made conn most s old x new y)
    → OnErr result (HasBegun made conn most old x new y)
    → empty y ≡ true
    → hub y ≡ hub x
none_published made hub empty each conn most result old x new y ok err is = go result ok err where
  go : (r : Result Served AllocError)
      → IfOk r (λ s. HasServed made conn most s old x new y)
      → OnErr r (HasBegun made conn most old x new y)
      → hub y ≡ hub x
  go (Ok s) ok err = (chain_empty made hub empty each x ok.calls y ok.chain is).1
  go (Err lack) ok err = (chain_empty made hub empty each x err.calls y err.chain is).1

-- ---- publications that are lent

-- Publications that a hub publishes one after the other are calls of what counts them, where each is.
chain_each : {A H : Type 0} (made : A → Called → A → Type 0) (published : H → ℕ → Pub → ℕ → Outcome → H → Type 0)
    (conn : ℕ) (at : H → A)
    → ((g : H) (p : Pub) (h : H) → ((word : ℕ) → published g conn p word Done h)
    → made (at g) (published_by conn p) (at h))
    → (ps : List Pub) (before after : H)
    → PublishesEach published conn ps before after
    → Chain made (at before) (map (published_by conn) ps) (at after)
chain_each made published conn at each [] before after same = ap at same
chain_each made published conn at each (p ∷ ps) before after e = (
  at e.0,
  each before p e.0 e.1,
  chain_each made published conn at each ps e.0 after e.2,
)

chain_some : {A H : Type 0} (made : A → Called → A → Type 0) (published : H → ℕ → Pub → ℕ → Outcome → H → Type 0)
    (conn : ℕ) (x : A) (before : H) (at : H → A)
    → ((p : Pub) (h : H) → ((word : ℕ) → published before conn p word Done h) → made x (published_by conn p) (at h))
    → ((g : H) (p : Pub) (h : H) → ((word : ℕ) → published g conn p word Done h)
    → made (at g) (published_by conn p) (at h))
    → (ps : List Pub) (after : H)
    → 0 < length ps
    → PublishesEach published conn ps before after
    → Chain made x (map (published_by conn) ps) (at after)
chain_some made published conn x before at first each [] after some e = absurd (omega arith)
chain_some made published conn x before at first each (p ∷ ps) after some e = (
  at e.0,
  first p e.0 e.1,
  chain_each made published conn at each ps e.0 after e.2,
)

-- A run of publications at a hub, seen at what counts them, which is so behind each of them.
pub run_published : {A H : Type 0} (made : A → Called → A → Type 0) (published : H → ℕ → Pub → ℕ → Outcome → H → Type 0)
    (conn count : ℕ) (from to : LentState) (x : A) (before : H) (at : H → A) (after : H)
    → ((p : Pub) (h : H) → ((word : ℕ) → published before conn p word Done h) → made x (published_by conn p) (at h))
    → ((g : H) (p : Pub) (h : H) → ((word : ℕ) → published g conn p word Done h)
    → made (at g) (published_by conn p) (at h))
    → 0 < count
    → HasPublishedRun published conn count from to before after
    → HasPublished made conn count from to x (at after)
run_published made published conn count from to x before at after first each some run = record {
  publications = run.publications;
  counted = run.counted;
  given = run.given;
  chain = chain_some made published conn x before at first each run.publications after
      (subst (λ n. 0 < n) (sym run.counted) some) run.each;
}

-- ---- closings

chain_push : {S : Type 0} (made : S → Called → S → Type 0) (before : S) (calls : List Called) (there : S)
    (called : Called) (after : S)
    → Chain made before calls there
    → made there called after
    → Chain made before (calls ++ called ∷ []) after
chain_push made before [] there called after same call = (after, subst (λ s. made s called after) same call, refl)
chain_push made before (first ∷ calls) there called after c call = (
  c.0,
  c.1,
  chain_push made c.0 calls there called after c.2 call,
)

-- one more
closes_push : (conn : ℕ) (names : List (List ℕ)) (calls : List Called) (mid : List (List ℕ)) (name : List ℕ)
    (outcome : Outcome) (rest : List (List ℕ))
    → ClosesInTurn conn names calls mid
    → mid ≡ rest ++ name ∷ []
    → ClosesInTurn conn names (calls ++ asked conn (action.Unsubscribe name None) outcome ∷ []) rest
closes_push conn names [] mid name outcome rest same is = (name, outcome, rest, refl, sym same ∙ is, refl)
closes_push conn names (called ∷ calls) mid name outcome rest c is = (
  c.0,
  c.1,
  c.2,
  c.3,
  c.4,
  closes_push conn c.2 calls mid name outcome rest c.5 is,
)

-- so many were closed
pub record SoFar {S : Type 0} (made : S → Called → S → Type 0) (conn : ℕ) (names : List (List ℕ)) (before : S)
    (left : List (List ℕ)) (after : S) (count : ℕ) : Type 0 where
  pub calls : List Called
  pub chain : Chain made before calls after
  pub closes : ClosesInTurn conn names calls left
  pub so_many : length calls ≡ count

pub none_so_far : {S : Type 0} (made : S → Called → S → Type 0) (conn : ℕ) (names : List (List ℕ)) (before : S)
    → SoFar made conn names before names before 0
none_so_far made conn names before = record { calls = []; chain = refl; closes = refl; so_many = refl }

pub one_more : {S : Type 0} (made : S → Called → S → Type 0) (conn : ℕ) (names : List (List ℕ)) (before : S)
    (mid : List (List ℕ)) (there : S) (name : List ℕ) (outcome : Outcome) (left : List (List ℕ)) (after : S) (count : ℕ)
    → SoFar made conn names before mid there count
    → mid ≡ left ++ name ∷ []
    → made there (asked conn (action.Unsubscribe name None) outcome) after
    → SoFar made conn names before left after (count + 1)
one_more made conn names before mid there name outcome left after count far is call = record {
  calls = far.calls ++ asked conn (action.Unsubscribe name None) outcome ∷ [];
  chain =
      chain_push made before far.calls there (asked conn (action.Unsubscribe name None) outcome) after far.chain call;
  closes = closes_push conn names far.calls mid name outcome left far.closes is;
  so_many =
      length-append far.calls (asked conn (action.Unsubscribe name None) outcome ∷ []) ∙ ap (λ n. n + 1) far.so_many;
}

pub all_closed : {S : Type 0} (made : S → Called → S → Type 0) (conn count : ℕ) (names : List (List ℕ)) (before : S)
    (left : List (List ℕ)) (after : S)
    → SoFar made conn names before left after count
    → Closes made conn count names before left after
all_closed made conn count names before left after far = record {
  calls = far.calls;
  there = left;
  chain = far.chain;
  closes = far.closes;
  few = omega (arith, far.so_many);
  ends = inl (far.so_many, refl);
}

pub no_more : {S : Type 0} (made : S → Called → S → Type 0) (conn count : ℕ) (names : List (List ℕ)) (before : S)
    (there : List (List ℕ)) (after : S) (turns : ℕ) (left : List (List ℕ))
    → SoFar made conn names before there after turns
    → turns ≤ count
    → Pops there None left
    → Closes made conn count names before left after
no_more made conn count names before there after turns left far few pops = record {
  calls = far.calls;
  there = there;
  chain = far.chain;
  closes = far.closes;
  few = omega (arith, far.so_many, few);
  ends = inr pops;
}

-- the names of what was taken out
pub names_pop : {T : Type 0} (name : T → List ℕ) (old new : List T) (text : T)
    → old ≡ new ++ text ∷ []
    → map name old ≡ map name new ++ name text ∷ []
names_pop name old new text is = ap (map name) is ∙ map-append name new (text ∷ [])

-- ---- a connection that leaves

-- what was taken is sent behind
pub leaves_and_sends : {S T : Type 0} (made : S → Called → S → Type 0) (number : S → ℕ) (lacks : ℕ → Type 0)
    (gave wrote : T → Came → T → Type 0) (old there new : Connection T) (result : Result (Unit {0}) AllocError)
    (bytes : List ℕ)
    → LinkLeaves made number lacks old.link result there.link
    → there ≡ record old { link = there.link }
    → Sends gave wrote there bytes new
    → LeavesAndSends made number lacks gave wrote old result bytes new
leaves_and_sends made number lacks gave wrote old there new result bytes leaves same sends = record {
  left = there.link;
  leaves = leaves;
  sends = subst (λ c. Sends gave wrote c bytes new) same sends;
}
