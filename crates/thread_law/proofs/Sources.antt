-- Each job that was given is of one publish or of one frame of a peer.
use Rattle.std.proofs.Common.{◌≡◌, ℕ, zero, suc, List, [], ◌∷◌, ◌++◌, refl, sym, ap, ◌∙◌, subst, inl, ⊎_elim}
use mathlib.Core.Option.{some-ne-none, some-injective}
use Rattle.list_laws.specs.Lists.{In, Pairs}
use Rattle.list_laws.proofs.Lists.{in_append, in_left, in_right}
use Rattle.claim_cells.specs.Rule.{At}
use Rattle.subj.specs.Servers.{ServerIdentity}
use Rattle.subj.specs.declared.jobs.Job.{Job}
use Rattle.route_values.specs.Frames.{Frame}
use Rattle.route_values.specs.declared.bodies.Body.{Body}
use Rattle.route_values.specs.declared.bodies.Body.TheVariants.{Plus, Minus, Snapshot, Msg}
use Rattle.hub_core.specs.Events as of_hub
use Rattle.hub_core.specs.Steps.{received_answer}
use Rattle.node_parts.specs.Sides.{HubWithSessions, new_side, Event, ByHub, BySessions, OfHub, Done, Leads, side_after, side_answer, job_in, jobs_of}
use Rattle.thread_law.specs.Once.{Brings}

-- ---- where it came from

record Gives (server : ServerIdentity) (e : Event) (jobs : List Job) (job : Job) : Type 0 where
  brings : Brings server e job.id
  gives : jobs ≡ job ∷ []

one_given : (server : ServerIdentity) (e : Event) (x job : Job)
    → Brings server e x.id
    → In job (x ∷ [])
    → Gives server e (x ∷ []) job
one_given server e x job b i =
    ⊎_elim (λ (is : job ≡ x). record {
      brings = subst (λ (j : Job). Brings server e j.id) (sym is) b;
      gives = ap (λ j. j ∷ []) (sym is);
    })
    (λ (j : ⊥). absurd j) i

by_frame : (s : HubWithSessions) (frame : Frame) (finished : List ℕ) (job : Job) (b : Body)
    → In job (job_in (OfHub (received_answer s.hub frame b)))
    → Gives s.server (ByHub (of_hub.Receive frame finished)) (job_in (OfHub (received_answer s.hub frame b))) job
by_frame s frame finished job (Plus weighted) i = absurd i
by_frame s frame finished job (Minus key) i = absurd i
by_frame s frame finished job (Snapshot keys) i = absurd i
by_frame s frame finished job (Msg content queues) i =
    one_given s.server (ByHub (of_hub.Receive frame finished)) _ job refl i

by_step : (s : HubWithSessions) (e : Event) (job : Job)
    → In job (job_in (side_answer s e))
    → Gives s.server e (job_in (side_answer s e)) job
by_step s (ByHub (of_hub.Publish p finished)) job i =
    one_given s.server (ByHub (of_hub.Publish p finished)) _ job (refl, refl) i
by_step s (ByHub (of_hub.Receive frame finished)) job i = by_frame s frame finished job frame.body i
by_step s (ByHub (of_hub.Collect shard deltas)) job i = absurd i
by_step s (ByHub of_hub.Drain) job i = absurd i
by_step s (ByHub (of_hub.Up q inc)) job i = absurd i
by_step s (ByHub (of_hub.Cut q)) job i = absurd i
by_step s (ByHub (of_hub.TakeFrom q count)) job i = absurd i
by_step s (BySessions e) job i = absurd i

server_stays : (s : HubWithSessions) (e : Event) → (side_after s e).server ≡ s.server
server_stays s (ByHub e) = refl
server_stays s (BySessions e) = refl

led_server : (server : ServerIdentity) (h : List Done) (to : HubWithSessions)
    → Leads (new_side server) h to
    → to.server ≡ server
led_server server [] to is = ap (λ (s : HubWithSessions). s.server) is
led_server server (d ∷ earlier) to (done, led) =
    ap (λ (s : HubWithSessions). s.server) done.after
    ∙ server_stays d.before d.event
    ∙ led_server server earlier d.before led

-- a step of these gave it
pub record From (server : ServerIdentity) (h : List Done) (job : Job) : Type 0 where
  pub place : ℕ
  pub step : Done
  pub there : At h place step
  pub brings : Brings server step.event job.id
  pub gives : job_in step.answer ≡ job ∷ []

pub from_one : (server : ServerIdentity) (h : List Done) (to : HubWithSessions)
    → Leads (new_side server) h to
    → (job : Job)
    → In job (jobs_of h)
    → From server h job
from_one server [] to is job i = absurd i
from_one server (d ∷ earlier) to (done, led) job i =
    ⊎_elim (λ (j : In job (jobs_of earlier)).
    let f = from_one server earlier d.before led job j in
    record { place = suc f.place; step = f.step; there = f.there; brings = f.brings; gives = f.gives })
    (λ (j : In job (job_in d.answer)).
    let g = by_step d.before d.event job (subst (λ a. In job (job_in a)) done.answered j) in
    record {
      place = 0;
      step = d;
      there = refl;
      brings =
          subst (λ (z : ServerIdentity). Brings z d.event job.id) (led_server server earlier d.before led) g.brings;
      gives = ap job_in done.answered ∙ g.gives;
    })
    (in_append job (jobs_of earlier) (job_in d.answer) i)

-- ---- no other step gave one of the same publication

given_in : (h : List Done) (i : ℕ) (d : Done) (job : Job) → At h i d → job_in d.answer ≡ job ∷ [] → In job (jobs_of h)
given_in [] i d job e g = absurd (some-ne-none d (sym e))
given_in (x ∷ h) zero d job e g =
    in_right job (jobs_of h) (job_in x.answer)
    (subst (λ js. In job js) (sym (ap (λ (y : Done). job_in y.answer) (some-injective x d e) ∙ g)) (inl refl))
given_in (x ∷ h) (suc i) d job e g = in_left job (jobs_of h) (job_in x.answer) (given_in h i d job e g)

front_pairs : {A : Type 0} (R : A → A → Type 0) (xs ys : List A) → Pairs R (xs ++ ys) → Pairs R xs
front_pairs R [] ys p = tt
front_pairs R (x ∷ xs) ys p = ((λ y i. p.0 y (in_left y xs ys i)), front_pairs R xs ys p.1)

across : {A : Type 0} (R : A → A → Type 0) (xs ys : List A) → Pairs R (xs ++ ys) → (x y : A) → In x xs → In y ys → R x y
across R [] ys p x y i j = absurd i
across R (z ∷ xs) ys p x y i j =
    ⊎_elim (λ (e : x ≡ z). subst (λ a. R a y) (sym e) (p.0 y (in_right y xs ys j)))
    (λ (k : In x xs). across R xs ys p.1 x y k j) i

abbrev pub Apart : Job → Job → Type 0
Apart a b = a.id ≡ b.id → ⊥

pub one_source : (h : List Done)
    → Pairs Apart (jobs_of h)
    → (i j : ℕ) (d e : Done) (a b : Job)
    → At h i d
    → At h j e
    → job_in d.answer ≡ a ∷ []
    → job_in e.answer ≡ b ∷ []
    → a.id ≡ b.id
    → i ≡ j
one_source [] p i j d e a b x y f g same = absurd (some-ne-none d (sym x))
one_source (z ∷ h) p zero zero d e a b x y f g same = refl
one_source (z ∷ h) p zero (suc j) d e a b x y f g same =
    absurd (across Apart (jobs_of h) (job_in z.answer) p b a (given_in h j e b y g)
    (subst (λ js. In a js) (sym (ap (λ (y : Done). job_in y.answer) (some-injective z d x) ∙ f)) (inl refl)) (sym same))
one_source (z ∷ h) p (suc i) zero d e a b x y f g same =
    absurd (across Apart (jobs_of h) (job_in z.answer) p a b (given_in h i d a x f)
    (subst (λ js. In b js) (sym (ap (λ (y : Done). job_in y.answer) (some-injective z e y) ∙ g)) (inl refl)) same)
one_source (z ∷ h) p (suc i) (suc j) d e a b x y f g same =
    ap suc (one_source h (front_pairs Apart (jobs_of h) (job_in z.answer) p) i j d e a b x y f g same)
