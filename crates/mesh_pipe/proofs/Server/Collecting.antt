-- A collect of a pipe's server is never refused, and leaves it serving.
use Rattle.std.proofs.Common.{◌≡◌, ℕ, suc, ◌+◌, ◌*◌, ◌≤◌, Bool, true, false, cond, List, [], ◌∷◌, ◌++◌, map, set, length, Option, Some, None, refl, sym, ap, ◌∙◌, subst, arith}
use Rattle.std.specs.Prelude.{nat_lt, option_to_list}
use Rattle.std.specs.Option.{option_map}
use Rattle.list_laws.proofs.Tests.{lt_true}
use Rattle.subj.specs.Servers.{ServerIdentity}
use Rattle.subj.specs.declared.limits.TheConstants.{MAX_COUNTER, MAX_SERIAL}
use Rattle.interest.specs.declared.changes.Change.{Change}
use Rattle.subj.specs.declared.keys.Delta.{Delta}
use Rattle.interest.specs.Counts.{Counts, change_of, counts_after}
use Rattle.interest.specs.Told.{changes_told, are_refused}
use Rattle.hub_core.specs.State as hub
use Rattle.hub_core.specs.State.{Peer, unknown_peer}
use Rattle.hub_core.specs.declared.faults.HubFault.TheVariants.{BadInterest, Spent}
use Rattle.hub_core.specs.Publishing.{with_frames}
use Rattle.hub_core.specs.Telling.{count_of_changes, changes_of, collect_refusal, after_collect, frames_behind, without_slow}
use Rattle.shard_core.specs.ShardEvents as of_shard
use Rattle.node_law.specs.declared.faults.NodeFault.{NodeFault}
use Rattle.node_law.specs.declared.faults.NodeFault.TheVariants.{Hub}
use Rattle.node_law.specs.CountsOpen.{CountsStayOpen}
use Rattle.node_law.specs.Events.{Collect, Own}
use Rattle.node_core.specs.Served.{Served, DoesStep, refusal}
use Rattle.node_law.specs.State.{ShardWithJobs, Node}
use Rattle.node_law.specs.Steps.{shard_line, deltas_at, line_after, set_line, collect_refusal_at, node_refusal}
use Rattle.mesh_pipe.specs.PipeServing.{pipe_server, first_line, line_in, shard_in, IsServing, Steps}
use Rattle.mesh_pipe.proofs.Server.Alone.{listed, run_more, shard_there}

-- ---- the changes are as many as the deltas at most, and nobody is told of them

few_changes : (counts : Counts) (ds : List Delta) → length (changes_told counts ds) ≤ length ds
few_changes counts [] = omega arith
few_changes counts (d ∷ ds) = go (change_of counts d) (few_changes (counts_after counts d) ds)
  where
    go : (o : Option Change)
        → length (changes_told (counts_after counts d) ds) ≤ length ds
        → length (option_to_list o ++ changes_told (counts_after counts d) ds) ≤ suc (length ds)
    go None few = omega (arith, few)
    go (Some c) few = omega (arith, few)

-- none where the server drains
few_told : (h : hub.State) (ds : List Delta) → count_of_changes h ds ≤ length ds
few_told h ds = go h.draining
  where
    go : (b : Bool) → length (cond b [] (changes_told h.counts ds)) ≤ length ds
    go true = omega arith
    go false = few_changes h.counts ds

no_frames : (count number : ℕ) (changes : List Change)
    → frames_behind pipe_server count number changes (unknown_peer ∷ []) ≡ []
no_frames count number [] = refl
no_frames count number (c ∷ cs) = no_frames count (number + 1) cs

still_alone : (h : hub.State) (ds : List Delta)
    → h.peers ≡ unknown_peer ∷ []
    → (after_collect pipe_server h ds).peers ≡ unknown_peer ∷ []
still_alone h ds alone =
    let n = count_of_changes h ds in
    ap (λ (ps : List Peer).
    with_frames pipe_server (frames_behind pipe_server n h.changed (changes_of h ds) ps) 0 (map (without_slow n) ps))
    alone
    ∙ ap (λ fs. with_frames pipe_server fs 0 (map (without_slow n) (unknown_peer ∷ [])))
    (no_frames n h.changed (changes_of h ds))

-- ---- it is not refused

few_enough : (s : Served)
    → IsServing s
    → s.node.hub.changed + count_of_changes s.node.hub (shard_in s).deltas ≤ MAX_COUNTER
few_enough s serving =
    let few = few_told s.node.hub (shard_in s).deltas in
    let all = serving.changed in
    let opened = serving.opened in
    omega (arith, few, all, opened)

pub collects : CountsStayOpen → (s : Served) → IsServing s → refusal s (Own (Collect 1)) ≡ None
collects law s serving =
    is
    ∙ go (are_refused s.node.hub.counts ds) refl
    (nat_lt MAX_COUNTER (s.node.hub.changed + count_of_changes s.node.hub ds)) refl
  where
    ds : List Delta
    ds = (shard_in s).deltas

    there : node_refusal pipe_server s.node (Own (Collect 1)) ≡ option_map Hub (collect_refusal s.node.hub ds)
    there = ap (collect_refusal_at s.node.hub) (shard_there s serving)

    is : refusal s (Own (Collect 1)) ≡ option_map Hub (collect_refusal s.node.hub ds)
    is = ap (λ (server : ServerIdentity). node_refusal server s.node (Own (Collect 1))) serving.server ∙ there

    refused : Bool → Bool → Option NodeFault
    refused b c = option_map Hub (cond b (Some BadInterest) (cond c (Some Spent) None))

    go : (b : Bool)
        → are_refused s.node.hub.counts ds ≡ b
        → (c : Bool)
        → nat_lt MAX_COUNTER (s.node.hub.changed + count_of_changes s.node.hub ds) ≡ c
        → option_map Hub (collect_refusal s.node.hub ds) ≡ None
    go true e c f =
        absurd ((law pipe_server serving.ran.0 s.node listed serving.ran.1).taken 1
        (there ∙ ap (λ x. refused x (nat_lt MAX_COUNTER (s.node.hub.changed + count_of_changes s.node.hub ds))) e))
    go false e true f =
        let above = lt_true MAX_COUNTER (s.node.hub.changed + count_of_changes s.node.hub ds) f in
        let few = few_enough s serving in
        absurd (omega (arith, above, few))
    go false e false f =
        ap (λ x. refused x (nat_lt MAX_COUNTER (s.node.hub.changed + count_of_changes s.node.hub ds))) e
        ∙ ap (refused false) f

-- ---- the server behind it

pub collect_steps : (old new : Served)
    → IsServing old
    → DoesStep old (Own (Collect 1)) false new
    → Steps old of_shard.Collect new
collect_steps old new serving does = record {
  serving = record {
    server = does.server ∙ serving.server;
    line = lines ∙ ap (λ (l : ShardWithJobs). l ∷ []) (sym here);
    alone = ap (λ h. h.peers) hub_is ∙ still_alone old.node.hub ds serving.alone;
    published = ap (λ h. h.published) hub_is ∙ serving.published ∙ sym (ap (λ h. h.issued) hub_is);
    changed =
        subst (λ (l : ShardWithJobs).
        new.node.hub.changed + (length l.shard.deltas + length l.shard.subs) ≤ 2 * l.shard.opened)
        (sym here)
        (subst (λ n. n + (0 + length (shard_in old).subs) ≤ 2 * (shard_in old).opened)
        (sym (ap (λ h. h.changed) hub_is))
        (let few = few_told old.node.hub ds in let all = serving.changed in omega (arith, few, all)));
    opened = subst (λ (l : ShardWithJobs). l.shard.opened ≤ MAX_SERIAL) (sym here) serving.opened;
    ran = run_more old new (Own (Collect 1)) false serving.server serving.ran does;
  };
  shard = ap (λ (l : ShardWithJobs). l.shard) here;
  waiting = ap (λ (l : ShardWithJobs). l.waiting) here;
}
  where
    ds : List Delta
    ds = (shard_in old).deltas

    lines : new.node.lines ≡ line_after of_shard.Collect (line_in old) ∷ []
    lines =
        ap (λ (a : Node). a.lines) does.step.after
        ∙ ap (set_line old.node.lines 0 (line_after of_shard.Collect)) (shard_there old serving)
        ∙ ap (λ (ls : List ShardWithJobs). set ls 0 (line_after of_shard.Collect (line_in old))) serving.line

    here : line_in new ≡ line_after of_shard.Collect (line_in old)
    here = ap first_line lines

    hub_is : new.node.hub ≡ after_collect pipe_server old.node.hub ds
    hub_is =
        ap (λ (a : Node). a.hub) does.step.after
        ∙ ap (λ (server : ServerIdentity). after_collect server old.node.hub (deltas_at (shard_line old.node 1)))
        serving.server
        ∙ ap (λ (o : Option ShardWithJobs). after_collect pipe_server old.node.hub (deltas_at o))
        (shard_there old serving)
