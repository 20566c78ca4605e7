-- Each step leaves each part in one view.
use Rattle.std.proofs.Common.{◌≡◌, ◌≢◌, ℕ, zero, suc, ◌+◌, ◌-◌, List, [], ◌∷◌, ◌++◌, length, set, sym, refl, ap, ◌∙◌, subst, ⊎_elim, arith, Some}
use Rattle.atomic_table.proofs.Lists.{set_here, set_else, at_longer, at_last}
use Rattle.claim_cells.specs.declared.parts.HubPart.{HubPart}
use Rattle.claim_cells.specs.declared.parts.ShardPart.{ShardPart}
use Rattle.claim_cells.specs.declared.parts.View.{View}
use Rattle.claim_cells.specs.Rule.{At, Seated, StandsAt, row, rest_parts, first_parts, rest_of, first_of_view, joined_view, spent_view}
use Rattle.claim_cells.specs.Steps.{with_hub, with_part}
use Rattle.claim_cells.proofs.Rules.Lists.{un_some, no_some, at_below, same_at, set_case, snoc_at, append_at, behind_at}
use native.Mathlib.Decide.{ℕ_discrete}
use mathlib.Core.Logic.{dite}
use mathlib.Core.Option.{some-ne-none}

rest_at : (l : List ShardPart) (i : ℕ) (p : ShardPart) → At (rest_parts l) i p → At l (suc i) p
rest_at [] i p e = e
rest_at (x ∷ xs) i p e = e

first_at : (l : List ShardPart) (i : ℕ) (p : ShardPart) → At (first_parts l) i p → At l 0 p × (i ≡ 0)
first_at [] i p e = absurd (some-ne-none p (sym e))
first_at (x ∷ xs) zero p e = (e, refl)
first_at (x ∷ xs) (suc i) p e = absurd (some-ne-none p (sym e))

first_there : (l : List ShardPart) (i : ℕ) (p : ShardPart) → i ≡ 0 → At l i p → At (first_parts l) 0 p
first_there [] i p is e = absurd (some-ne-none p (sym e))
first_there (x ∷ xs) zero p is e = e
first_there (x ∷ xs) (suc i) p is e = absurd (omega arith)

rest_there : (l : List ShardPart) (i : ℕ) (p : ShardPart) → i ≢ 0 → At l i p → At (rest_parts l) (i - 1) p
rest_there [] i p ne e = absurd (some-ne-none p (sym e))
rest_there (x ∷ xs) zero p ne e = absurd (ne refl)
rest_there (x ∷ xs) (suc i) p ne e = subst (λ (k : ℕ). At xs k p) {x = i} {y = suc i - 1} (omega arith) e

-- where the place of a part goes as the first part of the seat id moves to the seat n
abbrev split_place : (id n : ℕ) (z : ℕ × ℕ) → Dec (z.0 ≡ id) → Dec (z.1 ≡ 0) → ℕ × ℕ
split_place id n z (yes _) (yes _) = (n, 0)
split_place id n z (yes _) (no _) = (id, z.1 - 1)
split_place id n z (no _) _ = z

split_first : (id n : ℕ) (z : ℕ × ℕ) (d : Dec (z.0 ≡ id)) (e : Dec (z.1 ≡ 0))
    → z ≡ (id, 0)
    → split_place id n z d e ≡ (n, 0)
split_first id n z (yes _) (yes _) is = refl
split_first id n z (yes _) (no ne) is = absurd (ne (ap (λ y. y.1) is))
split_first id n z (no ne) e is = absurd (ne (ap (λ y. y.0) is))

split_rest : (id n i : ℕ) (z : ℕ × ℕ) (d : Dec (z.0 ≡ id)) (e : Dec (z.1 ≡ 0))
    → z ≡ (id, suc i)
    → split_place id n z d e ≡ (id, i)
split_rest id n i z (yes _) (yes h) is = let k = ap (λ y. y.1) is in absurd (omega arith)
split_rest id n i z (yes _) (no ne) is =
    let k : z.1 - 1 ≡ i = (let m = ap (λ y. y.1) is in omega arith) in λ j. (id, k j)
split_rest id n i z (no ne) e is = absurd (ne (ap (λ y. y.0) is))

split_else : (id n : ℕ) (z : ℕ × ℕ) (d : Dec (z.0 ≡ id)) (e : Dec (z.1 ≡ 0)) → z.0 ≢ id → split_place id n z d e ≡ z
split_else id n z (yes h) e ne = absurd (ne h)
split_else id n z (no _) e ne = refl

-- where it goes as the parts of the seat other go behind the n parts of the seat id
abbrev join_place : (id other n : ℕ) (z : ℕ × ℕ) → Dec (z.0 ≡ other) → ℕ × ℕ
join_place id other n z (yes _) = (id, n + z.1)
join_place id other n z (no _) = z

join_moves : (id other n i : ℕ) (z : ℕ × ℕ) (d : Dec (z.0 ≡ other))
    → z ≡ (other, i)
    → join_place id other n z d ≡ (id, n + i)
join_moves id other n i z (yes _) is = λ j. (id, n + (is j).1)
join_moves id other n i z (no ne) is = absurd (ne (ap (λ y. y.0) is))

join_else : (id other n : ℕ) (z : ℕ × ℕ) (d : Dec (z.0 ≡ other)) → z.0 ≢ other → join_place id other n z d ≡ z
join_else id other n z (yes h) ne = absurd (ne h)
join_else id other n z (no _) ne = refl

module _ (views : List View) (hub : HubPart) (all : List ShardPart) (seated : Seated views hub all) (id : ℕ) (v : View)
    (here : At views id v) where
  pub my_part : (i : ℕ) (p : ShardPart) → At v.shards i p → At all (row p) p
  my_part i p at = (seated.shards id i v p here at).0

  -- a part of this view, wherever it stands
  mine_at : (z : ℕ × ℕ) (p : ShardPart) → z.0 ≡ id → StandsAt views z p → At v.shards z.1 p
  mine_at z p is t = subst (λ (u : View). At u.shards z.1 p) (same_at views z.0 id t.0 v is t.1 here) t.2

  here_now : (w : View) (j : ℕ) → j ≡ id → At (set views id w) j w
  here_now w j is = subst (λ (k : ℕ). At (set views id w) k w) (sym is) (set_here views id w (at_below views id v here))

  -- each part stands where it stood as this view keeps its parts
  stands_yet : (w : View) (z : ℕ × ℕ) (p : ShardPart)
      → ((i : ℕ) → At v.shards i p → At w.shards i p)
      → StandsAt views z p
      → StandsAt (set views id w) z p
  stands_yet w z p keeps t =
      dite (ℕ_discrete z.0 id) (λ is. (w, here_now w z.0 is, keeps z.1 (mine_at z p is t)))
      (λ ne. (t.0, set_else views id z.0 w ne ∙ t.1, t.2))

  -- and so does the hub's
  hub_stands_yet : (w : View) → w.hub ≡ v.hub → (u : View) × At (set views id w) seated.desk u × (u.hub ≡ Some hub)
  hub_stands_yet w same =
      let t = seated.one in
      dite (ℕ_discrete seated.desk id)
      (λ is. (
        w,
        here_now w seated.desk is,
        same ∙ ap (λ (u : View). u.hub) (sym (same_at views seated.desk id t.0 v is t.1 here)) ∙ t.2,
      ))
      (λ ne. (t.0, set_else views id seated.desk w ne ∙ t.1, t.2))

  pub my_hub : (h : HubPart) → v.hub ≡ Some h → h ≡ hub
  my_hub h is = (seated.hubs id v h here is).0

  -- the hub's part, which is in this view, becomes h
  pub seated_hub : (old h : HubPart) (at : ℕ) → v.hub ≡ Some old → Seated (set views id (with_hub v h at)) h all
  seated_hub old h at is = record {
    place = seated.place;
    desk = seated.desk;
    shards = λ j i w p e.
        set_case views id (with_hub v h at)
        (λ j w. (i : ℕ) (p : ShardPart) → At w.shards i p → At all (row p) p × (seated.place (row p) ≡ (j, i)))
        (λ i p k. seated.shards id i v p here k) (λ j w ne e i p k. seated.shards j i w p e k) j w e i p;
    hubs = λ j w k e.
        set_case views id (with_hub v h at) (λ j w. (k : HubPart) → w.hub ≡ Some k → (k ≡ h) × (j ≡ seated.desk))
        (λ k is'. (sym (un_some h k is'), (seated.hubs id v old here is).1))
        (λ j w ne e k is'. absurd (ne ((seated.hubs j w k e is').1 ∙ sym (seated.hubs id v old here is).1))) j w e k;
    each = λ s p e. stands_yet (with_hub v h at) (seated.place s) p (λ i k. k) (seated.each s p e);
    one = (with_hub v h at, here_now (with_hub v h at) seated.desk (sym (seated.hubs id v old here is).1), refl);
  }

  -- the shard's part that acts becomes q
  pub seated_part : (p q : ShardPart)
      → At v.shards v.at p
      → q.shard ≡ p.shard
      → ((s : ℕ) (o : ShardPart) → At all s o → o.shard ≡ s + 1)
      → Seated (set views id (with_part v q)) hub (set all (row p) q)
  seated_part p q mine same named = record {
    place = seated.place;
    desk = seated.desk;
    shards = λ j i w o e.
        set_case views id (with_part v q)
        (λ j w.
        (i : ℕ) (o : ShardPart) → At w.shards i o → At (set all (row p) q) (row o) o × (seated.place (row o) ≡ (j, i)))
        (λ i o k.
        set_case v.shards v.at q (λ i o. At (set all (row p) q) (row o) o × (seated.place (row o) ≡ (id, i)))
        (subst (λ (s : ℕ). At (set all (row p) q) s q × (seated.place s ≡ (id, v.at)))
        (sym (ap (λ (n : ℕ). n - 1) same)) (set_here all (row p) q (at_below all (row p) p was.0), was.1))
        (λ i o ne k.
        let now = seated.shards id i v o here k in (
          set_else all (row p) (row o) q (λ e. ne (ap (λ z. z.1) (sym now.1 ∙ ap seated.place e ∙ was.1))) ∙ now.0,
          now.1,
        ))
        i o k)
        (λ j w ne e i o k.
        let now = seated.shards j i w o e k in (
          set_else all (row p) (row o) q (λ e. ne (ap (λ z. z.0) (sym now.1 ∙ ap seated.place e ∙ was.1))) ∙ now.0,
          now.1,
        ))
        j w e i o;
    hubs = λ j w k e.
        set_case views id (with_part v q) (λ j w. (k : HubPart) → w.hub ≡ Some k → (k ≡ hub) × (j ≡ seated.desk))
        (λ k is. seated.hubs id v k here is) (λ j w ne e k is. seated.hubs j w k e is) j w e k;
    each =
        set_case all (row p) q (λ s o. StandsAt (set views id now) (seated.place s) o)
        (subst (λ (z : ℕ × ℕ). StandsAt (set views id now) z q) (sym was.1)
        (now, here_now now id refl, set_here v.shards v.at q (at_below v.shards v.at p mine)))
        (λ s o ne e. others s o ne e (seated.each s o e));
    one = hub_stands_yet now refl;
  }
    where
      was : At all (row p) p × (seated.place (row p) ≡ (id, v.at))
      was = seated.shards id v.at v p here mine

      now : View
      now = with_part v q

      -- another part does not stand where this one does
      others : (s : ℕ) (o : ShardPart)
          → s ≢ row p
          → At all s o
          → StandsAt views (seated.place s) o
          → StandsAt (set views id now) (seated.place s) o
      others s o ne e t =
          dite (ℕ_discrete (seated.place s).0 id)
          (λ is.
          let there = mine_at (seated.place s) o is t in (
            now,
            here_now now (seated.place s).0 is,
            set_else v.shards v.at (seated.place s).1 q (λ k.
                let one : o ≡ p = same_at v.shards (seated.place s).1 v.at o p k there mine in
                let number : p.shard ≡ s + 1 = ap (λ (z : ShardPart). z.shard) (sym one) ∙ named s o e in
                ne (omega arith)) ∙ there,
          ))
          (λ far. (t.0, set_else views id (seated.place s).0 now far ∙ t.1, t.2))

  -- the first part goes to a new seat
  pub seated_split : Seated (set views id (rest_of v) ++ first_of_view v ∷ []) hub all
  seated_split = record {
    place = λ s. split_place id fresh (seated.place s) (ℕ_discrete _ _) (ℕ_discrete _ _);
    desk = seated.desk;
    shards = λ j i w p e k.
        ⊎_elim (λ old.
        set_case views id (rest_of v)
        (λ j w. (i : ℕ) (p : ShardPart) → At w.shards i p → At all (row p) p × (moved (row p) ≡ (j, i)))
        (λ i p k.
        let now = seated.shards id (suc i) v p here (rest_at v.shards i p k) in
        (now.0, split_rest id fresh i (seated.place (row p)) (ℕ_discrete _ _) (ℕ_discrete _ _) now.1))
        (λ j w ne e i p k.
        let now = seated.shards j i w p e k in (
          now.0,
          split_else id fresh (seated.place (row p)) (ℕ_discrete _ _) (ℕ_discrete _ _)
              (λ is. ne (ap (λ z. z.0) (sym now.1) ∙ is)) ∙ now.1,
        ))
        j w old i p k)
        (λ (new : (j ≡ fresh) × (first_of_view v ≡ w)).
        let mine = first_at v.shards i p (subst (λ (u : View). At u.shards i p) (sym new.1) k) in
        let now = seated.shards id 0 v p here mine.0 in (
          now.0,
          split_first id fresh (seated.place (row p)) (ℕ_discrete _ _) (ℕ_discrete _ _) now.1
              ∙ (λ m. (sym new.0 m, sym mine.1 m)),
        ))
        (snoc_at (set views id (rest_of v)) (first_of_view v) w j e);
    hubs = λ j w h e is.
        ⊎_elim (λ old.
        set_case views id (rest_of v) (λ j w. (h : HubPart) → w.hub ≡ Some h → (h ≡ hub) × (j ≡ seated.desk))
        (λ h is. seated.hubs id v h here is) (λ j w ne e h is. seated.hubs j w h e is) j w old h is)
        (λ (new : (j ≡ fresh) × (first_of_view v ≡ w)). absurd (no_some h (ap (λ (u : View). u.hub) new.1 ∙ is)))
        (snoc_at (set views id (rest_of v)) (first_of_view v) w j e);
    each = λ s p e. split_stands (seated.place s) p (ℕ_discrete _ _) (ℕ_discrete _ _) (seated.each s p e);
    one =
        (let t = hub_stands_yet (rest_of v) refl in
        (t.0, at_longer (set views id (rest_of v)) (first_of_view v ∷ []) seated.desk t.0 t.1, t.2));
  }
    where
      fresh : ℕ
      fresh = length (set views id (rest_of v))

      moved : ℕ → ℕ × ℕ
      moved s = split_place id fresh (seated.place s) (ℕ_discrete _ _) (ℕ_discrete _ _)

      split_stands : (z : ℕ × ℕ) (p : ShardPart) (d : Dec (z.0 ≡ id)) (e : Dec (z.1 ≡ 0))
          → StandsAt views z p
          → StandsAt (set views id (rest_of v) ++ first_of_view v ∷ []) (split_place id fresh z d e) p
      split_stands z p (yes is) (yes none) t = (
        first_of_view v,
        at_last (set views id (rest_of v)) (first_of_view v) fresh refl,
        first_there v.shards z.1 p none (mine_at z p is t),
      )
      split_stands z p (yes is) (no ne) t = (
        rest_of v,
        at_longer (set views id (rest_of v)) (first_of_view v ∷ []) id (rest_of v) (here_now (rest_of v) id refl),
        rest_there v.shards z.1 p ne (mine_at z p is t),
      )
      split_stands z p (no ne) e t = (
        t.0,
        at_longer (set views id (rest_of v)) (first_of_view v ∷ []) z.0 t.0
            (set_else views id z.0 (rest_of v) ne ∙ t.1),
        t.2,
      )

  -- the parts of another seat go behind those of this one, which has the hub's
  pub seated_join : (other : ℕ) (w : View) (h : HubPart)
      → v.hub ≡ Some h
      → other ≢ id
      → At views other w
      → Seated (set (set views id (joined_view v w)) other spent_view) hub all
  seated_join other w h has apart there = record {
    place = moved;
    desk = seated.desk;
    shards = λ j i u p e.
        set_case (set views id (joined_view v w)) other spent_view
        (λ j u. (i : ℕ) (p : ShardPart) → At u.shards i p → At all (row p) p × (moved (row p) ≡ (j, i)))
        (λ i p k. absurd (some-ne-none p (sym k)))
        (λ j u ne e.
        set_case views id (joined_view v w)
        (λ j u. j ≢ other → (i : ℕ) (p : ShardPart) → At u.shards i p → At all (row p) p × (moved (row p) ≡ (j, i)))
        (λ ne i p k.
        ⊎_elim (λ mine. stay id ne i p (seated.shards id i v p here mine))
        (λ t.
        let now = seated.shards other t.0 w p there t.2 in (
          now.0,
          join_moves id other (length v.shards) t.0 (seated.place (row p)) (ℕ_discrete _ _) now.1
              ∙ (λ m. (id, sym t.1 m)),
        ))
        (append_at v.shards w.shards i p k))
        (λ j u ne' e ne i p k. stay j ne i p (seated.shards j i u p e k)) j u e ne)
        j u e i p;
    hubs = λ j u h e.
        set_case (set views id (joined_view v w)) other spent_view
        (λ j u. (h : HubPart) → u.hub ≡ Some h → (h ≡ hub) × (j ≡ seated.desk)) (λ h is. absurd (no_some h is))
        (λ j u ne e.
        set_case views id (joined_view v w) (λ j u. (h : HubPart) → u.hub ≡ Some h → (h ≡ hub) × (j ≡ seated.desk))
        (λ h is. seated.hubs id v h here is) (λ j u ne e h is. seated.hubs j u h e is) j u e)
        j u e h;
    each = λ s p e. join_stands (seated.place s) p (ℕ_discrete _ _) (seated.each s p e);
    one = (
      both,
      subst (λ (k : ℕ). At (set (set views id both) other spent_view) k both) (seated.hubs id v h here has).1
          joined_here,
      has ∙ ap Some (seated.hubs id v h here has).0,
    );
  }
    where
      both : View
      both = joined_view v w

      joined_here : At (set (set views id both) other spent_view) id both
      joined_here = set_else (set views id both) other id spent_view (λ e. apart (sym e)) ∙ here_now both id refl

      join_stands : (z : ℕ × ℕ) (p : ShardPart) (d : Dec (z.0 ≡ other))
          → StandsAt views z p
          → StandsAt (set (set views id both) other spent_view) (join_place id other (length v.shards) z d) p
      join_stands z p (yes is) t = (
        both,
        joined_here,
        behind_at v.shards w.shards z.1 p
            (subst (λ (u : View). At u.shards z.1 p) (same_at views z.0 other t.0 w is t.1 there) t.2),
      )
      join_stands z p (no ne) t =
          dite (ℕ_discrete z.0 id)
          (λ is. (
            both,
            subst (λ (k : ℕ). At (set (set views id both) other spent_view) k both) (sym is) joined_here,
            at_longer v.shards w.shards z.1 p (mine_at z p is t),
          ))
          (λ far. (
            t.0,
            set_else (set views id both) other z.0 spent_view ne ∙ set_else views id z.0 both far ∙ t.1,
            t.2,
          ))

      moved : ℕ → ℕ × ℕ
      moved s = join_place id other (length v.shards) (seated.place s) (ℕ_discrete _ _)

      stay : (j : ℕ)
          → j ≢ other
          → (i : ℕ) (p : ShardPart)
          → At all (row p) p × (seated.place (row p) ≡ (j, i))
          → At all (row p) p × (moved (row p) ≡ (j, i))
      stay j ne i p now = (
        now.0,
        join_else id other (length v.shards) (seated.place (row p)) (ℕ_discrete _ _)
            (λ is. ne (ap (λ z. z.0) (sym now.1) ∙ is)) ∙ now.1,
      )
