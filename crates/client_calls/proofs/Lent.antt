-- What publications that a connection lends come to.
use Rattle.std.proofs.Common.{◌≡◌, ℕ, ◌+◌, ◌-◌, ◌≤◌, List, [], ◌∷◌, ◌++◌, length, refl, ap, sym, ◌∙◌, subst, arith, length-append}
use Rattle.std.specs.Prelude.{codes, map, IsSomeAnd}
use Rattle.std.proofs.lemmas.List.{length-map}
use Rattle.subj.specs.declared.messages.Pub.{Pub}
use Rattle.publication_runs.specs.Lent.{LentState, Gives}
use Rattle.publication_runs.specs.Runs.{Publication, BeginsWith}
use Rattle.client_conn.specs.Asks.{Asking, AsksInTurn, ConnState}
use Rattle.client_conn.specs.Lent.{IsRunOf, UsesUp, lent_asks}
use Rattle.client_calls.specs.Calls.{Called, attached, asked, detached, Chain, WasMade}
use Rattle.client_calls.specs.Serving.{Follows, GoOn}
use Rattle.client_calls.specs.Runs.{HasPublished, HasPublishedLent, MakesRun, published_by}
use Rattle.client_calls.proofs.Lives.{Follows-append}
use Rattle.client_calls.proofs.Runs.{SoFar, Chain-append}

-- ---- publications that are given

-- at most as many as may be given
gives_so_many : (given : List Pub) (from to : LentState) → Gives given from to → length given ≤ from.run.left
gives_so_many [] from to gives = omega arith
gives_so_many (one ∷ more) from to gives =
    let others = gives_so_many more gives.0 to gives.2 in
    omega (arith, others, gives.1.gives.counted)

shorter : (text first second third rest : List ℕ)
    → text ≡ first ++ (second ++ (third ++ rest))
    → length rest ≤ length text
shorter text first second third rest is =
    let end = length-append third rest in
    let body = length-append second (third ++ rest) in
    let line = length-append first (second ++ (third ++ rest)) in
    omega (arith, end, body, line, ap (λ (l : List ℕ). length l) is)

behind_one : (publication : Publication) (text rest : List ℕ)
    → BeginsWith publication text rest
    → length rest ≤ length text
behind_one publication text rest begins =
    shorter text begins.line publication.payload (codes "\r\n") rest begins.whole

leaves_less : (given : List Pub) (from to : LentState)
    → Gives given from to
    → length to.run.behind ≤ length from.run.behind
leaves_less [] from to gives = omega (arith, ap (λ (s : LentState). length s.run.behind) gives)
leaves_less (one ∷ more) from to gives =
    let others = leaves_less more gives.0 to gives.2 in
    let first = behind_one gives.1.publication from.run.behind gives.0.run.behind gives.1.gives.begins in
    omega (arith, others, first)

-- ---- what the server was called for

pub none_published : {S : Type 0} (made : S → Called → S → Type 0) (conn count : ℕ) (old new : LentState)
    (before after : S)
    → HasPublished made conn count old new before after
    → count ≡ 0
    → after ≡ before
none_published {S} made conn count old new before after has none =
    by_list has.publications (has.counted ∙ none) has.chain
  where
    by_list : (publications : List Pub)
        → length publications ≡ 0
        → Chain made before (map (published_by conn) publications) after
        → after ≡ before
    by_list [] is chain = chain
    by_list (one ∷ more) is chain = absurd (cc)

pub published_lent : {S : Type 0} (made : S → Called → S → Type 0) (id most count left : ℕ) (conn : ConnState)
    (from to : LentState) (before after : S)
    → IsRunOf conn from
    → from.run.left ≡ most
    → HasPublished made id count from to before after
    → ¬ (count ≡ 0)
    → left ≡ length to.run.behind
    → HasPublishedLent made id most count left conn before after
published_lent made id most count left conn from to before after lent at_most published some is =
    let so_many = gives_so_many published.publications from to published.given in
    record {
      from = from;
      to = to;
      lent = lent;
      published = published;
      some = omega (arith, some);
      few = omega (arith, so_many, at_most, published.counted);
      left_is = sym is;
    }

-- ---- what is used up

pub lends_as_much : {S : Type 0} (made : S → Called → S → Type 0) (id most count left : ℕ) (conn : ConnState)
    (before after : S)
    → HasPublishedLent made id most count left conn before after
    → IsSomeAnd conn.lends (λ lends. left ≤ length lends.text)
lends_as_much made id most count left conn before after has =
    let less = leaves_less has.published.publications has.from has.to has.published.given in
    subst (λ lends. IsSomeAnd lends (λ l. left ≤ length l.text)) (sym has.lent.lends)
    (omega (arith, less, has.left_is))

pub makes_run : {S : Type 0} (made : S → Called → S → Type 0) (id most count left : ℕ) (conn : ConnState) (new : Asking)
    (before after : S)
    → HasPublishedLent made id most count left conn before after
    → UsesUp left conn new
    → MakesRun made id count conn.asking before new after
makes_run made id most count left conn new before after has uses = record {
  publications = has.published.publications;
  counted = has.published.counted;
  asks = uses has.from has.to has.published.publications has.lent has.published.given has.left_is;
  chain = has.published.chain;
}

pub makes_none : {S : Type 0} (made : S → Called → S → Type 0) (id : ℕ) (asking : Asking) (before after : S)
    → after ≡ before
    → MakesRun made id 0 asking before asking after
makes_none made id asking before after is = record { publications = []; counted = refl; asks = refl; chain = is }

-- ---- the run goes on

follow_published : (conn : ℕ) (publications : List Pub) (old new : Asking)
    → AsksInTurn (lent_asks publications) old new
    → Follows conn old (map (published_by conn) publications) new
follow_published conn [] old new asks = asks
follow_published conn (one ∷ more) old new asks = (refl, asks.0, follow_published conn more _ new asks.1)

go_on_published : (conn : ℕ) (publications : List Pub) → GoOn (map (published_by conn) publications)
go_on_published conn [] = tt
go_on_published conn (one ∷ more) = (refl, go_on_published conn more)

GoOn-append : (xs ys : List Called) → GoOn xs → GoOn ys → GoOn (xs ++ ys)
GoOn-append [] ys first second = second
GoOn-append (asked n a o ∷ xs) ys first second = (first.0, GoOn-append xs ys first.1 second)
GoOn-append (attached r ∷ xs) ys first second = absurd first
GoOn-append (detached n r ∷ xs) ys first second = absurd first

pub recounted : {S : Type 0} (made : S → Called → S → Type 0) (conn : ℕ) (old : Asking) (before : S) (new : Asking)
    (after : S) (count total : ℕ)
    → SoFar made conn old before new after count
    → count ≡ total
    → SoFar made conn old before new after total
recounted made conn old before new after count total far is = subst (SoFar made conn old before new after) is far

runs_on : {S : Type 0} (made : S → Called → S → Type 0) (conn count n total : ℕ) (old : Asking) (before : S)
    (mid : Asking) (there : S) (new : Asking) (after : S)
    → SoFar made conn old before mid there count
    → MakesRun made conn n mid there new after
    → count + n ≡ total
    → SoFar made conn old before new after total
runs_on made conn count n total old before mid there new after far run is = record {
  calls = far.calls ++ more;
  chain = Chain-append made before far.calls there more after far.chain run.chain;
  follow =
      Follows-append conn old far.calls mid more new far.follow
      (follow_published conn run.publications mid new run.asks);
  go_on = GoOn-append far.calls more far.go_on (go_on_published conn run.publications);
  so_many =
      length-append far.calls more
      ∙ omega (arith, far.so_many, length-map run.publications (published_by conn), run.counted, is);
}
  where
    more : List Called
    more = map (published_by conn) run.publications

-- so many are left behind those that were published
pub run_left : {S : Type 0} (made : S → Called → S → Type 0) (conn most left n : ℕ) (old : Asking) (before : S)
    (mid : Asking) (there : S) (new : Asking) (after : S)
    → SoFar made conn old before mid there (most - left)
    → left ≤ most
    → MakesRun made conn n mid there new after
    → n ≤ left
    → SoFar made conn old before new after (most - (left - n))
run_left made conn most left n old before mid there new after far within run few =
    runs_on made conn (most - left) n (most - (left - n)) old before mid there new after far run
    (omega (arith, within, few))

-- ---- under a lock

-- each call was made in some state, and no caller sees what it left
locked : {S T : Type 0} (made : S → Called → S → Type 0) (calls : List Called) (before after : S) (now : T)
    → Chain made before calls after
    → Chain (λ _ called _. WasMade made called) now calls now
locked made [] before after now chain = refl
locked made (called ∷ more) before after now chain =
    (now, (before, chain.0, chain.1), locked made more chain.0 after now chain.2)

pub published_under : {S T : Type 0} (made : S → Called → S → Type 0) (conn count : ℕ) (old new : LentState)
    (before after : S) (now : T)
    → HasPublished made conn count old new before after
    → HasPublished (λ _ called _. WasMade made called) conn count old new now now
published_under made conn count old new before after now has = record {
  publications = has.publications;
  counted = has.counted;
  given = has.given;
  chain = locked made (map (published_by conn) has.publications) before after now has.chain;
}
