-- Frames that are handed to the hub, one after the other.
use Rattle.std.proofs.Common.{◌≡◌, ℕ, ◌+◌, ◌<◌, Bool, true, false, if◌then◌else◌, List, [], ◌∷◌, ◌++◌, length, Option, Some, None, Ok, Err, refl, sym, ap, ◌∙◌, subst, arith, inl, inr, length-append, append-nil, append_assoc}
use Rattle.std.specs.Prelude.{option_to_list, is_some, IfSome}
use Rattle.std.specs.Option.{option_zip}
use Rattle.subj.specs.Servers.{ServerIdentity}
use Rattle.route_values.specs.Frames.{Frame}
use Rattle.route_values.specs.Records.{Info, Connect}
use Rattle.route_values.specs.declared.frames.RouteFrame.{RouteFrame}
use Rattle.route_values.specs.declared.frames.RouteFrame.TheVariants as route
use Rattle.server_calls.specs.Routed.{Routed, informed, connected, received, was_cut, took, RouteChain}
use Rattle.node_net.specs.Routes.{IsOfPeer, is_of_life, Came, is_done, end_behind, standing_behind, HandsOver, GoOn, HasOther, HasNoNumbered, EndsReading, EndsWithout, HasReceived, HandsOne, HandsNone, HandsNext, AppliesAhead, ReadsOn, ReadsSo, Looks, LooksSo, place_of, dialed_place, told_by, Stays, TakesInfo, TakesConnect, Takes, TakesAhead, ReceivesAtHub, Advances}
use Rattle.node_net.specs.Reading.{ReadsFrames, ReadsAhead}
use Rattle.node_net.proofs.ReadingLemmas.{frames_none, frames_join}
use Rattle.node_net.specs.declared.route_link.RouteLink.{RouteLink}
use Rattle.node_net.specs.declared.route_link.Stage.{Stage}
use Rattle.node_net.specs.declared.route_link.Stepped.{Stepped}
use Rattle.node_net.specs.declared.route_link.Stepped.TheVariants as step
use Rattle.node_net.specs.declared.route_link.Told.TheVariants as told
use Rattle.node_net.specs.declared.runs.RunOutcome.{RunOutcome}
use Rattle.node_net.specs.declared.runs.Ran.{Ran}
use Rattle.node_net.specs.declared.runs.Ran.TheVariants as ran

-- ---- one more call

chain_push : {H : Type 0} (made : H → Routed → H → Type 0) (before : H) (calls : List Routed) (there : H)
    (call : Routed) (after : H)
    → RouteChain made before calls there
    → made there call after
    → RouteChain made before (calls ++ call ∷ []) after
chain_push made before [] there call after same is = (after, subst (λ s. made s call after) same is, refl)
chain_push made before (first ∷ calls) there call after c is = (
  c.0,
  c.1,
  chain_push made c.0 calls there call after c.2 is,
)

go_on_push : (stage : Stage) (calls : List Routed) (frame : Frame) (came : Came)
    → GoOn stage calls
    → end_behind (is_of_life stage frame) came ≡ None
    → GoOn stage (calls ++ received frame came ∷ [])
go_on_push stage [] frame came go is = (is, tt)
go_on_push stage (received f c ∷ calls) frame came go is = (go.0, go_on_push stage calls frame came go.1 is)
go_on_push stage (informed s i c ∷ calls) frame came go is = absurd go
go_on_push stage (connected s i c ∷ calls) frame came go is = absurd go
go_on_push stage (was_cut s ∷ calls) frame came go is = absurd go
go_on_push stage (took p n f ∷ calls) frame came go is = absurd go

hands_push : (peer : Frame → Type 0) (standing : List RouteFrame) (calls : List Routed) (frame : Frame) (came : Came)
    (rest : List RouteFrame)
    → HandsOver peer standing calls (route.Numbered frame ∷ rest)
    → peer frame
    → HandsOver peer standing (calls ++ received frame came ∷ []) (standing_behind frame came rest)
hands_push peer standing [] frame came rest same is = (rest, sym same, is, refl)
hands_push peer standing (received f c ∷ calls) frame came rest h is = (
  h.0,
  h.1,
  h.2,
  hands_push peer (standing_behind f c h.0) calls frame came rest h.3 is,
)
hands_push peer standing (informed s i c ∷ calls) frame came rest h is = absurd h
hands_push peer standing (connected s i c ∷ calls) frame came rest h is = absurd h
hands_push peer standing (was_cut s ∷ calls) frame came rest h is = absurd h
hands_push peer standing (took p n f ∷ calls) frame came rest h is = absurd h

-- ---- more that is read

if_more : (done : Bool) (x : RouteFrame) (rest more : List RouteFrame)
    → (if done then rest else (x ∷ rest)) ++ more ≡ (if done then (rest ++ more) else (x ∷ (rest ++ more)))
if_more true x rest more = refl
if_more false x rest more = refl

hands_more : (peer : Frame → Type 0) (standing : List RouteFrame) (calls : List Routed) (left more : List RouteFrame)
    → HandsOver peer standing calls left
    → HandsOver peer (standing ++ more) calls (left ++ more)
hands_more peer standing [] left more same = ap (λ xs. xs ++ more) same
hands_more peer standing (received f c ∷ calls) left more h = (
  h.0 ++ more,
  ap (λ xs. xs ++ more) h.1,
  h.2,
  subst (λ xs. HandsOver peer xs calls (left ++ more)) (if_more (is_done c) (route.Numbered f) h.0 more)
      (hands_more peer (standing_behind f c h.0) calls left more h.3),
)
hands_more peer standing (informed s i c ∷ calls) left more h = absurd h
hands_more peer standing (connected s i c ∷ calls) left more h = absurd h
hands_more peer standing (was_cut s ∷ calls) left more h = absurd h
hands_more peer standing (took p n f ∷ calls) left more h = absurd h

-- ---- calls that hand over what stood there, and what was read behind it

reads_on : (a b c : RouteLink) → ReadsOn a b → ReadsOn b c → ReadsOn a c
reads_on a b c ab bc =
    bc
    ∙ ap (λ (r : RouteLink). record r { cutter = c.cutter; line = c.line; unjoined = c.unjoined; ahead = c.ahead }) ab

so_on : (end : Option Ran) (one two : List RouteFrame) (a b c : RouteLink)
    → ReadsSo None a b one
    → ReadsSo end b c two
    → ReadsSo end a c (one ++ two)
so_on end one two a b c ab bc =
    record { on = reads_on a b c ab.on bc.on; reads = frames_join end one two a b c ab.reads bc.reads }

same_stage : (a b : RouteLink) → ReadsOn a b → b.stage ≡ a.stage
same_stage a b is = ap (λ (r : RouteLink). r.stage) is

pub record Handed {H : Type 0} (made : H → Routed → H → Type 0) (life : ServerIdentity) (looked : Option Ran)
    (old new : RouteLink) (before after : H) (calls : List Routed) : Type 0 where
  pub read : List RouteFrame
  pub on : ReadsSo looked old new read
  pub chain : RouteChain made before calls after
  pub hands : HandsOver (IsOfPeer life old.stage) (option_to_list old.ahead ++ read) calls (option_to_list new.ahead)

left_as_list : (done : Bool) (x : RouteFrame)
    → (if done then [] else (x ∷ [])) ≡ option_to_list (if done then None else Some x)
left_as_list true x = refl
left_as_list false x = refl

-- more frames are read
hands_read : (peer : Frame → Type 0) (standing : List RouteFrame) (read more : List RouteFrame) (calls : List Routed)
    (left there : List RouteFrame)
    → HandsOver peer (standing ++ read) calls left
    → left ++ more ≡ there
    → HandsOver peer (standing ++ (read ++ more)) calls there
hands_read peer standing read more calls left there h is =
    subst (λ xs. HandsOver peer xs calls there) (append_assoc standing read more)
    (subst (λ xs. HandsOver peer ((standing ++ read) ++ more) calls xs) is
    (hands_more peer (standing ++ read) calls left more h))

handed_one : {H : Type 0} (made : H → Routed → H → Type 0) (life : ServerIdentity) (end : Option Ran)
    (old mid new : RouteLink) (before there after : H) (calls : List Routed)
    → Handed made life None old mid before there calls
    → (one : HandsOne made life end mid new there after)
    → Handed made life None old new before after (calls ++ received one.frame one.came ∷ [])
handed_one made life end old mid new before there after calls far one = record {
  read = far.read ++ one.read;
  on = so_on None far.read one.read old mid new far.on one.on;
  chain = chain_push made before calls there (received one.frame one.came) after far.chain one.call;
  hands =
      subst (λ xs.
      HandsOver (IsOfPeer life old.stage) (option_to_list old.ahead ++ (far.read ++ one.read))
      (calls ++ received one.frame one.came ∷ []) xs)
      (left_as_list (is_done one.came) (route.Numbered one.frame) ∙ ap option_to_list (sym one.left))
      (hands_push (IsOfPeer life old.stage) (option_to_list old.ahead ++ (far.read ++ one.read)) calls one.frame
      one.came []
      (hands_read (IsOfPeer life old.stage) (option_to_list old.ahead) far.read one.read calls
      (option_to_list mid.ahead) (route.Numbered one.frame ∷ []) far.hands one.stands)
      (subst (λ s. IsOfPeer life s one.frame) (same_stage old mid far.on.on) one.of_peer));
}

handed_none : {H : Type 0} (made : H → Routed → H → Type 0) (life : ServerIdentity) (end : Option Ran)
    (old mid new : RouteLink) (before there after : H) (calls : List Routed)
    → Handed made life None old mid before there calls
    → (none : HandsNone life end mid new there after)
    → Handed made life none.looked old new before after calls
handed_none made life end old mid new before there after calls far none = record {
  read = far.read ++ none.read;
  on = so_on none.looked far.read none.read old mid new far.on none.on;
  chain = subst (λ h. RouteChain made before calls h) (sym none.same) far.chain;
  hands =
      hands_read (IsOfPeer life old.stage) (option_to_list old.ahead) far.read none.read calls
      (option_to_list mid.ahead) (option_to_list new.ahead) far.hands none.stands;
}

-- ---- a run

-- so many were handed over, and the run goes on
pub record SoFar {H : Type 0} (made : H → Routed → H → Type 0) (life : ServerIdentity) (old new : RouteLink)
    (before after : H) (count : ℕ) : Type 0 where
  pub calls : List Routed
  pub handed : Handed made life None old new before after calls
  pub go_on : GoOn old.stage calls
  pub so_many : length calls ≡ count

pub none_so_far : {H : Type 0} (made : H → Routed → H → Type 0) (life : ServerIdentity) (old : RouteLink) (before : H)
    → SoFar made life old old before before 0
none_so_far made life old before = record {
  calls = [];
  handed =
      record {
        read = [];
        on = record { on = refl; reads = frames_none old };
        chain = refl;
        hands = sym (append-nil (option_to_list old.ahead));
      };
  go_on = tt;
  so_many = refl;
}

count_push : (calls : List Routed) (call : Routed) (count : ℕ)
    → length calls ≡ count
    → length (calls ++ call ∷ []) ≡ count + 1
count_push calls call count is = length-append calls (call ∷ []) ∙ ap (λ n. n + 1) is

end_at : (a b : RouteLink) (frame : Frame) (came : Came) (end : Option Ran)
    → ReadsOn a b
    → end ≡ end_behind (is_of_life b.stage frame) came
    → end_behind (is_of_life a.stage frame) came ≡ end
end_at a b frame came end on is = sym (is ∙ ap (λ s. end_behind (is_of_life s frame) came) (same_stage a b on))

pub one_more : {H : Type 0} (made : H → Routed → H → Type 0) (life : ServerIdentity) (end : Option Ran)
    (old mid new : RouteLink) (before there after : H) (count : ℕ)
    → SoFar made life old mid before there count
    → HandsNext made life end mid new there after
    → end ≡ None
    → SoFar made life old new before after (count + 1)
one_more made life end old mid new before there after count far (inl one) is = record {
  calls = far.calls ++ received one.frame one.came ∷ [];
  handed = handed_one made life end old mid new before there after far.calls far.handed one;
  go_on =
      go_on_push old.stage far.calls one.frame one.came far.go_on
      (end_at old mid one.frame one.came end far.handed.on.on one.ends ∙ is);
  so_many = count_push far.calls (received one.frame one.came) count far.so_many;
}
one_more made life end old mid new before there after count far (inr none) is =
    absurd (none_is (sym is ∙ none.ends))
  where
    none_is : {why : Ran} → None ≡ Some why → ⊥
    none_is e = cc e

why_is : (life : ServerIdentity) (a b : RouteLink) (looked : Option Ran) (end why : Ran) (left : Option RouteFrame)
    → ReadsOn a b
    → Some end ≡ Some why
    → EndsWithout life b.stage looked why left
    → EndsWithout life a.stage looked end left
why_is life a b looked end why left on is ends =
    subst (λ s. EndsWithout life s looked end left) (same_stage a b on)
    (subst (λ r. EndsWithout life b.stage looked r left) (sym (some_is is)) ends)
  where
    some_is : Some end ≡ Some why → end ≡ why
    some_is e = cc e

pub ends_at : {H : Type 0} (made : H → Routed → H → Type 0) (life : ServerIdentity) (came : Option Ran) (end : Ran)
    (old mid new : RouteLink) (before there after : H) (count most : ℕ)
    → SoFar made life old mid before there count
    → count < most
    → HandsNext made life came mid new there after
    → came ≡ Some end
    → HasReceived made life most end old new before after
ends_at made life came end old mid new before there after count most far few (inl one) is =
    let handed = handed_one made life came old mid new before there after far.calls far.handed one in
    record {
      read = handed.read;
      calls = far.calls ++ received one.frame one.came ∷ [];
      looked = None;
      on = handed.on;
      chain = handed.chain;
      hands = handed.hands;
      few = omega (arith, few, count_push far.calls (received one.frame one.came) count far.so_many);
      ends =
          inl (
            refl,
            record {
              front = far.calls;
              frame = one.frame;
              came = one.came;
              are = refl;
              go_on = far.go_on;
              last = end_at old mid one.frame one.came came far.handed.on.on one.ends ∙ is;
            },
          );
    }
ends_at made life came end old mid new before there after count most far few (inr none) is =
    let handed = handed_none made life came old mid new before there after far.calls far.handed none in
    record {
      read = handed.read;
      calls = far.calls;
      looked = none.looked;
      on = handed.on;
      chain = handed.chain;
      hands = handed.hands;
      few = omega (arith, few, far.so_many);
      ends =
          inr (
            far.go_on,
            inr (why_is life old mid none.looked end none.why new.ahead far.handed.on.on (sym is ∙ none.ends)
                none.left),
          );
    }

pub ends_full : {H : Type 0} (made : H → Routed → H → Type 0) (life : ServerIdentity) (end : Ran) (old new : RouteLink)
    (before after : H) (most : ℕ)
    → SoFar made life old new before after most
    → end ≡ ran.Goes
    → HasReceived made life most end old new before after
ends_full made life end old new before after most far is = record {
  read = far.handed.read;
  calls = far.calls;
  looked = None;
  on = far.handed.on;
  chain = far.handed.chain;
  hands = far.handed.hands;
  few = omega (arith, far.so_many);
  ends = inr (far.go_on, inl (refl, is, far.so_many));
}

-- ---- the next frame

-- the link behind a frame that was taken away, or was not
abbrev pub left_behind : Bool → RouteLink → RouteLink
left_behind true mid = record mid { ahead = None }
left_behind false mid = mid

on_behind : (done : Bool) (old mid : RouteLink) → ReadsOn old mid → ReadsOn old (left_behind done mid)
on_behind true old mid is = ap (λ (r : RouteLink). record r { ahead = None }) is
on_behind false old mid is = is

so_behind : (done : Bool) (read : List RouteFrame) (old mid : RouteLink)
    → ReadsSo None old mid read
    → ReadsSo None old (left_behind done mid) read
so_behind true read old mid is = record { on = on_behind true old mid is.on; reads = is.reads }
so_behind false read old mid is = is

ahead_behind : (done : Bool) (mid : RouteLink) (frame : RouteFrame)
    → mid.ahead ≡ Some frame
    → (left_behind done mid).ahead ≡ (if done then None else Some frame)
ahead_behind true mid frame is = refl
ahead_behind false mid frame is = is

-- one that is not numbered is not handed over
quiet : {H : Type 0} (made : H → Routed → H → Type 0) (life : ServerIdentity) (end : Option Ran) (why : Ran)
    (old mid : RouteLink) (before after : H)
    → Looks old None mid
    → end ≡ Some why
    → after ≡ before
    → EndsWithout life old.stage None why mid.ahead
    → HandsNext made life end old mid before after
quiet made life end why old mid before after looks ends same left =
    inr (record {
      read = looks.read;
      looked = None;
      why = why;
      on = looks.on;
      stands = sym looks.ahead;
      same = same;
      ends = ends;
      left = left;
    })

hands_frame : {H : Type 0} (made : H → Routed → H → Type 0) (life : ServerIdentity) (done : Bool) (end : Option Ran)
    (old mid : RouteLink) (frame : RouteFrame) (before after : H)
    → Looks old None mid
    → mid.ahead ≡ Some frame
    → AppliesAhead made life mid.stage (Some frame) done end before after
    → HandsNext made life end old (left_behind done mid) before after
hands_frame made life done end old mid (route.Numbered frame) before after looks is (inl a) =
    inl (record {
      read = looks.read;
      frame = frame;
      came = a.1.0;
      on = so_behind done looks.read old mid looks.on;
      stands = sym looks.ahead ∙ ap option_to_list is;
      of_peer = subst (λ s. IsOfPeer life s frame) (same_stage old mid looks.on.on) a.0;
      call = a.1.1;
      ends = a.1.3 ∙ ap (λ s. end_behind (is_of_life s frame) a.1.0) (same_stage old mid looks.on.on);
      left =
          ahead_behind done mid (route.Numbered frame) is
          ∙ ap (λ b. if b then None else Some (route.Numbered frame)) a.1.2;
    })
hands_frame made life done end old mid (route.Numbered frame) before after looks is (inr a) =
    subst (λ b. HandsNext made life end old (left_behind b mid) before after) (sym a.1)
    (quiet made life end ran.Refused old mid before after looks a.2 a.3
    (inr (
      refl,
      inr (
        refl,
        subst (λ l. HasOther life old.stage l) (sym is)
            (subst (λ s. ¬ IsOfPeer life s frame) (same_stage old mid looks.on.on) a.0),
      ),
    )))
hands_frame made life done end old mid (route.Info info) before after looks is a =
    subst (λ b. HandsNext made life end old (left_behind b mid) before after) (sym a.0)
    (quiet made life end ran.Goes old mid before after looks a.1 a.2
    (inr (refl, inl (refl, subst HasNoNumbered (sym is) tt))))
hands_frame made life done end old mid (route.Connect connect) before after looks is a =
    subst (λ b. HandsNext made life end old (left_behind b mid) before after) (sym a.0)
    (quiet made life end ran.Goes old mid before after looks a.1 a.2
    (inr (refl, inl (refl, subst HasNoNumbered (sym is) tt))))

-- it was read before, or is read now
pub hands_next : {H : Type 0} (made : H → Routed → H → Type 0) (life : ServerIdentity) (done : Bool) (end : Option Ran)
    (old mid : RouteLink) (before after : H)
    → Looks old None mid
    → AppliesAhead made life mid.stage mid.ahead done end before after
    → HandsNext made life end old (left_behind done mid) before after
hands_next made life done end old mid before after looks applies = go mid.ahead refl where
  go : (a : Option RouteFrame) → mid.ahead ≡ a → HandsNext made life end old (left_behind done mid) before after
  go (Some frame) is =
      hands_frame made life done end old mid frame before after looks is
      (subst (λ x. AppliesAhead made life mid.stage x done end before after) is applies)
  go None is = absurd (subst (λ x. LooksSo None x) is looks.ends)

-- none could be read
pub hands_no_next : {H : Type 0} (made : H → Routed → H → Type 0) (life : ServerIdentity) (end : Ran)
    (old mid : RouteLink) (before : H)
    → Looks old (Some end) mid
    → HandsNext made life (Some end) old mid before before
hands_no_next made life end old mid before looks = go mid.ahead refl where
  go : (a : Option RouteFrame) → mid.ahead ≡ a → HandsNext made life (Some end) old mid before before
  go (Some frame) is = absurd (subst (λ x. LooksSo (Some end) x) is looks.ends)
  go None is =
      inr (record {
        read = looks.read;
        looked = Some end;
        why = end;
        on = looks.on;
        stands = sym looks.ahead;
        same = refl;
        ends = refl;
        left = inl (refl, subst (λ x. LooksSo (Some end) x) is looks.ends, is);
      })

-- ---- reading

there : (ahead : Option RouteFrame) → true ≡ is_some ahead → LooksSo None ahead
there (Some frame) is = tt
there None is = absurd (cc is)

-- the frame was read before
pub looks_there : (link : RouteLink) → true ≡ is_some link.ahead → Looks link None link
looks_there link some = record {
  read = [];
  on = record { on = refl; reads = frames_none link };
  ahead = sym (append-nil (option_to_list link.ahead));
  ends = there link.ahead some;
}

none_of : (ahead : Option RouteFrame) → false ≡ is_some ahead → ahead ≡ None
none_of None is = refl
none_of (Some frame) is = absurd (cc is)

-- none stood there, so whatever does now was read
pub looks_on : (old new : RouteLink)
    → false ≡ is_some old.ahead
    → ReadsOn old new
    → ReadsAhead old (Ok tt) new
    → is_some new.ahead ≡ true
    → Looks old None new
looks_on old new none on reads some =
    let nothing : old.ahead ≡ None = none_of old.ahead none in
    record {
      read = option_to_list new.ahead;
      on = record { on = on; reads = reads nothing };
      ahead = ap (λ a. option_to_list a ++ option_to_list new.ahead) (sym nothing);
      ends = there new.ahead (sym some);
    }

pub looks_in_vain : (old new : RouteLink) (end : Ran)
    → false ≡ is_some old.ahead
    → ReadsOn old new
    → ReadsAhead old (Err end) new
    → new.ahead ≡ old.ahead
    → EndsReading end
    → Looks old (Some end) new
looks_in_vain old new end none on reads same ends =
    let nothing : old.ahead ≡ None = none_of old.ahead none in
    let nothing_now : new.ahead ≡ None = same ∙ nothing in
    record {
      read = [];
      on =
          record {
            on = on;
            reads =
                subst (λ frames. ReadsFrames (Some end) frames old new) (ap option_to_list nothing_now)
                (reads nothing);
          };
      ahead = ap option_to_list nothing_now ∙ ap (λ a. option_to_list a ++ []) (sym nothing);
      ends = subst (λ a. LooksSo (Some end) a) (sym nothing_now) ends;
    }

-- ---- what is taken

pub takes_told : {H : Type 0} (made : H → Routed → H → Type 0) (pushed : H → H → Type 0) (life : ServerIdentity)
    (ahead : Option RouteFrame) (old : RouteLink) (stepped : Stepped) (new : RouteLink)
    → old.ahead ≡ ahead
    → IfSome ahead (λ frame. Takes made pushed life frame old stepped new)
    → IfSome old.ahead (λ frame. Takes made pushed life frame old stepped new)
takes_told made pushed life ahead old stepped new is takes =
    subst (λ a. IfSome a (λ frame. Takes made pushed life frame old stepped new)) (sym is) takes

-- an INFO stands to be taken
pub takes_info : {H : Type 0} (made : H → Routed → H → Type 0) (pushed : H → H → Type 0) (life : ServerIdentity)
    (info : Info) (ahead : Option RouteFrame) (old : RouteLink) (stepped : Stepped) (new : RouteLink)
    → told.Info info ≡ told_by ahead
    → TakesInfo made (option_zip (dialed_place old.stage) old.session) info old stepped new
    → IfSome ahead (λ frame. Takes made pushed life frame old stepped new)
takes_info made pushed life info (Some (route.Info other)) old stepped new is takes =
    subst (λ (i : Info). TakesInfo made (option_zip (dialed_place old.stage) old.session) i old stepped new) (cc is)
    takes
takes_info made pushed life info (Some (route.Connect connect)) old stepped new is takes = absurd (cc is)
takes_info made pushed life info (Some (route.Numbered frame)) old stepped new is takes = absurd (cc is)
takes_info made pushed life info None old stepped new is takes = tt

-- a CONNECT does
pub takes_connect : {H : Type 0} (made : H → Routed → H → Type 0) (pushed : H → H → Type 0) (life : ServerIdentity)
    (connect : Connect) (ahead : Option RouteFrame) (old : RouteLink) (stepped : Stepped) (new : RouteLink)
    → told.Connect connect ≡ told_by ahead
    → TakesConnect made (option_zip (place_of life connect.server_name) old.session) connect old stepped new
    → IfSome ahead (λ frame. Takes made pushed life frame old stepped new)
takes_connect made pushed life connect (Some (route.Connect other)) old stepped new is takes =
    subst (λ (i : Connect). TakesConnect made (option_zip (place_of life i.server_name) old.session) i old stepped new)
    (cc is) takes
takes_connect made pushed life connect (Some (route.Info info)) old stepped new is takes = absurd (cc is)
takes_connect made pushed life connect (Some (route.Numbered frame)) old stepped new is takes = absurd (cc is)
takes_connect made pushed life connect None old stepped new is takes = tt

-- a numbered frame does
pub takes_numbered : {H : Type 0} (made : H → Routed → H → Type 0) (pushed : H → H → Type 0) (life : ServerIdentity)
    (run : RunOutcome) (ahead : Option RouteFrame) (old new : RouteLink)
    → told.Nothing ≡ told_by ahead
    → ReceivesAtHub made pushed life run.end old new
    → IfSome ahead (λ frame. Takes made pushed life frame old (step.Ran run) new)
takes_numbered made pushed life run (Some (route.Numbered frame)) old new is takes = takes
takes_numbered made pushed life run (Some (route.Info info)) old new is takes = absurd (cc is)
takes_numbered made pushed life run (Some (route.Connect connect)) old new is takes = absurd (cc is)
takes_numbered made pushed life run None old new is takes = tt

-- a turn in which there is one
pub advances_on : {H : Type 0} (made : H → Routed → H → Type 0) (pushed : H → H → Type 0) (life : ServerIdentity)
    (old mid : RouteLink) (stepped : Stepped) (new : RouteLink)
    → Looks old None mid
    → IfSome mid.ahead (λ frame. Takes made pushed life frame mid stepped new)
    → Advances made pushed life old stepped new
advances_on made pushed life old mid stepped new looks takes = record {
  end = None;
  mid = mid;
  looks = looks;
  takes = go mid.ahead looks.ends takes;
}
  where
    go : (ahead : Option RouteFrame)
        → LooksSo None ahead
        → IfSome ahead (λ frame. Takes made pushed life frame mid stepped new)
        → TakesAhead made pushed life None ahead mid stepped new
    go (Some frame) ends is = is
    go None ends is = absurd ends

-- and one in which there is none
pub advances_not : {H : Type 0} (made : H → Routed → H → Type 0) (pushed : H → H → Type 0) (life : ServerIdentity)
    (old mid : RouteLink) (end : Ran) (run : RunOutcome) (stepped : Stepped)
    → Looks old (Some end) mid
    → stepped ≡ step.Ran run
    → run.end ≡ end
    → Advances made pushed life old stepped mid
advances_not made pushed life old mid end run stepped looks is ended = record {
  end = Some end;
  mid = mid;
  looks = looks;
  takes = subst (λ s. Stays end mid s mid) (sym is) (ended, refl);
}
