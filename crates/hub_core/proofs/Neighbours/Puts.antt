-- Frames are put into outboxes, one after the other.
use Rattle.std.proofs.Common.{◌≡◌, ◌≢◌, ℕ, zero, suc, ◌+◌, ◌<◌, ◌≤◌, Bool, true, false, cond, nat_lt, List, [], ◌∷◌, ◌++◌, length, set, Option, Some, None, refl, sym, ap, ◌∙◌, subst, arith, length-append}
use Rattle.std.specs.Prelude.{filter, position, slice_get}
use Rattle.std.proofs.lemmas.Bool.Decides.{nat_tests}
use Rattle.std.proofs.lemmas.List.Elements.{All-head, All-tail}
use Rattle.std.specs.Str.{bytes_eq}
use Rattle.std.proofs.lemmas.Option.{none-some, same_Some, slice_get_within}
use Rattle.std.proofs.lemmas.Slice.Eq.{bytes_eq-Decides}
use Rattle.list_laws.proofs.Changes.{append_assoc, append_nil}
use Rattle.list_laws.proofs.Lists.{read_set}
use Rattle.subj.specs.declared.limits.TheConstants.{ROUTE_FRAMES}
use Rattle.subj.specs.Servers.{ServerIdentity, IsListed, name_of, place}
use Rattle.route_values.specs.Frames.{Frame}
use Rattle.hub_core.specs.State.{Peer, changed_in, changed_at}
use Rattle.hub_core.specs.Publishing.{is_to, with_frames}
use Rattle.hub_core.specs.Calls.{with_frame, HasRoomFor}
use Rattle.hub_core.proofs.Choices.Places.{named, name_there, differs}

-- the frame is to the server at the place of its name, and to no other
pub to_here : (server : ServerIdentity) (frame : Frame)
    → place server frame.to < length server.names
    → is_to server (place server frame.to) frame ≡ true
to_here server frame listed =
    (bytes_eq-Decides frame.to (name_of server (place server frame.to))).1
    (sym (name_there server.names frame.to listed))

pub to_none : (server : ServerIdentity) (frame : Frame) (k : ℕ)
    → IsListed server
    → k < length server.names
    → k ≢ place server frame.to
    → is_to server k frame ≡ false
to_none server frame k is below apart =
    differs frame.to (name_of server k) (λ e. apart (sym (named server is k below) ∙ ap (place server) (sym e)))

-- no peer from place k on gets the frame
elsewhere : (server : ServerIdentity) (frame : Frame) (frames : List Frame) (k : ℕ) (peers : List Peer)
    → ((j : ℕ) → k ≤ j → j < k + length peers → is_to server j frame ≡ false)
    → with_frames server frames k peers ≡ with_frames server (frame ∷ frames) k peers
elsewhere server frame frames k [] none = refl
elsewhere server frame frames k (peer ∷ peers) none = (λ i.
    record peer {
      outbox =
          peer.outbox
          ++ cond (sym (none k (omega arith) (omega arith)) i) (frame ∷ filter (is_to server k) frames)
          (filter (is_to server k) frames);
    }
    ∷ elsewhere server frame frames (suc k) peers (λ j least most. none j (omega arith) (omega arith)) i)

-- the peer n behind place k gets it
one_more : (server : ServerIdentity) (frame : Frame) (frames : List Frame) (k n q : ℕ) (peers : List Peer) (x : Peer)
    → q ≡ k + n
    → is_to server q frame ≡ true
    → ((j : ℕ) → j < k + length peers → j ≢ q → is_to server j frame ≡ false)
    → slice_get peers n ≡ Some x
    → with_frames server frames k (set peers n (with_frame frame x)) ≡ with_frames server (frame ∷ frames) k peers
one_more server frame frames k n q [] x place_is here others at = absurd (none-some x at)
one_more server frame frames k zero q (peer ∷ peers) x place_is here others at =
    let same : k ≡ q = omega arith in
    let first : is_to server k frame ≡ true = ap (λ j. is_to server j frame) same ∙ here in
    let text : (x.outbox ++ frame ∷ []) ++ filter (is_to server k) frames
    ≡ peer.outbox
    ++ cond (is_to server k frame) (frame ∷ filter (is_to server k) frames) (filter (is_to server k) frames) =
    append_assoc x.outbox (frame ∷ []) (filter (is_to server k) frames)
    ∙ ap (λ (p : Peer). p.outbox ++ frame ∷ filter (is_to server k) frames) (sym (same_Some peer x at))
    ∙ ap (λ (b : Bool). peer.outbox ++ cond b (frame ∷ filter (is_to server k) frames) (filter (is_to server k) frames))
    (sym first) in
    let alike : x ≡ peer = sym (same_Some peer x at) in
    let later : with_frames server frames (suc k) peers ≡ with_frames server (frame ∷ frames) (suc k) peers =
    elsewhere server frame frames (suc k) peers (λ j least most. others j (omega arith) (λ e. apart j least e)) in
    (λ i. record (alike i) { outbox = text i } ∷ later i)
  where
    apart : (j : ℕ) → suc k ≤ j → j ≡ q → ⊥
    apart j least e = omega arith
one_more server frame frames k (suc n) q (peer ∷ peers) x place_is here others at =
    let none : is_to server k frame ≡ false = others k (omega arith) (λ e. omega arith) in
    (λ i.
    record peer {
      outbox =
          peer.outbox ++ cond (sym none i) (frame ∷ filter (is_to server k) frames) (filter (is_to server k) frames);
    }
    ∷ one_more server frame frames (suc k) n q peers x (omega arith) here
    (λ j below apart. others j (omega arith) apart) at i)

-- ---- a listed name has its place

below : (a b : ℕ) → a < b → nat_lt a b ≡ true
below a b lt = grind (arith, nat_tests)

pub found_place : (server : ServerIdentity) (name : List ℕ)
    → place server name < length server.names
    → position (λ other. bytes_eq other name) server.names ≡ Some (place server name)
found_place server name lt =
    ap (λ (b : Bool). let o : Option ℕ = cond b (Some (place server name)) None in o)
    (below (place server name) (length server.names) lt)

-- ---- one frame after the other

-- what stands at a place
there : {A : Type 0} (xs : List A) (q : ℕ) → q < length xs → (x : A) × (slice_get xs q ≡ Some x)
there [] q lt = absurd (omega arith)
there (x ∷ xs) zero lt = (x, refl)
there (x ∷ xs) (suc q) lt = there xs q (omega arith)

module _ (server : ServerIdentity) (frame : Frame) (frames : List Frame) (peers : List Peer)
    (room : HasRoomFor server (frame ∷ frames) peers) where
  pub is_listed : place server frame.to < length server.names
  is_listed = All-head (λ (frame : Frame). place server frame.to < length server.names) frame frames room.listed

  waiting : ℕ → Peer → Bool → ℕ
  waiting q peer b =
      length peer.outbox + length (cond b (frame ∷ filter (is_to server q) frames) (filter (is_to server q) frames))

  fits : (q : ℕ) (peer : Peer) → slice_get peers q ≡ Some peer → waiting q peer (is_to server q frame) ≤ ROUTE_FRAMES
  unfolding waiting
  fits q peer at = room.room q peer at

  own : (peer : Peer)
      → slice_get peers (place server frame.to) ≡ Some peer
      → waiting (place server frame.to) peer true ≤ ROUTE_FRAMES
  own peer at =
      subst (λ (b : Bool). waiting (place server frame.to) peer b ≤ ROUTE_FRAMES) (to_here server frame is_listed)
      (fits (place server frame.to) peer at)

  pub has_room : (peer : Peer) → slice_get peers (place server frame.to) ≡ Some peer → length peer.outbox < ROUTE_FRAMES
  unfolding waiting
  has_room peer at = let most = own peer at in omega arith

  -- the frame is put, and then the others have room
  pub put_one : (new : List Peer)
      → IsListed server
      → length peers ≡ length server.names
      → new ≡ changed_at (with_frame frame) (place server frame.to) peers
      → (HasRoomFor server frames new) × (with_frames server frames 0 new ≡ with_frames server (frame ∷ frames) 0 peers)
  unfolding waiting
  put_one new is placed new_is =
      subst (λ (l : List Peer).
      (HasRoomFor server frames l) × (with_frames server frames 0 l ≡ with_frames server (frame ∷ frames) 0 peers))
      (sym set_is) (
        record {
          listed = All-tail (λ (frame : Frame). place server frame.to < length server.names) frame frames room.listed;
          room =
              read_set
              (λ (j : ℕ) (peer : Peer). length peer.outbox + length (filter (is_to server j) frames) ≤ ROUTE_FRAMES)
              peers q (with_frame frame x)
              (λ j peer apart at.
              subst (λ (b : Bool). waiting j peer b ≤ ROUTE_FRAMES) (to_none server frame j is (inside j peer at) apart)
              (fits j peer at))
              (let most = own x found.1 in let long = length-append x.outbox (frame ∷ []) in omega arith);
        },
        one_more server frame frames 0 q q peers x (omega arith) (to_here server frame is_listed)
            (λ j lt apart. to_none server frame j is (omega arith) apart) found.1,
      )
    where
      q : ℕ
      q = place server frame.to

      found : (x : Peer) × (slice_get peers (place server frame.to) ≡ Some x)
      found = there peers (place server frame.to) (let lt = is_listed in omega arith)

      x : Peer
      x = found.0

      set_is : new ≡ set peers (place server frame.to) (with_frame frame found.0)
      set_is = new_is ∙ ap (λ o. changed_in (with_frame frame) (place server frame.to) o peers) found.1

      inside : (j : ℕ) (peer : Peer) → slice_get peers j ≡ Some peer → j < length server.names
      inside j peer at = let lt = slice_get_within peers j peer at in omega arith

-- ---- no frame

pub nothing_put : (server : ServerIdentity) (k : ℕ) (peers : List Peer) → with_frames server [] k peers ≡ peers
nothing_put server k [] = refl
nothing_put server k (peer ∷ peers) =
    (λ i. record peer { outbox = append_nil peer.outbox i } ∷ nothing_put server (suc k) peers i)

pub no_items : {A : Type 0} (xs : List A) → length xs ≡ 0 → xs ≡ []
no_items [] e = refl
no_items (x ∷ xs) e = absurd (omega arith)
