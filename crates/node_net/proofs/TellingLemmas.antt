-- Frames that are spelt one behind the other, and sent.
use Rattle.std.proofs.Common.{◌≡◌, ℕ, suc, Bool, true, false, List, [], ◌∷◌, ◌++◌, refl, sym, ap, ◌∙◌, subst, inl, inr, append-nil, append_assoc}
use Rattle.std.specs.Prelude.{not}
use Rattle.slab.specs.Slab.{Slab}
use Rattle.net_streams.specs.Writes.{Came}
use Rattle.route_values.specs.Frames.{Frame}
use Rattle.route_values.specs.declared.frames.RouteFrame.TheVariants.{Numbered}
use Rattle.route_frames.specs.Canonical.{frame_bytes}
use Rattle.server_calls.specs.Routed.{Routed, took, WasRouted}
use Rattle.node_net.specs.Keyed.{ChangesAt, Behind}
use Rattle.node_net.specs.Sending.{Sends, SendsWhole, IsNoted, IsGivenUpFor}
use Rattle.node_net.specs.Telling.{ReachesAt, spelling, SendsFrames, TellsFrames, PostsSome, SendsMail, TellsSome, TellsMany, TellsPeer}
use Rattle.node_net.specs.declared.loops.Mail.{Mail}
use Rattle.node_net.specs.declared.connection.Connection.{Connection}
use Rattle.node_net.proofs.KeyedLemmas.{changes_so, changes_twice}

-- one more is spelt
pub spelling_more : (before after all : List ℕ) (frame : Frame) (frames : List Frame)
    → before ++ spelling (frame ∷ frames) ≡ all
    → after ≡ before ++ frame_bytes (Numbered frame)
    → after ++ spelling frames ≡ all
spelling_more before after all frame frames is more =
    ap (λ xs. xs ++ spelling frames) more ∙ append_assoc before (frame_bytes (Numbered frame)) (spelling frames) ∙ is

-- none is left
pub spelling_none : (after all : List ℕ) → after ++ spelling [] ≡ all → after ≡ all
spelling_none after all is = sym (append-nil after) ∙ is

-- ---- frames that are sent

-- what was encoded, where it was
sends_encoded : {S : Type 0} (gave wrote : S → Came → S → Type 0) (before : List ℕ) (frames : List Frame)
    (is_whole : Bool) (encoded : List ℕ) (old new : Connection S)
    → (is_whole ≡ true → encoded ≡ before ++ spelling frames)
    → SendsWhole gave wrote encoded is_whole old new
    → SendsFrames gave wrote before frames old new
sends_encoded gave wrote before frames true encoded old new put sends =
    inl (subst (λ xs. Sends gave wrote old xs new) (put refl) sends.0)
sends_encoded gave wrote before frames false encoded old new put sends = inr sends.1

pub tells_frames : {S : Type 0} (gave wrote : S → Came → S → Type 0) (key : ℕ) (before : List ℕ)
    (frames : List Frame) (is_whole : Bool) (encoded : List ℕ) (old mid new : Slab (Connection S))
    → (is_whole ≡ true → encoded ≡ before ++ spelling frames)
    → ChangesAt (SendsWhole gave wrote encoded is_whole) key old mid
    → ChangesAt IsNoted key mid new
    → TellsFrames gave wrote key before frames old new
tells_frames gave wrote key before frames is_whole encoded old mid new put sends noted =
    inr (changes_twice (SendsFrames gave wrote before frames) IsNoted key old mid new
    (changes_so (SendsWhole gave wrote encoded is_whole) (SendsFrames gave wrote before frames) key old mid sends
    (λ one other. sends_encoded gave wrote before frames is_whole encoded one other put)) noted)

-- where nothing stood in the mail
pub tells_some : {H S : Type 0} (routed : H → Routed → H → Type 0) (gave wrote : S → Came → S → Type 0)
    (is_alone : Bool) (peer count key : ℕ) (frames : List Frame) (old new : Slab (Connection S))
    → WasRouted routed (took peer count frames)
    → TellsFrames gave wrote key [] frames old new
    → TellsSome routed gave wrote is_alone peer count key old new
tells_some routed gave wrote is_alone peer count key frames old new taken told =
    record { before = []; frames = frames; alone = λ is. refl; taken = taken; told = told }

not_lost : (lost : Bool) → not lost ≡ true → lost ≡ false
not_lost true is = absurd (cc is)
not_lost false is = refl

-- what stood in the mail, and behind it what was posted
mail_told : {S : Type 0} (gave wrote : S → Came → S → Type 0) (key : ℕ) (before : List ℕ) (frames : List Frame)
    (mail : Mail) (old new : Slab (Connection S))
    → (mail.is_lost ≡ false → mail.bytes.items ≡ before ++ spelling frames)
    → SendsMail gave wrote key mail old new
    → TellsFrames gave wrote key before frames old new
mail_told gave wrote key before frames mail old new spelt (inl none) =
    inl (sym (spelt none.0) ∙ none.1, none.2)
mail_told {S} gave wrote key before frames mail old new spelt (inr sent) =
    inr (changes_so (Behind (SendsWhole gave wrote mail.bytes.items (not mail.is_lost)) IsNoted)
    (Behind (SendsFrames gave wrote before frames) IsNoted) key old new sent
    (λ (one other : Connection S) (far :
    Behind (SendsWhole gave wrote mail.bytes.items (not mail.is_lost)) IsNoted one other). (
      far.0,
      sends_encoded gave wrote before frames (not mail.is_lost) mail.bytes.items one far.0
          (λ all. spelt (not_lost mail.is_lost all)) far.1,
      far.2,
    )))

pub tells_mail : {H S : Type 0} (routed : H → Routed → H → Type 0) (gave wrote : S → Came → S → Type 0)
    (peer count key : ℕ) (was is : Mail) (old new : Slab (Connection S))
    → PostsSome routed peer count was is
    → SendsMail gave wrote key is old new
    → TellsSome routed gave wrote false peer count key old new
tells_mail routed gave wrote peer count key was is old new posts sent =
    record {
      before = was.bytes.items;
      frames = posts.frames;
      alone = λ no. absurd (cc no);
      taken = posts.taken;
      told = mail_told gave wrote key was.bytes.items posts.frames is old new posts.spelt sent;
    }

-- ---- round by round

pub record ToldSoFar {H S : Type 0} (routed : H → Routed → H → Type 0) (gave wrote : S → Came → S → Type 0)
    (is_alone : Bool) (peer key : ℕ) (old new : Slab (Connection S)) : Type 0 where
  pub rounds : ℕ
  pub many : TellsMany routed gave wrote is_alone peer key old rounds new

pub told_none : {H S : Type 0} (routed : H → Routed → H → Type 0) (gave wrote : S → Came → S → Type 0)
    (is_alone : Bool) (peer key : ℕ) (old : Slab (Connection S))
    → ToldSoFar routed gave wrote is_alone peer key old old
told_none routed gave wrote is_alone peer key old = record { rounds = 0; many = refl }

pub told_more : {H S : Type 0} (routed : H → Routed → H → Type 0) (gave wrote : S → Came → S → Type 0)
    (is_alone : Bool) (peer key count : ℕ) (old mid new : Slab (Connection S))
    → ToldSoFar routed gave wrote is_alone peer key old mid
    → ReachesAt peer key mid
    → TellsSome routed gave wrote is_alone peer count key mid new
    → ToldSoFar routed gave wrote is_alone peer key old new
told_more routed gave wrote is_alone peer key count old mid new far reached some =
    record { rounds = suc far.rounds; many = (mid, count, far.many, reached, some) }

pub told_all : {H S : Type 0} (routed : H → Routed → H → Type 0) (gave wrote : S → Came → S → Type 0)
    (is_alone : Bool) (peer key : ℕ) (old new : Slab (Connection S))
    → ToldSoFar routed gave wrote is_alone peer key old new
    → TellsPeer routed gave wrote is_alone peer key old new
told_all routed gave wrote is_alone peer key old new far =
    record { rounds = far.rounds; mid = new; many = far.many; ends = inl refl }

pub told_last : {H S : Type 0} (routed : H → Routed → H → Type 0) (gave wrote : S → Came → S → Type 0)
    (is_alone : Bool) (peer key count : ℕ) (old mid new : Slab (Connection S))
    → ToldSoFar routed gave wrote is_alone peer key old mid
    → ReachesAt peer key mid
    → TellsSome routed gave wrote is_alone peer count key mid new
    → TellsPeer routed gave wrote is_alone peer key old new
told_last routed gave wrote is_alone peer key count old mid new far reached some =
    told_all routed gave wrote is_alone peer key old new
    (told_more routed gave wrote is_alone peer key count old mid new far reached some)

pub told_full : {H S : Type 0} (routed : H → Routed → H → Type 0) (gave wrote : S → Came → S → Type 0)
    (is_alone : Bool) (peer key : ℕ) (old mid new : Slab (Connection S))
    → ToldSoFar routed gave wrote is_alone peer key old mid
    → ChangesAt IsGivenUpFor key mid new
    → TellsPeer routed gave wrote is_alone peer key old new
told_full routed gave wrote is_alone peer key old mid new far gone =
    record { rounds = far.rounds; mid = mid; many = far.many; ends = inr gone }
