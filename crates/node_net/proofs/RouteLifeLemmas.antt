-- What a route reads over its life.
use Rattle.std.proofs.Common.{◌≡◌, ℕ, List, [], ◌∷◌, ◌++◌, map, Option, Some, None, refl, sym, ap, ◌∙◌, subst, append-nil, append_assoc}
use Rattle.wire_cut.specs.Reading.{Reading, continuation, read_on, with_items}
use Rattle.wire_cut.proofs.ReadingLemmas.{reads_on as read_in_two, with_items-twice}
use Rattle.route_values.specs.declared.frames.RouteFrame.{RouteFrame}
use Rattle.route_frames.specs.InStream.{RouteItem, came, Awaited, a_line, route_grammar}
use Rattle.node_net.specs.declared.route_link.RouteLink.{RouteLink}
use Rattle.node_net.specs.declared.runs.Ran.{Ran}
use Rattle.node_net.specs.declared.runs.Ran.TheVariants as ran
use Rattle.node_net.specs.Reading.{reading_from, HasToRead, HasMoreToRead, StandsBehind, ReadsFrames, LinkStep, fed_bytes, read_frames, stayed, Lives, bytes_fed, frames_read, FramesAreThoseThatCame}
use Rattle.node_net.proofs.ReadingLemmas.{read_both}

read_on_behind : (items : List RouteItem) (rest : Reading Awaited RouteItem) (bytes : List ℕ)
    → read_on route_grammar (with_items items rest) bytes ≡ with_items items (read_on route_grammar rest bytes)
read_on_behind items rest bytes =
    sym (with_items-twice items rest.items (continuation route_grammar rest.end bytes))

-- unless what came is refused, there is something to read
goes_on : (end : Option Ran) (rest : Reading Awaited RouteItem) (new : RouteLink)
    → ¬ (end ≡ Some ran.Refused)
    → StandsBehind end rest new
    → HasToRead new rest
goes_on None rest new good stands = stands
goes_on (Some ran.Waits) rest new good stands = stands.0
goes_on (Some ran.Refused) rest new good stands = absurd (good refl)
goes_on (Some ran.Short) rest new good stands = stands
goes_on (Some end) rest new good stands = absurd stands

-- what all the bytes tell, as far as it was read
record ReadSoFar (bytes : List ℕ) (frames : List RouteFrame) (link : RouteLink) : Type 0 where
  rest : Reading Awaited RouteItem
  tells : reading_from a_line bytes ≡ with_items (map came frames) rest
  has : HasToRead link rest

more_fed : (bytes more : List ℕ) (frames : List RouteFrame) (old new : RouteLink)
    → ReadSoFar bytes frames old
    → HasMoreToRead more old new
    → ReadSoFar (bytes ++ more) frames new
more_fed bytes more frames old new far comes = record {
  rest = read_on route_grammar far.rest more;
  tells =
      sym (read_in_two route_grammar a_line bytes more)
      ∙ ap (λ (r : Reading Awaited RouteItem). read_on route_grammar r more) far.tells
      ∙ read_on_behind (map came frames) far.rest more;
  has = comes far.rest far.has;
}

more_read : (bytes : List ℕ) (frames more : List RouteFrame) (end : Option Ran) (old new : RouteLink)
    → ReadSoFar bytes frames old
    → ¬ (end ≡ Some ran.Refused)
    → ReadsFrames end more old new
    → ReadSoFar bytes (frames ++ more) new
more_read bytes frames more end old new far good reads =
    let it = reads far.rest far.has in
    record {
      rest = it.0;
      tells = read_both frames more (reading_from a_line bytes) far.rest it.0 far.tells it.1;
      has = goes_on end it.0 new good it.2;
    }

so_far : (steps : List LinkStep) (bytes : List ℕ) (frames : List RouteFrame) (old new : RouteLink)
    → ReadSoFar bytes frames old
    → Lives steps old new
    → ReadSoFar (bytes ++ bytes_fed steps) (frames ++ frames_read steps) new
so_far [] bytes frames old new far same =
    subst (λ link. ReadSoFar (bytes ++ []) (frames ++ []) link) (sym same)
    (subst (λ b. ReadSoFar b (frames ++ []) old) (sym (append-nil bytes))
    (subst (λ f. ReadSoFar bytes f old) (sym (append-nil frames)) far))
so_far (fed_bytes more ∷ steps) bytes frames old new far lived =
    subst (λ b. ReadSoFar b (frames ++ frames_read steps) new) (append_assoc bytes more (bytes_fed steps))
    (so_far steps (bytes ++ more) frames lived.0 new (more_fed bytes more frames old lived.0 far lived.1) lived.2)
so_far (read_frames more ∷ steps) bytes frames old new far lived =
    subst (λ f. ReadSoFar (bytes ++ bytes_fed steps) f new) (append_assoc frames more (frames_read steps))
    (so_far steps bytes (frames ++ more) lived.0 new
    (more_read bytes frames more lived.1 old lived.0 far lived.2 lived.3) lived.4)
so_far (stayed ∷ steps) bytes frames old new far lived =
    so_far steps bytes frames lived.0 new
    (record { rest = far.rest; tells = far.tells; has = lived.1 far.rest far.has }) lived.2

pub frames_are_those_that_came : FramesAreThoseThatCame
frames_are_those_that_came first old new steps end frames has lived reads =
    let start : ReadSoFar [] [] first = record { rest = reading_from a_line []; tells = refl; has = has } in
    let far : ReadSoFar (bytes_fed steps) (frames_read steps) old = so_far steps [] [] first old start lived in
    let it = reads far.rest far.has in (
      it.0,
      read_both (frames_read steps) frames (reading_from a_line (bytes_fed steps)) far.rest it.0 far.tells it.1,
      it.2,
    )
