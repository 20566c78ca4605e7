-- What was put behind what stood to be written, and how much of it was written.
use Rattle.std.proofs.Common.{◌≡◌, ℕ, List, [], ◌++◌, take, drop, Option, Result, Ok, Err, true, false, refl, ap, sym, ◌∙◌, subst, append_assoc, append-nil, take-append-drop}
use Rattle.std.specs.Prelude.{IsErr, OnOk}
use Rattle.std.specs.Io.KnownBytes.{Appends}
use Rattle.std.proofs.KnownBytes.{Appends-nil, Appends-trans}
use Rattle.wire_cut.specs.Flow.{AppendsFront}
use Rattle.mesh_script.specs.Played.{AppendsStart, Writes}
use Rattle.mesh_script.specs.declared.output.PlayFault.{PlayFault}
use Rattle.mesh_script.specs.Putting.{Puts, PutsOrStarts}

pub puts_nothing : (old : List ℕ) (was : Option (List ℕ)) → Puts old was [] old was
puts_nothing old was = record { put = []; written = Appends-nil was; whole = sym (append-nil old) }

pub puts_behind : (old mid said new : List ℕ) (more : List ℕ) (was is : Option (List ℕ))
    → Puts old was said mid is
    → new ≡ mid ++ more
    → Puts old was (said ++ more) new is
puts_behind old mid said new more was is puts e = record {
  put = puts.put;
  written = puts.written;
  whole =
      ap (λ l. puts.put ++ l) e
      ∙ sym (append_assoc puts.put mid more)
      ∙ ap (λ l. l ++ more) puts.whole
      ∙ append_assoc old said more;
}

pub puts_on : (old mid new said more : List ℕ) (was is now : Option (List ℕ))
    → Puts old was said mid is
    → Puts mid is more new now
    → Puts old was (said ++ more) new now
puts_on old mid new said more was is now puts next = record {
  put = puts.put ++ next.put;
  written = Appends-trans was is now puts.put next.put puts.written next.written;
  whole =
      append_assoc puts.put next.put new ∙ ap (λ l. puts.put ++ l) next.whole ∙ sym (append_assoc puts.put mid more)
      ∙ ap (λ l. l ++ more) puts.whole ∙ append_assoc old said more;
}

pub puts_same : (old said other new : List ℕ) (was is : Option (List ℕ))
    → said ≡ other
    → Puts old was said new is
    → Puts old was other new is
puts_same old said other new was is e puts = subst (λ l. Puts old was l new is) e puts

-- ---- a beginning

pub starts_with_nothing : (text : List ℕ) (was : Option (List ℕ)) → AppendsStart was was text
starts_with_nothing text was = record { front = []; behind = text; written = Appends-nil was; whole = refl }

pub starts_with_all : (text : List ℕ) (was is : Option (List ℕ)) → Appends was is text → AppendsStart was is text
starts_with_all text was is written = record { front = text; behind = []; written = written; whole = append-nil text }

pub starts_with_front : (text : List ℕ) (was is : Option (List ℕ)) → AppendsFront was is text → AppendsStart was is text
starts_with_front text was is front = record {
  front = take front.0 text;
  behind = drop front.0 text;
  written = front.2;
  whole = take-append-drop front.0 text;
}

-- of more
pub starts_longer : (text more : List ℕ) (was is : Option (List ℕ))
    → AppendsStart was is text
    → AppendsStart was is (text ++ more)
starts_longer text more was is start = record {
  front = start.front;
  behind = start.behind ++ more;
  written = start.written;
  whole = sym (append_assoc start.front start.behind more) ∙ ap (λ l. l ++ more) start.whole;
}

-- behind what was put before
pub starts_behind : (old mid said more : List ℕ) (was is now : Option (List ℕ))
    → Puts old was said mid is
    → AppendsStart is now (mid ++ more)
    → AppendsStart was now (old ++ (said ++ more))
starts_behind old mid said more was is now puts start = record {
  front = puts.put ++ start.front;
  behind = start.behind;
  written = Appends-trans was is now puts.put start.front puts.written start.written;
  whole =
      append_assoc puts.put start.front start.behind
      ∙ ap (λ l. puts.put ++ l) start.whole
      ∙ sym (append_assoc puts.put mid more)
      ∙ ap (λ l. l ++ more) puts.whole
      ∙ append_assoc old said more;
}

pub starts_same : (text other : List ℕ) (was is : Option (List ℕ))
    → text ≡ other
    → AppendsStart was is text
    → AppendsStart was is other
starts_same text other was is e start = subst (AppendsStart was is) e start

-- what was put, and what stands to be written behind it
pub starts_of_puts : (old said new : List ℕ) (was is : Option (List ℕ))
    → Puts old was said new is
    → AppendsStart was is (old ++ said)
starts_of_puts old said new was is puts = record {
  front = puts.put;
  behind = new;
  written = puts.written;
  whole = puts.whole;
}

-- ---- some of a whole was put, and this is left

pub record PutsSome (old : List ℕ) (was : Option (List ℕ)) (whole rest new : List ℕ) (is : Option (List ℕ)) :
    Type 0 where
  pub said : List ℕ
  pub puts : Puts old was said new is
  pub splits : said ++ rest ≡ whole

pub some_first : (old whole : List ℕ) (was : Option (List ℕ)) → PutsSome old was whole whole old was
some_first old whole was = record { said = []; puts = puts_nothing old was; splits = refl }

pub some_more : (old whole line rest all mid new : List ℕ) (was is : Option (List ℕ))
    → all ≡ line ++ rest
    → PutsSome old was whole all mid is
    → new ≡ mid ++ line
    → PutsSome old was whole rest new is
some_more old whole line rest all mid new was is at some e = record {
  said = some.said ++ line;
  puts = puts_behind old mid some.said new line was is some.puts e;
  splits = append_assoc some.said line rest ∙ ap (λ l. some.said ++ l) (sym at) ∙ some.splits;
}

pub some_on : (old whole line rest all mid new : List ℕ) (was is now : Option (List ℕ))
    → all ≡ line ++ rest
    → PutsSome old was whole all mid is
    → Puts mid is line new now
    → PutsSome old was whole rest new now
some_on old whole line rest all mid new was is now at some next = record {
  said = some.said ++ line;
  puts = puts_on old mid new some.said line was is now some.puts next;
  splits = append_assoc some.said line rest ∙ ap (λ l. some.said ++ l) (sym at) ∙ some.splits;
}

-- nothing is put, but some is written
pub some_flushed : (old whole rest mid new : List ℕ) (was is now : Option (List ℕ))
    → PutsSome old was whole rest mid is
    → Puts mid is [] new now
    → PutsSome old was whole rest new now
some_flushed old whole rest mid new was is now some next =
    some_on old whole [] rest rest mid new was is now refl some next

pub some_all : (old whole rest new : List ℕ) (was is : Option (List ℕ))
    → rest ≡ []
    → PutsSome old was whole rest new is
    → Puts old was whole new is
some_all old whole rest new was is e some =
    puts_same old some.said whole new was is
    (sym (append-nil some.said) ∙ ap (λ l. some.said ++ l) (sym e) ∙ some.splits) some.puts

pub some_stops : (old whole rest new : List ℕ) (was is : Option (List ℕ))
    → PutsSome old was whole rest new is
    → AppendsStart was is (old ++ whole)
some_stops old whole rest new was is some =
    starts_same ((old ++ some.said) ++ rest) (old ++ whole) was is
    (append_assoc old some.said rest ∙ ap (λ l. old ++ l) some.splits)
    (starts_longer (old ++ some.said) rest was is (starts_of_puts old some.said new was is some.puts))

-- a write of what stood to be written failed, or of that and a beginning of the rest
pub some_breaks : (old whole line rest all mid : List ℕ) (was is now : Option (List ℕ))
    → all ≡ line ++ rest
    → PutsSome old was whole all mid is
    → AppendsStart is now (mid ++ line)
    → AppendsStart was now (old ++ whole)
some_breaks old whole line rest all mid was is now at some start =
    starts_same ((old ++ (some.said ++ line)) ++ rest) (old ++ whole) was now
    (append_assoc old (some.said ++ line) rest
    ∙ ap (λ l. old ++ l) (append_assoc some.said line rest ∙ ap (λ l. some.said ++ l) (sym at) ∙ some.splits))
    (starts_longer (old ++ (some.said ++ line)) rest was now
    (starts_behind old mid some.said line was is now some.puts start))

-- ---- answers

pub puts_failed : {T : Type 0} (result : Result T PlayFault) (old : List ℕ) (was : Option (List ℕ)) (said new : List ℕ)
    (is : Option (List ℕ))
    → IsErr result
    → AppendsStart was is (old ++ said)
    → PutsOrStarts result old was said new is
puts_failed (Ok x) old was said new is err start = let e : false ≡ true = err in absurd (cc)
puts_failed (Err fault) old was said new is err start = start

-- all that was put is written, or a beginning of it
pub written_out : {T : Type 0} (result : Result T PlayFault) (old mid said new whole : List ℕ)
    (was is now : Option (List ℕ))
    → PutsOrStarts result mid is [] new now
    → OnOk result (new ≡ [])
    → Puts old was said mid is
    → old ++ said ≡ whole
    → Writes result was now whole
written_out (Ok x) old mid said new whole was is now next empty puts e =
    let all = puts_on old mid new said [] was is now puts next in
    subst (Appends was now)
    (sym (append-nil all.put) ∙ ap (λ l. all.put ++ l) (sym empty) ∙ all.whole ∙ ap (λ l. old ++ l) (append-nil said)
    ∙ e)
    all.written
written_out (Err fault) old mid said new whole was is now next empty puts e =
    starts_same (old ++ (said ++ [])) whole was now (ap (λ l. old ++ l) (append-nil said) ∙ e)
    (starts_behind old mid said [] was is now puts next)

pub write_failed : {T : Type 0} (result : Result T PlayFault) (was is : Option (List ℕ)) (text : List ℕ)
    → IsErr result
    → AppendsStart was is text
    → Writes result was is text
write_failed (Ok x) was is text err start = let e : false ≡ true = err in absurd (cc)
write_failed (Err fault) was is text err start = start

-- behind what was put before
pub writes_behind : {T : Type 0} (result : Result T PlayFault) (said mid more : List ℕ) (was is now : Option (List ℕ))
    → Puts [] was said mid is
    → Writes result is now (mid ++ more)
    → Writes result was now (said ++ more)
writes_behind (Ok x) said mid more was is now puts written =
    subst (Appends was now) (sym (append_assoc puts.put mid more) ∙ ap (λ l. l ++ more) puts.whole)
    (Appends-trans was is now puts.put (mid ++ more) puts.written written)
writes_behind (Err fault) said mid more was is now puts start = starts_behind [] mid said more was is now puts start
