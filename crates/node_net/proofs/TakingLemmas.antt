-- What is taken of a shard for its clients, and sent to them.
use Rattle.std.proofs.Common.{◌≡◌, ◌⊎◌, ℕ, zero, suc, ◌+◌, ◌≤◌, ◌<◌, ◌-◌, true, false, List, [], ◌∷◌, ◌++◌, length, map, take, drop, Option, Some, None, refl, sym, ap, ◌∙◌, subst, inl, inr, arith, append-nil, append_assoc, length-append}
use Rattle.std.specs.List.{All}
use Rattle.std.specs.Prelude.{◌^◌, slice_range, slice_get, MatchOption, IfSome, IsSome, Result, Ok, Err}
use Rattle.std.specs.List.{range_with_len}
use Rattle.std.proofs.lemmas.List.FromFn.{length-range_with_len}
use Rattle.std.proofs.lemmas.Option.{slice_get_past}
use Rattle.std.specs.declared.alloc.AllocError.{AllocError}
use Rattle.std.proofs.lemmas.List.{map-append, take-append-le, drop-append-le, take_all, length-drop}
use Rattle.std.proofs.Math.Seq.{drop-append_seam}
use Rattle.slab.specs.Slab.{Slab, get}
use Rattle.net_streams.specs.Writes.{Came}
use Rattle.net_streams.specs.declared.wire.Wire.{Wire}
use Rattle.node_net.specs.Keyed.{ChangesAt, Stays, EachStays}
use Rattle.node_net.specs.Sending.{KeepsStream, IsLimited, IsBlamed}
use Rattle.node_net.specs.Parts.{part_of, IsWithin}
use Rattle.node_net.specs.declared.flushing.Awaited.{Awaited}
use Rattle.node_net.specs.declared.flushing.Awaited.TheVariants as awaited
use Rattle.node_net.specs.Taking.{last_part, keys_of, client_in, IsAsked, IsLeft, Gives, GivesAt, Lends, GivesEach, ArePartsOf, PutsPart, TakesOne, TakesSome, TakesOn, TakesParts, SendsPart, SendsEach, FlushesSome, FlushesMany, FlushesAll}
use Rattle.node_net.specs.declared.connection.Connection.{Connection}
use Rattle.node_net.specs.declared.connections.Connections.{Connections}
use Rattle.node_net.specs.declared.parts.Part.{Part}
use Rattle.node_net.proofs.KeyedLemmas.{each_same, each_both, each_changed}

-- ---- parts

within_kept : (bytes more : List ℕ) (start end : ℕ)
    → start ≤ end
    → end ≤ length bytes
    → slice_range (bytes ++ more) start end ≡ slice_range bytes start end
within_kept bytes more start end low high =
    let long : end - start ≤ length (drop start bytes) = omega (arith, low, high, length-drop start bytes) in
    ap (take (end - start)) (drop-append-le start bytes more (omega (arith, low, high)))
    ∙ take-append-le (end - start) (drop start bytes) more long

parts_kept : (bytes more : List ℕ) (parts : List Part)
    → All (IsWithin bytes) parts
    → map (part_of (bytes ++ more)) parts ≡ map (part_of bytes) parts
parts_kept bytes more [] all = refl
parts_kept bytes more (part ∷ parts) all =
    let here : IsWithin bytes part = all zero part (omega arith) in
    let first : part_of (bytes ++ more) part ≡ part_of bytes part =
    ap (λ xs. (part.key, xs)) (within_kept bytes more part.start part.end here.0 here.1) in
    let rest : map (part_of (bytes ++ more)) parts ≡ map (part_of bytes) parts =
    parts_kept bytes more parts (λ k d low. all (suc k) d (omega (arith, low))) in
    ap (λ p. p ∷ map (part_of (bytes ++ more)) parts) first ∙ ap (λ ps. part_of bytes part ∷ ps) rest

last_is : (bytes more : List ℕ)
    → slice_range (bytes ++ more) (length bytes) (length (bytes ++ more)) ≡ more
last_is bytes more =
    let seam : drop (length bytes) (bytes ++ more) ≡ more = drop-append_seam bytes more in
    let long : length more ≤ length (bytes ++ more) - length bytes = omega (arith, length-append bytes more) in
    ap (take (length (bytes ++ more) - length bytes)) seam ∙ take_all (length (bytes ++ more) - length bytes) more long

-- one part more
pub parts_more : (bytes more all : List ℕ) (start end : ℕ) (before parts : List Part) (key : ℕ)
    → All (IsWithin bytes) before
    → all ≡ bytes ++ more
    → start ≡ length bytes
    → end ≡ length all
    → parts ≡ before ++ record { key = key; start = start; end = end } ∷ []
    → map (part_of all) parts ≡ map (part_of bytes) before ++ (key, more) ∷ []
parts_more bytes more all start end before parts key within is from to put =
    ap (map (part_of all)) put
    ∙ rw (from, to, is) (map-append (part_of (bytes ++ more)) before
    (record { key = key; start = length bytes; end = length (bytes ++ more) } ∷ [])
    ∙ ap (λ ps. ps ++ (key, slice_range (bytes ++ more) (length bytes) (length (bytes ++ more))) ∷ [])
    (parts_kept bytes more before within)
    ∙ ap (λ xs. map (part_of bytes) before ++ (key, xs) ∷ []) (last_is bytes more))

-- ---- the streams stay

keeps_same : {S : Type 0} (c : Connection S) → KeepsStream c c
keeps_same c = record { wire = refl; out = refl; gap = refl; link = refl }

keeps_both : {S : Type 0} (x y z : Connection S) → KeepsStream x y → KeepsStream y z → KeepsStream x z
keeps_both x y z one two = record {
  wire = two.wire ∙ one.wire;
  out = two.out ∙ one.out;
  gap = two.gap ∙ one.gap;
  link = two.link ∙ one.link;
}

keeps_limited : {S : Type 0} (x y : Connection S) → IsLimited x y → KeepsStream x y
keeps_limited x y is = record {
  wire = ap (λ (c : Connection _). c.wire) is;
  out = ap (λ (c : Connection _). c.out) is;
  gap = ap (λ (c : Connection _). c.has_gap) is;
  link = ap (λ (c : Connection _). c.link) is;
}

keeps_blamed : {S : Type 0} (x y : Connection S) → IsBlamed x y → KeepsStream x y
keeps_blamed x y is = record {
  wire = ap (λ (c : Connection _). c.wire) is;
  out = ap (λ (c : Connection _). c.out) is;
  gap = ap (λ (c : Connection _). c.has_gap) is;
  link = ap (λ (c : Connection _). c.link) is;
}

pub each_limited : {S : Type 0} (key : ℕ) (old new : Slab (Connection S))
    → ChangesAt IsLimited key old new
    → EachStays KeepsStream old new
each_limited key old new is = each_changed IsLimited KeepsStream key old new keeps_same keeps_limited is

pub each_blamed : {S : Type 0} (key : ℕ) (old new : Slab (Connection S))
    → ChangesAt IsBlamed key old new
    → EachStays KeepsStream old new
each_blamed key old new is = each_changed IsBlamed KeepsStream key old new keeps_same keeps_blamed is

pub each_kept : {S : Type 0} (old new : Slab (Connection S)) → new ≡ old → EachStays KeepsStream old new
each_kept old new same = each_same KeepsStream old new keeps_same same

-- ---- what a shard gives

asked_before : {S : Type 0} (shard : ℕ) (x y : Connection S) (conn : ℕ)
    → KeepsStream x y
    → IsAsked shard y conn
    → IsAsked shard x conn
asked_before shard x y conn kept is = (
  ap (client_in shard) (sym kept.link) ∙ is.0,
  sym kept.out ∙ is.1,
  ap (λ (w : Wire _). w.has_failed) (sym kept.wire) ∙ is.2,
)

left_before : {S : Type 0} (shard : ℕ) (x y : Connection S) → KeepsStream x y → IsLeft shard y → IsLeft shard x
left_before shard x y kept (inl none) = inl (ap (client_in shard) (sym kept.link) ∙ none)
left_before shard x y kept (inr (inl waits)) = inr (inl (λ none. waits (kept.out ∙ none)))
left_before shard x y kept (inr (inr failed)) =
    inr (inr (ap (λ (w : Wire _). w.has_failed) (sym kept.wire) ∙ failed))

gives_kept : {H S : Type 0} (takes : H → ℕ → ℕ → List ℕ → H → Type 0) (number : H → ℕ) (x y : Connection S)
    (before : H) (bytes : List ℕ) (after : H)
    → KeepsStream x y
    → Gives takes number y before bytes after
    → Gives takes number x before bytes after
gives_kept takes number x y before bytes after kept (inl is) =
    inl (is.0, asked_before (number before) x y is.0 kept is.1, is.2)
gives_kept takes number x y before bytes after kept (inr none) =
    inr (left_before (number before) x y kept none.0, none.1, none.2)

gives_stays : {H S : Type 0} (takes : H → ℕ → ℕ → List ℕ → H → Type 0) (number : H → ℕ)
    (old mid : Option (Connection S)) (before : H) (bytes : List ℕ) (after : H)
    → Stays KeepsStream old mid
    → MatchOption mid ((bytes ≡ []) × (after ≡ before)) (λ c. Gives takes number c before bytes after)
    → MatchOption old ((bytes ≡ []) × (after ≡ before)) (λ c. Gives takes number c before bytes after)
gives_stays takes number None mid before bytes after kept gives =
    subst (λ o. MatchOption o ((bytes ≡ []) × (after ≡ before)) (λ c. Gives takes number c before bytes after)) kept
    gives
gives_stays takes number (Some old) mid before bytes after kept gives =
    gives_kept takes number old kept.0 before bytes after kept.2
    (subst (λ o. MatchOption o ((bytes ≡ []) × (after ≡ before)) (λ c. Gives takes number c before bytes after)) kept.1
    gives)

-- what was given of the connections as they are, was of those that they were
gives_before : {H S : Type 0} (takes : H → ℕ → ℕ → List ℕ → H → Type 0) (number : H → ℕ) (key : ℕ)
    (old mid : Slab (Connection S)) (before : H) (bytes : List ℕ) (after : H)
    → EachStays KeepsStream old mid
    → GivesAt takes number mid key before bytes after
    → GivesAt takes number old key before bytes after
gives_before takes number key old mid before bytes after kept gives =
    gives_stays takes number (get old key) (get mid key) before bytes after (kept key) gives

gives_push : {H S : Type 0} (takes : H → ℕ → ℕ → List ℕ → H → Type 0) (number : H → ℕ)
    (table : Slab (Connection S)) (before : H) (given : List (ℕ × List ℕ)) (there : H) (key : ℕ) (bytes : List ℕ)
    (after : H)
    → GivesEach takes number table before given there
    → GivesAt takes number table key there bytes after
    → GivesEach takes number table before (given ++ (key, bytes) ∷ []) after
gives_push takes number table before [] there key bytes after far one =
    (after, subst (λ s. GivesAt takes number table key s bytes after) far one, refl)
gives_push takes number table before (first ∷ given) there key bytes after far one =
    (far.0, far.1, gives_push takes number table far.0 given there key bytes after far.2 one)

parts_push : (given parts : List (ℕ × List ℕ)) (part : ℕ × List ℕ)
    → ArePartsOf given parts
    → ArePartsOf (given ++ part ∷ []) (parts ++ part ∷ [])
parts_push [] parts part are = inl ([], ap (λ ps. ps ++ part ∷ []) are, refl)
parts_push (first ∷ given) parts part (inl are) =
    inl (are.0 ++ part ∷ [], ap (λ ps. ps ++ part ∷ []) are.1, parts_push given are.0 part are.2)
parts_push (first ∷ given) parts part (inr are) = inr (are.0, parts_push given parts part are.1)

parts_skip : (given parts : List (ℕ × List ℕ)) (part : ℕ × List ℕ)
    → ArePartsOf given parts
    → part.1 ≡ []
    → ArePartsOf (given ++ part ∷ []) parts
parts_skip [] parts part are none = inr (none, are)
parts_skip (first ∷ given) parts part (inl are) none = inl (are.0, are.1, parts_skip given are.0 part are.2 none)
parts_skip (first ∷ given) parts part (inr are) none = inr (are.0, parts_skip given parts part are.1 none)

-- ---- what is taken

puts_part : (had parts has : List (ℕ × List ℕ)) (key : ℕ) (bytes first lent : List ℕ) (last : Option ℕ)
    → parts ≡ had
    → first ≡ []
    → last ≡ None
    → lent ≡ first ++ bytes
    → ((lent ≡ []) × (has ≡ parts ++ last_part last lent)) ⊎ (has ≡ parts ++ (key, lent) ∷ [])
    → PutsPart had key bytes has
puts_part had parts has key bytes first lent last begun empty shut gave put = pick put where
  is : lent ≡ bytes
  is = gave ∙ ap (λ xs. xs ++ bytes) empty

  pick : ((lent ≡ []) × (has ≡ parts ++ last_part last lent)) ⊎ (has ≡ parts ++ (key, lent) ∷ [])
      → PutsPart had key bytes has
  pick (inl none) =
      inr (sym is ∙ none.0, none.1 ∙ ap (λ o. parts ++ last_part o lent) shut ∙ append-nil parts ∙ begun)
  pick (inr more) = inl (more ∙ ap (λ xs. parts ++ (key, xs) ∷ []) is ∙ ap (λ ps. ps ++ (key, bytes) ∷ []) begun)

pub takes_one : {H S : Type 0} (takes : H → ℕ → ℕ → List ℕ → H → Type 0) (number : H → ℕ) (key : ℕ)
    (old mid new : Slab (Connection S)) (before after : H) (had parts has : List (ℕ × List ℕ))
    (first lent : List ℕ) (last : Option ℕ)
    → ChangesAt IsLimited key old mid
    → EachStays KeepsStream mid new
    → parts ≡ had
    → first ≡ []
    → last ≡ None
    → (bytes : List ℕ) × (lent ≡ first ++ bytes) × GivesAt takes number mid key before bytes after
    → ((lent ≡ []) × (has ≡ parts ++ last_part last lent)) ⊎ (has ≡ parts ++ (key, lent) ∷ [])
    → TakesOne takes number key old before had new after has
takes_one takes number key old mid new before after had parts has first lent last slow kept begun empty shut gave put =
    record {
      bytes = gave.0;
      gives = gives_before takes number key old mid before gave.0 after (each_limited key old mid slow) gave.2;
      puts = puts_part had parts has key gave.0 first lent last begun empty shut gave.1 put;
      kept = each_both KeepsStream old mid new keeps_both (each_limited key old mid slow) kept;
    }

none_at : {H S : Type 0} (takes : H → ℕ → ℕ → List ℕ → H → Type 0) (number : H → ℕ) (o : Option (Connection S))
    (before : H) (bytes : List ℕ)
    → bytes ≡ []
    → IfSome o (λ c. client_in (number before) c.link ≡ None)
    → MatchOption o ((bytes ≡ []) × (before ≡ before)) (λ c. Gives takes number c before bytes before)
none_at takes number None before bytes is none = (is, refl)
none_at takes number (Some c) before bytes is none = inr (inl none, is, refl)

pub not_both : (o : Option ℕ) → IsSome o → o ≡ None → ⊥
not_both o some none = no (subst IsSome none some) where
  no : false ≡ true → ⊥
  no e = cc e

-- the connection at this key is of no client of the shard
pub takes_no_one : {H S : Type 0} (takes : H → ℕ → ℕ → List ℕ → H → Type 0) (number : H → ℕ) (key shard : ℕ)
    (old : Slab (Connection S)) (before : H) (had : List (ℕ × List ℕ))
    → shard ≡ number before
    → IfSome (get old key) (λ c. client_in shard c.link ≡ None)
    → TakesOne takes number key old before had old before had
takes_no_one takes number key shard old before had is none = record {
  bytes = [];
  gives =
      none_at takes number (get old key) before [] refl
      (subst (λ n. IfSome (get old key) (λ c. client_in n c.link ≡ None)) is none);
  puts = inr (refl, refl);
  kept = each_kept old old refl;
}

-- ---- what is asked of one

lends_none : {H S : Type 0} (takes : H → ℕ → ℕ → List ℕ → H → Type 0) (number : H → ℕ) (c : Connection S)
    (had : List ℕ) (before : H)
    → IsLeft (number before) c
    → Lends takes number c had before had before
lends_none takes number c had before left = ([], sym (append-nil had), inr (left, refl, refl))

pub lends_other : {H S : Type 0} (takes : H → ℕ → ℕ → List ℕ → H → Type 0) (number : H → ℕ) (c : Connection S)
    (had : List ℕ) (before : H) (shard : ℕ)
    → shard ≡ number before
    → client_in shard c.link ≡ None
    → Lends takes number c had before had before
lends_other takes number c had before shard is none =
    lends_none takes number c had before (inl (ap (λ n. client_in n c.link) (sym is) ∙ none))

pub lends_waiting : {H S : Type 0} (takes : H → ℕ → ℕ → List ℕ → H → Type 0) (number : H → ℕ) (c : Connection S)
    (had : List ℕ) (before : H)
    → ¬ (c.out ≡ [])
    → Lends takes number c had before had before
lends_waiting takes number c had before waits = lends_none takes number c had before (inr (inl waits))

pub lends_failed : {H S : Type 0} (takes : H → ℕ → ℕ → List ℕ → H → Type 0) (number : H → ℕ) (c : Connection S)
    (had : List ℕ) (before : H)
    → c.wire.has_failed ≡ true
    → Lends takes number c had before had before
lends_failed takes number c had before failed = lends_none takes number c had before (inr (inr failed))

pub lends_some : {H S : Type 0} (takes : H → ℕ → ℕ → List ℕ → H → Type 0) (number : H → ℕ) (c : Connection S)
    (had : List ℕ) (before : H) (has : List ℕ) (after : H) (shard conn : ℕ)
    → shard ≡ number before
    → client_in shard c.link ≡ Some conn
    → c.out ≡ []
    → c.wire.has_failed ≡ false
    → (bytes : List ℕ) × (has ≡ had ++ bytes) × takes before conn (2 ^ 64 - 1) bytes after
    → Lends takes number c had before has after
lends_some takes number c had before has after shard conn is some written works given = (
  given.0,
  given.1,
  inl (conn, (ap (λ n. client_in n c.link) (sym is) ∙ some, written, works), given.2),
)

-- ---- one after the other

pub takes_nothing : {H S : Type 0} (takes : H → ℕ → ℕ → List ℕ → H → Type 0) (number : H → ℕ)
    (old : Slab (Connection S)) (before : H) (had : List (ℕ × List ℕ))
    → TakesSome takes number [] old before had old before had
takes_nothing takes number old before had = record {
  given = [];
  parts = [];
  these = refl;
  gives = refl;
  are = refl;
  put = sym (append-nil had);
  kept = each_kept old old refl;
}

pub takes_more : {H S : Type 0} (takes : H → ℕ → ℕ → List ℕ → H → Type 0) (number : H → ℕ) (keys : List ℕ)
    (key : ℕ) (old mid new : Slab (Connection S)) (before there after : H) (had has more : List (ℕ × List ℕ))
    → TakesSome takes number keys old before had mid there has
    → TakesOne takes number key mid there has new after more
    → TakesSome takes number (keys ++ key ∷ []) old before had new after more
takes_more {H} {S} takes number keys key old mid new before there after had has more far one = pick one.puts where
  gives : GivesEach takes number old before (far.given ++ (key, one.bytes) ∷ []) after
  gives =
      gives_push takes number old before far.given there key one.bytes after far.gives
      (gives_before takes number key old mid there one.bytes after far.kept one.gives)

  these : map (λ (given : ℕ × List ℕ). given.0) (far.given ++ (key, one.bytes) ∷ []) ≡ keys ++ key ∷ []
  these =
      map-append (λ (given : ℕ × List ℕ). given.0) far.given ((key, one.bytes) ∷ [])
      ∙ ap (λ ks. ks ++ key ∷ []) far.these

  kept : EachStays KeepsStream old new
  kept = each_both KeepsStream old mid new keeps_both far.kept one.kept

  pick : PutsPart has key one.bytes more → TakesSome takes number (keys ++ key ∷ []) old before had new after more
  pick (inl is) = record {
    given = far.given ++ (key, one.bytes) ∷ [];
    parts = far.parts ++ (key, one.bytes) ∷ [];
    these = these;
    gives = gives;
    are = parts_push far.given far.parts (key, one.bytes) far.are;
    put = is ∙ ap (λ ps. ps ++ (key, one.bytes) ∷ []) far.put ∙ append_assoc had far.parts ((key, one.bytes) ∷ []);
    kept = kept;
  }
  pick (inr none) = record {
    given = far.given ++ (key, one.bytes) ∷ [];
    parts = far.parts;
    these = these;
    gives = gives;
    are = parts_skip far.given far.parts (key, one.bytes) far.are none.0;
    put = none.1 ∙ far.put;
    kept = kept;
  }

-- ---- place by place

take_get : {X : Type 0} (xs : List X) (place : ℕ) (x : X)
    → slice_get xs place ≡ Some x
    → take (suc place) xs ≡ take place xs ++ x ∷ []
take_get [] place x is = absurd (cc)
take_get (first ∷ xs) zero x is = ap (λ y. y ∷ []) (cc)
take_get (first ∷ xs) (suc place) x is = ap (λ ys. first ∷ ys) (take_get xs place x is)

get_drop : (xs : List ℕ) (from place : ℕ) → slice_get (drop from xs) place ≡ slice_get xs (from + place)
get_drop xs zero place = ap (slice_get xs) (omega arith)
get_drop [] (suc from) place = refl
get_drop (x ∷ xs) (suc from) place =
    let on : suc (from + place) ≡ suc from + place = omega arith in
    get_drop xs from place ∙ ap (slice_get (x ∷ xs)) on

range_none : (xs : List ℕ) (from : ℕ) → slice_range xs from from ≡ []
range_none xs from =
    let none : from - from ≡ 0 = omega arith in ap (λ n. take n (drop from xs)) none

range_more : (xs : List ℕ) (from place x : ℕ)
    → from ≤ place
    → slice_get xs place ≡ Some x
    → slice_range xs from place ++ x ∷ [] ≡ slice_range xs from (place + 1)
range_more xs from place x low is =
    let there : from + (place - from) ≡ place = omega (arith, low) in
    let on : suc (place - from) ≡ place + 1 - from = omega (arith, low) in
    sym (take_get (drop from xs) (place - from) x (get_drop xs from (place - from) ∙ ap (slice_get xs) there ∙ is))
    ∙ ap (λ n. take n (drop from xs)) on

range_all : (xs : List ℕ) (from place : ℕ)
    → length xs ≤ place
    → slice_range xs from place ≡ slice_range xs from (length xs)
range_all xs from place all =
    let long : length (drop from xs) ≡ length xs - from = length-drop from xs in
    take_all (place - from) (drop from xs) (omega (arith, long, all))
    ∙ sym (take_all (length xs - from) (drop from xs) (omega (arith, long)))

get_number : (first count place : ℕ)
    → place < count
    → slice_get (range_with_len first count) place ≡ Some (first + place)
get_number first zero place low = absurd (omega (arith, low))
get_number first (suc count) zero low = let same : first ≡ first + 0 = omega arith in ap (λ n. Some n) same
get_number first (suc count) (suc place) low =
    let on : first + 1 + place ≡ first + suc place = omega arith in
    get_number (first + 1) count place (omega (arith, low)) ∙ ap (λ n. Some n) on

pub get_all : (count place : ℕ) → place < count → slice_get (range_with_len 0 count) place ≡ Some place
get_all count place low =
    let same : 0 + place ≡ place = omega arith in get_number 0 count place low ∙ ap (λ n. Some n) same

pub get_none : (count place : ℕ) → count ≤ place → slice_get (range_with_len 0 count) place ≡ None
get_none count place past =
    slice_get_past (range_with_len 0 count) place (omega (arith, past, length-range_with_len 0 count))

pub key_all : (a : Awaited) (count place : ℕ)
    → a ≡ awaited.All count
    → place < count
    → Some place ≡ slice_get (keys_of a) place
key_all a count place is low = sym (ap (λ x. slice_get (keys_of x) place) is ∙ get_all count place low)

pub key_none : (a : Awaited) (count place : ℕ)
    → a ≡ awaited.All count
    → count ≤ place
    → None ≡ slice_get (keys_of a) place
key_none a count place is past = sym (ap (λ x. slice_get (keys_of x) place) is ∙ get_none count place past)

pub count_all : (a : Awaited) (count : ℕ) → a ≡ awaited.All count → count ≡ length (keys_of a)
count_all a count is = sym (ap (λ x. length (keys_of x)) is ∙ length-range_with_len 0 count)

-- all was taken from the first place up to where the loop is
pub record TakenTo {H S : Type 0} (takes : H → ℕ → ℕ → List ℕ → H → Type 0) (number : H → ℕ) (keys : List ℕ)
    (from place : ℕ) (old : Slab (Connection S)) (before : H) (had : List (ℕ × List ℕ)) (new : Slab (Connection S))
    (after : H) (has : List (ℕ × List ℕ)) : Type 0 where
  pub low : from ≤ place
  pub some : TakesSome takes number (slice_range keys from place) old before had new after has

pub taken_none : {H S : Type 0} (takes : H → ℕ → ℕ → List ℕ → H → Type 0) (number : H → ℕ) (keys : List ℕ)
    (from : ℕ) (old : Slab (Connection S)) (before : H) (had : List (ℕ × List ℕ))
    → TakenTo takes number keys from from old before had old before had
taken_none takes number keys from old before had = record {
  low = omega arith;
  some =
      subst (λ ks. TakesSome takes number ks old before had old before had) (sym (range_none keys from))
      (takes_nothing takes number old before had);
}

pub taken_more : {H S : Type 0} (takes : H → ℕ → ℕ → List ℕ → H → Type 0) (number : H → ℕ) (keys : List ℕ)
    (from place key : ℕ) (old mid new : Slab (Connection S)) (before there after : H) (had has more : List (ℕ × List ℕ))
    → TakenTo takes number keys from place old before had mid there has
    → slice_get keys place ≡ Some key
    → TakesOne takes number key mid there has new after more
    → TakenTo takes number keys from (place + 1) old before had new after more
taken_more takes number keys from place key old mid new before there after had has more far is one = record {
  low = omega (arith, far.low);
  some =
      subst (λ ks. TakesSome takes number ks old before had new after more) (range_more keys from place key far.low is)
      (takes_more takes number (slice_range keys from place) key old mid new before there after had has more far.some
      one);
}

-- enough is taken
pub taken_to : {H S : Type 0} (takes : H → ℕ → ℕ → List ℕ → H → Type 0) (number : H → ℕ) (keys : List ℕ)
    (from place : ℕ) (old new : Slab (Connection S)) (before after : H) (had has : List (ℕ × List ℕ))
    → TakenTo takes number keys from place old before had new after has
    → TakesOn takes number keys from (Ok place) old before had new after has
taken_to takes number keys from place old new before after had has far =
    record { stop = place; some = far.some; ends = refl }

-- there is no memory for what waits for one
pub taken_short : {H S : Type 0} (takes : H → ℕ → ℕ → List ℕ → H → Type 0) (number : H → ℕ) (keys : List ℕ)
    (from place key : ℕ) (lack : AllocError) (old mid new : Slab (Connection S)) (before there after : H)
    (had has more : List (ℕ × List ℕ))
    → TakenTo takes number keys from place old before had mid there has
    → slice_get keys place ≡ Some key
    → TakesOne takes number key mid there has new after more
    → TakesOn takes number keys from (Err lack) old before had new after more
taken_short takes number keys from place key lack old mid new before there after had has more far is one = record {
  stop = place + 1;
  some =
      (taken_more takes number keys from place key old mid new before there after had has more far is one).some;
  ends = tt;
}

-- all of them were looked at
pub taken_all : {H S : Type 0} (takes : H → ℕ → ℕ → List ℕ → H → Type 0) (number : H → ℕ) (keys : List ℕ)
    (from place count : ℕ) (old new : Slab (Connection S)) (before after : H) (had has : List (ℕ × List ℕ))
    → TakenTo takes number keys from place old before had new after has
    → count ≡ length keys
    → count ≤ place
    → TakesOn takes number keys from (Ok count) old before had new after has
taken_all takes number keys from place count old new before after had has far is past = record {
  stop = count;
  some =
      subst (λ ks. TakesSome takes number ks old before had new after has)
      (range_all keys from place (omega (arith, is, past)) ∙ ap (slice_range keys from) (sym is)) far.some;
  ends = refl;
}

pub takes_parts : {H S : Type 0} (takes : H → ℕ → ℕ → List ℕ → H → Type 0) (number : H → ℕ) (lacks : ℕ → Type 0)
    (shard : ℕ) (keys : List ℕ) (place : ℕ) (came : Result ℕ AllocError) (old new : Slab (Connection S))
    (before after : H) (had has : List (ℕ × List ℕ))
    → number before ≡ shard
    → had ≡ []
    → TakesOn takes number keys place came old before had new after has
    → TakesParts takes number lacks shard keys place came old has new
takes_parts takes number lacks shard keys place came old new before after had has is none on = inl (record {
  before = before;
  after = after;
  is = is;
  on = subst (λ ps. TakesOn takes number keys place came old before ps new after has) none on;
})

-- ---- what is sent

pub sends_more : {S : Type 0} (gave wrote : S → Came → S → Type 0) (old mid new : Slab (Connection S))
    (parts : List (ℕ × List ℕ)) (key : ℕ) (bytes : List ℕ)
    → SendsEach gave wrote old parts mid
    → ChangesAt (SendsPart gave wrote bytes) key mid new
    → SendsEach gave wrote old (parts ++ (key, bytes) ∷ []) new
sends_more gave wrote old mid new [] key bytes far one =
    (new, subst (λ s. ChangesAt (SendsPart gave wrote bytes) key s new) far one, refl)
sends_more gave wrote old mid new (part ∷ parts) key bytes far one =
    (far.0, far.1, sends_more gave wrote far.0 mid new parts key bytes far.2 one)

pub sends_next : {S : Type 0} (gave wrote : S → Came → S → Type 0) (old mid new : Slab (Connection S))
    (parts : List (ℕ × List ℕ)) (place key : ℕ) (bytes : List ℕ)
    → SendsEach gave wrote old (take place parts) mid
    → slice_get parts place ≡ Some (key, bytes)
    → ChangesAt (SendsPart gave wrote bytes) key mid new
    → SendsEach gave wrote old (take (place + 1) parts) new
sends_next gave wrote old mid new parts place key bytes far is one =
    let on : place + 1 ≡ suc place = omega arith in
    subst (λ ps. SendsEach gave wrote old ps new)
    (sym (ap (λ n. take n parts) on ∙ take_get parts place (key, bytes) is))
    (sends_more gave wrote old mid new (take place parts) key bytes far one)

pub sends_all : {S : Type 0} (gave wrote : S → Came → S → Type 0) (old new : Slab (Connection S))
    (parts : List (ℕ × List ℕ)) (place : ℕ)
    → SendsEach gave wrote old (take place parts) new
    → length parts ≤ place
    → SendsEach gave wrote old parts new
sends_all gave wrote old new parts place far all =
    subst (λ ps. SendsEach gave wrote old ps new) (take_all place parts all) far

-- nothing stands behind the others
pub sends_no_last : {S : Type 0} (gave wrote : S → Came → S → Type 0) (old new : Slab (Connection S))
    (parts : List (ℕ × List ℕ)) (last : Option ℕ) (lent : List ℕ)
    → SendsEach gave wrote old parts new
    → last ≡ None
    → SendsEach gave wrote old (parts ++ last_part last lent) new
sends_no_last gave wrote old new parts last lent far none =
    subst (λ ps. SendsEach gave wrote old ps new)
    (sym (ap (λ o. parts ++ last_part o lent) none ∙ append-nil parts)) far

pub sends_last : {S : Type 0} (gave wrote : S → Came → S → Type 0) (old mid new : Slab (Connection S))
    (parts : List (ℕ × List ℕ)) (last : Option ℕ) (key : ℕ) (lent : List ℕ)
    → SendsEach gave wrote old parts mid
    → last ≡ Some key
    → ChangesAt (SendsPart gave wrote lent) key mid new
    → SendsEach gave wrote old (parts ++ last_part last lent) new
sends_last gave wrote old mid new parts last key lent far some one =
    subst (λ ps. SendsEach gave wrote old ps new) (sym (ap (λ o. parts ++ last_part o lent) some))
    (sends_more gave wrote old mid new parts key lent far one)

-- ---- round by round

-- as many rounds as the loop has turned have come to this place
pub record FlushedSoFar {H S : Type 0} (takes : H → ℕ → ℕ → List ℕ → H → Type 0) (number : H → ℕ) (lacks : ℕ → Type 0)
    (gave wrote : S → Came → S → Type 0) (shard : ℕ) (keys : List ℕ) (old new : Connections S)
    (until turns : ℕ) : Type 0
  where
    pub rounds : ℕ
    pub many : FlushesMany takes number lacks gave wrote shard keys old rounds until new
    pub is : rounds ≡ turns

pub flushed_none : {H S : Type 0} (takes : H → ℕ → ℕ → List ℕ → H → Type 0) (number : H → ℕ) (lacks : ℕ → Type 0)
    (gave wrote : S → Came → S → Type 0) (shard : ℕ) (keys : List ℕ) (old : Connections S)
    → FlushedSoFar takes number lacks gave wrote shard keys old old 0 0
flushed_none takes number lacks gave wrote shard keys old =
    record { rounds = 0; many = (refl, refl); is = refl }

pub flushed_more : {H S : Type 0} (takes : H → ℕ → ℕ → List ℕ → H → Type 0) (number : H → ℕ) (lacks : ℕ → Type 0)
    (gave wrote : S → Came → S → Type 0) (shard : ℕ) (keys : List ℕ) (old mid new : Connections S)
    (place until turns : ℕ)
    → FlushedSoFar takes number lacks gave wrote shard keys old mid place turns
    → FlushesSome takes number lacks gave wrote shard keys place until mid new
    → FlushedSoFar takes number lacks gave wrote shard keys old new until (turns + 1)
flushed_more takes number lacks gave wrote shard keys old mid new place until turns far one =
    record { rounds = suc far.rounds; many = (mid, place, far.many, one); is = omega (arith, far.is) }

-- none is left
pub flushed_all : {H S : Type 0} (takes : H → ℕ → ℕ → List ℕ → H → Type 0) (number : H → ℕ) (lacks : ℕ → Type 0)
    (gave wrote : S → Came → S → Type 0) (shard : ℕ) (keys : List ℕ) (old new : Connections S) (until turns count : ℕ)
    → FlushedSoFar takes number lacks gave wrote shard keys old new until turns
    → count ≡ length keys
    → count ≤ until
    → FlushesAll takes number lacks gave wrote shard keys old new
flushed_all takes number lacks gave wrote shard keys old new until turns count far is all =
    record { rounds = far.rounds; until = until; many = far.many; ends = inl (omega (arith, is, all)) }

-- no more are made
pub flushed_last : {H S : Type 0} (takes : H → ℕ → ℕ → List ℕ → H → Type 0) (number : H → ℕ) (lacks : ℕ → Type 0)
    (gave wrote : S → Came → S → Type 0) (shard : ℕ) (keys : List ℕ) (old new : Connections S) (until turns : ℕ)
    → FlushedSoFar takes number lacks gave wrote shard keys old new until turns
    → turns ≡ 2 ^ 64 - 1
    → FlushesAll takes number lacks gave wrote shard keys old new
flushed_last takes number lacks gave wrote shard keys old new until turns far last =
    record { rounds = far.rounds; until = until; many = far.many; ends = inr (omega (arith, far.is, last)) }
