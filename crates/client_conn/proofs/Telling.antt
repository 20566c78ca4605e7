-- What is asked of items that are put together, and of a stream to which bytes are added.
use Rattle.std.proofs.Common.{◌≡◌, ℕ, List, [], ◌∷◌, ◌++◌, refl, ap, sym, ◌∙◌, append_assoc}
use Rattle.wire_cut.specs.Reading.{End, waits, closed, Reading, reading_of, with_items, continuation}
use Rattle.wire_cut.proofs.ReadingLemmas.{reads_on}
use Rattle.client_frames.specs.declared.client_line.Awaited.{Awaited}
use Rattle.client_frames.specs.declared.client_line.Options.{Options}
use Rattle.client_frames.specs.Streams.{StreamItem, client_grammar}
use Rattle.client_conn.specs.declared.ask.ClientAction.{ClientAction}
use Rattle.client_conn.specs.Items.{OpenState, options_behind, options_after, item_asks, items_asks}
use Rattle.client_conn.specs.Asks.{Asking, Onward, asked_before, onward_of, asking_of, read_onward, asks_after_bytes}
use Rattle.client_conn.specs.Streams.{reading_at, longer, asking_at}

-- ---- items that are put together

pub items_asks-append : (o : Options) (xs ys : List StreamItem)
    → items_asks o (xs ++ ys) ≡ items_asks o xs ++ items_asks (options_after xs o) ys
items_asks-append o [] ys = refl
items_asks-append o (x ∷ xs) ys =
    ap (λ l. item_asks o x ++ l) (items_asks-append (options_behind x o) xs ys)
    ∙ sym (append_assoc (item_asks o x) (items_asks (options_behind x o) xs)
    (items_asks (options_after xs (options_behind x o)) ys))

options_after-append : (o : Options) (xs ys : List StreamItem)
    → options_after (xs ++ ys) o ≡ options_after ys (options_after xs o)
options_after-append o [] ys = refl
options_after-append o (x ∷ xs) ys = options_after-append (options_behind x o) xs ys

asking-is : (a b : List ClientAction) (c d : Onward)
    → a ≡ b
    → c ≡ d
    → (let s : Asking = record { asks = a; onward = c } in s) ≡ record { asks = b; onward = d }
asking-is a b c d first second =
    ap (λ l. let s : Asking = record { asks = l; onward = c } in s) first
    ∙ ap (λ l. let s : Asking = record { asks = b; onward = l } in s) second

-- what is told first is asked first
pub told_before : (o : Options) (items : List StreamItem) (r : Reading Awaited StreamItem)
    → asking_of o (with_items items r) ≡ asked_before (items_asks o items) (asking_of (options_after items o) r)
told_before o items r =
    asking-is _ _ _ _ (items_asks-append o items r.items)
    (ap (λ p. onward_of p r.end) (options_after-append o items r.items))

pub asked_before_twice : (front rest : List ClientAction) (s : Asking)
    → asked_before front (asked_before rest s) ≡ asked_before (front ++ rest) s
asked_before_twice front rest s =
    ap (λ l. let t : Asking = record s { asks = l } in t) (sym (append_assoc front rest s.asks))

-- ---- bytes that are added

resumed_asks : (o : Options) (end : End Awaited) (bytes : List ℕ)
    → asking_of o (continuation client_grammar end bytes) ≡ read_onward (onward_of o end) bytes
resumed_asks o (waits awaited unread) bytes = refl
resumed_asks o closed bytes = refl

pub fed_reading : (o : Options) (awaited : Awaited) (bytes more : List ℕ)
    → asks_after_bytes more (asking_of o (reading_of client_grammar awaited bytes))
    ≡ asking_of o (reading_of client_grammar awaited (bytes ++ more))
fed_reading o awaited bytes more =
    let r = reading_of client_grammar awaited bytes in
    ap (asked_before (items_asks o r.items)) (sym (resumed_asks (options_after r.items o) r.end more))
    ∙ sym (told_before o r.items (continuation client_grammar r.end more))
    ∙ ap (asking_of o) (reads_on client_grammar awaited bytes more)

pub fed_behind : (open_asks : List ClientAction) (s : Asking) (bytes : List ℕ)
    → asks_after_bytes bytes (asked_before open_asks s) ≡ asked_before open_asks (asks_after_bytes bytes s)
fed_behind open_asks s bytes = sym (asked_before_twice open_asks s.asks (read_onward s.onward bytes))

fed_end : (o : Options) (end : End Awaited) (bytes : List ℕ)
    → asks_after_bytes bytes (asking_of o (reading_at end)) ≡ asking_of o (reading_at (longer bytes end))
fed_end o (waits awaited unread) bytes = fed_reading o awaited unread bytes
fed_end o closed bytes = refl

-- a reader that has more bytes
pub fed_standing : (stand : OpenState) (end : End Awaited) (bytes : List ℕ)
    → asks_after_bytes bytes (asking_at stand end) ≡ asking_at stand (longer bytes end)
fed_standing stand end bytes =
    fed_behind stand.asks (asking_of stand.options (reading_at end)) bytes
    ∙ ap (asked_before stand.asks) (fed_end stand.options end bytes)
