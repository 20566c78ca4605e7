-- The words of the member `do` (profile).
use Rattle.std.specs.Prelude.{ℕ, List, [], ◌∷◌, codes, Option, Some, None, if◌then◌else◌}
use Rattle.std.specs.Str.{bytes_eq}
use Rattle.script_form.specs.declared.steps.Verb.{Verb}
use Rattle.script_form.specs.declared.steps.Verb.TheVariants.{Start, Stop, Attach, Sub, Unsub, Headers, Detach, Publish, Settled, Deliver, Receive, Collect, Drain, DrainShard, Begin, End, Drop, Claim, Dial, Accept, Info, Connect, Cut, Take, Join}

abbrev pub word_of : Verb → List ℕ
word_of Start = codes "start"
word_of Stop = codes "stop"
word_of Attach = codes "attach"
word_of Sub = codes "sub"
word_of Unsub = codes "unsub"
word_of Headers = codes "headers"
word_of Detach = codes "detach"
word_of Publish = codes "publish"
word_of Settled = codes "settled"
word_of Deliver = codes "deliver"
word_of Receive = codes "receive"
word_of Collect = codes "collect"
word_of Drain = codes "drain"
word_of DrainShard = codes "drainshard"
word_of Begin = codes "begin"
word_of End = codes "end"
word_of Drop = codes "drop"
word_of Claim = codes "claim"
word_of Dial = codes "dial"
word_of Accept = codes "accept"
word_of Info = codes "info"
word_of Connect = codes "connect"
word_of Cut = codes "cut"
word_of Take = codes "take"
word_of Join = codes "join"

-- all of them; no two have one word
abbrev pub verbs : List Verb
verbs =
    Start ∷ Stop ∷ Attach ∷ Sub ∷ Unsub ∷ Headers ∷ Detach ∷ Publish ∷ Settled ∷ Deliver ∷ Receive
    ∷ Collect ∷ Drain ∷ DrainShard ∷ Begin ∷ End ∷ Drop ∷ Claim ∷ Dial ∷ Accept ∷ Info ∷ Connect
    ∷ Cut ∷ Take ∷ Join ∷ []

-- the one whose word this is, letter by letter
abbrev pub verb_among : List Verb → List ℕ → Option Verb
verb_among [] word = None
verb_among (verb ∷ others) word =
    if bytes_eq word (word_of verb) then Some verb else verb_among others word

abbrev pub verb_of : List ℕ → Option Verb
verb_of word = verb_among verbs word
