-- How many bytes an entry has in its two forms.
use Rattle.std.proofs.Common.{◌≡◌, ◌≤◌, ◌+◌, ℕ, Bool, true, false, List, ◌++◌, length, Option, None, sym, ap}
use Rattle.client_frames.specs.Messages.{Tails, parts_with, line_around, due_bytes, head_for, tail_for}
use Rattle.outbox.specs.Views.{Written, message_entry}
use Rattle.subj.specs.Messages.{Content, body_bytes}
use Rattle.subj.specs.declared.jobs.Job.{Job}
use Rattle.sub_table.specs.declared.Subscription.{Subscription}
use Rattle.shard_core.specs.declared.standings.FormLengths.{FormLengths}
use Rattle.shard_core.specs.Boxes.{form_length}
use Rattle.shard_core.specs.Closings.{id_of}
use Rattle.shard_core.specs.Owed.{due_entry, mode_of}

-- the entry with this header block, or without one
abbrev entry_with : ℕ → Job → Option (List ℕ) → Subscription → Option (List ℕ) → Written
entry_with shard job queue sub headers =
    message_entry job.id (id_of shard sub.serial) (mode_of queue) (line_around (parts_with job.message headers) sub.sid)
    (body_bytes headers job.message.payload)

-- without a block both forms are one
pub one_form : (shard : ℕ) (job : Job) (queue : Option (List ℕ)) (sub : Subscription)
    → job.message.headers ≡ None
    → length (due_entry shard false job queue sub).bytes ≡ length (due_entry shard true job queue sub).bytes
one_form shard job queue sub none = sym (ap (λ headers. length (entry_with shard job queue sub headers).bytes) none)

pub both_entries : (lengths : FormLengths) (shard : ℕ) (job : Job) (queue : Option (List ℕ)) (sub : Subscription)
    → lengths.plain ≡ length (due_entry shard false job queue sub).bytes
    → lengths.headed ≡ length (due_entry shard true job queue sub).bytes
    → (option : Bool)
    → form_length lengths option ≡ length (due_entry shard option job queue sub).bytes
both_entries lengths shard job queue sub plain headed true = headed
both_entries lengths shard job queue sub plain headed false = plain

pub both_messages : (lengths : FormLengths) (message : Content) (sid : List ℕ)
    → length (due_bytes message sid false) ≡ lengths.plain + length sid
    → length (due_bytes message sid true) ≡ lengths.headed + length sid
    → (option : Bool)
    → length (due_bytes message sid option) ≡ form_length lengths option + length sid
both_messages lengths message sid plain headed true = headed
both_messages lengths message sid plain headed false = plain

pub both_some : (lengths : FormLengths)
    → 1 ≤ lengths.plain
    → 1 ≤ lengths.headed
    → (option : Bool)
    → 1 ≤ form_length lengths option
both_some lengths plain headed true = headed
both_some lengths plain headed false = plain

pub both_parts : (lengths : FormLengths) (tails : Tails) (head : List ℕ)
    → lengths.plain ≡ length (head_for tails head false ++ tail_for tails false)
    → lengths.headed ≡ length (head_for tails head true ++ tail_for tails true)
    → (option : Bool)
    → form_length lengths option ≡ length (head_for tails head option ++ tail_for tails option)
both_parts lengths tails head plain headed true = headed
both_parts lengths tails head plain headed false = plain
