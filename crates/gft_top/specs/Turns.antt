-- How a session goes on line by line. These serve the proofs.
use Rattle.std.specs.Prelude.{◌≡◌, ℕ, ◌+◌, ◌<◌, ◌≤◌, Bool, true, false, List, [], ◌∷◌, Option, Some, None, Result, Ok, Err}
use Rattle.gft_io.specs.Outside.{Rose, Told, Same, Appends, AppendsPart}
use Rattle.gft_io.specs.Lines.{first_line, line_size, input_limit, HasNoNewline}
use Rattle.gft_io.specs.Place.{Place, kept, count, Pends, Passes}
use Rattle.gft_io.specs.declared.lines.LineErr.{LineErr}
use Rattle.gft_io.specs.declared.lines.LineErr.TheVariants.{ReadFault, InputLimit, LineTooLong, NoMemory}
use Rattle.std.specs.declared.vec.Vec.{Vec}
use Rattle.std.specs.declared.alloc.Global.{Global}
use Rattle.gft_top.specs.declared.reply.Reply as code
use Rattle.gft_top.specs.declared.running.Status.{Status}
use Rattle.gft_top.specs.declared.running.Status.TheVariants.{Done, SomeRefused, Usage, WriteFault}
use Rattle.gft_top.specs.declared.running.Turn.{Turn}
use Rattle.gft_top.specs.declared.running.Turn.TheVariants.{Replied, Quit, Ended}
use Rattle.gft_top.specs.Replies.{Reply, IsReply, Begins, bytes_of, has_refusal, too_long}

abbrev pub reply_of : code.Reply → Reply
reply_of reply = record { text = reply.text.items; refused = reply.refused; quit = reply.quit }

-- what the writing of a reply did: it is written, or the sink's faults rose and some front of it is written
abbrev pub Puts : Reply → Option (List ℕ) → Option (List ℕ) → ℕ → ℕ → Turn → Type 0
Puts reply old new before after (Replied refused) =
    (reply.quit ≡ false) × (refused ≡ reply.refused) × Told (Appends reply.text) old new
Puts reply old new before after (Quit refused) =
    (reply.quit ≡ true) × (refused ≡ reply.refused) × Told (Appends reply.text) old new
Puts reply old new before after (Ended status) = (status ≡ WriteFault) × Rose before after × Told (AppendsPart reply.text) old new

-- a turn that replied passed some bytes
abbrev pub Advances : Place → Place → Turn → Type 0
Advances old new (Replied refused) = old.passed < new.passed
Advances old new (Quit refused) = old.passed < new.passed
Advances old new (Ended status) = Unit {0}

-- the causes of an end, over any source and any sink
abbrev pub HasCause : Place → ℕ → ℕ → ℕ → ℕ → Turn → Type 0
HasCause new before after sink_before sink_after (Replied refused) = Unit {0}
HasCause new before after sink_before sink_after (Quit refused) = Unit {0}
HasCause new before after sink_before sink_after (Ended Done) = Unit {0}
HasCause new before after sink_before sink_after (Ended SomeRefused) = ⊥
HasCause new before after sink_before sink_after (Ended Usage) = ⊥
HasCause new before after sink_before sink_after (Ended Status.ReadFault) = Rose before after
HasCause new before after sink_before sink_after (Ended WriteFault) = Rose sink_before sink_after
HasCause new before after sink_before sink_after (Ended Status.NoMemory) = Unit {0}
HasCause new before after sink_before sink_after (Ended Status.InputLimit) = input_limit < count new

-- what is replied to a line, or how the run ends where there is none
abbrev pub Responds : Result (Option (Vec ℕ Global)) LineErr → Result code.Reply Status → Type 0
Responds (Ok (Some line)) (Ok reply) = Unit {0}
Responds (Ok None) (Ok reply) = ⊥
Responds (Err LineTooLong) (Ok reply) = reply_of reply ≡ too_long
Responds (Err InputLimit) (Ok reply) = ⊥
Responds (Err ReadFault) (Ok reply) = ⊥
Responds (Err NoMemory) (Ok reply) = ⊥
Responds (Ok (Some line)) (Err status) = status ≡ Status.NoMemory
Responds (Ok None) (Err status) = status ≡ Done
Responds (Err LineTooLong) (Err status) = status ≡ Status.NoMemory
Responds (Err InputLimit) (Err status) = status ≡ Status.InputLimit
Responds (Err ReadFault) (Err status) = status ≡ Status.ReadFault
Responds (Err NoMemory) (Err status) = status ≡ Status.NoMemory

-- how a session begins: the import's reply is written, where there are files, and it is a refusal or none
abbrev pub Starts : List (List ℕ) → Option (List ℕ) → Option (List ℕ) → ℕ → ℕ → Result Bool Status → Type 0
Starts files held holds before after (Ok refused) =
    (first : List Reply) × Begins files first × (refused ≡ has_refusal first) × Told (Appends (bytes_of first)) held holds
Starts files held holds before after (Err Done) = ⊥
Starts files held holds before after (Err SomeRefused) = ⊥
Starts files held holds before after (Err Usage) = ⊥
Starts files held holds before after (Err Status.ReadFault) = ⊥
Starts files held holds before after (Err WriteFault) =
    Rose before after
    × ((imported : Reply) × Begins files (imported ∷ []) × Told (AppendsPart imported.text) held holds)
Starts files held holds before after (Err Status.NoMemory) = Told Same held holds
Starts files held holds before after (Err Status.InputLimit) = ⊥

-- the source failed: these bytes are still to be cut, of which those that were taken have no newline
pub record IsHeldUp (old new : Place) (left : Option (List ℕ)) (bytes : List ℕ) : Type 0 where
  pub pends : Pends new left bytes
  pub passed : new.passed ≡ old.passed
  pub unended : HasNoNewline (kept new)
  pub within : count new ≤ input_limit

-- what a turn did where these bytes are still to be cut into lines
abbrev pub TurnsTold : Place → Place → Option (List ℕ) → Option (List ℕ) → Option (List ℕ) → List ℕ → Turn → Type 0
TurnsTold old new left held holds bytes (Replied refused) =
    Passes old new left bytes
    × ((reply : Reply) × IsReply (first_line bytes) reply × (reply.quit ≡ false) × (refused ≡ reply.refused)
    × Told (Appends reply.text) held holds)
TurnsTold old new left held holds bytes (Quit refused) =
    Passes old new left bytes
    × ((reply : Reply) × IsReply (first_line bytes) reply × (reply.quit ≡ true) × (refused ≡ reply.refused)
    × Told (Appends reply.text) held holds)
TurnsTold old new left held holds bytes (Ended Done) = (bytes ≡ []) × Pends new left [] × Told Same held holds
TurnsTold old new left held holds bytes (Ended SomeRefused) = ⊥
TurnsTold old new left held holds bytes (Ended Usage) = ⊥
TurnsTold old new left held holds bytes (Ended Status.ReadFault) = IsHeldUp old new left bytes × Told Same held holds
TurnsTold old new left held holds bytes (Ended WriteFault) =
    Passes old new left bytes × ((reply : Reply) × IsReply (first_line bytes) reply × Told (AppendsPart reply.text) held holds)
TurnsTold old new left held holds bytes (Ended Status.NoMemory) = Told Same held holds
TurnsTold old new left held holds bytes (Ended Status.InputLimit) =
    (input_limit < old.passed + line_size bytes) × Told Same held holds

-- the end of a run at the end of its input, where some reply was a refusal or none was
abbrev pub flagged : Bool → Status → Status
flagged true Done = SomeRefused
flagged true SomeRefused = SomeRefused
flagged true Usage = Usage
flagged true Status.ReadFault = Status.ReadFault
flagged true WriteFault = WriteFault
flagged true Status.NoMemory = Status.NoMemory
flagged true Status.InputLimit = Status.InputLimit
flagged false status = status
