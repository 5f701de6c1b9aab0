-- How a session may end, and what is written then.
use Rattle.std.specs.Prelude.{◌≡◌, ◌⊎◌, ℕ, ◌<◌, ◌≤◌, Bool, true, false, ◌||◌, List, [], ◌∷◌, ◌++◌, length, take, Option, Some}
use Rattle.gft_io.specs.Outside.{Rose, Told, Same, Appends, AppendsPart, raised}
use Rattle.gft_io.specs.Lines.{lines_of, ended_lines, input_limit}
use Rattle.gft_top.specs.declared.running.Status.{Status}
use Rattle.gft_top.specs.declared.running.Status.TheVariants.{Done, SomeRefused, Usage, ReadFault, WriteFault, NoMemory, InputLimit}
use Rattle.gft_top.specs.Words.{usage_line}
use Rattle.gft_top.specs.Replies.{Reply, AreReplies, Begins, bytes_of, has_refusal}

-- these bytes were added at the end, and then the first of those, but not all
abbrev pub AppendsThenPart : List ℕ → List ℕ → List ℕ → List ℕ → Type 0
AppendsThenPart whole cut old new = (n : ℕ) × (n < length cut) × (new ≡ old ++ (whole ++ take n cut))

-- these lines were replied to, each whole, and whether the last reply ends the session
pub record IsReplied (lines : List (List ℕ)) (quit : Bool) (held holds : Option (List ℕ)) : Type 0 where
  pub replies : List Reply
  pub are : AreReplies lines replies quit
  pub written : Told (Appends (bytes_of replies)) held holds

-- the lines that end within the bytes that were taken, where those bytes are left: each with a newline, or the last one at
-- the end of the input, once that was seen
abbrev pub EndWithin : List ℕ → List ℕ → List (List ℕ) → Type 0
EndWithin taken left lines = (lines ≡ ended_lines taken) ⊎ ((left ≡ []) × (lines ≡ lines_of taken))

-- the input was read up to some place within the limit, and the lines that end there are these
pub record IsReadTo (input : List ℕ) (left : Option (List ℕ)) (lines : List (List ℕ)) : Type 0 where
  pub taken : List ℕ
  pub rest : List ℕ
  pub whole : input ≡ taken ++ rest
  pub remains : left ≡ Some rest
  pub within : length taken ≤ input_limit
  pub end : EndWithin taken rest lines

-- these are the lines that end within the first bytes of the input, and what was read ahead of those is not looked at
pub record IsReadPast (input : List ℕ) (left : Option (List ℕ)) (lines : List (List ℕ)) : Type 0 where
  pub passed : List ℕ
  pub ahead : List ℕ
  pub rest : List ℕ
  pub whole : input ≡ passed ++ (ahead ++ rest)
  pub remains : left ≡ Some rest
  pub within : length passed ≤ input_limit
  pub end : EndWithin passed (ahead ++ rest) lines

-- the lines of a session that came to its end: all, where the input was read to its end, or those up to one that ends it
pub data IsReadOut (input : List ℕ) (left : Option (List ℕ)) : List (List ℕ) → Bool → Type 0 where
  at_end : left ≡ Some [] → length input ≤ input_limit → IsReadOut input left (lines_of input) false
  at_quit : {lines : List (List ℕ)} (others : List (List ℕ)) → lines_of input ≡ lines ++ others → IsReadPast input left lines
      → IsReadOut input left lines true

-- the session came to its end: to each of its lines there is a whole reply
pub record IsAnswered (input : List ℕ) (refused : Bool) (held holds left : Option (List ℕ)) (some_refused : Bool) : Type 0 where
  pub lines : List (List ℕ)
  pub quit : Bool
  pub read : IsReadOut input left lines quit
  pub replied : IsReplied lines quit held holds
  pub flag : (refused || has_refusal replied.replies) ≡ some_refused

-- the first of the lines were replied to, each whole, and none of the replies ends the session
pub record IsBegun (input : List ℕ) (held holds : Option (List ℕ)) : Type 0 where
  pub first : List (List ℕ)
  pub others : List (List ℕ)
  pub lines : lines_of input ≡ first ++ others
  pub replied : IsReplied first false held holds

-- the first of the lines were replied to, and the reply to the last of these was written in part
pub record IsBroken (input : List ℕ) (held holds : Option (List ℕ)) : Type 0 where
  pub first : List (List ℕ)
  pub others : List (List ℕ)
  pub lines : lines_of input ≡ first ++ others
  pub replies : List Reply
  pub last : Reply
  pub quit : Bool
  pub are : AreReplies first (replies ++ last ∷ []) quit
  pub written : Told (AppendsThenPart (bytes_of replies) last.text) held holds

-- how the replies to an input end, where some reply before was a refusal or none was
abbrev pub LinesTold : List ℕ → Bool → Option (List ℕ) → Option (List ℕ) → Option (List ℕ) → Status → Type 0
LinesTold input refused held holds left Done = IsAnswered input refused held holds left false
LinesTold input refused held holds left SomeRefused = IsAnswered input refused held holds left true
LinesTold input refused held holds left Usage = ⊥
LinesTold input refused held holds left ReadFault =
    (lines : List (List ℕ)) × IsReadTo input left lines × IsReplied lines false held holds
LinesTold input refused held holds left WriteFault = IsBroken input held holds
LinesTold input refused held holds left NoMemory = IsBegun input held holds
LinesTold input refused held holds left InputLimit =
    (input_limit < length input) × IsReplied (ended_lines (take input_limit input)) false held holds

-- the causes of an end, over any source and any sink
abbrev pub LinesAny : ℕ → ℕ → ℕ → ℕ → ℕ → ℕ → Status → Type 0
LinesAny before after sink_before sink_after taken_before taken_after Done = Unit {0}
LinesAny before after sink_before sink_after taken_before taken_after SomeRefused = Unit {0}
LinesAny before after sink_before sink_after taken_before taken_after Usage = ⊥
LinesAny before after sink_before sink_after taken_before taken_after ReadFault = Rose before after
LinesAny before after sink_before sink_after taken_before taken_after WriteFault = Rose sink_before sink_after
LinesAny before after sink_before sink_after taken_before taken_after NoMemory = Unit {0}
LinesAny before after sink_before sink_after taken_before taken_after InputLimit =
    (n : ℕ) × (input_limit < n) × (taken_after ≡ raised taken_before n)

-- the replies of a session over those files and to these lines were written, each whole
pub record IsWritten (files lines : List (List ℕ)) (quit : Bool) (held holds : Option (List ℕ)) : Type 0 where
  pub first : List Reply
  pub replies : List Reply
  pub begin : Begins files first
  pub are : AreReplies lines replies quit
  pub written : Told (Appends (bytes_of (first ++ replies))) held holds

-- a whole session: what was written, and whether some reply holds a refusal
pub record IsWhole (files : List (List ℕ)) (input : List ℕ) (held holds left : Option (List ℕ)) (some_refused : Bool) : Type 0 where
  pub lines : List (List ℕ)
  pub quit : Bool
  pub read : IsReadOut input left lines quit
  pub output : IsWritten files lines quit held holds
  pub flag : has_refusal (output.first ++ output.replies) ≡ some_refused

-- what a session without memory had written: nothing, or the replies to the import and to the first lines, each whole
pub data IsPart (files : List (List ℕ)) (input : List ℕ) (held holds : Option (List ℕ)) : Type 0 where
  nothing : Told Same held holds → IsPart files input held holds
  some : (first others : List (List ℕ)) → lines_of input ≡ first ++ others → IsWritten files first false held holds
      → IsPart files input held holds

-- what a session with a fault of the sink had written: the import's reply in part, or that and the replies to the first
-- lines, each whole but the last, and that in part
pub data IsCutOff (files : List (List ℕ)) (input : List ℕ) (held holds : Option (List ℕ)) : Type 0 where
  at_import : (imported : Reply) → Begins files (imported ∷ []) → Told (AppendsThenPart [] imported.text) held holds
      → IsCutOff files input held holds
  at_line : (first others : List (List ℕ)) → lines_of input ≡ first ++ others → (before replies : List Reply) (last : Reply) (quit : Bool)
      → Begins files before → AreReplies first (replies ++ last ∷ []) quit
      → Told (AppendsThenPart (bytes_of (before ++ replies)) last.text) held holds → IsCutOff files input held holds

-- how a session over those files and this input ends
abbrev pub SessionTold : List (List ℕ) → List ℕ → Option (List ℕ) → Option (List ℕ) → Option (List ℕ) → Status → Type 0
SessionTold files input held holds left Done = IsWhole files input held holds left false
SessionTold files input held holds left SomeRefused = IsWhole files input held holds left true
SessionTold files input held holds left Usage = ⊥
SessionTold files input held holds left ReadFault =
    (lines : List (List ℕ)) × IsReadTo input left lines × IsWritten files lines false held holds
SessionTold files input held holds left WriteFault = IsCutOff files input held holds
SessionTold files input held holds left NoMemory = IsPart files input held holds
SessionTold files input held holds left InputLimit =
    (input_limit < length input) × IsWritten files (ended_lines (take input_limit input)) false held holds

-- how the last reply of a run ends it: it is written
abbrev pub ReplyTold : Option (List ℕ) → Option (List ℕ) → Status → Type 0
ReplyTold held holds Done = (reply : Reply) × (reply.refused ≡ false) × Told (Appends reply.text) held holds
ReplyTold held holds SomeRefused = (reply : Reply) × (reply.refused ≡ true) × Told (Appends reply.text) held holds
ReplyTold held holds Usage = ⊥
ReplyTold held holds ReadFault = ⊥
ReplyTold held holds WriteFault = (reply : Reply) × Told (AppendsPart reply.text) held holds
ReplyTold held holds NoMemory = Told Same held holds
ReplyTold held holds InputLimit = ⊥

-- how the making of a portable file ends: the import's reply and, where that is no refusal, the file's, were written
abbrev pub MakeTold : List (List ℕ) → Option (List ℕ) → Option (List ℕ) → Status → Type 0
MakeTold files held holds Done =
    (first : List Reply) × Begins files first × (has_refusal first ≡ false)
    × ((saved : Reply) × (saved.refused ≡ false) × Told (Appends (bytes_of first ++ saved.text)) held holds)
MakeTold files held holds SomeRefused =
    (first : List Reply) × Begins files first
    × (((has_refusal first ≡ true) × Told (Appends (bytes_of first)) held holds)
    ⊎ ((has_refusal first ≡ false)
    × ((saved : Reply) × (saved.refused ≡ true) × Told (Appends (bytes_of first ++ saved.text)) held holds)))
MakeTold files held holds Usage = ⊥
MakeTold files held holds ReadFault = ⊥
MakeTold files held holds WriteFault =
    ((imported : Reply) × Begins files (imported ∷ []) × Told (AppendsThenPart [] imported.text) held holds)
    ⊎ ((first : List Reply) × Begins files first × (has_refusal first ≡ false)
    × ((saved : Reply) × Told (AppendsThenPart (bytes_of first) saved.text) held holds))
MakeTold files held holds NoMemory =
    Told Same held holds
    ⊎ ((first : List Reply) × Begins files first × (has_refusal first ≡ false) × Told (Appends (bytes_of first)) held holds)
MakeTold files held holds InputLimit = ⊥

-- the causes of its end, over any sink
abbrev pub ReplyAny : ℕ → ℕ → Status → Type 0
ReplyAny before after Done = Unit {0}
ReplyAny before after SomeRefused = Unit {0}
ReplyAny before after Usage = ⊥
ReplyAny before after ReadFault = ⊥
ReplyAny before after WriteFault = Rose before after
ReplyAny before after NoMemory = Unit {0}
ReplyAny before after InputLimit = ⊥

-- how a wrong call ends: its line is written, or a front of that
abbrev pub UsageTold : Option (List ℕ) → Option (List ℕ) → Status → Type 0
UsageTold held holds Done = ⊥
UsageTold held holds SomeRefused = ⊥
UsageTold held holds Usage = Told (Appends usage_line) held holds
UsageTold held holds ReadFault = ⊥
UsageTold held holds WriteFault = Told (AppendsPart usage_line) held holds
UsageTold held holds NoMemory = ⊥
UsageTold held holds InputLimit = ⊥

-- the causes of its end
abbrev pub UsageAny : ℕ → ℕ → Status → Type 0
UsageAny before after Done = ⊥
UsageAny before after SomeRefused = ⊥
UsageAny before after Usage = Unit {0}
UsageAny before after ReadFault = ⊥
UsageAny before after WriteFault = Rose before after
UsageAny before after NoMemory = ⊥
UsageAny before after InputLimit = ⊥
