-- Lemmas on the making of a portable file.
use Rattle.std.proofs.Common.{inl, inr, Bool, true, false, ◌≡◌, ◌≤◌, ℕ, List, Option, Ok, Err, sym}
use Rattle.gft_io.specs.Outside.{Told, Appends}
use Rattle.gft_top.specs.declared.running.Status.{Status}
use Rattle.gft_top.specs.Replies.{Reply, bytes_of}
use Rattle.gft_top.specs.Ends.{MakeTold, ReplyTold, ReplyAny}
use Rattle.gft_top.specs.Turns.{Starts, flagged}
use Rattle.gft_top.proofs.ToldLemmas.{both_told, then_same, then_part, only_part, rose_later}

-- the reply to the writing of the file was written
pub saves : (saved : Reply) (held holds : Option (List ℕ)) (refused : Bool) → refused ≡ saved.refused → Told (Appends saved.text) held holds
    → ReplyTold held holds (flagged refused Status.Done)
saves saved held holds true e w = (saved, sym e, w)
saves saved held holds false e w = (saved, sym e, w)

pub saves_any : (refused : Bool) (before after : ℕ) → ReplyAny before after (flagged refused Status.Done)
saves_any true before after = tt
saves_any false before after = tt

-- an import that was not refused, and then the writing of the file
pub make_saves : (files : List (List ℕ)) (held mid holds : Option (List ℕ)) (before after : ℕ) (status : Status)
    → Starts files held mid before after (Ok false) → ReplyTold mid holds status → MakeTold files held holds status
make_saves files held mid holds before after Status.Done s w =
    (s.0, s.1, sym s.2, (w.0, w.1, both_told (bytes_of s.0) w.0.text held mid holds s.3 w.2))
make_saves files held mid holds before after Status.SomeRefused s w =
    (s.0, s.1, inr (sym s.2, (w.0, w.1, both_told (bytes_of s.0) w.0.text held mid holds s.3 w.2)))
make_saves files held mid holds before after Status.Usage s w = absurd w
make_saves files held mid holds before after Status.ReadFault s w = absurd w
make_saves files held mid holds before after Status.WriteFault s w =
    inr (s.0, s.1, sym s.2, (w.0, then_part (bytes_of s.0) w.0.text held mid holds s.3 w.1))
make_saves files held mid holds before after Status.NoMemory s w =
    inr (s.0, s.1, sym s.2, then_same (bytes_of s.0) held mid holds s.3 w)
make_saves files held mid holds before after Status.InputLimit s w = absurd w

-- an import that was refused
pub make_refused : (files : List (List ℕ)) (held holds : Option (List ℕ)) (before after : ℕ)
    → Starts files held holds before after (Ok true) → MakeTold files held holds Status.SomeRefused
make_refused files held holds before after s = (s.0, s.1, inl (sym s.2, s.3))

-- an import that did not come to its end
pub make_ends : (files : List (List ℕ)) (held holds : Option (List ℕ)) (before after : ℕ) (status : Status)
    → Starts files held holds before after (Err status) → MakeTold files held holds status
make_ends files held holds before after Status.Done s = absurd s
make_ends files held holds before after Status.SomeRefused s = absurd s
make_ends files held holds before after Status.Usage s = absurd s
make_ends files held holds before after Status.ReadFault s = absurd s
make_ends files held holds before after Status.WriteFault s = inl (s.1.0, s.1.1, only_part s.1.0.text held holds s.1.2)
make_ends files held holds before after Status.NoMemory s = inl s
make_ends files held holds before after Status.InputLimit s = absurd s

pub make_ends_any : (files : List (List ℕ)) (held holds : Option (List ℕ)) (before after : ℕ) (status : Status)
    → Starts files held holds before after (Err status) → ReplyAny before after status
make_ends_any files held holds before after Status.Done s = absurd s
make_ends_any files held holds before after Status.SomeRefused s = absurd s
make_ends_any files held holds before after Status.Usage s = absurd s
make_ends_any files held holds before after Status.ReadFault s = absurd s
make_ends_any files held holds before after Status.WriteFault s = s.0
make_ends_any files held holds before after Status.NoMemory s = tt
make_ends_any files held holds before after Status.InputLimit s = absurd s

-- the causes count from before the import was written
pub make_later : (before mid after : ℕ) (status : Status) → before ≤ mid → ReplyAny mid after status → ReplyAny before after status
make_later before mid after Status.Done h a = tt
make_later before mid after Status.SomeRefused h a = tt
make_later before mid after Status.Usage h a = absurd a
make_later before mid after Status.ReadFault h a = absurd a
make_later before mid after Status.WriteFault h a = rose_later before mid after h a
make_later before mid after Status.NoMemory h a = tt
make_later before mid after Status.InputLimit h a = absurd a
