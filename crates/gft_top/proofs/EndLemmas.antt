-- Lemmas on how a session ends.
use Rattle.std.proofs.Common.{Bool, ◌<◌, arith, length, true, false, ◌||◌, ◌≡◌, ◌≤◌, ℕ, List, [], ◌∷◌, take, Option, Ok, Err, refl, sym, ap, ◌∙◌, subst, append-nil}
use Rattle.gft_io.specs.Outside.{Told, Appends}
use Rattle.gft_io.specs.Lines.{ended_lines, input_limit}
use Rattle.gft_top.specs.declared.running.Status.{Status}
use Rattle.gft_top.specs.declared.running.Turn.TheVariants.{Ended}
use Rattle.gft_top.specs.Replies.{Reply, Begins, bytes_of, has_refusal}
use Rattle.gft_top.specs.Ends.{AppendsThenPart, IsReplied, IsAnswered, IsBroken, IsWritten, IsWhole, IsCutOff, at_import, at_line, nothing, some, LinesTold, LinesAny, SessionTold}
use Rattle.gft_top.specs.Turns.{Puts, Starts}
use Rattle.gft_top.proofs.ToldLemmas.{nothing_told, both_told, after_part, only_part, rose_later}
use Rattle.gft_top.proofs.RunLemmas.{bytes_of-append, has_refusal-append}

module _ (files : List (List ℕ)) (input : List ℕ) (first : List Reply) (held mid holds left : Option (List ℕ))
    (i : Begins files first) (w : Told (Appends (bytes_of first)) held mid) where
  written : (lines : List (List ℕ)) (quit : Bool) → IsReplied lines quit mid holds → IsWritten files lines quit held holds
  written lines quit r = record {
    first = first;
    replies = r.replies;
    begin = i;
    are = r.are;
    written = subst (λ (t : List ℕ). Told (Appends t) held holds) (sym (bytes_of-append first r.replies))
        (both_told (bytes_of first) (bytes_of r.replies) held mid holds w r.written);
  }

  whole : (refused b : Bool) → refused ≡ has_refusal first → IsAnswered input refused mid holds left b → IsWhole files input held holds left b
  unfolding written
  whole refused b r a = record {
    lines = a.lines;
    quit = a.quit;
    read = a.read;
    output = written a.lines a.quit a.replied;
    flag = has_refusal-append first a.replied.replies ∙ ap (λ f. f || has_refusal a.replied.replies) (sym r) ∙ a.flag;
  }

  cut_off : IsBroken input mid holds → IsCutOff files input held holds
  cut_off a =
      at_line a.first a.others a.lines first a.replies a.last a.quit i a.are
      (subst (λ (t : List ℕ). Told (AppendsThenPart t a.last.text) held holds) (sym (bytes_of-append first a.replies))
      (after_part (bytes_of first) (bytes_of a.replies) a.last.text held mid holds w a.written))

  -- an import and then the replies to lines
  pub session_ends : (refused : Bool) (status : Status) → refused ≡ has_refusal first
      → LinesTold input refused mid holds left status → SessionTold files input held holds left status
  session_ends refused Status.Done r a = whole refused false r a
  session_ends refused Status.SomeRefused r a = whole refused true r a
  session_ends refused Status.Usage r a = absurd a
  session_ends refused Status.ReadFault r a = (a.0, a.1, written a.0 false a.2)
  session_ends refused Status.WriteFault r a = cut_off a
  session_ends refused Status.NoMemory r a = some a.first a.others a.lines (written a.first false a.replied)
  session_ends refused Status.InputLimit r a = (a.0, written (ended_lines (take input_limit input)) false a.1)

-- where the session did not begin
pub begin_ends : (files : List (List ℕ)) (input : List ℕ) (held holds left : Option (List ℕ)) (before after : ℕ) (status : Status)
    → Starts files held holds before after (Err status) → SessionTold files input held holds left status
begin_ends files input held holds left before after Status.Done s = absurd s
begin_ends files input held holds left before after Status.SomeRefused s = absurd s
begin_ends files input held holds left before after Status.Usage s = absurd s
begin_ends files input held holds left before after Status.ReadFault s = absurd s
begin_ends files input held holds left before after Status.WriteFault s = at_import s.1.0 s.1.1 (only_part s.1.0.text held holds s.1.2)
begin_ends files input held holds left before after Status.NoMemory s = nothing s
begin_ends files input held holds left before after Status.InputLimit s = absurd s

-- its cause
pub begin_any : (files : List (List ℕ)) (held holds : Option (List ℕ)) (before after sink_before sink_after taken_before taken_after : ℕ) (status : Status)
    → Starts files held holds sink_before sink_after (Err status) → LinesAny before after sink_before sink_after taken_before taken_after status
begin_any files held holds before after sink_before sink_after taken_before taken_after Status.Done s = absurd s
begin_any files held holds before after sink_before sink_after taken_before taken_after Status.SomeRefused s = absurd s
begin_any files held holds before after sink_before sink_after taken_before taken_after Status.Usage s = absurd s
begin_any files held holds before after sink_before sink_after taken_before taken_after Status.ReadFault s = absurd s
begin_any files held holds before after sink_before sink_after taken_before taken_after Status.WriteFault s = s.0
begin_any files held holds before after sink_before sink_after taken_before taken_after Status.NoMemory s = tt
begin_any files held holds before after sink_before sink_after taken_before taken_after Status.InputLimit s = absurd s

-- without files nothing is written before the lines
pub starts_without : (files : List (List ℕ)) (held : Option (List ℕ)) (before : ℕ) → files ≡ [] → Starts files held held before before (Ok false)
starts_without files held before e =
    ([], subst (λ (fs : List (List ℕ)). Begins fs []) (sym e) refl, refl, nothing_told held)

-- with files there is one reply
begins_one : (files : List (List ℕ)) (reply : Reply) → 0 < length files → Begins files (reply ∷ [])
begins_one [] reply h = absurd (omega (arith, h))
begins_one (file ∷ files) reply h = (reply, refl)

or_false : (b : Bool) → (b || false) ≡ b
or_false true = refl
or_false false = refl

pub starts_with : (files : List (List ℕ)) (reply : Reply) (held holds : Option (List ℕ)) (before after : ℕ) (refused : Bool) → 0 < length files
    → refused ≡ reply.refused → Told (Appends reply.text) held holds → Starts files held holds before after (Ok refused)
starts_with files reply held holds before after refused h e w = (
  reply ∷ [],
  begins_one files reply h,
  e ∙ sym (or_false reply.refused),
  subst (λ (t : List ℕ). Told (Appends t) held holds) (sym (append-nil reply.text)) w,
)

pub starts_cut : (files : List (List ℕ)) (reply : Reply) (held holds : Option (List ℕ)) (before after : ℕ) (status : Status) → 0 < length files
    → Puts reply held holds before after (Ended status) → Starts files held holds before after (Err status)
starts_cut files reply held holds before after status h p =
    subst (λ (s : Status). Starts files held holds before after (Err s)) (sym p.0) (p.1, (reply, begins_one files reply h, p.2))

-- the causes of an end count from before the import was written
pub ends_any : (before after sink_before sink_mid sink_after taken_before taken_after : ℕ) (status : Status) → sink_before ≤ sink_mid
    → LinesAny before after sink_mid sink_after taken_before taken_after status → LinesAny before after sink_before sink_after taken_before taken_after status
ends_any before after sink_before sink_mid sink_after taken_before taken_after Status.Done h a = tt
ends_any before after sink_before sink_mid sink_after taken_before taken_after Status.SomeRefused h a = tt
ends_any before after sink_before sink_mid sink_after taken_before taken_after Status.Usage h a = absurd a
ends_any before after sink_before sink_mid sink_after taken_before taken_after Status.ReadFault h a = a
ends_any before after sink_before sink_mid sink_after taken_before taken_after Status.WriteFault h a = rose_later sink_before sink_mid sink_after h a
ends_any before after sink_before sink_mid sink_after taken_before taken_after Status.NoMemory h a = tt
ends_any before after sink_before sink_mid sink_after taken_before taken_after Status.InputLimit h a = a
