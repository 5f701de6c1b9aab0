-- Lemmas on one turn of a session.
use Rattle.std.proofs.lemmas.Bool.{cases_lt}
use Rattle.std.proofs.Common.{inl, inr, Bool, true, false, ◌||◌, ◌-◌, arith, ◌≡◌, ◌<◌, ◌≤◌, ◌↔◌, ℕ, List, length, Option, Some, None, Result, Ok, Err, IsErrOf, refl, sym, ap, ◌∙◌, subst}
use Rattle.std.specs.declared.vec.Vec.{Vec}
use Rattle.std.specs.declared.alloc.Global.{Global}
use Rattle.gft_io.specs.Outside.{Rose, raised}
use Rattle.gft_io.specs.Lines.{first_line, input_limit, line_limit}
use Rattle.gft_io.specs.Place as place
use Rattle.gft_io.specs.Place.{Place, count, Pends, Passes, Answers, KeepsAll}
use Rattle.gft_io.specs.declared.lines.LineErr.{LineErr}
use Rattle.gft_io.specs.declared.lines.LineErr.TheVariants.{ReadFault, InputLimit, LineTooLong, NoMemory}
use Rattle.gft_top.specs.declared.reply.Reply as code
use Rattle.gft_top.specs.declared.running.Status.{Status}
use Rattle.gft_top.specs.declared.running.Turn.{Turn}
use Rattle.gft_top.specs.declared.running.Turn.TheVariants.{Replied, Quit, Ended}
use Rattle.gft_top.specs.Replies.{Reply, IsReply, skipped, stepped}
use Rattle.gft_top.specs.Ends.{LinesTold, LinesAny}
use Rattle.gft_top.specs.Turns.{reply_of, Puts, IsHeldUp, Advances, HasCause, Responds, TurnsTold, flagged}
use Rattle.gft_top.proofs.ToldLemmas.{same_told, rose_later}
use Rattle.gft_top.proofs.RunLemmas.{IsGoing, going_on, going_end, going_quit, going_stop, going_late, going_failed, going_broken}

abbrev Found : Type 0
Found = Result (Option (Vec ℕ Global)) LineErr

-- a reply that was put, to the first line of these bytes
put_told : (old new : Place) (left held holds : Option (List ℕ)) (bytes : List ℕ) (reply : Reply) (before after : ℕ) (turn : Turn)
    → Passes old new left bytes → IsReply (first_line bytes) reply → Puts reply held holds before after turn → TurnsTold old new left held holds bytes turn
put_told old new left held holds bytes reply before after (Replied refused) p is q = (p, (reply, is, q.0, q.1, q.2))
put_told old new left held holds bytes reply before after (Quit refused) p is q = (p, (reply, is, q.0, q.1, q.2))
put_told old new left held holds bytes reply before after (Ended status) p is q =
    subst (λ (s : Status). TurnsTold old new left held holds bytes (Ended s)) (sym q.0) (p, (reply, is, q.2))

-- a line was found, or one that is too long, and its reply was put
pub replied_told : (old new : Place) (left held holds : Option (List ℕ)) (bytes : List ℕ) (found : Found) (reply : code.Reply) (before after : ℕ) (turn : Turn)
    → Responds found (Ok reply) → Puts (reply_of reply) held holds before after turn → Answers old new left bytes found → TurnsTold old new left held holds bytes turn
replied_told old new left held holds bytes (Ok (Some line)) reply before after turn r q a =
    put_told old new left held holds bytes (reply_of reply) before after turn a.0 (stepped (subst (λ (l : List ℕ). length l ≤ line_limit) a.1 a.2)) q
replied_told old new left held holds bytes (Ok None) reply before after turn r q a = absurd r
replied_told old new left held holds bytes (Err LineTooLong) reply before after turn r q a =
    put_told old new left held holds bytes (reply_of reply) before after turn a.0 (subst (λ (t : Reply). IsReply (first_line bytes) t) (sym r) (skipped a.1)) q
replied_told old new left held holds bytes (Err InputLimit) reply before after turn r q a = absurd r
replied_told old new left held holds bytes (Err ReadFault) reply before after turn r q a = absurd r
replied_told old new left held holds bytes (Err NoMemory) reply before after turn r q a = absurd r

within_limit : (n : ℕ) → (input_limit < n → ⊥) → n ≤ input_limit
within_limit n h = elim (cases_lt input_limit n) [ inl l ↦ absurd (h l) | inr l ↦ l ]

held_up : (old new : Place) (left : Option (List ℕ)) (bytes : List ℕ) → Pends new left bytes → KeepsAll old new → count new ≤ input_limit → IsHeldUp old new left bytes
held_up old new left bytes p k w = record { pends = p; passed = k.passed; unended = k.unended; within = w }

-- no line was found, or there was no memory for its reply
pub ended_told : (old new : Place) (left holds : Option (List ℕ)) (bytes : List ℕ) (found : Found) (status : Status)
    → Responds found (Err status) → Answers old new left bytes found → (IsErrOf found ReadFault → KeepsAll old new) → (IsErrOf found InputLimit ↔ (input_limit < count new))
    → TurnsTold old new left holds holds bytes (Ended status)
ended_told old new left holds bytes (Ok (Some line)) status r a k l = subst (λ (s : Status). TurnsTold old new left holds holds bytes (Ended s)) (sym r) (same_told holds)
ended_told old new left holds bytes (Ok None) status r a k l = subst (λ (s : Status). TurnsTold old new left holds holds bytes (Ended s)) (sym r) (a.0, a.1, same_told holds)
ended_told old new left holds bytes (Err LineTooLong) status r a k l = subst (λ (s : Status). TurnsTold old new left holds holds bytes (Ended s)) (sym r) (same_told holds)
ended_told old new left holds bytes (Err InputLimit) status r a k l = subst (λ (s : Status). TurnsTold old new left holds holds bytes (Ended s)) (sym r) (a.0, same_told holds)
ended_told old new left holds bytes (Err ReadFault) status r a k l =
    subst (λ (s : Status). TurnsTold old new left holds holds bytes (Ended s)) (sym r)
    (held_up old new left bytes a (k refl) (within_limit (count new) (λ h. cc (l.1 h))), same_told holds)
ended_told old new left holds bytes (Err NoMemory) status r a k l = subst (λ (s : Status). TurnsTold old new left holds holds bytes (Ended s)) (sym r) (same_told holds)

-- a turn that replied passed bytes
pub replied_advances : (old new : Place) (found : Found) (reply : code.Reply) (turn : Turn)
    → Responds found (Ok reply) → place.Advances old new found → Advances old new turn
replied_advances old new found reply (Ended status) r a = tt
replied_advances old new (Ok (Some line)) reply (Replied refused) r a = a
replied_advances old new (Ok None) reply (Replied refused) r a = absurd r
replied_advances old new (Err LineTooLong) reply (Replied refused) r a = a
replied_advances old new (Err InputLimit) reply (Replied refused) r a = absurd r
replied_advances old new (Err ReadFault) reply (Replied refused) r a = absurd r
replied_advances old new (Err NoMemory) reply (Replied refused) r a = absurd r
replied_advances old new (Ok (Some line)) reply (Quit refused) r a = a
replied_advances old new (Ok None) reply (Quit refused) r a = absurd r
replied_advances old new (Err LineTooLong) reply (Quit refused) r a = a
replied_advances old new (Err InputLimit) reply (Quit refused) r a = absurd r
replied_advances old new (Err ReadFault) reply (Quit refused) r a = absurd r
replied_advances old new (Err NoMemory) reply (Quit refused) r a = absurd r

-- where a reply was put only the sink can have failed
pub replied_cause : (new : Place) (before after sink_before sink_after : ℕ) (reply : Reply) (held holds : Option (List ℕ)) (turn : Turn)
    → Puts reply held holds sink_before sink_after turn → HasCause new before after sink_before sink_after turn
replied_cause new before after sink_before sink_after reply held holds (Replied refused) q = tt
replied_cause new before after sink_before sink_after reply held holds (Quit refused) q = tt
replied_cause new before after sink_before sink_after reply held holds (Ended status) q =
    subst (λ (s : Status). HasCause new before after sink_before sink_after (Ended s)) (sym q.0) q.1

-- the cause of an end without a reply
pub ended_cause : (old new : Place) (before after sink_before sink_after : ℕ) (found : Found) (status : Status)
    → Responds found (Err status) → (IsErrOf found ReadFault → Rose before after × KeepsAll old new) → (IsErrOf found InputLimit ↔ (input_limit < count new))
    → HasCause new before after sink_before sink_after (Ended status)
ended_cause old new before after sink_before sink_after (Ok (Some line)) status r f l = subst (λ (s : Status). HasCause new before after sink_before sink_after (Ended s)) (sym r) tt
ended_cause old new before after sink_before sink_after (Ok None) status r f l = subst (λ (s : Status). HasCause new before after sink_before sink_after (Ended s)) (sym r) tt
ended_cause old new before after sink_before sink_after (Err LineTooLong) status r f l = subst (λ (s : Status). HasCause new before after sink_before sink_after (Ended s)) (sym r) tt
ended_cause old new before after sink_before sink_after (Err InputLimit) status r f l = subst (λ (s : Status). HasCause new before after sink_before sink_after (Ended s)) (sym r) (l.0 refl)
ended_cause old new before after sink_before sink_after (Err ReadFault) status r f l = subst (λ (s : Status). HasCause new before after sink_before sink_after (Ended s)) (sym r) (f refl).0
ended_cause old new before after sink_before sink_after (Err NoMemory) status r f l = subst (λ (s : Status). HasCause new before after sink_before sink_after (Ended s)) (sym r) tt

-- how a run ends where a turn ended it
module _ (input : List ℕ) (refused now : Bool) (old new : Place) (left left' held holds holds' : Option (List ℕ))
    (g : IsGoing input refused now old left held holds) (within : old.passed ≤ input_limit) where
  -- a status that is the same with a refusal as without one
  either : (status : Status) → flagged true status ≡ status → (b : Bool) → flagged b status ≡ status
  either status e true = e
  either status e false = refl

  as_it_is : (status : Status) → flagged true status ≡ status → LinesTold input refused held holds' left' status
      → LinesTold input refused held holds' left' (flagged now status)
  as_it_is status e h = subst (λ (s : Status). LinesTold input refused held holds' left' s) (sym (either status e now)) h

  at_end : (b : Bool) → now ≡ b → TurnsTold old new left' holds holds' g.bytes (Ended Status.Done)
      → LinesTold input refused held holds' left' (flagged b Status.Done)
  at_end true e t = going_end input refused now old left held holds g new left' holds' true t.0 t.1 within t.2 e
  at_end false e t = going_end input refused now old left held holds g new left' holds' false t.0 t.1 within t.2 e

  pub turn_ends : (status : Status) → TurnsTold old new left' holds holds' g.bytes (Ended status)
      → LinesTold input refused held holds' left' (flagged now status)
  turn_ends Status.Done t = at_end now refl t
  turn_ends Status.SomeRefused t = absurd t
  turn_ends Status.Usage t = absurd t
  turn_ends Status.ReadFault t =
      as_it_is Status.ReadFault refl (going_failed input refused now old left held holds g new left' holds' t.0 t.1)
  turn_ends Status.WriteFault t =
      as_it_is Status.WriteFault refl (going_broken input refused now old left held holds g new left' holds' t.1.0 t.0 t.1.1 t.1.2)
  turn_ends Status.NoMemory t = as_it_is Status.NoMemory refl (going_stop input refused now old left held holds g holds' t)
  turn_ends Status.InputLimit t =
      as_it_is Status.InputLimit refl (going_late input refused now old left held holds g holds' within t.0 t.1)

  -- where a reply ended the session
  pub turn_quits : (said b : Bool) → (now || said) ≡ b → TurnsTold old new left' holds holds' g.bytes (Quit said)
      → LinesTold input refused held holds' left' (flagged b Status.Done)
  turn_quits said true e t =
      going_quit input refused now old left held holds g true new left' holds' t.1.0 t.0 t.1.1 t.1.2 (ap (λ f. now || f) (sym t.1.3) ∙ e) t.1.4
  turn_quits said false e t =
      going_quit input refused now old left held holds g false new left' holds' t.1.0 t.0 t.1.1 t.1.2 (ap (λ f. now || f) (sym t.1.3) ∙ e) t.1.4

-- the causes of that end
pub turn_any : (now : Bool) (new : Place) (before mid after sink_before sink_mid sink_after taken_before taken_after : ℕ) (status : Status)
    → before ≤ mid → sink_before ≤ sink_mid → HasCause new mid after sink_mid sink_after (Ended status) → taken_after ≡ raised taken_before (count new)
    → LinesAny before after sink_before sink_after taken_before taken_after (flagged now status)
turn_any true new before mid after sink_before sink_mid sink_after taken_before taken_after Status.Done f k h t = tt
turn_any false new before mid after sink_before sink_mid sink_after taken_before taken_after Status.Done f k h t = tt
turn_any now new before mid after sink_before sink_mid sink_after taken_before taken_after Status.SomeRefused f k h t = absurd h
turn_any now new before mid after sink_before sink_mid sink_after taken_before taken_after Status.Usage f k h t = absurd h
turn_any true new before mid after sink_before sink_mid sink_after taken_before taken_after Status.ReadFault f k h t = rose_later before mid after f h
turn_any false new before mid after sink_before sink_mid sink_after taken_before taken_after Status.ReadFault f k h t = rose_later before mid after f h
turn_any true new before mid after sink_before sink_mid sink_after taken_before taken_after Status.WriteFault f k h t = rose_later sink_before sink_mid sink_after k h
turn_any false new before mid after sink_before sink_mid sink_after taken_before taken_after Status.WriteFault f k h t = rose_later sink_before sink_mid sink_after k h
turn_any true new before mid after sink_before sink_mid sink_after taken_before taken_after Status.NoMemory f k h t = tt
turn_any false new before mid after sink_before sink_mid sink_after taken_before taken_after Status.NoMemory f k h t = tt
turn_any true new before mid after sink_before sink_mid sink_after taken_before taken_after Status.InputLimit f k h t = (count new, h, t)
turn_any false new before mid after sink_before sink_mid sink_after taken_before taken_after Status.InputLimit f k h t = (count new, h, t)

-- no cause is asked for where a session came to its end
pub quit_any : (flag : Bool) (before after sink_before sink_after taken_before taken_after : ℕ)
    → LinesAny before after sink_before sink_after taken_before taken_after (flagged flag Status.Done)
quit_any true before after sink_before sink_after taken_before taken_after = tt
quit_any false before after sink_before sink_after taken_before taken_after = tt

-- what was taken by a turn and before it
pub taken_on : (start mid new a b : ℕ) → mid ≡ raised start a → new ≡ raised mid (b - a) → a ≤ b → new ≡ raised start b
taken_on start mid new a b e f h = omega (arith, e, f, h)

-- a turn that replied goes on
pub turn_going : (input : List ℕ) (refused now after said : Bool) (old new : Place) (left left' held holds holds' : Option (List ℕ))
    (g : IsGoing input refused now old left held holds)
    → TurnsTold old new left' holds holds' g.bytes (Replied said) → after ≡ (now || said) → IsGoing input refused after new left' held holds'
turn_going input refused now after said old new left left' held holds holds' g t e =
    going_on input refused now old left held holds g after new left' holds' t.1.0 t.0 t.1.1 t.1.2 (e ∙ ap (λ b. now || b) t.1.3) t.1.4
