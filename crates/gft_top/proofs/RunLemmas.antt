-- Lemmas on how a session goes on.
use Rattle.std.proofs.lemmas.Grind.{flat_map-append}
use Rattle.std.proofs.lemmas.List.Folds.{list_any-append}
use Rattle.std.proofs.Math.Seq.{take-append-add}
use Rattle.std.proofs.Common.{◌≡◌, ◌≢◌, inl, inr, ◌<◌, ◌≤◌, ◌+◌, ◌-◌, ℕ, Bool, true, false, ◌||◌, List, [], ◌∷◌, ◌++◌, length, take, Option, Some, None, refl, sym, ap, ◌∙◌, subst, append_assoc, append-nil, length-append, arith}
use Rattle.gft_io.specs.Outside.{Told, Same, Appends, AppendsPart}
use Rattle.gft_io.specs.Lines.{lines_of, ended_lines, first_line, after_line, line_size, input_limit, HasNoNewline}
use Rattle.gft_io.specs.Place.{Place, start, kept, Pends, Passes}
use Rattle.gft_io.proofs.CallerLemmas.{Pends-start, length-line_size, first_part, ended_lines-none, ended_lines-short}
use Rattle.gft_io.proofs.PlaceLemmas.{none-append}
use Rattle.gft_top.specs.Replies.{Reply, IsReply, AreReplies, none, last, next, bytes_of, has_refusal}
use Rattle.gft_top.specs.Ends.{IsReplied, at_end, at_quit, IsReadPast, IsAnswered, IsBegun, IsBroken, EndWithin, IsReadTo}
use Rattle.gft_top.specs.Turns.{IsHeldUp}
use Rattle.gft_top.proofs.ToldLemmas.{nothing_told, both_told, then_same, then_part}

-- the first lines of an input were replied to, and the others are still to be cut
pub record IsGoing (input : List ℕ) (refused now : Bool) (place : Place) (left held holds : Option (List ℕ)) : Type 0 where
  pub bytes : List ℕ
  pub pends : Pends place left bytes
  pub done : List ℕ
  pub whole : input ≡ done ++ bytes
  pub size : length done ≡ place.passed
  pub first : List (List ℕ)
  pub lines : lines_of input ≡ first ++ lines_of bytes
  pub ended : bytes ≢ [] → (more : List ℕ) → ended_lines (done ++ more) ≡ first ++ ended_lines more
  pub replied : IsReplied first false held holds
  pub flag : now ≡ (refused || has_refusal replied.replies)

or_false : (b : Bool) → (b || false) ≡ b
or_false true = refl
or_false false = refl

or_assoc : (a b c : Bool) → ((a || b) || c) ≡ (a || (b || c))
or_assoc true b c = refl
or_assoc false b c = refl

pub bytes_of-append : (xs ys : List Reply) → bytes_of (xs ++ ys) ≡ bytes_of xs ++ bytes_of ys
bytes_of-append xs ys = flat_map-append (λ (r : Reply). r.text) xs ys

pub has_refusal-append : (xs ys : List Reply) → has_refusal (xs ++ ys) ≡ (has_refusal xs || has_refusal ys)
has_refusal-append xs ys = list_any-append (λ (r : Reply). r.refused) xs ys

bytes_of-one_more : (replies : List Reply) (reply : Reply) → bytes_of (replies ++ reply ∷ []) ≡ bytes_of replies ++ reply.text
bytes_of-one_more replies reply = bytes_of-append replies (reply ∷ []) ∙ ap (λ t. bytes_of replies ++ t) (append-nil reply.text)

has_refusal-one_more : (replies : List Reply) (reply : Reply) → has_refusal (replies ++ reply ∷ []) ≡ (has_refusal replies || reply.refused)
has_refusal-one_more replies reply = has_refusal-append replies (reply ∷ []) ∙ ap (λ b. has_refusal replies || b) (or_false reply.refused)

read_out : (new : Place) (left : Option (List ℕ)) → Pends new left [] → left ≡ Some []
read_out new None p = absurd p
read_out new (Some []) p = refl
read_out new (Some (b ∷ bs)) p = absurd (omega (arith, ap length p.2 ∙ length-append p.0 (b ∷ bs)))

-- nothing is left of nothing
parts_nil : (xs ys : List ℕ) → xs ++ ys ≡ [] → (xs ≡ []) × (ys ≡ [])
parts_nil [] ys e = (refl, e)
parts_nil (x ∷ xs) ys e = cc

-- at the start
pub going_start : (input : List ℕ) (refused : Bool) (left held : Option (List ℕ)) → left ≡ Some input → IsGoing input refused refused start left held held
going_start input refused left held e = record {
  bytes = input;
  pends = subst (λ (o : Option (List ℕ)). Pends start o input) (sym e) (Pends-start input);
  done = [];
  whole = refl;
  size = refl;
  first = [];
  lines = refl;
  ended = λ some more. refl;
  replied = record { replies = []; are = none; written = nothing_told held };
  flag = sym (or_false refused);
}

-- one more reply, which may end the session
are_one_more : (line : List ℕ) (reply : Reply) (quit : Bool) → reply.quit ≡ quit → IsReply line reply → AreReplies (line ∷ []) (reply ∷ []) quit
are_one_more line reply true e r = last r e
are_one_more line reply false e r = next r e none

are_more : (lines : List (List ℕ)) (line : List ℕ) (replies : List Reply) (reply : Reply) (quit : Bool)
    → AreReplies lines replies false → reply.quit ≡ quit → IsReply line reply → AreReplies (lines ++ line ∷ []) (replies ++ reply ∷ []) quit
are_more [] line [] reply quit h e r = are_one_more line reply quit e r
are_more [] line (p ∷ ps) reply quit h e r = elim h [ ]
are_more (l ∷ ls) line [] reply quit h e r = elim h [ ]
are_more (l ∷ ls) line (p ∷ ps) reply quit (next q n h) e r = next q n (are_more ls line ps reply quit h e r)

module _ (input : List ℕ) (refused now : Bool) (old : Place) (left held holds : Option (List ℕ)) (g : IsGoing input refused now old left held holds) where
  lines_more : (new : Place) (left' : Option (List ℕ)) → Passes old new left' g.bytes
      → lines_of input ≡ (g.first ++ first_line g.bytes ∷ []) ++ lines_of (after_line g.bytes)
  lines_more new left' p = g.lines ∙ ap (λ t. g.first ++ t) p.lines ∙ sym (append_assoc g.first (first_line g.bytes ∷ []) (lines_of (after_line g.bytes)))

  -- the line's reply is written too
  replied_more : (holds' : Option (List ℕ)) (reply : Reply) (quit : Bool) → reply.quit ≡ quit → IsReply (first_line g.bytes) reply → Told (Appends reply.text) holds holds'
      → IsReplied (g.first ++ first_line g.bytes ∷ []) quit held holds'
  replied_more holds' reply quit e r w =
      let h = g.replied in
      record {
        replies = h.replies ++ reply ∷ [];
        are = are_more g.first (first_line g.bytes) h.replies reply quit h.are e r;
        written = subst (λ (t : List ℕ). Told (Appends t) held holds') (sym (bytes_of-one_more h.replies reply)) (both_told (bytes_of h.replies) reply.text held holds holds' h.written w);
      }

  flag_more : (after : Bool) (reply : Reply) → after ≡ (now || reply.refused) → after ≡ (refused || has_refusal (g.replied.replies ++ reply ∷ []))
  flag_more after reply e =
      let h = g.replied in
      e ∙ ap (λ b. b || reply.refused) g.flag ∙ or_assoc refused (has_refusal h.replies) reply.refused ∙ ap (λ b. refused || b) (sym (has_refusal-one_more h.replies reply))

  -- what the line's end says of the lines that end there
  ended_more : (new : Place) (left' : Option (List ℕ)) → Passes old new left' g.bytes → after_line g.bytes ≢ [] → (more : List ℕ)
      → ended_lines ((g.done ++ (first_part g.bytes).front) ++ more) ≡ (g.first ++ first_line g.bytes ∷ []) ++ ended_lines more
  ended_more new left' p some more =
      let f = first_part g.bytes in
      ap ended_lines (append_assoc g.done f.front more) ∙ g.ended p.begins (f.front ++ more) ∙ ap (λ t. g.first ++ t) (f.ended some more)
      ∙ sym (append_assoc g.first (first_line g.bytes ∷ []) (ended_lines more))

  whole_more : input ≡ (g.done ++ (first_part g.bytes).front) ++ after_line g.bytes
  whole_more =
      let f = first_part g.bytes in
      g.whole ∙ ap (λ t. g.done ++ t) f.whole ∙ sym (append_assoc g.done f.front (after_line g.bytes))

  size_more : (new : Place) (left' : Option (List ℕ)) → Passes old new left' g.bytes → length (g.done ++ (first_part g.bytes).front) ≡ new.passed
  size_more new left' p =
      let f = first_part g.bytes in
      omega (arith, length-append g.done f.front, g.size, f.size, p.passed)

  -- one more line
  pub going_on : (after : Bool) (new : Place) (left' holds' : Option (List ℕ)) (reply : Reply)
      → Passes old new left' g.bytes → IsReply (first_line g.bytes) reply → reply.quit ≡ false → after ≡ (now || reply.refused) → Told (Appends reply.text) holds holds'
      → IsGoing input refused after new left' held holds'
  unfolding replied_more
  going_on after new left' holds' reply p r q e w =
      let f = first_part g.bytes in
      record {
        bytes = after_line g.bytes;
        pends = p.rest;
        done = g.done ++ f.front;
        whole = whole_more;
        size = size_more new left' p;
        first = g.first ++ first_line g.bytes ∷ [];
        lines = lines_more new left' p;
        ended = ended_more new left' p;
        replied = replied_more holds' reply false q r w;
        flag = flag_more after reply e;
      }

  stopped : (holds' : Option (List ℕ)) → Told Same holds holds' → IsReplied g.first false held holds'
  stopped holds' s = record { replies = g.replied.replies; are = g.replied.are; written = then_same (bytes_of g.replied.replies) held holds holds' g.replied.written s }

  all_lines : g.bytes ≡ [] → g.first ≡ lines_of input
  all_lines e = sym (g.lines ∙ ap (λ (bytes : List ℕ). g.first ++ lines_of bytes) e ∙ append-nil g.first)

  -- at the end of the input
  pub going_end : (new : Place) (left' holds' : Option (List ℕ)) (b : Bool) → g.bytes ≡ [] → Pends new left' [] → old.passed ≤ input_limit
      → Told Same holds holds' → now ≡ b → IsAnswered input refused held holds' left' b
  going_end new left' holds' b e p w s f = record {
    lines = lines_of input;
    quit = false;
    read = at_end (read_out new left' p) (let l : length g.bytes ≡ 0 = ap length e in omega (arith, l, ap length g.whole, length-append g.done g.bytes, g.size, w));
    replied = record {
      replies = g.replied.replies;
      are = subst (λ (ls : List (List ℕ)). AreReplies ls g.replied.replies false) (all_lines e) g.replied.are;
      written = then_same (bytes_of g.replied.replies) held holds holds' g.replied.written s;
    };
    flag = sym g.flag ∙ f;
  }

  -- where the line is the last, or a newline ended it
  ends_past : (new : Place) (left' : Option (List ℕ)) (ahead rest bytes : List ℕ) → Passes old new left' g.bytes → after_line g.bytes ≡ bytes → bytes ≡ ahead ++ rest
      → EndWithin (g.done ++ (first_part g.bytes).front) (ahead ++ rest) (g.first ++ first_line g.bytes ∷ [])
  ends_past new left' ahead rest [] p e h =
      inr (
        sym h,
        sym (append-nil (g.first ++ first_line g.bytes ∷ [])) ∙ ap (λ (t : List ℕ). (g.first ++ first_line g.bytes ∷ []) ++ lines_of t) (sym e) ∙ sym (lines_more new left' p)
            ∙ ap lines_of (whole_more ∙ ap (λ t. (g.done ++ (first_part g.bytes).front) ++ t) e ∙ append-nil (g.done ++ (first_part g.bytes).front)),
      )
  ends_past new left' ahead rest (b ∷ bytes) p e h =
      let passed = g.done ++ (first_part g.bytes).front in
      let all = ended_more new left' p (λ z. cc) [] in
      inl (sym (ap ended_lines (sym (append-nil passed)) ∙ all ∙ append-nil (g.first ++ first_line g.bytes ∷ [])))

  read_past : (new : Place) (left' : Option (List ℕ)) → Passes old new left' g.bytes → IsReadPast input left' (g.first ++ first_line g.bytes ∷ [])
  read_past new None p = absurd p.rest
  read_past new (Some rest) p =
      let ahead = p.rest.0 in
      record {
        passed = g.done ++ (first_part g.bytes).front;
        ahead = ahead;
        rest = rest;
        whole = whole_more ∙ ap (λ t. (g.done ++ (first_part g.bytes).front) ++ t) p.rest.2;
        remains = refl;
        within = omega (arith, size_more new (Some rest) p, p.passed, p.within);
        end = ends_past new (Some rest) ahead rest (after_line g.bytes) p refl p.rest.2;
      }

  -- where the reply ends the session
  pub going_quit : (b : Bool) (new : Place) (left' holds' : Option (List ℕ)) (reply : Reply)
      → Passes old new left' g.bytes → IsReply (first_line g.bytes) reply → reply.quit ≡ true → (now || reply.refused) ≡ b → Told (Appends reply.text) holds holds'
      → IsAnswered input refused held holds' left' b
  unfolding replied_more
  going_quit b new left' holds' reply p r q e w = record {
    lines = g.first ++ first_line g.bytes ∷ [];
    quit = true;
    read = at_quit (lines_of (after_line g.bytes)) (lines_more new left' p) (read_past new left' p);
    replied = replied_more holds' reply true q r w;
    flag = sym (flag_more b reply (sym e));
  }

  -- where memory ran out
  pub going_stop : (holds' : Option (List ℕ)) → Told Same holds holds' → IsBegun input held holds'
  going_stop holds' s = record { first = g.first; others = lines_of g.bytes; lines = g.lines; replied = stopped holds' s }

  -- where the next line ends past the limit
  pub going_late : (holds' : Option (List ℕ)) → old.passed ≤ input_limit → input_limit < old.passed + line_size g.bytes → Told Same holds holds'
      → (input_limit < length input) × IsReplied (ended_lines (take input_limit input)) false held holds'
  going_late holds' w h s =
      let n = input_limit - old.passed in
      let at : input_limit ≡ length g.done + n = omega (arith, g.size, w) in
      let cut : take input_limit input ≡ g.done ++ take n g.bytes =
      ap (take input_limit) g.whole ∙ ap (λ k. take k (g.done ++ g.bytes)) at ∙ take-append-add g.done g.bytes n in
      let some : g.bytes ≢ [] = λ e. absurd (omega (arith, ap line_size e, w, h)) in
      let short = ended_lines-short n g.bytes (omega (arith, w, h)) in
      let same : g.first ≡ ended_lines (take input_limit input) =
      sym (ap ended_lines cut ∙ g.ended some (take n g.bytes) ∙ ap (λ t. g.first ++ t) short ∙ append-nil g.first) in (
        omega (arith, h, length-line_size g.bytes, ap length g.whole, length-append g.done g.bytes, g.size),
        subst (λ (ls : List (List ℕ)). IsReplied ls false held holds') same (stopped holds' s),
      )

  ends_within : (taken rest bytes : List ℕ) → g.bytes ≡ bytes → bytes ≡ taken ++ rest → HasNoNewline taken → EndWithin (g.done ++ taken) rest g.first
  ends_within taken rest [] e p u =
      let parts = parts_nil taken rest (sym p) in
      inr (parts.1, all_lines e ∙ ap lines_of (g.whole ∙ ap (λ t. g.done ++ t) (e ∙ sym parts.0)))
  ends_within taken rest (b ∷ bytes) e p u =
      inl (sym (g.ended (λ z. cc) taken ∙ ap (λ t. g.first ++ t) (ended_lines-none taken u) ∙ append-nil g.first))

  read_to : (new : Place) (left' : Option (List ℕ)) → IsHeldUp old new left' g.bytes → IsReadTo input left' g.first
  read_to new None h = absurd h.pends
  read_to new (Some rest) h =
      let p = h.pends in
      let held = p.1 in
      let unended : HasNoNewline p.0 = subst (λ (t : List ℕ). HasNoNewline t) (sym held.3) (none-append held.0 (kept new) held.1 h.unended) in
      let all : new.passed + new.skipped + length new.begun + length new.ahead ≤ input_limit = h.within in
      let size = ap length held.3 in
      record {
        taken = g.done ++ p.0;
        rest = rest;
        whole = g.whole ∙ ap (λ t. g.done ++ t) p.2 ∙ sym (append_assoc g.done p.0 rest);
        remains = refl;
        within = omega (arith, length-append g.done p.0, g.size, h.passed, all, size, held.2, length-append held.0 (kept new), length-append new.begun new.ahead);
        end = ends_within p.0 rest g.bytes refl p.2 unended;
      }

  -- where the source failed
  pub going_failed : (new : Place) (left' holds' : Option (List ℕ)) → IsHeldUp old new left' g.bytes → Told Same holds holds'
      → (lines : List (List ℕ)) × IsReadTo input left' lines × IsReplied lines false held holds'
  going_failed new left' holds' h s = (g.first, read_to new left' h, stopped holds' s)

  -- where the sink failed
  pub going_broken : (new : Place) (left' holds' : Option (List ℕ)) (reply : Reply) → Passes old new left' g.bytes → IsReply (first_line g.bytes) reply
      → Told (AppendsPart reply.text) holds holds' → IsBroken input held holds'
  going_broken new left' holds' reply p r w = record {
    first = g.first ++ first_line g.bytes ∷ [];
    others = lines_of (after_line g.bytes);
    lines = lines_more new left' p;
    replies = g.replied.replies;
    last = reply;
    quit = reply.quit;
    are = are_more g.first (first_line g.bytes) g.replied.replies reply reply.quit g.replied.are refl r;
    written = then_part (bytes_of g.replied.replies) reply.text held holds holds' g.replied.written w;
  }
