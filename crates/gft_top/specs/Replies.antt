-- The replies of a session, and how they follow each other.
use Rattle.std.specs.Prelude.{◌≡◌, ℕ, ◌<◌, ◌≤◌, Bool, true, false, List, [], ◌∷◌, ◌++◌, length, codes}
use Rattle.std.specs.List.{list_any, flat_map}
use Rattle.gft_io.specs.Lines.{line_limit}

-- what is written for an import or a line, whether a refusal is in it, and whether the session ends with it
pub record Reply : Type 0 where
  pub text : List ℕ
  pub refused : Bool
  pub quit : Bool

-- the reply to a line over its limit
abbrev pub too_long : Reply
too_long = record { text = codes "refused LineTooLong" ++ 10 ∷ []; refused = true; quit = false }

-- the reply to a line: that of a step of the session, but for a line over its limit, which is no step
pub data IsReply (line : List ℕ) : Reply → Type 0 where
  skipped : line_limit < length line → IsReply line too_long
  stepped : {reply : Reply} → length line ≤ line_limit → IsReply line reply

-- the replies to lines, one after the other, and whether the last one ends the session, as no other does
pub data AreReplies : List (List ℕ) → List Reply → Bool → Type 0 where
  none : AreReplies [] [] false
  last : {line : List ℕ} {reply : Reply} → IsReply line reply → reply.quit ≡ true → AreReplies (line ∷ []) (reply ∷ []) true
  next : {line : List ℕ} {lines : List (List ℕ)} {reply : Reply} {replies : List Reply} {quit : Bool} → IsReply line reply
      → reply.quit ≡ false → AreReplies lines replies quit → AreReplies (line ∷ lines) (reply ∷ replies) quit

-- the replies before the first line: that of the import, where there are files
abbrev pub Begins : List (List ℕ) → List Reply → Type 0
Begins [] replies = replies ≡ []
Begins (file ∷ files) replies = (imported : Reply) × (replies ≡ imported ∷ [])

-- the bytes of replies
abbrev pub bytes_of : List Reply → List ℕ
bytes_of replies = flat_map (λ reply. reply.text) replies

-- whether some reply holds a refusal
abbrev pub has_refusal : List Reply → Bool
has_refusal replies = list_any (λ reply. reply.refused) replies
