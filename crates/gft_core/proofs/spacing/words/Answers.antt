use Rattle.std.proofs.Common.{◌∷◌, ◌++◌, [], sym, ap, ◌∙◌, append_assoc, append-nil}
use Rattle.std.specs.Str.Iter.{split_whitespace_rest}
use Rattle.gft_core.specs.Words.{words_of}
use Rattle.gft_core.proofs.WordLemmas.{IsTurn, turn, no_words}
use Rattle.gft_core.proofs.spacing.words.Goals as goal
use Rattle.gft_core.proofs.spacing.words.Goals.{In-Some}

-- this turn's word
turn_here : (c : In-Some) → IsTurn (split_whitespace_rest c.loop-word.word-iterator) c.in-Some.word.now (split_whitespace_rest c.next.new.self)
turn_here c =
    let h = c.in-Some.ensures.steps in
    turn _ _ _ h.0 h.5.0 c.loop-word.invariant.2 h.1 h.2 h.3 h.4 h.5.1

pub from_word-requires : goal.from_word-requires
from_word-requires c = (turn_here (goal.at.from_word-requires c).In-Some).is_word

pub loop-word-preserved : goal.loop-word-preserved
loop-word-preserved c =
    let t = turn_here (goal.at.loop-word-preserved c).In-Some in
    let added = c.in_ok-push.ensures.items ∙ ap (λ w. c.loop-word.found.items ++ w ∷ []) c.in_ok-from_word.ensures in
    let rest = words_of (split_whitespace_rest c.next.new.self) in (
      tt,
      tt,
      t.is_text,
      ap (λ ws. ws ++ rest) added ∙ append_assoc c.loop-word.found.items (c.in-Some.word.now ∷ []) rest
          ∙ ap (λ ws. c.loop-word.found.items ++ ws) (sym t.words) ∙ c.loop-word.invariant.3,
    )

pub returns : goal.returns
returns c =
    let i = c.loop-word.invariant in
    sym (append-nil _) ∙ ap (λ ws. c.loop-word.found.items ++ ws) (sym (no_words _ i.2 c.in-None.ensures.steps.1)) ∙ i.3
