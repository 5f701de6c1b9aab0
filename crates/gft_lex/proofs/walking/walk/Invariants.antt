use Rattle.std.proofs.Common.{◌<◌, length}
use Rattle.gft_lex.specs.Steps.{HasRoom}
use Rattle.gft_lex.proofs.Walks.{Stands}
use Rattle.gft_lex.proofs.walking.walk.Given as goal

-- something is left, and with the tokens so far it is the whole file
abbrev pub invariant-lexemes : goal.invariant-lexemes
invariant-lexemes l = record {
  stands : Stands l.file l.letters l.tokens.items l.place l.rest;
  some : 0 < length l.rest;
  room : HasRoom (length l.rest) l.place;
}

abbrev pub decreases-lexemes : goal.decreases-lexemes
decreases-lexemes l = length l.rest
