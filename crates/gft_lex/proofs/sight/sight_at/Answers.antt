use Rattle.std.proofs.Common.{◌≡◌, sym, subst, rules}
use Rattle.gft_lex.specs.Sights.{sight_of, IsWithin}
use Rattle.gft_lex.proofs.Seen.{sight_within}
use Rattle.gft_lex.proofs.sight.sight_at.Goals as goal

pub returns-in-Some-comment-clause-within : goal.returns-in-Some-comment-clause-within
returns-in-Some-comment-clause-within c =
    let e : c.in-Some-comment.comment ≡ sight_of c.args.letters.now = search rules in
    subst (IsWithin c.args.letters.now) (sym e) (sight_within c.args.letters.now)

pub returns-clause-within : goal.returns-clause-within
returns-clause-within c =
    let e : c.token.result ≡ sight_of c.args.letters.now = search rules in
    subst (IsWithin c.args.letters.now) (sym e) (sight_within c.args.letters.now)
