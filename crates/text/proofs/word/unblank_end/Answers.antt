use Rattle.std.proofs.Common.{◌∙◌, rules}
use Rattle.text.proofs.Blanks.{ends_at_last, blanks_alone}
use Rattle.text.proofs.word.unblank_end.Goals as goal

pub returns-in-Some : goal.returns-in-Some
returns-in-Some c = c.split_at.ensures.front ∙ ends_at_last c.args.line.now c.in-Some.last (search rules) (search rules) (search rules)

pub returns-in-None : goal.returns-in-None
returns-in-None c = blanks_alone c.args.line.now (search rules)
