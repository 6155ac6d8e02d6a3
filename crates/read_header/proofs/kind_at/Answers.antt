use borrow.Author.Rules.{rules}
use Rattle.read_header.specs.HeaderAnswers.{kind_answer}
use Rattle.read_header.proofs.HeaderCases.{kind_short, no_colon, no_stop, kind_letter_lem}
use Rattle.read_header.proofs.kind_at.Goals as goal

pub returns-in-58 : goal.returns-in-58
returns-in-58 c = rw (kind_letter_lem c.args.s.now c.in-58.len_at_least (search rules) (search rules)) c.kind_of.ensures

pub returns-in_default : goal.returns-in_default
unfolding kind_answer
returns-in_default c = rw (kind_short c.args.s.now c.in_default.len_below)

pub returns-in_default-2 : goal.returns-in_default-2
unfolding kind_answer
returns-in_default-2 c = rw (no_stop c.args.s.now c.in_default.len_at_least (search rules))

pub returns-in_default-3 : goal.returns-in_default-3
unfolding kind_answer
returns-in_default-3 c = rw (no_colon c.args.s.now c.in_default.len_at_least (search rules))
