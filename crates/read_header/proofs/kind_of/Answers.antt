use borrow.Author.Rules.{rules}
use Rattle.read_header.specs.HeaderAnswers.{kind_of, kind_answer}
use Rattle.read_header.proofs.HeaderCases.{no_letter}
use Rattle.read_header.proofs.kind_of.Goals as goal

pub returns-in-99 : goal.returns-in-99
unfolding kind_of kind_answer
returns-in-99 c = rw c.in-99.is

pub returns-in-103 : goal.returns-in-103
unfolding kind_of kind_answer
returns-in-103 c = rw c.in-103.is

pub returns-in-109 : goal.returns-in-109
unfolding kind_of kind_answer
returns-in-109 c = rw c.in-109.is

pub returns-in-110 : goal.returns-in-110
unfolding kind_of kind_answer
returns-in-110 c = rw c.in-110.is

pub returns-in-112 : goal.returns-in-112
unfolding kind_of kind_answer
returns-in-112 c = rw c.in-112.is

pub returns-in-114 : goal.returns-in-114
unfolding kind_of kind_answer
returns-in-114 c = rw c.in-114.is

pub returns-in_default : goal.returns-in_default
unfolding kind_answer
returns-in_default c = rw (no_letter c.args.letter (search rules) (search rules) (search rules) (search rules) (search rules) (search rules))
