-- `put_line` writes a word, its numbers and a line feed.
-- The idea: three writings one behind the other are one.
use Rattle.lines.proofs.Texts.{written_one, written_on}
use Rattle.lines.proofs.lines.put_line.Goals as goal

pub returns-clause-written : goal.returns-clause-written
returns-clause-written c =
    let w = c.put_word-behind_word.ensures in
    let v = c.put_numbers-end in
    written_on (written_on w v.ensures) (written_one v.new.out v.result 10)
