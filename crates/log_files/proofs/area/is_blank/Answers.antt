use Rattle.std.proofs.Common.{◌≤◌, length, arith}
use Rattle.std.proofs.lemmas.List.{take_all}
use Rattle.log_files.proofs.area.is_blank.Goals as goal

pub returns-then-content-lt-HEAD_LEN-clause-no : goal.returns-then-content-lt-HEAD_LEN-clause-no
returns-then-content-lt-HEAD_LEN-clause-no c is blank =
    let short : length c.args.content.now ≤ 24 = omega arith in
    c.are_zero.ensures.no is (rw take_all at blank)

pub returns-clause-no : goal.returns-clause-no
returns-clause-no c is blank = c.are_zero-2.ensures.no is (rw c.split_at.ensures.front blank)
