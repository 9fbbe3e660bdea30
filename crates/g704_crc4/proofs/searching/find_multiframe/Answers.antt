use Rattle.g704_crc4.proofs.Common.{cases_lt, rules}
use Rattle.g704_crc4.proofs.NotFound.{none-past}
use Rattle.g704_crc4.proofs.searching.find_multiframe.Goals as goal

pub returns-clause-none : goal.returns-clause-none
returns-clause-none c number = search (rules, cases_lt, none-past)
