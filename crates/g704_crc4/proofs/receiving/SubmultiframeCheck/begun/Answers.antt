use Rattle.g704_crc4.proofs.Common.{length_push, rules}
use Rattle.g704_crc4.proofs.Followings.{begins}
use Rattle.g704_crc4.proofs.Searched.{next-few}
use Rattle.g704_crc4.proofs.receiving.SubmultiframeCheck.begun.Goals as goal

pub returns : goal.returns
returns c octets l e = search (rules, begins, next-few, length_push)
