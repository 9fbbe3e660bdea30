-- Octets of commands and codecs, there and back.
use Rattle.gw_records.proofs.Common.{◌≡◌, ◌≤◌, ℕ, arith, nat_tests, command_of, octet_of_command, codec_of, rules}
use Rattle.gw_records.proofs.Common.{octet_of_codec}
use Rattle.q421_line.specs.declared.Cmd.{Cmd}
use Rattle.g726_codec.specs.declared.CodecKind.{CodecKind}

-- the octet of a command is read as this command
pub command_again : (command : Cmd) → command_of (octet_of_command command) ≡ command
command_again command = search rules

-- the octet of a codec is read as this codec
pub codec_again : (codec : CodecKind) → codec_of (octet_of_codec codec) ≡ codec
codec_again codec = search rules

-- an octet from 1 to 6 is that of its command
pub octet_of_command_again : (n : ℕ) → 1 ≤ n → n ≤ 6 → octet_of_command (command_of n) ≡ n
octet_of_command_again n p q = grind (arith, nat_tests)

-- an octet from 1 to 5 is that of its codec
pub octet_of_codec_again : (n : ℕ) → 1 ≤ n → n ≤ 5 → octet_of_codec (codec_of n) ≡ n
octet_of_codec_again n p q = grind (arith, nat_tests)
