-- The octets of commands and codecs in records (module `octets`).
use Rattle.std.specs.Prelude.{◌==◌, ℕ, if◌then◌else◌}
use Rattle.q421_line.specs.declared.Cmd.{Cmd}
use Rattle.q421_line.specs.declared.Cmd.TheVariants.{Seize, Clear, Answer, ClearBack, Block, Unblock}
use Rattle.g726_codec.specs.declared.CodecKind.{CodecKind}
use Rattle.g726_codec.specs.declared.CodecKind.TheVariants.{G711, G16, G24, G32, G40}

-- the command of an octet, 1 to 6
abbrev pub command_of : ℕ → Cmd
command_of octet =
    if octet == 1 then Seize else (if octet == 2 then Clear else (if octet == 3 then Answer
    else (if octet == 4 then ClearBack else (if octet == 5 then Block else Unblock))))

-- the octet of a command
abbrev pub octet_of_command : Cmd → ℕ
octet_of_command Seize = 1
octet_of_command Clear = 2
octet_of_command Answer = 3
octet_of_command ClearBack = 4
octet_of_command Block = 5
octet_of_command Unblock = 6

-- the codec of an octet, 1 to 5
abbrev pub codec_of : ℕ → CodecKind
codec_of octet =
    if octet == 1 then G711 else (if octet == 2 then G16 else (if octet == 3 then G24
    else (if octet == 4 then G32 else G40)))

-- the octet of a codec
abbrev pub octet_of_codec : CodecKind → ℕ
octet_of_codec G711 = 1
octet_of_codec G16 = 2
octet_of_codec G24 = 3
octet_of_codec G32 = 4
octet_of_codec G40 = 5
