-- The names of codecs, in configurations, listings and command lines (RFC 3551 has them in capitals).
use Rattle.std.specs.Prelude.{ℕ, List, [], ◌∷◌, Option, find, codes}
use Rattle.std.specs.Str.{bytes_eq}
use Rattle.e1_g711.specs.declared.Law.{Law}
use Rattle.e1_g711.specs.declared.Law.TheVariants.{A, Mu}
use Rattle.g726_codec.specs.declared.CodecKind.{CodecKind}
use Rattle.g726_codec.specs.declared.CodecKind.TheVariants as kinds
use Rattle.g726_codec.specs.declared.names.CodecName.{CodecName}
use Rattle.g726_codec.specs.declared.names.CodecName.TheVariants.{Pcma, Pcmu, G16, G24, G32, G40}

-- the text of a name
abbrev pub text_of : CodecName → List ℕ
text_of Pcma = codes "pcma"
text_of Pcmu = codes "pcmu"
text_of G16 = codes "g726-16"
text_of G24 = codes "g726-24"
text_of G32 = codes "g726-32"
text_of G40 = codes "g726-40"

-- the name with this text, if there is one
abbrev pub codec_named : List ℕ → Option CodecName
codec_named text = find (λ name. bytes_eq text (text_of name)) (Pcma ∷ Pcmu ∷ G16 ∷ G24 ∷ G32 ∷ G40 ∷ [])

-- the name of a codec on a trunk of a law
abbrev pub name_of : Law → CodecKind → CodecName
name_of A kinds.G711 = Pcma
name_of Mu kinds.G711 = Pcmu
name_of _ kinds.G16 = G16
name_of _ kinds.G24 = G24
name_of _ kinds.G32 = G32
name_of _ kinds.G40 = G40

-- the kind of the named codec
abbrev pub kind_of : CodecName → CodecKind
kind_of Pcma = kinds.G711
kind_of Pcmu = kinds.G711
kind_of G16 = kinds.G16
kind_of G24 = kinds.G24
kind_of G32 = kinds.G32
kind_of G40 = kinds.G40
