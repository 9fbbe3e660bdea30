-- What contracts see of a codec.
use Rattle.e1_g711.specs.declared.Law.{Law}
use Rattle.g726_codec.specs.Codec.{Variables, at_reset}
use Rattle.g726_codec.specs.Kinds.{CodecState}
use Rattle.g726_codec.specs.declared.CodecKind.{CodecKind}
use Rattle.g726_codec.specs.declared.CodecKind.TheVariants as kinds
use Rattle.g726_codec.specs.declared.any.Codec.{Codec}
use Rattle.g726_codec.specs.declared.any.Codec.TheVariants.{G711, G16, G24, G32, G40}

-- the kind of a codec, and the variables of its encoder and its decoder. Those of G.711 stay at reset
abbrev variables_of : Codec → CodecKind × Variables × Variables
variables_of G711 = (kinds.G711, at_reset, at_reset)
variables_of (G16 encoder decoder) = (kinds.G16, encoder, decoder)
variables_of (G24 encoder decoder) = (kinds.G24, encoder, decoder)
variables_of (G32 encoder decoder) = (kinds.G32, encoder, decoder)
variables_of (G40 encoder decoder) = (kinds.G40, encoder, decoder)

abbrev pub kind_of : Codec → CodecKind
kind_of codec = (variables_of codec).0

-- a codec in a law
abbrev pub state_of : Law → Codec → CodecState
state_of law codec =
    let p = variables_of codec in record { law = law; kind = p.0; encoder = p.1; decoder = p.2 }
