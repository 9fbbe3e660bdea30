use Rattle.g726_codec.proofs.InPlace.{IsCodedTo}
use Rattle.g726_codec.proofs.encoder.Encoder.encode_all.Given as goal

-- the octets up to the index are coded, the others are unchanged
abbrev pub invariant-loop-octet : goal.invariant-loop-octet
invariant-loop-octet g l =
    IsCodedTo g.R.Rate.tables l.law l.initial.self l.self l.fn.octets l.octets l.octet-index
