-- What is in the lanes of a bundle.
use Rattle.std.specs.Prelude.{ℕ, ◌<◌, ◌^◌, List, take, All}
use Rattle.g726_codec.specs.Kinds.{bits_of}
use Rattle.g726_lanes.specs.Lanes.{row_at, EachLane}
use Rattle.g726_lanes.specs.declared.bundle.Bundle.{Bundle}

-- the octets in a lane, or once they are encoded their words, and the other way round for decoders
abbrev pub lane_octets : Bundle → ℕ → List ℕ
lane_octets b k = take b.count (row_at b.octets k)

-- the words that were decoded in a lane
abbrev pub lane_words : Bundle → ℕ → List ℕ
lane_words b k = take b.count (row_at b.words k)

-- the numbers in each lane are words of the bundle's kind
abbrev pub AllFit : Bundle → Type 0
AllFit b = EachLane (λ k. All (λ word. word < 2 ^ bits_of b.kind) (lane_octets b k))
