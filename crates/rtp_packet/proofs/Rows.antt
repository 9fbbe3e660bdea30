-- The definitions on worked examples, by computing.
use Rattle.std.proofs.Common.{◌≡◌, ℕ, List, [], ◌∷◌, ◌++◌, Some, None, refl}
use Rattle.std.specs.Prelude.{replicate, take}
use Rattle.rtp_packet.specs.declared.RtpFault.TheVariants.{Short, Version, ShortSources, ShortExtension, BadPadding}
use Rattle.rtp_packet.specs.Fault.{fault}
use Rattle.rtp_packet.specs.Read.{padding_len, parts_of}

-- 15 sources, an extension without words, a payload of one octet, and the last octet
abbrev full : ℕ → ℕ → List ℕ
full first last = first ∷ 8 ∷ (replicate 74 0 ++ 0xD5 ∷ last ∷ [])

-- padding of one octet, and the payload before it
full_header-read : (parts_of (full 0xBF 1)).payload ≡ 0xD5 ∷ []
unfolding parts_of padding_len
full_header-read = refl

-- padding of one octet is right, and so is padding of two, with no payload
full_header-right : (fault (full 0xBF 1) ≡ None) × (fault (full 0xBF 2) ≡ None)
full_header-right = (refl, refl)

-- padding of no octet, and of more than follow the header
full_header-padding : (fault (full 0xBF 0) ≡ Some BadPadding) × (fault (full 0xBF 3) ≡ Some BadPadding)
full_header-padding = (refl, refl)

-- version 1
full_header-version : fault (full 0x7F 3) ≡ Some Version
full_header-version = refl

-- the full header, cut to each length at which the fault changes
header_cut : (fault (take 11 (full 0xBF 1)) ≡ Some Short) × (fault (take 12 (full 0xBF 1)) ≡ Some ShortSources)
    × (fault (take 71 (full 0xBF 1)) ≡ Some ShortSources) × (fault (take 72 (full 0xBF 1)) ≡ Some ShortExtension)
    × (fault (take 75 (full 0xBF 1)) ≡ Some ShortExtension) × (fault (take 76 (full 0xBF 1)) ≡ Some BadPadding)
    × (fault (take 77 (full 0xBF 1)) ≡ Some BadPadding)
header_cut = (refl, refl, refl, refl, refl, refl, refl)
