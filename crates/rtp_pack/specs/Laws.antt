-- Properties of words and octets that follow from their definitions (RFC 3551, section 4.5.4).
use Rattle.std.specs.Prelude.{◌≡◌, ◌^◌, ◌<◌, ℕ, List, length}
use Rattle.std.specs.List.{All}
use Rattle.rtp_pack.specs.Payload.{IsWordSize, IsPayload, octets_of, words_of, whole_words_of}

-- the words of a payload are those that were packed into it
abbrev pub ReadsBack : Type 0
ReadsBack =
    (k : ℕ) (words : List ℕ) → IsWordSize k → IsPayload k words → words_of k (octets_of k words) ≡ words

-- octets give as many words as their bits hold
abbrev pub WordsAreCounted : Type 0
WordsAreCounted = (k : ℕ) (octets : List ℕ) → length (words_of k octets) ≡ whole_words_of k (length octets)

-- each word of octets has k bits
abbrev pub WordsFit : Type 0
WordsFit = (k : ℕ) (octets : List ℕ) → All (λ w. w < 2 ^ k) (words_of k octets)

-- the words of 8 bits in octets are the octets themselves
abbrev pub OctetsAreWords : Type 0
OctetsAreWords = (octets : List ℕ) → All (λ octet. octet < 256) octets → words_of 8 octets ≡ octets

-- words of 8 bits are packed as they are
abbrev pub WordsAreOctets : Type 0
WordsAreOctets = (words : List ℕ) → All (λ w. w < 256) words → octets_of 8 words ≡ words
