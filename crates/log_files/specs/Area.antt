-- An area of fixed size: a head of 24 octets, and behind it the octets that the head counts.
use Rattle.std.specs.Prelude.{◌≡◌, ◌<◌, ◌^◌, ℕ, List, [], ◌∷◌, ◌++◌, length, take}
use Rattle.std.specs.List.{All}
use Rattle.byteorder.specs.Endian.{big_bytes}
use Rattle.log_files.specs.Adler.{adler}

-- the letters E1GL
abbrev pub mark : List ℕ
mark = 0x45 ∷ 0x31 ∷ 0x47 ∷ 0x4C ∷ []

-- the mark, a turn, a number of octets, and their checksum
abbrev pub counts : ℕ → ℕ → ℕ → List ℕ
counts turn len sum = mark ++ (big_bytes 8 turn ++ (big_bytes 4 len ++ big_bytes 4 sum))

-- .. and the checksum of these 20 octets
unfoldable pub head_of : ℕ → ℕ → ℕ → List ℕ
head_of turn len sum = counts turn len sum ++ big_bytes 4 (adler (counts turn len sum))

-- the head of octets that are written in this turn
abbrev pub head : ℕ → List ℕ → List ℕ
head turn octets = head_of turn (length octets) (adler octets)

-- These octets were written to an area in this turn, whatever is behind them.
pub record IsArea (content : List ℕ) (turn : ℕ) (octets : List ℕ) : Type 0 where
  pub behind : List ℕ
  pub content_is : content ≡ head turn octets ++ (octets ++ behind)
  pub turn_fits : turn < 2 ^ 64
  pub len_fits : length octets < 2 ^ 32

-- to an area nothing was written, or not all
abbrev pub IsNoArea : List ℕ → Type 0
IsNoArea content = (turn : ℕ) (octets : List ℕ) → ¬ IsArea content turn octets

-- octets begin with a head that says this
pub record HasHead (content : List ℕ) (turn len sum : ℕ) : Type 0 where
  pub behind : List ℕ
  pub content_is : content ≡ head_of turn len sum ++ behind
  pub turn_fits : turn < 2 ^ 64
  pub len_fits : len < 2 ^ 32
  pub sum_fits : sum < 2 ^ 32

-- the octets where a head would be are all zero
abbrev pub IsBlank : List ℕ → Type 0
IsBlank content = All (λ octet. octet ≡ 0) (take 24 content)

-- These octets are the first ones of a content, and have what was written to its area: its head, and what
-- this says is behind.
pub record HasAreaOf (content octets : List ℕ) : Type 0 where
  pub behind : List ℕ
  pub content_is : content ≡ octets ++ behind
  pub area : (turn : ℕ) (written : List ℕ) → IsArea content turn written → IsArea octets turn written
