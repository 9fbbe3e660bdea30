-- The submultiframes of a stream that begins with one, and its octets by place.
use Rattle.std.specs.Prelude.{ℕ, ◌+◌, ◌*◌, List, [], ◌∷◌, take, drop}

-- Octets from this place, each changed by its place.
unfoldable pub each_at : (ℕ → ℕ → ℕ) → ℕ → List ℕ → List ℕ
each_at change place [] = []
each_at change place (octet ∷ octets) = change place octet ∷ each_at change (place + 1) octets

-- The submultiframe with this number, as far as it is complete: eight frames of 32 octets.
unfoldable pub submultiframe : ℕ → List ℕ → List ℕ
submultiframe number octets = take 256 (drop (256 * number) octets)
