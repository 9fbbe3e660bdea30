-- The octets of a saved adaptation. Y is not among them: it is computed from the others.
use Rattle.std.specs.Prelude.{ℕ, ℤ, pos, ◌≤ℤ◌, List, [], ◌∷◌, ◌++◌, unsigned_abs}
use Rattle.saved_octets.specs.Numbers.{flag_octet, two_octets, four_octets}
use Rattle.g726_tone.specs.Adaptation.{Adaptation}

-- YU and YL, which are never negative
abbrev pub saved_scales : ℤ → ℤ → List ℕ
saved_scales yu yl = two_octets (unsigned_abs yu) ++ four_octets (unsigned_abs yl)

-- DMS, DML and AP, which are never negative
abbrev pub saved_speeds : ℤ → ℤ → ℤ → List ℕ
saved_speeds dms dml ap =
    two_octets (unsigned_abs dms) ++ two_octets (unsigned_abs dml) ++ two_octets (unsigned_abs ap)

unfoldable pub saved_adaptation : Adaptation → List ℕ
saved_adaptation s = saved_scales s.yu s.yl ++ saved_speeds s.dms s.dml s.ap ++ flag_octet s.td ∷ []

-- the ranges of YU and YL
abbrev pub AreScales : ℤ → ℤ → Type 0
AreScales yu yl = (pos 544 ≤ℤ yu) × (yu ≤ℤ pos 5120) × (pos 34816 ≤ℤ yl) × (yl ≤ℤ pos 327680)

-- the ranges of DMS, DML and AP
abbrev pub AreSpeeds : ℤ → ℤ → ℤ → Type 0
AreSpeeds dms dml ap =
    (pos 0 ≤ℤ dms) × (dms ≤ℤ pos 3584) × (pos 0 ≤ℤ dml) × (dml ≤ℤ pos 14336) × (pos 0 ≤ℤ ap) × (ap ≤ℤ pos 512)
