-- Losing slot 16 (ITU-T G.732, 5.2), and where it was found in the octets of slots 1 to 31.
use Rattle.std.specs.Prelude.{ℕ, suc, ◌+◌, ◌-◌, ◌*◌, ◌%◌, Bool, not, ◌&&◌, ◌||◌, ◌==◌, nat_lt, is_none, List}
use Rattle.std.specs.Prelude.{slice_index}
use Rattle.g704_framing.specs.Least.{least}
use Rattle.g704_framing.specs.Alignment.{Framing}
use Rattle.g704_cas.specs.Search.{is_mfas}
use Rattle.g704_slots.specs.Search.{search}

-- none of this many octets of slot 16 behind the signal at this age has other bits 1 to 4 than the signal
unfoldable pub is_only_signal : List ℕ → ℕ → ℕ → Bool
is_only_signal octets signal count =
    is_none (least (λ later. not (is_mfas (slice_index octets (signal + 31 * suc later)))) count)

-- The octet of this age is a multiframe alignment signal in error, counted from one in slot 16: it has other
-- bits, or slot 16 had nothing else since the last one.
unfoldable pub is_wrong : List ℕ → ℕ → Bool
is_wrong octets age =
    (age % 496 == 0) && (not (is_mfas (slice_index octets age)) || is_only_signal octets (age - 496) 15)

-- it is the second in a row
abbrev pub is_second_in_error : List ℕ → ℕ → Bool
is_second_in_error octets age = nat_lt 496 age && (is_wrong octets age && is_wrong octets (age - 496))

-- Slot 16 in octets of slots 1 to 31: found with four multiframes and the signal behind them, kept by its own
-- octets, and lost by the second signal in error in a row.
abbrev pub slot_16 : Framing
slot_16 = record {
  search = λ before octets from. search octets from;
  found_at = 1984;
  period = 31;
  is_lost = is_second_in_error;
}
