-- What clients are sent.
use Rattle.std.proofs.Common.{◌≡◌, ◌≤◌, ◌<◌, ◌++◌, ◌∷◌, ℕ, List, [], length, drop, take, refl, arith, false, ◌==◌, ◌∙◌}
use Rattle.std.proofs.Common.{◌+◌, ◌-◌, ap, sym, append_assoc, length-append, length-drop}
use Rattle.std.proofs.lemmas.List.{length-take-le}
use Rattle.std.proofs.Math.Seq.{drop-append_seam, take-append_seam}
use Rattle.gw_switch.specs.declared.gateway.Gateway.{Gateway}
use Rattle.gw_records.specs.Records.{Record}
use Rattle.gw_tell.specs.declared.teller.Teller.{Teller}
use Rattle.gw_tell.specs.declared.gateway_status.GatewayStatus.{GatewayStatus}
use Rattle.gw_tell.specs.Lines.{at_line, event_line}
use Rattle.gw_tell.specs.Reports.{sent_to, last_after, Shows, Changes, IsStatusOf, are_due, place_after}
use Rattle.gw_tell.specs.Clients.{AllAreTold}
use Rattle.gw_tell.specs.Telling.{TellsChanges}
use Rattle.gw_tell.proofs.Reporting.{changes_go_behind}

-- Some lines are sent behind the place to a client whose last place is another.
pub sent_behind : (last place : ℕ) (lines : List ℕ) → (last == place) ≡ false → 0 < length lines
    → (sent_to last place lines ≡ at_line place ++ lines) × (last_after last place lines ≡ place)
sent_behind last place [] other some = absurd (omega arith)
sent_behind last place (x ∷ lines) other some = (rw other refl, refl)

-- What goes behind the line of a place: that line is the front of the text.
pub front_is : (line pushed report text : List ℕ) (front : ℕ) → pushed ≡ line → front ≡ length pushed
    → text ≡ report → (lines : List ℕ) × (report ≡ pushed ++ lines)
    → (front ≤ length text) × (take front text ≡ line) × (report ≡ line ++ drop front text)
front_is line pushed report text front a b c (lines, d) =
    let e : front ≡ length line = b ∙ ap length a in
    let f : text ≡ line ++ lines = c ∙ d ∙ ap (λ (xs : List ℕ). xs ++ lines) a in
    let g : drop front text ≡ lines = rw (e, f) (drop-append_seam line lines) in (
      omega (arith, e, ap length f, length-append line lines),
      rw (e, f) (take-append_seam line lines),
      d ∙ ap (λ (xs : List ℕ). xs ++ lines) a ∙ ap (λ (xs : List ℕ). line ++ xs) (sym g),
    )

-- What goes behind the line of a record goes behind what stands before that.
pub event_behind : {report : List ℕ} (pushed event : List ℕ)
    → (lines : List ℕ) × (report ≡ (pushed ++ event) ++ lines) → (lines : List ℕ) × (report ≡ pushed ++ lines)
event_behind pushed event (lines, e) = (event ++ lines, e ∙ append_assoc pushed event lines)

-- The clients were told what changed.
pub tells : (t t' : Teller) (r : Record) (code : ℕ) (gateway : Gateway) (is : GatewayStatus) (at : ℕ)
    (pushed report text : List ℕ) (front : ℕ) → Shows is gateway → at ≡ place_after t.place r
    → pushed ≡ at_line at → front ≡ length pushed → text ≡ report
    → Changes (are_due t.place (place_after t.place r)) t.told is t'.told t.counts t'.counts
    (pushed ++ event_line r code) report → IsStatusOf is t'.told
    → AllAreTold t.places t'.places at (drop front text) → TellsChanges t t' r code gateway
tells t t' r code gateway is at pushed report text front shows at_is line len same changes true_picture told_all =
    let behind = event_behind pushed (event_line r code) (changes_go_behind changes) in
    let f = front_is (at_line at) pushed report text front line len same behind in
    let first = line ∙ ap at_line at_is in
    let all = f.2 ∙ ap (λ (place : ℕ). at_line place ++ drop front text) at_is in record {
      is = is;
      shows = shows;
      lines = drop front text;
      changes = rw (← all, ← first) changes;
      true_picture = true_picture;
      told_all = rw (← at_is) told_all;
    }

-- A client for whom there is no more room has not taken more than 64 KiB of all that it was to get.
pub full-then : (got waits sent octets : List ℕ) (n : ℕ) → n ≤ length octets → got ++ waits ≡ sent ++ take n octets
    → 65536 < length waits + length (take (length octets - n) (drop n octets))
    → 65536 + length got < length (sent ++ octets)
full-then got waits sent octets n taken all full =
    let rest = length-drop n octets in
    let left = length-take-le (length octets - n) (drop n octets) (omega (arith, rest)) in omega (
      arith,
      ap length all,
      length-append got waits,
      length-append sent (take n octets),
      length-append sent octets,
      length-take-le n octets taken,
      left,
    )
