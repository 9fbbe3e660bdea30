-- The packets of a stream.
use Rattle.gw_speech.proofs.Common.{◌≡◌, ◌+◌, ◌*◌, ◌-◌, ◌%◌, ◌<◌, ◌≤◌, ◌^◌, ℕ, zero, suc, List, [], ◌++◌, length, take}
use Rattle.gw_speech.proofs.Common.{rules, common_steps, drop, replicate, refl, sym, ap, ◌∙◌, append_assoc, append-nil}
use Rattle.gw_speech.proofs.Common.{length-append, length-drop, length-take, length-take-le, take-append-drop}
use Rattle.gw_speech.proofs.Common.{drop-drop, arith, div-mul-add, mod-mul-add, le-div, length-replicate}
use Rattle.gw_speech.proofs.Common.{drop-append-le, take-append-le, drop_at, All-append, All-drop, All, copy_within}
use Rattle.gw_speech.proofs.Common.{Appends, put_mid, idle_code, CodecState, OneWordAnOctet, PrefixesComeFirst}
use Rattle.gw_speech.proofs.Common.{SourceState, SinkState, GivesOctets, GivesUp, Refills, GivesOctets-end, StreamSpec}
use Rattle.gw_speech.proofs.Common.{packet_len, word_bits, words_for, packet_record, records_from, full_packets, filled}
use Rattle.gw_speech.proofs.Common.{packets, records_of, full_records_of, header_with, HasEncoded, IsPacket, IsEncoding}
use Rattle.gw_speech.proofs.Common.{EncodesUntilRead}
use Rattle.std.proofs.Math.Nat.{div-add-mod, mod-lt, mod-eq_of_lt, mod_self, sub-zero}
use Rattle.gw_records.proofs.Buffers.{moved}
use Rattle.gw_speech.specs.declared.encode.NextPacket.{NextPacket}
use Rattle.gw_speech.proofs.InPlace.{front_is, came_is, window_is, coded_behind}

-- the records of one packet more
pub one_more_packet : (s : StreamSpec) (progress : NextPacket) (k count len : ℕ) (octets rest packet : List ℕ)
    → IsPacket s progress (k + count) → len ≡ packet_len s → rest ≡ drop (packet_len s * count) octets
    → packet ≡ take len rest
    → records_from s k octets (count + 1) ≡ records_from s k octets count ++ packet_record s
    (header_with s progress) packet
one_more_packet s progress k count len octets rest packet at l e f = grind (arith, common_steps)

-- the records of i packets and of n more are those of the first i, and those of the words behind them
records_split : (s : StreamSpec) (k i n : ℕ) (words : List ℕ)
    → records_from s k words (i + n) ≡ records_from s k words i
    ++ records_from s (k + i) (drop (packet_len s * i) words) n
records_split s k i zero words = grind (arith, append-nil (records_from s k words i))
records_split s k i (suc n) words =
    let next : i + suc n ≡ suc (i + n) = omega arith in
    let number : k + (i + n) ≡ k + i + n = omega arith in
    let place : packet_len s * (i + n) ≡ packet_len s * i + packet_len s * n = omega arith in
    rw (next, records_split s k i n words, drop-drop, number, place, append_assoc) refl

-- the records of the first i packets are the front of those of n, if i is at most n
pub first_packets : (s : StreamSpec) (k : ℕ) (words : List ℕ) (i n : ℕ) → i ≤ n
    → (rest : List ℕ) × (records_from s k words n ≡ records_from s k words i ++ rest)
first_packets s k words i n h = grind (arith, records_split s k i (n - i) words)

-- the packets that are full, by what is left over
pub full_are : (s : StreamSpec) (octets : List ℕ) (count left : ℕ) → length octets ≡ packet_len s * count + left
    → left < packet_len s → full_packets s octets ≡ count
full_are s octets count left e h = grind (arith, div-mul-add count (packet_len s) left h)

-- the begin of the packet after this one
pub next_place : (s : StreamSpec) (octets rest others : List ℕ) (count len : ℕ) → len ≡ packet_len s
    → rest ≡ drop (packet_len s * count) octets → others ≡ drop len rest
    → others ≡ drop (packet_len s * (count + 1)) octets
next_place s octets rest others count len l e f = grind (arith, drop-drop)

-- the records of whole packets stay as they are
records_from-append : (s : StreamSpec) (k : ℕ) (xs ys : List ℕ) (count : ℕ) → packet_len s * count ≤ length xs
    → records_from s k (xs ++ ys) count ≡ records_from s k xs count
records_from-append s k xs ys zero h = refl
records_from-append s k xs ys (suc count) h =
    let near : packet_len s * count ≤ length xs = omega arith in
    let left : packet_len s ≤ length (drop (packet_len s * count) xs) = omega
    (arith, length-drop (packet_len s * count) xs) in
    let packet = take-append-le (packet_len s) (drop (packet_len s * count) xs) ys left in
    rw (records_from-append s k xs ys count near, drop-append-le (packet_len s * count) xs ys near, packet) refl

-- the records of whole packets, and then those of the packets behind
records_from-behind : (s : StreamSpec) (sent window : List ℕ) (count k : ℕ) → length sent ≡ packet_len s * count
    → records_from s 0 (sent ++ window) (count + k) ≡ records_from s 0 sent count ++ records_from s count window k
records_from-behind s sent window count k e = search (rules, records_from-append, drop_at, records_split)

-- how many octets were given, by the words that are sent and held
given_len : {s : StreamSpec} {codec : CodecState} {given sent held : List ℕ} {count : ℕ} → OneWordAnOctet
    → IsEncoding s codec given sent count held → length given ≡ packet_len s * count + length held
given_len {s} {given = given} {sent = sent} {held = held} counted way =
    omega (arith, (counted s.law s.codec).0 given, ap length way.words, way.whole, length-append sent held)

-- the full packets and their records, by those that are sent
full_behind : {s : StreamSpec} {codec : CodecState} {given sent held : List ℕ} {count : ℕ} → OneWordAnOctet
    → IsEncoding s codec given sent count held → length held < packet_len s
    → (full_records_of s given ≡ records_from s 0 sent count) × (full_packets s given ≡ count)
unfolding full_records_of
full_behind {s} {given = given} {sent = sent} {held = held} {count = count} counted way h =
    let full = full_are s given count (length held) (given_len counted way) h in
    (rw (full, way.words) (records_from-append s 0 sent held count (omega (arith, way.whole))), full)

-- the number of idle octets that the last packet lacks
missing : (size left end : ℕ) → left < size → (left ≡ 0 → end ≡ 0) → (0 < left → end ≡ size)
    → (size - left) % size ≡ end - left
missing size zero end h none one = cc (sub-zero size, mod_self size, none refl)
missing size (suc left) end h none one = search (rules, mod-eq_of_lt)

-- the idle octets that fill the last packet, up to the end of what is held then
filled_up : (s : StreamSpec) (octets : List ℕ) (count left end : ℕ) → length octets ≡ packet_len s * count + left
    → left < packet_len s → (left ≡ 0 → end ≡ 0) → (0 < left → end ≡ packet_len s)
    → filled s octets ≡ octets ++ replicate (end - left) (idle_code s.law)
filled_up s octets count left end e h none one =
    let whole : length octets ≡ count * packet_len s + left = omega (arith, e) in
    rw (whole, mod-mul-add count (packet_len s) left h, missing (packet_len s) left end h none one) refl

-- after more octets are coded, encoding is under way behind them
goes_on : {s : StreamSpec} {codec codec' : CodecState} {given sent held : List ℕ} {count : ℕ} (octets coded : List ℕ)
    → IsEncoding s codec given sent count held → words_for s (given ++ octets) ≡ words_for s given ++ coded
    → HasEncoded s codec' (given ++ octets) → IsEncoding s codec' (given ++ octets) sent count (held ++ coded)
goes_on octets coded way words stands = grind (arith, append_assoc)

-- encoding between two reads: the source gave octets; the first of their words are sent, in this many packets whose
-- records are written, and those behind them are held
pub record Encoding (s : StreamSpec) (source source' : SourceState) (sink sink' : SinkState) (codec : CodecState)
    (held : ℕ) (speech : List ℕ) : Type 0 where
  pub given : List ℕ
  pub sent : List ℕ
  pub count : ℕ
  pub way : IsEncoding s codec given sent count (take held speech)
  pub fit : All (λ w. w < 2 ^ word_bits s) (take held speech)
  pub open_packet : held < packet_len s
  pub fits : length speech ≡ 33008
  pub gives : GivesOctets source source' given
  pub took : Appends sink.taken sink'.taken (records_from s 0 sent count)
  pub no_read : source'.failures ≡ source.failures
  pub no_write : sink'.failures ≡ sink.failures

-- nothing more is read
pub reads_no_more : {s : StreamSpec} {held : ℕ} {speech : List ℕ} {a b b' : SourceState} {c d : SinkState}
    {codec : CodecState} → OneWordAnOctet → (w : Encoding s a b c d codec held speech)
    → GivesOctets b b' [] → GivesUp a b' w.given → EncodesUntilRead s a b' c d
reads_no_more {s} {held} {speech} counted w none cause =
    let short : length (take held speech) < packet_len s = omega (arith, w.open_packet, length-take held speech) in
    record {
      octets = _;
      gives = GivesOctets-end _ _ _ _ [] refl w.gives none;
      took = rw ((full_behind counted w.way short).0) w.took;
      cause = cause;
      no_write = w.no_write;
    }

-- after octets came behind those held and were coded in place, encoding is under way behind them
pub coded_way : {s : StreamSpec} {held n : ℕ} {old : List ℕ} {a b b' : SourceState}
    {c d : SinkState} {codec codec' : CodecState} (new coded : List ℕ) → (w : Encoding s a b c d codec held old)
    → (r : Refills (take held old) (take (held + n) new) b b' n) → held + n ≤ length new
    → (HasEncoded s codec w.given
    → words_for s (w.given ++ take (held + n - held) (drop held new)) ≡ words_for s w.given ++ coded)
    → (HasEncoded s codec w.given → HasEncoded s codec' (w.given ++ take (held + n - held) (drop held new)))
    → length coded ≡ length (take (held + n - held) (drop held new)) → All (λ w. w < 2 ^ word_bits s) coded
    → IsEncoding s codec' (w.given ++ r.octets) w.sent w.count
    (take (held + n) (put_mid held (held + n - held) new coded))
    × All (λ w. w < 2 ^ word_bits s) (take (held + n) (put_mid held (held + n - held) new coded))
coded_way {s} {held} {n} {old} new coded w r o words stands l fit =
    let h : held ≤ length old = omega (arith, w.open_packet, w.fits, s.ptime_fits.most) in
    let came = came_is held n old new r.octets h r.holds in
    rw (window_is held n old new r.octets coded h o r.holds l, ← came) (
      goes_on _ coded w.way (words w.way.stands) (stands w.way.stands),
      All-append (λ w. w < 2 ^ word_bits s) (take held old) coded w.fit fit,
    )

-- after the last packet is filled in place with idle octets, and these are coded, the words of the filled octets are
-- sent and held
pub filled_way : {s : StreamSpec} {held count : ℕ} {given sent : List ℕ} {codec : CodecState}
    (speech : List ℕ) (codec' : CodecState) (end : ℕ) (quiet coded : List ℕ) → OneWordAnOctet
    → IsEncoding s codec given sent count (take held speech) → held < packet_len s → 240 ≤ length speech
    → held ≤ end → end ≤ 240 → (held ≡ 0 → end ≡ 0) → (0 < held → end ≡ packet_len s)
    → quiet ≡ replicate (end - held) (idle_code s.law) → words_for s (given ++ quiet) ≡ words_for s given ++ coded
    → HasEncoded s codec' (given ++ quiet) → length coded ≡ length quiet
    → IsEncoding s codec' (filled s given) sent count
    (take end (put_mid held (end - held) (put_mid held (end - held) speech quiet) coded))
filled_way {s} {held} {count} {given} speech codec' end quiet coded counted way few room least most none one idle words
    stands len =
    let held_len = length-take-le held speech (omega (arith, least, most, room)) in
    let quiet_len = ap length idle ∙ length-replicate (end - held) (idle_code s.law) in
    let given_is = given_len counted way ∙ ap (λ (n : ℕ). packet_len s * count + n) held_len in
    let all = filled_up s given count held end given_is few none one in
    let last = coded_behind speech quiet coded held end least (omega (arith, most, room)) quiet_len (len ∙ quiet_len) in
    rw (all, ← idle, last) (goes_on quiet coded way words stands)

-- the full packets of a window are sent behind those that were, and the words behind them are held
pub record MovesOn (s : StreamSpec) (codec : CodecState) (given sent window held : List ℕ) (count : ℕ) : Type 0 where
  pub now_sent : List ℕ
  pub way : IsEncoding s codec given now_sent (count + full_packets s window) held
  pub records : records_from s 0 now_sent (count + full_packets s window) ≡ records_from s 0 sent count
      ++ records_from s count window (full_packets s window)

-- the full packets of a window are sent, and what is left of it is held
moves_on : {s : StreamSpec} {codec : CodecState} {given sent window : List ℕ} {count : ℕ} (n : ℕ)
    → IsEncoding s codec given sent count window → n ≡ packet_len s * full_packets s window → n ≤ length window
    → MovesOn s codec given sent window (drop n window) count
moves_on {s} {sent = sent} {window = window} {count = count} n way e h =
    let front = take n window in
    let whole = take-append-drop n window in
    let len = length-take-le n window h in
    let more = full_packets s window in
    let same = sym (records_from-append s count front (drop n window) more (omega (arith, e, len))) in
    record {
      now_sent = sent ++ front;
      way = grind (arith, append_assoc sent front (drop n window), length-append sent front);
      records = records_from-behind s sent front count more way.whole
          ∙ ap (λ (xs : List ℕ). records_from s 0 sent count ++ xs) (rw whole at same);
    }

-- the words left of a buffer are at its front, and the full packets before them are sent
pub words_left : {s : StreamSpec} {codec : CodecState} {given sent : List ℕ} {count : ℕ} (buffer new : List ℕ)
    (end left : ℕ) → end ≤ length buffer → IsEncoding s codec given sent count (take end buffer)
    → All (λ w. w < 2 ^ word_bits s) (take end buffer)
    → length (take end buffer) ≡ packet_len s * full_packets s (take end buffer) + left
    → new ≡ copy_within buffer (end - left) end 0
    → MovesOn s codec given sent (take end buffer) (take left new) count
    × All (λ w. w < 2 ^ word_bits s) (take left new)
words_left {s} buffer new end left h way fit w e =
    let len : length (take end buffer) ≡ end = length-take-le end buffer h in
    rw (e, moved buffer (end - left) end left (omega arith) h (omega (arith, len, w))) (
      moves_on (end - left) way (omega (arith, len, w)) (omega (arith, len)),
      All-drop (λ w. w < 2 ^ word_bits s) (end - left) (take end buffer) fit,
    )

-- if no octet came and the last packet is filled, its records end those of all the octets: if the words of the filled
-- octets are sent and held, the full packets of those held are the last ones
pub last_written : {s : StreamSpec} {held n : ℕ} {old window : List ℕ} {a b b' : SourceState}
    {c d : SinkState} {codec codec' : CodecState} (new : List ℕ) → OneWordAnOctet
    → (w : Encoding s a b c d codec held old) → Refills (take held old) (take (held + n) new) b b' n
    → (IsEncoding s codec w.given w.sent w.count (take held new)
    → IsEncoding s codec' (filled s w.given) w.sent w.count window)
    → (records_of s w.given ≡ records_from s 0 w.sent w.count ++ records_from s w.count window (full_packets s window))
    × (packets s w.given ≡ w.count + full_packets s window)
unfolding records_of
last_written {s} {held} {n} {old} {window} new counted w r fills =
    let held_is = front_is held n old new r.octets (omega (arith, w.open_packet, w.fits, s.ptime_fits.most)) r.holds in
    let some : 0 < packet_len s = omega (arith, s.ptime_fits.least) in
    let full = packet_len s * full_packets s window in
    let all = div-add-mod (length window) (packet_len s) in
    let m = moves_on full (fills (rw held_is w.way)) refl (omega (arith, all)) in
    let last = full_behind counted m.way (omega (arith, all, mod-lt (length window) some, length-drop full window)) in
    (last.0 ∙ m.records, last.1)

-- what is written of a window, behind what is written before, begins the records of all octets
pub window_begins : {s : StreamSpec} {codec : CodecState} {given sent window : List ℕ} {count : ℕ}
    → PrefixesComeFirst → OneWordAnOctet → IsEncoding s codec given sent count window
    → (rest : List ℕ) × (records_of s given ≡ (records_from s 0 sent count
    ++ records_from s count window (full_packets s window)) ++ rest)
unfolding records_of full_records_of
window_begins {s} {given = given} {sent = sent} {window = window} {count = count} first counted way =
    let some : 0 < packet_len s = omega (arith, s.ptime_fits.least) in
    let fill = replicate ((packet_len s - length given % packet_len s) % packet_len s) (idle_code s.law) in
    let rest = drop (length given) (words_for s (filled s given)) in
    let whole = sym (take-append-drop (length given) (words_for s (filled s given)))
    ∙ ap (λ (xs : List ℕ). xs ++ rest) ((first s.law s.codec).0 given fill ∙ way.words) in
    let full = div-add-mod (length window) (packet_len s) in
    let most : count + full_packets s window ≤ packets s given = le-div _ (length (filled s given)) (packet_len s) some
    (omega (arith, given_len counted way, length-append given fill, full)) in
    let begun = first_packets s 0 (words_for s (filled s given)) (count + full_packets s window) (packets s given)
    most in (
      begun.0,
      begun.1 ∙ ap (λ (xs : List ℕ). xs ++ begun.0)
          (ap (λ (ws : List ℕ). records_from s 0 ws (count + full_packets s window)) whole
          ∙ records_from-append s 0 (sent ++ window) rest (count + full_packets s window)
          (omega (arith, way.whole, length-append sent window, full))
          ∙ records_from-behind s sent window count (full_packets s window) way.whole),
    )
