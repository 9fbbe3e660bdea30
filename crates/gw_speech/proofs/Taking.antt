-- Records that are taken one after another.
use Rattle.gw_speech.proofs.Common.{◌≡◌, ◌+◌, ◌-◌, ℕ, true, List, [], ◌∷◌, ◌++◌, take, drop, refl, common_steps, ap}
use Rattle.gw_speech.proofs.Common.{◌∙◌, append-nil, arith, Option, Some, Result, IfOk, IfErr, unwrap_or, is_some}
use Rattle.gw_speech.proofs.Common.{IsAtEnd, drop-take, PrefixesComeFirst, Record, IsGood, IsFirst, is_open, end_of}
use Rattle.gw_speech.proofs.Common.{has_bad_kind, has_bad_length, has_bad_command, named, record_at, SourceState}
use Rattle.gw_speech.proofs.Common.{SinkState, StreamSpec, datagram_words, record_words, words_in, speech_of, speech_in}
use Rattle.gw_speech.proofs.Common.{only_datagrams, speech_behind, count_record, decode_totals, DecodesThrough}
use Rattle.gw_speech.proofs.Common.{DecodesAll, DecodesUntil}
use Rattle.std.proofs.lemmas.List.Concat.{flat_map-append}
use Rattle.gw_records.specs.declared.records.RecordHead.{RecordHead}
use Rattle.gw_records.specs.declared.records.RecordHead.TheVariants as heads
use Rattle.gw_records.specs.declared.records.FirstRecord.{FirstRecord}
use Rattle.gw_records.specs.declared.records.RecordsEnd.{RecordsEnd}
use Rattle.gw_records.specs.declared.records.RecordsEnd.TheVariants as endings
use Rattle.gw_records.specs.declared.outcome.Totals.{Totals}
use Rattle.gw_records.specs.declared.outcome.RunFault.{RunFault}
use Rattle.gw_records.specs.Outcome.{answer_of, Ends}
use Rattle.gw_records.proofs.Firsts.{found_in}
use Rattle.gw_speech.proofs.Speech.{speech_splits}

-- the words of one record more
pub words_more : (s : StreamSpec) (records : List Record) (r : Record) (words : Option (List ℕ))
    → record_words s r ≡ words → words_in s (records ++ r ∷ []) ≡ words_in s records ++ unwrap_or words []
words_more s records r words e =
    rw (flat_map-append (λ r. unwrap_or (record_words s r) []) records (r ∷ []), append-nil, e) refl

-- the speech of one record more
pub decoded_more : (s : StreamSpec) (records : List Record) (r : Record) (words : Option (List ℕ))
    → record_words s r ≡ words → PrefixesComeFirst
    → speech_in s (records ++ r ∷ []) ≡ speech_in s records ++ speech_behind s (words_in s records) (unwrap_or words [])
decoded_more s records r words e first =
    ap (speech_of s) (words_more s records r words e) ∙ speech_splits s (words_in s records) (unwrap_or words []) first

-- the code words of a good record of datagrams are those of its body
words_named : (s : StreamSpec) (head : RecordHead) (body : List ℕ) → IsGood only_datagrams (named head body)
    → record_words s (named head body) ≡ datagram_words s body
words_named s (heads.Datagram circuit) body good = refl
words_named s _ body good = cc (good.0)

-- the words of the first record are those of its body
pub words_at : {held slice : List ℕ} (s : StreamSpec) (f : FirstRecord) → IsFirst only_datagrams f held → slice ≡ held
    → record_words s (record_at f held) ≡ datagram_words s (take (f.len - 4) (drop 4 slice))
words_at {held} s f first e =
    let len : 4 + (f.len - 4) ≡ f.len = omega (arith, first.more) in
    rw (e, ← drop-take 4 (f.len - 4) held, len) (words_named s f.head (drop 4 (take f.len held)) first.good)

-- the totals of one record more: each count goes up to the greatest u64 at most
pub totals_more : (s : StreamSpec) (t : Totals) (records : List Record) (r : Record) (words : Option (List ℕ))
    → record_words s r ≡ words → t ≡ decode_totals s records
    → count_record t (is_some words) ≡ decode_totals s (records ++ r ∷ [])
totals_more s t records r words e f = grind (arith, common_steps)

-- if only datagrams are read, no end is a bad command
no_command : (octets : List ℕ) → end_of only_datagrams octets ≡ Some endings.BadCommand → ⊥
unfolding has_bad_kind has_bad_length has_bad_command
no_command octets e = grind (arith, found_in only_datagrams octets (Some endings.BadCommand) e)

-- the end of decoding if the records end so
pub decode_ends : (s : StreamSpec) {a b : SourceState} {c d : SinkState} (ending : RecordsEnd) (totals : Totals)
    (result : Result Totals RunFault) → (e : Ends only_datagrams a b c d (DecodesThrough s c d) ending)
    → (is_open ending ≡ true → IsAtEnd b.to_come) → totals ≡ e.0.totals → result ≡ answer_of ending totals
    → (IfOk result (DecodesAll s a b c d)) × (IfErr result (DecodesUntil s a b c d))
decode_ends s endings.End totals result e o t r = rw r (record { ends = e; ended = o refl; totals_are = t }, tt)
decode_ends s endings.BadCommand totals result e o t r = absurd (no_command e.0.reads.rest e.0.reads.ends)
decode_ends s endings.Truncated totals result e o t r = rw r (tt, (e, o refl))
decode_ends s _ totals result e o t r = rw r (tt, e)
