-- The speech of words behind others.
use Rattle.gw_speech.proofs.Common.{◌≡◌, ◌<◌, ℕ, List, [], ◌∷◌, ◌++◌, length, refl, sym, append_assoc, append-nil}
use Rattle.gw_speech.proofs.Common.{rules, take-append-drop, slice_index, drop_at, All-from_get_or, OneWordAnOctet}
use Rattle.gw_speech.proofs.Common.{PrefixesComeFirst, SpeechIsItsOwnWords, G711, StreamSpec, word_bits, speech_of}
use Rattle.gw_speech.proofs.Common.{speech_behind}
use Rattle.std.proofs.Math.Seq.{drop-append_seam}
use Rattle.rtp_pack.specs.Payload.{words_of}
use Rattle.rtp_pack.specs.Laws.{OctetsAreWords as SameOctets}

-- what words give behind others is the speech of these words
speech_is : (s : StreamSpec) (before words octets : List ℕ) → OneWordAnOctet
    → speech_of s (before ++ words) ≡ speech_of s before ++ octets → speech_behind s before words ≡ octets
unfolding speech_behind
speech_is s before words octets counted e =
    rw e (drop_at (speech_of s before) octets (length before) ((counted s.law s.codec).1 before))

-- the speech of words is that of the first ones and that of those behind them
pub speech_splits : (s : StreamSpec) (before words : List ℕ) → PrefixesComeFirst
    → speech_of s (before ++ words) ≡ speech_of s before ++ speech_behind s before words
unfolding speech_behind
speech_splits s before words first =
    rw (← (first s.law s.codec).1 before words) (sym (take-append-drop (length before) (speech_of s (before ++ words))))

-- no words more give no speech more
pub speech_of_none : (s : StreamSpec) (before : List ℕ) → OneWordAnOctet → speech_behind s before [] ≡ []
speech_of_none s before counted = speech_is s before [] [] counted (simp append-nil)

-- the speech of words and of more words behind them, behind what was there
pub speech_joins : (s : StreamSpec) (start before done more : List ℕ) → OneWordAnOctet → PrefixesComeFirst
    → start ++ speech_behind s before (done ++ more)
    ≡ (start ++ speech_behind s before done) ++ speech_behind s (before ++ done) more
speech_joins s start before done more counted first =
    let all = speech_splits s (before ++ done) more first in
    let both = speech_is s before (done ++ more) (speech_behind s before done ++ speech_behind s (before ++ done) more)
    counted (rw (← append_assoc before done more, all, speech_splits s before done first, append_assoc) refl) in
    rw (both, append_assoc) refl

-- the octet of one word more, behind what was there
pub speech_more : (s : StreamSpec) (start before done : List ℕ) (word octet : ℕ) → OneWordAnOctet → PrefixesComeFirst
    → speech_of s ((before ++ done) ++ word ∷ []) ≡ speech_of s (before ++ done) ++ octet ∷ []
    → start ++ speech_behind s before (done ++ word ∷ []) ≡ (start ++ speech_behind s before done) ++ octet ∷ []
speech_more s start before done word octet counted first e = search (rules, speech_is, speech_joins)

-- in G.711 the octets of a payload are their own speech
pub speech_of_octets : (s : StreamSpec) (before octets : List ℕ) → s.codec ≡ G711
    → ((i : ℕ) → slice_index octets i < 256) → SpeechIsItsOwnWords → SameOctets
    → speech_behind s before (words_of (word_bits s) octets) ≡ octets
unfolding speech_behind
speech_of_octets s before octets kind bytes same read =
    let words = read octets (All-from_get_or (λ octet. octet < 256) octets 0 (λ i h. bytes i)) in
    rw (kind, words, (same s.law (before ++ octets)).1) (drop-append_seam before octets)
