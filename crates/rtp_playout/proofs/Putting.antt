-- A window into which words are put one by one.
use Rattle.std.proofs.Common.{◌≡◌, ◌+◌, ◌<◌, ◌++◌, ◌∷◌, [], ℕ, suc, List, Option, Some, length, take, slice_set}
use Rattle.std.proofs.Common.{slice_index, ap, sym, ◌∙◌, arith}
use Rattle.std.proofs.Math.Seq.{take-suc}
use Rattle.std.proofs.lemmas.List.{length-take-le}
use Rattle.circular_buffer.specs.Buffer.{Buffer, buffer}
use Rattle.rtp_playout.specs.Window.{put_words}
use Rattle.rtp_playout.proofs.Places.{put_words-push, length-put_words}

-- it has as many places as before
pub same-size : (window : Buffer (Option ℕ)) (items : List (Option ℕ)) (capacity from : ℕ) (done : List ℕ)
    → window ≡ buffer (put_words items from done) capacity → length window.items ≡ length items
same-size window items capacity from done was = cc (length-put_words items from done)

-- one word more is put
pub word-put : (window after : Buffer (Option ℕ)) (items : List (Option ℕ)) (capacity from place : ℕ)
    (done : List ℕ) (word : ℕ)
    → window ≡ buffer (put_words items from done) capacity → place ≡ from + length done
    → after ≡ buffer (slice_set window.items place (Some word)) window.capacity
    → after ≡ buffer (put_words items from (done ++ word ∷ [])) capacity
word-put window after items capacity from place done word was at is = cc (put_words-push items from done word)

-- one octet more
pub octet-put : (window after : Buffer (Option ℕ)) (items : List (Option ℕ)) (capacity from i : ℕ)
    (octets : List ℕ) → window ≡ buffer (put_words items from (take i octets)) capacity → i < length octets
    → after ≡ buffer (slice_set window.items (from + i) (Some (slice_index octets i))) window.capacity
    → after ≡ buffer (put_words items from (take (i + 1) octets)) capacity
octet-put window after items capacity from i octets was within is =
    let cut = length-take-le i octets (omega arith) in
    let next : suc i ≡ i + 1 = omega arith in
    word-put window after items capacity from (from + i) (take i octets) (slice_index octets i) was (omega arith) is
    ∙ ap (λ (xs : List ℕ). buffer (put_words items from xs) capacity) (sym (take-suc octets i _ within))
    ∙ ap (λ (n : ℕ). buffer (put_words items from (take n octets)) capacity) next
