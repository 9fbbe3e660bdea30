use Rattle.std.proofs.Common.{◌≡◌, ◌+◌, ◌≤◌, ◌<◌, ◌++◌, ◌∷◌, [], ℕ, List, Option, length, arith, append_assoc}
use Rattle.std.proofs.Common.{length-append}
use Rattle.circular_buffer.specs.Buffer.{Buffer, buffer}
use Rattle.rtp_playout.specs.Window.{put_words}
use Rattle.rtp_playout.proofs.Putting.{word-put, same-size}
use Rattle.rtp_playout.proofs.window.put_words.Goals as goal

-- one word more of those that are left
word_taken : (words done left rest : List ℕ) (word : ℕ) → words ≡ done ++ left → left ≡ word ∷ rest
    → words ≡ (done ++ word ∷ []) ++ rest
word_taken words done left rest word e f = cc (append_assoc done (word ∷ []) rest)

-- there is a place for each word
has_place : (window : Buffer (Option ℕ)) (items : List (Option ℕ)) (capacity from place : ℕ)
    (words done left rest : List ℕ) (word : ℕ) → window ≡ buffer (put_words items from done) capacity
    → place ≡ from + length done
    → words ≡ done ++ left → left ≡ word ∷ rest → from + length words ≤ length items
    → place < length window.items
has_place window items capacity from place words done left rest word was at e f room =
    grind (
      arith,
      same-size window items capacity from done was,
      word_taken words done left rest word e f,
      length-append (done ++ word ∷ []) rest,
      length-append done (word ∷ []),
    )

pub put_word-requires : goal.put_word-requires
put_word-requires c =
    let inv = c.loop-word.invariant in
    has_place c.loop-word.window _ _ c.args.from c.loop-word.place c.args.words inv.0 c.loop-word.word-iterator
    c.next.new.self c.in-Some.word inv.1.after inv.1.place inv.1.whole c.in-Some.ensures.steps c.requires.room

pub loop-word-preserved : goal.loop-word-preserved
loop-word-preserved c =
    let inv = c.loop-word.invariant in
    let word = c.in-Some.word in
    let first : c.loop-word.word-iterator ≡ c.in-Some.word ∷ c.next.new.self = c.in-Some.ensures.steps in
    let more = length-append inv.0 (word ∷ []) in
    let place = inv.1.place in (
      inv.0 ++ word ∷ [],
      record {
        goes = tt;
        ends = tt;
        whole = word_taken c.args.words inv.0 c.loop-word.word-iterator c.next.new.self word inv.1.whole first;
        place = omega arith;
        after = word-put c.loop-word.window c.put_word.new.window _ _ c.args.from c.loop-word.place inv.0 word
            inv.1.after place c.put_word.ensures;
      },
    )
