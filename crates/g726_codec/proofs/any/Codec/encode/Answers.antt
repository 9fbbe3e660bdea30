use Rattle.std.proofs.Common.{◌∙◌}
use Rattle.g726_codec.proofs.any.Codec.encode.Goals as goal

pub returns-in-G16 : goal.returns-in-G16
returns-in-G16 c =
    let word = c.get.ensures in
    let coded = c.encode.ensures in
    rw c.in-G16.is
    (record { bound = word.bound; word = word.value ∙ coded.word; state = rw (word.value, coded.state) })

pub returns-in-G24 : goal.returns-in-G24
returns-in-G24 c =
    let word = c.get-in-G24.ensures in
    let coded = c.encode-in-G24.ensures in
    rw c.in-G24.is
    (record { bound = word.bound; word = word.value ∙ coded.word; state = rw (word.value, coded.state) })

pub returns-in-G32 : goal.returns-in-G32
returns-in-G32 c =
    let word = c.get-in-G32.ensures in
    let coded = c.encode-in-G32.ensures in
    rw c.in-G32.is
    (record { bound = word.bound; word = word.value ∙ coded.word; state = rw (word.value, coded.state) })

pub returns-in-G40 : goal.returns-in-G40
returns-in-G40 c =
    let word = c.get-in-G40.ensures in
    let coded = c.encode-in-G40.ensures in
    rw c.in-G40.is
    (record { bound = word.bound; word = word.value ∙ coded.word; state = rw (word.value, coded.state) })
