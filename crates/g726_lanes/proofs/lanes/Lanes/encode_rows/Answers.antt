use Rattle.g726_lanes.proofs.Common.{◌≡◌, ◌∙◌, arith, thresholds_fit, coded_one_more, row_at}
use Rattle.g726_codec.proofs.Lists.{words_fit}
use Rattle.g726_lanes.proofs.lanes.Lanes.encode_rows.Goals as goal

pub loop-i-preserved : goal.loop-i-preserved
loop-i-preserved g c =
    let rows = c.loop-i.rows in
    let i = c.loop-i.i in
    λ k h.
    rw (c.put_frame.ensures k h)
    (coded_one_more g.R.Rate.tables c.args.law _ _ _ _ (row_at rows k) i _ (c.loop-i.invariant k h)
    (c.frame_of.ensures.within k h)
    (c.narrowed.ensures k h ∙ (rw (c.frame_of.ensures.value k h) at (c.encode-words.ensures.words k h)))
    (rw (c.narrowed.ensures k h) (c.encode-words.ensures.state k h)))

pub returns : goal.returns
returns g c =
    let r = g.R.Rate.tables in
    let all : c.loop-i.i ≡ c.args.count = omega arith in
    let done = rw all at c.loop-i.invariant in
    record {
      fit = λ k h. rw (done k h).words (words_fit r c.args.law (thresholds_fit r g.met.R.Rate.laws.places) _ _);
      words = λ k h. (done k h).words;
      state = λ k h. (done k h).state;
    }
