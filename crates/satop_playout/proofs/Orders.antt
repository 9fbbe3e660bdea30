-- The order in which packets arrive does not matter to what plays give.
use Rattle.std.proofs.Common.{rules, ◌≡◌, ℕ, zero, suc, ◌+◌, ◌^◌, ◌≤◌, ◌<◌, Bool, true, false, cond, List, [], ◌∷◌}
use Rattle.std.proofs.Common.{◌++◌, map, Option, Some, None, is_some, All, IsPermutation, ◌==◌, refl, sym, ap, subst}
use Rattle.std.proofs.Common.{◌∙◌, arith, append_assoc, append-nil}
use Rattle.std.proofs.lemmas.List.Sums.{fold-append}
use Rattle.std.proofs.lemmas.List.Elements.{All-nil, All-cons, All-append, All-head, All-tail}
use Rattle.std.proofs.lemmas.List.Sorted.{IsPermutation-map, IsPermutation-append_right, IsPermutation-sym}
use Rattle.std.proofs.lemmas.List.Sorted.{All-permutation}
use Rattle.satop_playout.specs.declared.Settings.{Settings}
use Rattle.satop_playout.specs.Calls.{PlayoutCall, Begins, Arrives, Plays}
use Rattle.satop_playout.specs.Replacement.{fill_of}
use Rattle.satop_playout.specs.Plays.{PlacedPacket, PlayoutState, at_first, packet_at, ahead_of, ahead, refusal}
use Rattle.satop_playout.specs.Plays.{after_arrival, after_beginning, after_play, after_call, octets_or_fill}
use Rattle.satop_playout.specs.Plays.{filled_for, stream, arrival_answer, given_octets}
use Rattle.satop_playout.specs.Laws.{plays_in, NoBeginning, arrivals_of, AllAccepted, OrderDoesNotMatter}
use Rattle.satop_playout.proofs.Placing.{stream-push, packet_at-kept, packet_at-free, packet_at-apart, placed_at}
use Rattle.satop_playout.proofs.Placing.{with_packet, after-accepted, after-refused, not-refused}
use Rattle.satop_playout.proofs.Turns.{accepted, after, now-arrival}

-- each packet that arrives in calls is accepted, from a state on
abbrev AcceptsIn : Settings → PlayoutState → List PlayoutCall → Type 0
AcceptsIn settings s [] = Unit {0}
AcceptsIn settings s (Begins sequence ∷ calls) = AcceptsIn settings (after_beginning s sequence) calls
AcceptsIn settings s (Arrives sequence octets ∷ calls) =
    (refusal settings s sequence octets ≡ None) × AcceptsIn settings (after_arrival settings s sequence octets) calls
AcceptsIn settings s (Plays ∷ calls) = AcceptsIn settings (after_play settings s) calls

-- calls whose packets are accepted after other calls accept them from the state that those led to
accepts-in : (settings : Settings) (before calls : List PlayoutCall) → AllAccepted settings before calls
    → AcceptsIn settings (stream settings before) calls
unfolding arrival_answer
accepts-in settings before [] all = tt
accepts-in settings before (Begins sequence ∷ calls) all =
    subst (λ (s : PlayoutState). AcceptsIn settings s calls) (stream-push settings before (Begins sequence))
    (accepts-in settings (before ++ Begins sequence ∷ []) calls all)
accepts-in settings before (Arrives sequence octets ∷ calls) all = (
  not-refused (refusal settings (stream settings before) sequence octets) all.0,
  subst (λ (s : PlayoutState). AcceptsIn settings s calls) (stream-push settings before (Arrives sequence octets))
      (accepts-in settings (before ++ Arrives sequence octets ∷ []) calls all.1),
)
accepts-in settings before (Plays ∷ calls) all =
    subst (λ (s : PlayoutState). AcceptsIn settings s calls) (stream-push settings before Plays)
    (accepts-in settings (before ++ Plays ∷ []) calls all)

-- Each accepted packet is the one of its place: no two have one place.
abbrev IsFound : List PlacedPacket → PlacedPacket → Type 0
IsFound placed p = packet_at placed p.place ≡ Some p.octets

abbrev AllFound : List PlacedPacket → Type 0
AllFound placed = All (λ p. IsFound placed p) placed

-- what was found is found still if one packet more is accepted
found-kept : (placed among : List PlacedPacket) (q : PlacedPacket) → All (λ p. IsFound placed p) among
    → All (λ p. IsFound (placed ++ q ∷ []) p) among
found-kept placed [] q all = All-nil (λ p. IsFound (placed ++ q ∷ []) p)
found-kept placed (p ∷ among) q all =
    All-cons (λ p. IsFound (placed ++ q ∷ []) p) p among
    (packet_at-kept placed q p.place p.octets (All-head (λ p. IsFound placed p) p among all))
    (found-kept placed among q (All-tail (λ p. IsFound placed p) p among all))

-- a packet at a free place is found beside those before it
found-push : (placed : List PlacedPacket) (place : ℕ) (octets : List ℕ) → AllFound placed
    → packet_at placed place ≡ None
    → AllFound (placed ++ placed_at place octets ∷ [])
found-push placed place octets all free = search (rules, All-append, found-kept, All-cons, packet_at-free, All-nil)

-- after any calls
found-after : (settings : Settings) (s : PlayoutState) (calls : List PlayoutCall) → AllFound s.placed
    → AllFound (after settings s calls).placed
found-after settings s [] all = all
found-after settings s (Begins sequence ∷ calls) all =
    found-after settings (after_beginning s sequence) calls (All-nil (λ p. IsFound [] p))
found-after settings s (Arrives sequence octets ∷ calls) all =
    found-after settings (after_arrival settings s sequence octets) calls
    (by_refusal (refusal settings s sequence octets) refl)
  where
    by_refusal : (r : Option _) → refusal settings s sequence octets ≡ r
        → AllFound (after_arrival settings s sequence octets).placed
    by_refusal None e =
        subst (λ (t : PlayoutState). AllFound t.placed) (sym (after-accepted settings s sequence octets e))
        (found-push s.placed (s.now + ahead s sequence) octets all (accepted settings s sequence octets e).free)
    by_refusal (Some fault) e =
        subst (λ (t : PlayoutState). AllFound t.placed) (sym (after-refused settings s sequence octets fault e)) all
found-after settings s (Plays ∷ calls) all = found-after settings (after_play settings s) calls all

-- .. the first of them, or one of the others
found-first : (placed : List PlacedPacket) (p : PlacedPacket) (k : ℕ) (rest : Option (List ℕ)) (octets : List ℕ)
    (b : Bool)
    → (p.place == k) ≡ b → IsFound placed p → (rest ≡ Some octets → packet_at placed k ≡ Some octets)
    → cond b (Some p.octets) rest ≡ Some octets → packet_at placed k ≡ Some octets
found-first placed p k rest octets b at found others e = search rules

-- a packet that is the one of its place among some is the one among others of the same packets
found-among : (placed among : List PlacedPacket) (k : ℕ) (octets : List ℕ) → All (λ p. IsFound placed p) among
    → packet_at among k ≡ Some octets → packet_at placed k ≡ Some octets
found-among placed [] k octets all e = cc
found-among placed (p ∷ among) k octets all e =
    found-first placed p k (packet_at among k) octets (p.place == k) refl (All-head (λ p. IsFound placed p) p among all)
    (found-among placed among k octets (All-tail (λ p. IsFound placed p) p among all)) e

-- two packets that may be there are the same if each is the other wherever it is there
same-option : (a b : Option (List ℕ)) → ((o : List ℕ) → a ≡ Some o → b ≡ Some o)
    → ((o : List ℕ) → b ≡ Some o → a ≡ Some o) → a ≡ b
same-option a b there back = search rules

-- the same packets in any order have the same one at each place
same-packets : (one other : List PlacedPacket) (k : ℕ) → IsPermutation one other → AllFound one → AllFound other
    → packet_at one k ≡ packet_at other k
same-packets one other k moved all-one all-other =
    let there = All-permutation (λ p. IsFound other p) other one (IsPermutation-sym one other moved) all-other in
    let back = All-permutation (λ p. IsFound one p) one other moved all-one in
    same-option (packet_at one k) (packet_at other k) (λ o e. found-among other one k o there e)
    (λ o e. found-among one other k o back e)

-- what plays give if all packets are known at first
abbrev ran : Settings → List PlacedPacket → ℕ → List ℕ → ℕ → ℕ → List ℕ
ran settings placed now given filled zero = given
ran settings placed now given filled (suc count) =
    ran settings placed (now + 1)
    (given ++ octets_or_fill (packet_at placed now) (fill_of settings.fill settings.size given filled))
    (filled_for (packet_at placed now) settings.size filled) count

-- they give the same of the same packets
ran-same : (settings : Settings) (one other : List PlacedPacket) (now : ℕ) (given : List ℕ) (filled count : ℕ)
    → ((k : ℕ) → packet_at one k ≡ packet_at other k)
    → ran settings one now given filled count ≡ ran settings other now given filled count
ran-same settings one other now given filled count same = search rules

module _ (settings : Settings) where
  either-past : (b : Bool) (s : PlayoutState) (place k : ℕ) (octets : List ℕ) → k < place
      → packet_at (cond b s (with_packet s place octets)).placed k ≡ packet_at s.placed k
  either-past true s place k octets h = refl
  either-past false s place k octets h =
      packet_at-apart s.placed (placed_at place octets) k (λ e. omega (arith, e, h))

  -- packets that arrive later change nothing at the places of earlier plays
  past-after : (s : PlayoutState) (calls : List PlayoutCall) (k : ℕ) → NoBeginning calls → k < s.now
      → packet_at (after settings s calls).placed k ≡ packet_at s.placed k
  past-after s [] k none h = refl
  past-after s (Begins sequence ∷ calls) k none h = absurd none
  past-after s (Arrives sequence octets ∷ calls) k none h =
      let same = now-arrival settings s sequence octets in
      past-after (after_arrival settings s sequence octets) calls k none (omega arith)
      ∙ either-past (is_some (refusal settings s sequence octets)) s (s.now + ahead s sequence) k octets (omega arith)
  past-after s (Plays ∷ calls) k none h = past-after (after_play settings s) calls k none (omega arith)

  abbrev ran_from : PlayoutState → List PlacedPacket → ℕ → List ℕ
  ran_from s placed count = ran settings placed s.now s.given s.filled count

  either-ran : (b : Bool) (s : PlayoutState) (place : ℕ) (octets : List ℕ) (placed : List PlacedPacket) (count : ℕ)
      → ran_from (cond b s (with_packet s place octets)) placed count ≡ ran_from s placed count
  either-ran true s place octets placed count = refl
  either-ran false s place octets placed count = refl

  -- what plays among calls give is what they give of all packets, also those still to come
  given-ran : (s : PlayoutState) (calls : List PlayoutCall) → NoBeginning calls
      → (after settings s calls).given ≡ ran_from s (after settings s calls).placed (plays_in calls)
  given-ran s [] none = refl
  given-ran s (Begins sequence ∷ calls) none = absurd none
  given-ran s (Arrives sequence octets ∷ calls) none =
      given-ran (after_arrival settings s sequence octets) calls none
      ∙ either-ran (is_some (refusal settings s sequence octets)) s (s.now + ahead s sequence) octets
      (after settings (after_arrival settings s sequence octets) calls).placed (plays_in calls)
  given-ran s (Plays ∷ calls) none =
      let all = (after settings (after_play settings s) calls).placed in
      let now : packet_at s.placed s.now ≡ packet_at all s.now =
      sym (past-after (after_play settings s) calls s.now none (omega arith)) in
      given-ran (after_play settings s) calls none
      ∙ ap (λ (o : Option (List ℕ)). ran settings all (s.now + 1)
      (s.given ++ octets_or_fill o (fill_of settings.fill settings.size s.given s.filled))
      (filled_for o settings.size s.filled) (plays_in calls)) now

-- a packet at the place of its number, for a stream whose next place is this one
abbrev by_number : Option ℕ → ℕ → ℕ × List ℕ → PlacedPacket
by_number first now packet = placed_at (now + ahead_of first now packet.0) packet.1

-- in 2^15 plays the place of an accepted packet follows from its number alone
number-fixed : (first : Option ℕ) (now plays sequence : ℕ) → is_some first ≡ true → plays ≤ 2 ^ 15
    → ahead_of first (now + plays) sequence < 2 ^ 15
    → now + plays + ahead_of first (now + plays) sequence ≡ now + ahead_of first now sequence
number-fixed None now plays sequence begun few on_time = cc
number-fixed (Some first) now plays sequence begun few on_time = omega arith

-- each accepted packet is put behind those before it, at the place of its number
placed-by_number : (settings : Settings) (first : Option ℕ) (now plays : ℕ) (s : PlayoutState)
    (calls : List PlayoutCall)
    → s.first ≡ first → s.now ≡ now + plays → NoBeginning calls → AcceptsIn settings s calls
    → plays + plays_in calls ≤ 2 ^ 15
    → (after settings s calls).placed ≡ s.placed ++ map (by_number first now) (arrivals_of calls)
placed-by_number settings first now plays s [] f at none all few = sym (append-nil s.placed)
placed-by_number settings first now plays s (Begins sequence ∷ calls) f at none all few = absurd none
placed-by_number settings first now plays s (Arrives sequence octets ∷ calls) f at none all few =
    let a = accepted settings s sequence octets all.0 in
    let rest = map (by_number first now) (arrivals_of calls) in
    let begun : is_some first ≡ true = ap is_some (sym f) ∙ a.begun in
    let is : ahead s sequence ≡ ahead_of first (now + plays) sequence =
    ap (λ (o : Option ℕ). ahead_of o s.now sequence) f ∙ ap (λ (n : ℕ). ahead_of first n sequence) at in
    let fixed = number-fixed first now plays sequence begun (omega arith) (omega arith) in
    let place : s.now + ahead s sequence ≡ now + ahead_of first now sequence = omega arith in
    let same : after_arrival settings s sequence octets
    ≡ with_packet s (now + ahead_of first now sequence) octets =
    after-accepted settings s sequence octets all.0 ∙ ap (λ (n : ℕ). with_packet s n octets) place in
    let next = with_packet s (now + ahead_of first now sequence) octets in
    ap (λ (t : PlayoutState). (after settings t calls).placed) same
    ∙ placed-by_number settings first now plays next calls f at none
    (subst (λ (t : PlayoutState). AcceptsIn settings t calls) same all.1) few
    ∙ append_assoc s.placed (by_number first now (sequence, octets) ∷ []) rest
placed-by_number settings first now plays s (Plays ∷ calls) f at none all few =
    placed-by_number settings first now (plays + 1) (after_play settings s) calls f (omega arith) none all (omega arith)

-- the law of two orders of arrival
pub order_does_not_matter : OrderDoesNotMatter
unfolding given_octets stream
order_does_not_matter settings lead one other none-one none-other moved as_many few all-one all-other =
    let s = stream settings lead in
    let f = by_number s.first s.now in
    let whole-one = fold-append (after_call settings) at_first lead one in
    let whole-other = fold-append (after_call settings) at_first lead other in
    let found = found-after settings at_first lead (All-nil (λ p. IsFound [] p)) in
    let at : s.now ≡ s.now + 0 = omega arith in
    let was-one = placed-by_number settings s.first s.now 0 s one refl at none-one
    (accepts-in settings lead one all-one) (omega arith) in
    let was-other = placed-by_number settings s.first s.now 0 s other refl at none-other
    (accepts-in settings lead other all-other) (omega arith) in
    let among = IsPermutation-append_right s.placed (map f (arrivals_of one)) (map f (arrivals_of other))
    (IsPermutation-map f (arrivals_of one) (arrivals_of other) moved) in
    let one-found = subst (λ (ps : List PlacedPacket). AllFound ps) was-one (found-after settings s one found) in
    let other-found = subst (λ (ps : List PlacedPacket). AllFound ps) was-other (found-after settings s other found) in
    let same : (k : ℕ) → packet_at (after settings s one).placed k ≡ packet_at (after settings s other).placed k =
    λ k. ap (λ (ps : List PlacedPacket). packet_at ps k) was-one
    ∙ same-packets (s.placed ++ map f (arrivals_of one)) (s.placed ++ map f (arrivals_of other)) k among one-found
    other-found ∙ ap (λ (ps : List PlacedPacket). packet_at ps k) (sym was-other) in
    ap (λ (t : PlayoutState). t.given) whole-one ∙ given-ran settings s one none-one
    ∙ ran-same settings (after settings s one).placed (after settings s other).placed s.now s.given s.filled
    (plays_in one) same
    ∙ ap (λ (n : ℕ). ran_from settings s (after settings s other).placed n) as_many
    ∙ sym (given-ran settings s other none-other) ∙ sym (ap (λ (t : PlayoutState). t.given) whole-other)
