-- A join of parts has no fault, and its parts are at their places.
use Rattle.std.proofs.Common.{◌≡◌, ◌≢◌, ◌+◌, ◌*◌, ◌/◌, ◌%◌, ◌<◌, ◌≤◌, ◌&&◌, not, ℕ, Bool}
use Rattle.std.proofs.Common.{true, false, cond, eqb, List, [], ◌∷◌, ◌++◌, length, take, drop, slice_index}
use Rattle.std.proofs.Common.{Option, Some, None, refl, sym, ap, ◌∙◌, arith, length-drop, length-append, inl, inr}
use Rattle.std.proofs.lemmas.List.{drop-drop, get_or-drop, drop_at, take_at, take-append-drop, length-take-le}
use Rattle.std.proofs.lemmas.Bool.{eqb-true, eqb-false, eq-eqb, ne_eqb, le-ltb, ltb-false, not-false, cases_eq}
use Rattle.std.specs.Int.{bytes_high_first}
use Rattle.byteorder.specs.Endian.{big_number}
use Rattle.satop_packet.specs.declared.Control.{Control}
use Rattle.satop_packet.specs.declared.SatopFault.{SatopFault}
use Rattle.satop_packet.specs.Satop.{Content, IsRtp, IsPacket, control_word, rtp_len}
use Rattle.satop_packet.specs.Fault.{fault, is_short, is_no_rtp, is_no_control, is_other_length}
use Rattle.satop_packet.specs.Read.{control_of, content_of}
use Rattle.satop_packet.specs.Laws.{AreOctets, IsPacketOf}

-- the item at a place is the head of the rest from there
at_head : (s : ℕ) (o : List ℕ) → slice_index o s ≡ slice_index (drop s o) 0
at_head s o = ap (slice_index o) (omega arith) ∙ sym (get_or-drop s o 0 0)

-- what the first octet of a control word says
digits : (n r : ℕ) (l m : Bool) → r < 4 → n ≡ cond l 8 0 + cond m 4 0 + r
    → (n / 16 ≡ 0) × (eqb (n / 8 % 2) 1 ≡ l) × (eqb (n / 4 % 2) 1 ≡ m)
digits n r true true h e = (omega arith, eq-eqb (n / 8 % 2) 1 (omega arith), eq-eqb (n / 4 % 2) 1 (omega arith))
digits n r true false h e =
    (omega arith, eq-eqb (n / 8 % 2) 1 (omega arith), ne_eqb (n / 4 % 2) 1 (λ z. omega (arith, z)))
digits n r false true h e =
    (omega arith, ne_eqb (n / 8 % 2) 1 (λ z. omega (arith, z)), eq-eqb (n / 4 % 2) 1 (omega arith))
digits n r false false h e =
    (omega arith, ne_eqb (n / 8 % 2) 1 (λ z. omega (arith, z)), ne_eqb (n / 4 % 2) 1 (λ z. omega (arith, z)))

-- what is read of octets that begin with a control word
record Word (q : List ℕ) (c : Control) (second : ℕ) (payload : List ℕ) : Type 0 where
  lost : eqb (slice_index q 0 / 8 % 2) 1 ≡ c.lost
  remote : eqb (slice_index q 0 / 4 % 2) 1 ≡ c.remote
  sequence : big_number 2 (take 2 (drop 2 q)) ≡ c.sequence
  zeros : slice_index q 0 / 16 ≡ 0
  said : slice_index q 1 ≡ second
  behind : drop 4 q ≡ payload
  long : 4 ≤ length q

-- a control word is read as what it was made of
word-of : (c : Control) (reserved fragment len : ℕ) (payload : List ℕ) → reserved < 4 → c.sequence < 65536
    → Word (control_word c reserved fragment len ++ payload) c (fragment * 64 + len) payload
word-of c reserved fragment len payload few small =
    let first = cond c.lost 8 0 + cond c.remote 4 0 + reserved in
    let d = digits first reserved c.lost c.remote few refl in
    record {
      lost = d.1;
      remote = d.2;
      sequence = omega arith;
      zeros = d.0;
      said = refl;
      behind = refl;
      long = omega arith;
    }

-- the same of octets that are one
word : (q : List ℕ) (c : Control) (reserved fragment len : ℕ) (payload : List ℕ) → reserved < 4 → c.sequence < 65536
    → q ≡ control_word c reserved fragment len ++ payload → Word q c (fragment * 64 + len) payload
word q c reserved fragment len payload few small e = rw e (word-of c reserved fragment len payload few small)

-- an RTP header that is there begins as it must
rtp-first : (rtp : Bool) (header rest : List ℕ) → IsRtp header → length header ≡ rtp_len rtp
    → (rtp && not (eqb (slice_index (header ++ rest) 0) 128)) ≡ false
rtp-first false header rest h e = refl
rtp-first true [] rest h e = absurd (omega arith)
rtp-first true (x ∷ header) rest h e = let at = h.0 in rw at refl

-- LEN is 0 or the number of all octets
said-right : (len size : ℕ) → ((len ≡ 0 → ⊥) → len ≡ size) → (not (eqb len 0) && not (eqb len size)) ≡ false
said-right len size h = elim (cases_eq len 0) [
  | inl e ↦ rw e refl
  | inr ne ↦ rw (ne_eqb len 0 ne, eq-eqb len size (h ne)) refl
]

-- no fault is returned if no test is met
no-fault : (a b c d : Bool) (f1 f2 f3 f4 : Option SatopFault)
    → a ≡ false → b ≡ false → c ≡ false → d ≡ false
    → cond a f1 (cond b f2 (cond c f3 (cond d f4 None))) ≡ None
no-fault a b c d f1 f2 f3 f4 p q r s = rw (p, q, r, s) refl

-- if none is returned, no test is met
pub untold : (a b c d : Bool) (f1 f2 f3 f4 : SatopFault)
    → cond a (Some f1) (cond b (Some f2) (cond c (Some f3) (cond d (Some f4) None))) ≡ None
    → (a ≡ false) × (b ≡ false) × (c ≡ false) × (d ≡ false)
untold false false false false f1 f2 f3 f4 h = (refl, refl, refl, refl)
untold true b c d f1 f2 f3 f4 h = cc
untold false true c d f1 f2 f3 f4 h = cc
untold false false true d f1 f2 f3 f4 h = cc
untold false false false true f1 f2 f3 f4 h = cc

-- what is read of a join
pub record Told (rtp : Bool) (o : List ℕ) (p : Content) : Type 0 where
  pub parts : p ≡ content_of rtp o
  pub faultless : fault rtp o ≡ None

-- a join of parts has no fault, and its parts are at their places
pub is_told : (rtp : Bool) (o : List ℕ) (p : Content) (reserved fragment len : ℕ)
    → IsPacket o rtp p reserved fragment len → Told rtp o p
unfolding content_of control_of
is_told rtp o p reserved fragment len d =
    let s = rtp_len rtp in
    let rest = control_word p.control reserved fragment len ++ p.payload in
    let there : drop s o ≡ rest = ap (drop s) d.joined ∙ drop_at p.rtp rest s d.there in
    let w = word (drop s o) p.control reserved fragment len p.payload d.reserved_fits d.sequence there in
    let g0 = at_head s o in
    let g1 : slice_index o (s + 1) ≡ slice_index (drop s o) 1 = sym (get_or-drop s o 1 0) in
    let l : length o ≡ s + length (drop s o)
    = ap length d.joined ∙ length-append p.rtp rest ∙ ap (λ k. k + length rest) d.there
    ∙ ap (λ q. s + length q) (sym there) in
    let long = w.long in
    let small = d.len_fits in
    let second : slice_index o (s + 1) ≡ fragment * 64 + len = g1 ∙ w.said in
    let len-is : slice_index o (s + 1) % 64 ≡ len = omega (arith, second, small) in
    let d2 : drop (s + 2) o ≡ drop 2 (drop s o) = sym (drop-drop 2 s o) in
    let d4 : drop (s + 4) o ≡ drop 4 (drop s o) = sym (drop-drop 4 s o) in
    let front : take s o ≡ p.rtp = ap (take s) d.joined ∙ take_at p.rtp rest s d.there in
    let lost : eqb (slice_index o s / 8 % 2) 1 ≡ p.control.lost = ap (λ n. eqb (n / 8 % 2) 1) g0 ∙ w.lost in
    let remote : eqb (slice_index o s / 4 % 2) 1 ≡ p.control.remote = ap (λ n. eqb (n / 4 % 2) 1) g0 ∙ w.remote in
    let sequence : big_number 2 (take 2 (drop (s + 2) o)) ≡ p.control.sequence
    = ap (λ q. big_number 2 (take 2 q)) d2 ∙ w.sequence in
    let payload : drop (s + 4) o ≡ p.payload = d4 ∙ w.behind in
    let zeros : slice_index o s / 16 ≡ 0 = ap (λ n. n / 16) g0 ∙ w.zeros in
    record {
      parts = λ i. record {
        rtp = sym front i;
        control = record { lost = sym lost i; remote = sym remote i; sequence = sym sequence i };
        payload = sym payload i;
      };
      faultless = no-fault
          (is_short rtp o) (is_no_rtp rtp o) (is_no_control rtp o) (is_other_length rtp o)
          _ _ _ _
          (le-ltb (length o) (s + 4) (omega arith))
          (ap (λ q. rtp && not (eqb (slice_index q 0) 128)) d.joined ∙ rtp-first rtp p.rtp rest d.header d.there)
          (rw zeros refl)
          (ap (λ n. not (eqb n 0) && not (eqb n (length o))) len-is ∙ said-right len (length o) d.counted);
    }

-- the octets of the number that two octets make are these
spelled-again : (a b : ℕ) → a < 256 → b < 256 → bytes_high_first 2 (big_number 2 (a ∷ b ∷ [])) ≡ a ∷ b ∷ []
spelled-again a b p q =
    let high : big_number 2 (a ∷ b ∷ []) / 256 % 256 ≡ a = omega arith in
    let low : big_number 2 (a ∷ b ∷ []) % 256 ≡ b = omega arith in
    rw (high, low) refl

-- the first octet of a control word, by what it says
first-spelled : (n : ℕ) (l m : Bool) → n / 16 ≡ 0 → eqb (n / 8 % 2) 1 ≡ l → eqb (n / 4 % 2) 1 ≡ m
    → cond l 8 0 + cond m 4 0 + n % 4 ≡ n
first-spelled n true true h el em =
    let l : n / 8 % 2 ≡ 1 = eqb-true _ _ el in let m : n / 4 % 2 ≡ 1 = eqb-true _ _ em in omega arith
first-spelled n true false h el em =
    let l : n / 8 % 2 ≡ 1 = eqb-true _ _ el in let m : n / 4 % 2 ≢ 1 = eqb-false _ _ em in omega arith
first-spelled n false true h el em =
    let l : n / 8 % 2 ≢ 1 = eqb-false _ _ el in let m : n / 4 % 2 ≡ 1 = eqb-true _ _ em in omega arith
first-spelled n false false h el em =
    let l : n / 8 % 2 ≢ 1 = eqb-false _ _ el in let m : n / 4 % 2 ≢ 1 = eqb-false _ _ em in omega arith

-- a control word and what follows it, by the numbers at their places
spelled : (q : List ℕ) → 4 ≤ length q → AreOctets q → slice_index q 0 / 16 ≡ 0
    → q ≡ control_word (control_of 0 q) (slice_index q 0 % 4) (slice_index q 1 / 64) (slice_index q 1 % 64)
    ++ drop 4 q
unfolding control_of
spelled (a ∷ b ∷ c ∷ d ∷ rest) long fits zeros =
    let fc : c < 256 = fits 2 in
    let fd : d < 256 = fits 3 in
    let e0 = first-spelled a (eqb (a / 8 % 2) 1) (eqb (a / 4 % 2) 1) zeros refl refl in
    let e1 : b / 64 * 64 + b % 64 ≡ b = omega arith in
    let e2 = spelled-again c d fc fd in
    cc
spelled _ long fits zeros = absurd (omega arith)

-- a sequence number that was read fits its place
sequence-fits : (q : List ℕ) → 4 ≤ length q → AreOctets q → (control_of 0 q).sequence < 65536
unfolding control_of
sequence-fits (a ∷ b ∷ c ∷ d ∷ rest) long fits =
    let fc : c < 256 = fits 2 in let fd : d < 256 = fits 3 in omega arith
sequence-fits _ long fits = absurd (omega arith)

-- a control word at a place is one at the head of the rest from there
control-at : (s : ℕ) (o : List ℕ) → control_of s o ≡ control_of 0 (drop s o)
unfolding control_of
control-at s o =
    let g0 = at_head s o in
    let d2 : drop (s + 2) o ≡ drop 2 (drop s o) = sym (drop-drop 2 s o) in
    rw (g0, d2) refl

-- the header that is there
rtp-there : (rtp : Bool) (o : List ℕ) → rtp_len rtp ≤ length o
    → (rtp && not (eqb (slice_index o 0) 128)) ≡ false → IsRtp (take (rtp_len rtp) o)
rtp-there false o long h = tt
rtp-there true [] long h = absurd (omega arith)
rtp-there true (x ∷ o) long h =
    let at : x ≡ 128 = eqb-true _ _ (not-false _ h) in (at, length-take-le 12 (x ∷ o) long)

-- LEN, if its test is not met
said-true : (len size : ℕ) → (not (eqb len 0) && not (eqb len size)) ≡ false → (len ≡ 0 → ⊥) → len ≡ size
said-true len size h ne =
    eqb-true len size (not-false _ (rw (ne_eqb len 0 ne) at h))

-- octets without fault are the join of the parts at their places
pub joins : (rtp : Bool) (o : List ℕ) → AreOctets o → fault rtp o ≡ None → IsPacketOf rtp (content_of rtp o) o
unfolding content_of
joins rtp o fits none =
    let t = untold
    (is_short rtp o) (is_no_rtp rtp o) (is_no_control rtp o) (is_other_length rtp o)
    _ _ _ _ none in
    let s = rtp_len rtp in
    let q = drop s o in
    let room : s + 4 ≤ length o = ltb-false _ _ t.0 in
    let lq : length q + s ≡ length o = let l = length-drop s o in omega arith in
    let long : 4 ≤ length q = omega arith in
    let fq : AreOctets q = λ i. let g = get_or-drop s o i 0 in let f = fits (s + i) in rw g f in
    let g0 : slice_index o s ≡ slice_index q 0 = at_head s o in
    let g1 : slice_index o (s + 1) ≡ slice_index q 1 = sym (get_or-drop s o 1 0) in
    let zeros : slice_index q 0 / 16 ≡ 0 = ap (λ n. n / 16) (sym g0) ∙ eqb-true _ _ (not-false _ t.2) in
    let octet : slice_index q 1 < 256 = fq 1 in
    let rest64 : slice_index o (s + 1) % 64 ≡ slice_index q 1 % 64 = ap (λ n. n % 64) g1 in
    let word = spelled q long fq zeros in
    let d4 : drop (s + 4) o ≡ drop 4 q = sym (drop-drop 4 s o) in (
      slice_index q 0 % 4,
      slice_index q 1 / 64,
      slice_index q 1 % 64,
      record {
        joined = sym (take-append-drop s o) ∙ ap (λ r. take s o ++ r) (rw (control-at s o, d4) word);
        header = rtp-there rtp o (omega arith) t.1;
        there = length-take-le s o (omega arith);
        sequence = rw (control-at s o) (sequence-fits q long fq);
        reserved_fits = omega arith;
        fragment_fits = omega (arith, octet);
        len_fits = omega arith;
        counted = said-true (slice_index q 1 % 64) (length o) (rw rest64 at t.3);
      },
    )
