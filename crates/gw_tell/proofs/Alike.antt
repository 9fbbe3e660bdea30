-- Statuses that compare equal are equal.
use Rattle.std.proofs.Common.{◌≡◌, ◌&&◌, ◌∙◌, ℕ, Bool, true, false, Option, Some, None, refl, sym, ap}
use Rattle.std.proofs.lemmas.Bool.{eqb-true}
use Rattle.std.specs.Option.{option_eq}
use lib.Dec.{eqb}
use denote.Enum.Bare.{sameb, same_true}
use Rattle.e1_g711.specs.contracts.Law as law
use Rattle.g726_codec.specs.contracts.CodecKind as codec
use Rattle.q421_line.specs.contracts.Role as role
use Rattle.q421_line.specs.contracts.State as state
use Rattle.gw_circuit.specs.declared.Status.{Status}

-- Where two tests hold each does.
both : (a b : Bool) → true ≡ a && b → (true ≡ a) × (true ≡ b)
both true b e = (refl, e)
both false b e = cc

-- Pairs that compare equal are equal, if there are any.
same_pairs : (p q : Option ℕ) → option_eq eqb p q ≡ true → p ≡ q
same_pairs None None e = refl
same_pairs None (Some y) e = cc
same_pairs (Some x) None e = cc
same_pairs (Some x) (Some y) e = ap Some (eqb-true x y e)

-- A status is equal to one with the same values.
same_values : (s t : Status) → s.role ≡ t.role → s.law ≡ t.law → s.codec ≡ t.codec
    → s.payload_type ≡ t.payload_type → s.state ≡ t.state → s.sent ≡ t.sent → s.recognised ≡ t.recognised
    → s.sent_count ≡ t.sent_count → s.received ≡ t.received → s.dropped ≡ t.dropped → s ≡ t
same_values s t a b c d e f g h i j =
    let built : s ≡ record {
      role = s.role;
      law = s.law;
      codec = s.codec;
      payload_type = s.payload_type;
      state = s.state;
      sent = s.sent;
      recognised = s.recognised;
      sent_count = s.sent_count;
      received = s.received;
      dropped = s.dropped;
    } = refl in
    built ∙ rw (a, b, c, d, e, f, g, h, i, j) refl

-- Statuses all of whose values compare equal are equal.
pub same_status : (s t : Status) → true ≡ (sameb role.the_type s.role t.role
    && (sameb law.the_type s.law t.law
    && (sameb codec.the_type s.codec t.codec
    && (eqb s.payload_type t.payload_type
    && (sameb state.the_type s.state t.state
    && (eqb s.sent t.sent
    && (option_eq eqb s.recognised t.recognised
    && (eqb s.sent_count t.sent_count
    && (eqb s.received t.received && eqb s.dropped t.dropped))))))))) → s ≡ t
same_status s t alike =
    let a = both _ _ alike in
    let b = both _ _ a.1 in
    let c = both _ _ b.1 in
    let d = both _ _ c.1 in
    let e = both _ _ d.1 in
    let f = both _ _ e.1 in
    let g = both _ _ f.1 in
    let h = both _ _ g.1 in
    let i = both _ _ h.1 in
    same_values s t
    (same_true role.the_type tt s.role t.role (sym a.0))
    (same_true law.the_type tt s.law t.law (sym b.0))
    (same_true codec.the_type tt s.codec t.codec (sym c.0))
    (eqb-true _ _ (sym d.0))
    (same_true state.the_type tt s.state t.state (sym e.0))
    (eqb-true _ _ (sym f.0))
    (same_pairs _ _ (sym g.0))
    (eqb-true _ _ (sym h.0))
    (eqb-true _ _ (sym i.0))
    (eqb-true _ _ (sym i.1))
