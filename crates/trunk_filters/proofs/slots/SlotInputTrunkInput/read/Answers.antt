use Rattle.std.proofs.Common.{rules, ◌++◌, ◌∙◌, refl, sym, ap}
use Rattle.std.proofs.Math.Logic.{∥∥₁_map}
use Rattle.trunk_filters.proofs.Inputs.{came-passed, said-off, received, taken-front, none-held, few-left}
use Rattle.trunk_filters.proofs.slots.SlotInputTrunkInput.read.Goals as goal

pub invariant_of-self : goal.invariant_of-self
invariant_of-self g c = record {
  came = ∥∥₁_map c.args.self.now.came
      (came-passed _ _ _ _ _ _ _ _ _ c.in_default.is c.read-read.ensures.came c.log_read.ensures);
  said = ∥∥₁_map c.args.self.now.said (λ t. said-off _ _ _ _ c.in_default.is);
  off = c.args.self.now.off;
  few = c.args.self.now.few;
}

pub invariant_of-self-in-Ok-Octets : goal.invariant_of-self-in-Ok-Octets
invariant_of-self-in-Ok-Octets g c =
    let s = c.args.self.now in
    let none = none-held s.held.items c.is_empty.result c.is_empty.ensures c.if-self.false in
    let made = received s.slots c.in-Some.slots c.make.new.slots s.law.value s.place.value
    (g.I.TrunkInput.came s.incoming) (g.I.TrunkInput.came c.read-read-2.new.self) _ s.log.octets
    c.give-n-in-Ok-Octets.new.log.octets s.held.items c.make.new.held.items c.give-n-in-Ok-Octets.new.held.items
    c.in-Some.is none c.make.ensures.made
    (c.read-read-2.ensures.came ∙ ap (λ xs. g.I.TrunkInput.came s.incoming ++ xs)
    (sym (taken-front c.read-read-2.result c.read-read-2.new.room _ c.read-read-2.ensures.bound)))
    c.give-n-in-Ok-Octets.ensures.all s.came in
    record {
      came = made;
      said = ∥∥₁_map made (λ h. c.tell.ensures.late _ _ _ _ h);
      off = λ e. absurd (cc e);
      few = few-left c.read-read-2.result c.read-read-2.new.room _ c.make.new.held.items _ s.log.octets _
          c.give-n-in-Ok-Octets.new.room _ _ c.requires c.read-read-2.ensures.bound (search rules) c.make.ensures.most
          c.give-n-in-Ok-Octets.ensures.count c.give-n-in-Ok-Octets.ensures.len c.give-n-in-Ok-Octets.ensures.log
          c.give-n-in-Ok-Octets.ensures.all;
    }

pub invariant_of-self-in-NoneNow-1 : goal.invariant_of-self-in-NoneNow-1
invariant_of-self-in-NoneNow-1 g c =
    let s = c.args.self.now in
    let none = none-held s.held.items c.is_empty.result c.is_empty.ensures c.if-self.false in
    let made = received s.slots c.in-Some.slots c.make.new.slots s.law.value s.place.value
    (g.I.TrunkInput.came s.incoming) (g.I.TrunkInput.came c.read-read-2.new.self) _ s.log.octets
    s.log.octets s.held.items c.make.new.held.items c.make.new.held.items
    c.in-Some.is none c.make.ensures.made
    (c.read-read-2.ensures.came ∙ ap (λ xs. g.I.TrunkInput.came s.incoming ++ xs)
    (sym (taken-front c.read-read-2.result c.read-read-2.new.room _ c.read-read-2.ensures.bound)))
    refl s.came in
    record {
      came = made;
      said = ∥∥₁_map made (λ h. c.tell.ensures.late _ _ _ _ h);
      off = λ e. absurd (cc e);
      few = search rules;
    }

pub invariant_of-self-in-Err-1 : goal.invariant_of-self-in-Err-1
invariant_of-self-in-Err-1 g c =
    let s = c.args.self.now in
    let none = none-held s.held.items c.is_empty.result c.is_empty.ensures c.if-self.false in
    let made = received s.slots c.in-Some.slots c.make.new.slots s.law.value s.place.value
    (g.I.TrunkInput.came s.incoming) (g.I.TrunkInput.came c.read-read-2.new.self) _ s.log.octets
    s.log.octets s.held.items c.make.new.held.items c.make.new.held.items
    c.in-Some.is none c.make.ensures.made
    (c.read-read-2.ensures.came ∙ ap (λ xs. g.I.TrunkInput.came s.incoming ++ xs)
    (sym (taken-front c.read-read-2.result c.read-read-2.new.room _ c.read-read-2.ensures.bound)))
    refl s.came in
    record {
      came = made;
      said = ∥∥₁_map made (λ h. c.tell.ensures.late _ _ _ _ h);
      off = λ e. absurd (cc e);
      few = search rules;
    }
