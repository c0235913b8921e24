use Rattle.std.proofs.Common.{◌≡◌, [], length, arith, ap, sym, ◌∙◌}
use Rattle.std.specs.List.{remove}
use Rattle.std.proofs.Math.ListN.{length-map}
use Rattle.group_types.specs.Members.{past_stamp, without_past}
use Rattle.group_epochs.specs.Past.{fingerprint}
use Rattle.group_epochs.proofs.Remembered.{kept_without, of_some, without_absent, without_at}
use Rattle.group_epochs.proofs.past.Past.forget.Goals as goal

entry_taken : (c : goal.After-remove-in-Some) → c.remove.new.self.items ≡ remove c.self.inside.entries.items c.in-Some.place
entry_taken c = of_some c.remove.result (c.remove.ensures.variant.1 (omega (arith, c.self.inside.entries.ok.0, c.in-Some.ensures.0))) c.remove.ensures.items

fingerprint_taken : (c : goal.After-remove-in-Some) → c.remove-in-Some.new.self.items ≡ remove c.self.inside.fingerprints.items c.in-Some.place
fingerprint_taken c =
    let long = ap length c.self.invariant.beside ∙ length-map c.self.inside.entries.items (λ e. fingerprint c.self.inside.hasher e.0) in
    of_some c.remove-in-Some.result (c.remove-in-Some.ensures.variant.1 (omega (arith, long, c.self.inside.fingerprints.ok.0, c.in-Some.ensures.0))) c.remove-in-Some.ensures.items

pub invariant_of-self : goal.invariant_of-self
invariant_of-self c =
    rw (entry_taken c, fingerprint_taken c)
    (kept_without c.self.inside.entries.items c.self.inside.fingerprints.items c.self.inside.hasher c.args.id.now c.in-Some.place c.self.invariant c.in-Some.ensures)

pub returns-in-Some-clause-past : goal.returns-in-Some-clause-past
returns-in-Some-clause-past c =
    entry_taken c
    ∙ sym (without_at c.self.inside.entries.items c.args.id.now c.in-Some.place ([], record { connection = 0; frame = 0 }) c.self.invariant.apart c.in-Some.ensures.0 c.in-Some.ensures.1)
    ∙ ap (λ s. without_past s.past c.args.id.now) c.self.view_is

pub returns-in_default-clause-past : goal.returns-in_default-clause-past
returns-in_default-clause-past c =
    sym (without_absent c.args.self.now.past c.args.id.now
    (ap (λ l. past_stamp l c.args.id.now) (sym (ap (λ s. s.past) c.self.view_is)) ∙ c.in_default.ensures))
