use Rattle.std.proofs.Common.{arith}
use Rattle.replica_entries.specs.declared.fault.EntryFault.TheVariants.{UnknownVersion, UnknownKind, LeftOver}
use Rattle.replica_entries.specs.Values.{EntryValue}
use Rattle.replica_entries.specs.Spelling.{SpellsEntry}
use Rattle.replica_entries.specs.Reading.{entry_at}
use Rattle.replica_entries.specs.Views.{entry_value}
use Rattle.replica_entries.proofs.GivesLaws.{reading_failed, if_ok, answers, fails, none_spelled}
use Rattle.replica_entries.proofs.SpellingLaws.{read_spells, spells_read, fault_is_true, left_over_again, unknown_version_again, unknown_kind_again}
use Rattle.replica_entries.proofs.reading.read_entry.Goals as goal

pub returns-clause-found : goal.returns-clause-found
returns-clause-found c =
    let bytes = c.args.bytes.now in
    if_ok entry_value (λ (v : EntryValue). SpellsEntry v bytes) c.entry_in.result (entry_at bytes) c.entry_in.ensures.exact (λ v e. read_spells bytes v (λ i. omega (arith, c.type_inv.bytes i)) e)

pub returns-clause-only : goal.returns-clause-only
returns-clause-only c = λ v spells. answers entry_value v c.entry_in.result (entry_at c.args.bytes.now) c.entry_in.ensures.exact (spells_read v c.args.bytes.now spells)

pub returns-clause-refused : goal.returns-clause-refused
returns-clause-refused c = none_spelled entry_value c.entry_in.result (entry_at c.args.bytes.now) (λ v. SpellsEntry v c.args.bytes.now) (λ v. spells_read v c.args.bytes.now) c.entry_in.ensures.exact

pub returns-clause-unknown_version : goal.returns-clause-unknown_version
returns-clause-unknown_version c =
    let bytes = c.args.bytes.now in (
      (λ e. fault_is_true bytes UnknownVersion (λ i. omega (arith, c.type_inv.bytes i)) (reading_failed entry_value c.entry_in.result (entry_at bytes) UnknownVersion (λ same. absurd cc) c.entry_in.ensures.exact e)),
      (λ h. c.entry_in.ensures.head UnknownVersion (unknown_version_again bytes h)),
    )

pub returns-clause-unknown_kind : goal.returns-clause-unknown_kind
returns-clause-unknown_kind c =
    let bytes = c.args.bytes.now in (
      (λ e. fault_is_true bytes UnknownKind (λ i. omega (arith, c.type_inv.bytes i)) (reading_failed entry_value c.entry_in.result (entry_at bytes) UnknownKind (λ same. absurd cc) c.entry_in.ensures.exact e)),
      (λ h. c.entry_in.ensures.head UnknownKind (unknown_kind_again bytes h)),
    )

pub returns-clause-left_over : goal.returns-clause-left_over
returns-clause-left_over c = λ e.
    let bytes = c.args.bytes.now in
    fault_is_true bytes LeftOver (λ i. omega (arith, c.type_inv.bytes i)) (reading_failed entry_value c.entry_in.result (entry_at bytes) LeftOver (λ same. absurd cc) c.entry_in.ensures.exact e)

pub returns-clause-left_over_or_no_memory : goal.returns-clause-left_over_or_no_memory
returns-clause-left_over_or_no_memory c = λ h. fails entry_value LeftOver c.entry_in.result (entry_at c.args.bytes.now) c.entry_in.ensures.exact (left_over_again c.args.bytes.now h)
