use Rattle.std.proofs.lemmas.Result.{err_from_is_err_and}
use Rattle.flex_wire.specs.Spelling.{tagged_field}
use Rattle.flex_wire.specs.Tags.{tagged}
use Rattle.flex_wire.proofs.Puts.{put_more, put_stopped}
use Rattle.flex_wire.proofs.TagLaws.{tagged_fits}
use Rattle.flex_wire.proofs.tags.fields_up_to.Goals as goal

pub field_up_to-requires : goal.field_up_to-requires
field_up_to-requires c = tagged_fits c.args.fields.now c.loop-field.field-index _ c.loop-field-test.true c.requires

pub returns-in_err-field_up_to : goal.returns-in_err-field_up_to
returns-in_err-field_up_to c =
    let p = err_from_is_err_and c.from_residual.result c.from_residual.ensures.1 in
    rw p.1 (put_stopped tagged_field tagged c.args.fields.now c.loop-field.field-index _ c.args.out.now c.loop-field.out c.field_up_to.new.out p.0 c.loop-field-test.true c.loop-field.invariant c.in_err-field_up_to.ensures.err c.in_err-field_up_to.ensures.room c.field_up_to.ensures.capacity)

pub loop-field-preserved : goal.loop-field-preserved
loop-field-preserved c = put_more tagged_field tagged c.args.fields.now c.loop-field.field-index _ c.args.out.now c.loop-field.out c.field_up_to.new.out c.loop-field-test.true c.loop-field.invariant c.in_ok-field_up_to.ensures.ok c.field_up_to.ensures.capacity
